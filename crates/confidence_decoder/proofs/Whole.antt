-- A call that passed its checks: a reading of the values loaded into the area. Assumes nothing.
use Prim.Native.Nat.{ℕ, ◌+◌, ◌*◌, ◌^◌, ◌≤◌, ◌<◌}
use native.Mathlib.Omega.{arith}
use mathlib.Core.Path.{◌≡◌, refl, sym, ap, ◌∙◌}
use mathlib.Core.List.{List}
use lib.ListN.{length, replicate}
use lib.IntN.{ℤ, pos}
use Rattle.words.specs.Written.{Written}
use Rattle.area.specs.Area.{at}
use Rattle.refusals.specs.Refusals.{Decoded}
use Rattle.rule.specs.Calls.{decoded_place, values_of}
use Rattle.rule.specs.Decoding.{limited, output_of, refusal_of, zeros}
use Rattle.rule.proofs.DecodingLaws.{limited_cases}
use Rattle.rule.specs.Outcomes.{CodewordIn}
use Rattle.rule.specs.Reading.{Outcome, refused}
use Rattle.told.specs.Told.{Verdict, as_refused, noise_number}
use Rattle.steps.specs.Answers.{Numbered, by_answer, limited_numbered}
use Rattle.told.specs.declared.Noise.{Noise}
use Rattle.told.specs.declared.Noise.TheVariants.{Erased, Flipping, Tie, TooManyLeaves, Unsettled}
use Rattle.delivery.specs.Delivery.{Deliverable, delivered, values_in}
use Rattle.delivery.specs.DeliveryLaws as delivery
use Rattle.delivery.specs.DeliveryLaws.{area_cleared, values_are}
use Rattle.confidences.specs.Answers.{DecodesValues, value_place}
use Rattle.confidences.specs.Confidences.{reading, signs_of, zero_place}
use Rattle.confidences.proofs.Likeness.{reading_in}
use Rattle.confidences.proofs.ValueLaws.{front_is, front_values}
use Rattle.confidences.specs.Values.{front_of}
use Rattle.value_orders.specs.declared.ends.Ended.{Ended}
use Rattle.value_readings.specs.Answers.{reading_unlimited}
use Rattle.value_readings.specs.Readings.{ReadsValues, Ready}
use Rattle.value_orders.specs.Leaves.{place_in}
use Rattle.confidence_decoder.specs.Runs.{Accepts, RunsValues, place_told}

-- ---- the outcome of a reading

numbered : (leaves r m rounds : ℕ) (x : List ℤ) → Numbered (limited leaves (reading r m rounds x))
numbered leaves r m rounds x = limited_numbered leaves (reading r m rounds x) (reading_unlimited r m rounds x)

codeword_in : (leaves r m rounds : ℕ) (x : List ℤ) → CodewordIn m r (limited leaves (reading r m rounds x))
codeword_in leaves r m rounds x =
    limited_cases leaves (reading r m rounds x) (CodewordIn m r) (λ l. tt) (λ l. reading_in r m rounds x)

-- the place that a call names, by what its reading told
module _ (m r rounds : ℕ) (x : List ℤ) where
  noise_place : (why : Noise) (k l p : ℕ) → p ≡ place_in (refused (noise_number why) k l) (zero_place r m rounds x)
      → place_told p (as_refused why k l) ≡ value_place m r rounds x (noise_number why)
  unfolding value_place
  noise_place Tie k l p e = refl
  noise_place Flipping k l p e = refl
  noise_place Unsettled k l p e = refl
  noise_place TooManyLeaves k l p e = refl
  noise_place Erased k l p e = e

  none_named : 0 ≡ value_place m r rounds x 0
  unfolding value_place
  none_named = refl

-- ---- the values in the area

-- the values are in the front of the area ys, which was xs
pub record Loaded (m r leaves : ℕ) (x : List ℤ) (out : List ℕ) (xs ys : List ℤ) : Type 0 where
  pub runs : RunsValues m r leaves x out xs
  pub loaded : Written (pos 0) 0 (length x) (at x) xs ys

module _ {m r leaves : ℕ} {x : List ℤ} {out : List ℕ} {xs ys : List ℤ} (loads : Loaded m r leaves x out xs ys) where
  open loads use {runs, loaded}

  room : 8 * 2 ^ m ≤ length ys
  room = omega (arith, loaded.long, runs.room)

  same_values : (p : ℕ) → p < 2 ^ m → at ys p ≡ at x p
  same_values p l = ap (at ys) {x = p} {y = 0 + p} (omega arith) ∙ loaded.within p (omega (arith, runs.input.size))

  pub loaded_ready : Ready m r leaves ys
  loaded_ready = record {
    some = runs.some;
    small = runs.small;
    order = runs.order;
    room = omega (arith, room);
    values = front_values runs.range (omega (arith, room)) same_values;
    few = runs.few;
  }

  front_here : front_of (2 ^ m) ys ≡ x
  front_here = front_is ys runs.input (omega (arith, room)) same_values

-- they were read
pub record WasRead (m r rounds leaves : ℕ) (x : List ℤ) (out : List ℕ) (xs ys us : List ℤ) (e : Ended) : Type 0 where
  pub loads : Loaded m r leaves x out xs ys
  pub same : length us ≡ length ys
  pub read : ReadsValues m r rounds leaves (front_of (2 ^ m) ys) us e

module _ {m r rounds leaves : ℕ} {x : List ℤ} {out : List ℕ} {xs ys us : List ℤ} {e : Ended} (done : WasRead m r rounds leaves x out xs ys us e) where
  open done use {loads, same, read}
  open loads use {runs, loaded}

  abbrev a : Verdict
  a = e.answer

  abbrev o : Outcome
  o = limited leaves (reading r m rounds x)

  tells : ReadsValues m r rounds leaves x us e
  tells = rw (front_here loads) at read

  room_us : 2 ^ m ≤ length us
  room_us = omega (arith, same, room loads)

  pub read_delivers : Deliverable (length out) a us
  read_delivers = delivery.read_delivers (numbered leaves r m rounds x) tells.read out runs.output room_us

  module _ {out' : List ℕ} (q : out' ≡ delivered a out us) where
    output_is : out' ≡ output_of o out
    output_is = q ∙ delivery.output_is (numbered leaves r m rounds x) tells.read out runs.output room_us

    pub read_accepts : Accepts m out' a
    read_accepts =
        rw output_is
        (by_answer (λ (b : Verdict) (y : Outcome). CodewordIn m r y → Accepts m (output_of y out) b) (λ d w c. c.word) (λ u c. tt)
        a o (numbered leaves r m rounds x) tells.read.said (codeword_in leaves r m rounds x))

    place_is : place_told e.place a ≡ value_place m r rounds x (refusal_of o)
    place_is =
        by_answer (λ (b : Verdict) (y : Outcome). e.place ≡ place_in y (zero_place r m rounds x) → place_told e.place b ≡ value_place m r rounds x (refusal_of y))
        (λ d w h. none_named m r rounds x) (λ u h. noise_place m r rounds x u.why u.rounds u.leaves e.place h)
        a o (numbered leaves r m rounds x) tells.read.said tells.place

    pub read_decodes : {zs : List ℤ} {d : Decoded} → zs ≡ zeros us
        → (values_of d ≡ values_in m (signs_of m x) out' a) × (decoded_place d ≡ place_told e.place a) → DecodesValues m r rounds o x out out' xs zs d
    read_decodes z h = record {
      answer = h.0 ∙ rw output_is (values_are m (signs_of m x) out a o (numbered leaves r m rounds x) tells.read.said);
      place = h.1 ∙ place_is;
      output = output_is;
      lent = z ∙ ap (λ (n : ℕ). replicate n (pos 0)) (same ∙ loaded.long) ∙ sym (area_cleared xs a o (numbered leaves r m rounds x) tells.read.said);
    }
