-- A whole call: a refusal by the checks, or a reading of the word loaded into the area. Assumes nothing.
use Prim.Native.Nat.{ℕ, ◌+◌, ◌*◌, ◌^◌, ◌≤◌, ◌<◌}
use native.Mathlib.Omega.{arith}
use mathlib.Core.Path.{◌≡◌, refl, sym, ap, subst, ◌∙◌}
use mathlib.Core.Bool.{Bool, true}
use mathlib.Core.List.{List, ◌++◌}
use lib.ListN.{length}
use lib.IntN.{ℤ, pos}
use borrow.Author.Tests.{eqb-true, leb-true, le-leb}
use Rattle.words.specs.Word.{bit}
use Rattle.words.specs.Written.{Written}
use Rattle.area.specs.Area.{at, Front, word_of}
use Rattle.area.proofs.AreaLaws.{front_bits, front_word, word_of_same}
use Rattle.refusals.proofs.CheckLaws.{all_kept, code_passed, first_kept, next, number_pos, other_place, passed, rest_passes}
use Rattle.refusals.specs.Refusals.{Check, Checked, answer_number, answer_place, code_checks, first_refusal, number_of, Answer, Decoded}
use Rattle.refusals.specs.declared.Refusal.{Refusal}
use Rattle.std.specs.Prelude.{Err}
use Rattle.profiles.specs.declared.Profile.{Profile}
use Rattle.profiles.specs.Profiles.{profile_of}
use Rattle.hadamard.specs.Correlation.{values as signs}
use Rattle.rule.specs.Reading.{Outcome, accepted, refused, order1, reading}
use Rattle.rule.specs.Decoding.{after, buffer_checks, limit_checks, limited, profile_checks, values, refusal_of, output_of, zeros}
use Rattle.rule.proofs.DecodingLaws.{after_cases, buffers_passed, limited_cases, limited_within}
use Rattle.rule.proofs.ProfileLaws.{profile_code, profile_passes}
use Rattle.rule.specs.Calls.{Decodes, decoded_place, values_of}
use Rattle.rule.proofs.Covariance.{reading_in}
use Rattle.rule.specs.Outcomes.{CodewordIn}
use Rattle.rule.proofs.Counts.{leaf_leaves, reading_leaf}
use Rattle.told.specs.Told.{Verdict, numbers_of, numbers_in, Holds, Kept, Read}
use Rattle.told.specs.declared.Told.{Told}
use Rattle.told.specs.ToldLaws.{noise_number_lem}
use Rattle.direct.specs.Direct.{Readable, Gives}
use Rattle.readings.specs.Readings.{Ready}
use Rattle.delivery.specs.Delivery.{Deliverable, delivered, values_in}
use Rattle.delivery.specs.DeliveryLaws as delivery
use Rattle.delivery.specs.DeliveryLaws.{area_cleared, values_are}
use Rattle.decoder.specs.Runs.{Runs}
use Rattle.decoder.specs.Verdicts.{Delivered, Mendable}
use Rattle.readings.specs.Answers.{reading_unlimited}
use Rattle.steps.specs.Answers.{Numbered, by_answer, limited_numbered}

-- ---- a reading

-- the word is in the front of the area ys, which was xs
pub record Loaded (m r rounds leaves : ℕ) (word out : List ℕ) (xs ys : List ℤ) : Type 0 where
  pub runs : Runs m r rounds leaves word out xs
  pub loaded : Written (pos 0) 0 (length word) (λ p. pos (bit word p)) xs ys

module _ {m r rounds leaves : ℕ} {word out : List ℕ} {xs ys : List ℤ} (loads : Loaded m r rounds leaves word out xs ys) where
  open loads use {runs, loaded}

  room : 8 * 2 ^ m ≤ length ys
  room = omega (arith, loaded.long)

  front : Front (2 ^ m) word ys
  front = record {
    size = runs.input.size;
    each = λ p l. ap (at ys) {x = p} {y = 0 + p} (omega arith) ∙ loaded.within p (omega (arith, runs.input.size));
    bits = λ p l. runs.input.bits p;
  }

  pub loaded_ready : Ready m r leaves ys
  loaded_ready = record {
    some = runs.some;
    small = runs.small;
    order = runs.order;
    room = omega (arith, room);
    bits = front_bits (omega (arith, room)) front;
    few = runs.few;
  }

-- it was read, with t told
pub record WasRead (m r rounds leaves : ℕ) (word out : List ℕ) (xs ys us : List ℤ) (t : Told) : Type 0 where
  pub loads : Loaded m r rounds leaves word out xs ys
  pub same : length us ≡ length ys
  pub read : Read (2 ^ m) (limited leaves (reading r m rounds (word_of (2 ^ m) ys))) us t.answer
  pub kept : Kept (2 ^ m) ys us t

module _ {m r rounds leaves : ℕ} {word out : List ℕ} {xs ys us : List ℤ} {t : Told} (done : WasRead m r rounds leaves word out xs ys us t) where
  open done use {loads, same, read, kept}
  open loads use {runs, loaded}

  abbrev a : Verdict
  a = t.answer

  abbrev o : Outcome
  o = limited leaves (reading r m rounds word)

  is_word : word_of (2 ^ m) ys ≡ word
  is_word = front_word (omega (arith, room loads)) (front loads)

  tells : Read (2 ^ m) o us a
  tells = rw is_word at read

  numbered : Numbered o
  numbered = limited_numbered leaves (reading r m rounds word) (reading_unlimited r m rounds word)

  room_us : 2 ^ m ≤ length us
  room_us = omega (arith, same, room loads)

  pub read_delivers : Deliverable (length out) a us
  read_delivers = delivery.read_delivers numbered tells out runs.output room_us

  -- a word that was kept is the word given
  kept_is : (x : Outcome) → Holds (2 ^ m) x us → t.kept ≡ true → output_of x word ≡ word
  kept_is (accepted d k l) h q =
      let s = kept.same q in
      sym (front_word (omega (arith, same, room loads)) h)
      ∙ word_of_same (2 ^ m) ys us (omega (arith, room loads)) (omega (arith, same, room loads)) s.same ∙ is_word
  kept_is (refused e k l) h q = refl

  pub read_gives : {out' : List ℕ} → out' ≡ delivered a out us → Gives o word out out' t
  read_gives e = record { answer = tells.said; output = e ∙ delivery.output_is numbered tells out runs.output room_us; kept = kept_is o tells.word }

-- ---- a block of order 1 read from its bytes

module _ {m r rounds leaves : ℕ} {word out : List ℕ} {xs : List ℤ} (runs : Runs m r rounds leaves word out xs) where
  pub runs_readable : 4 < m → m < 8 → Readable m word out xs
  runs_readable some few = record {
    some = omega arith;
    few = omega arith;
    input = runs.input;
    output = runs.output;
    room = omega (arith, runs.room);
  }

  -- its leaf is within every limit
  one_leaf : r ≡ 1 → limited leaves (reading r m rounds word) ≡ order1 m (signs word)
  unfolding reading
  one_leaf e =
      rw e (limited_within leaves (reading 1 m rounds word) (omega (arith, runs.one, leaf_leaves 1 (reading 1 m rounds word) (reading_leaf 1 m rounds word (omega arith)))))

  pub direct_gives :
      {out' : List ℕ} {t : Told} → r ≡ 1 → Gives (order1 m (signs word)) word out out' t → Gives (limited leaves (reading r m rounds word)) word out out' t
  direct_gives {out'} {t} e = subst (λ (o : Outcome). Gives o word out out' t) (sym (one_leaf e))

-- ---- a call: its answer from the reading's, the area cleared

not_8 : (a : Verdict) (o : Outcome) → Numbered o → numbers_in a ≡ numbers_of o → refusal_of o ≡ 8 → ⊥
not_8 = by_answer (λ (x : Verdict) (y : Outcome). refusal_of y ≡ 8 → ⊥) (λ d w z. omega arith) (λ u z. omega (arith, noise_number_lem u.why))

module _ (m : ℕ) (word out : List ℕ) where
  delivers : (r : ℕ) (kept : Bool) (a : Verdict) (o : Outcome) → Numbered o → numbers_in a ≡ numbers_of o
      → CodewordIn m r o → (kept ≡ true → output_of o word ≡ word) → Delivered m word (output_of o out) kept a
  delivers r kept =
      by_answer (λ (x : Verdict) (y : Outcome). CodewordIn m r y → (kept ≡ true → output_of y word ≡ word) → Delivered m word (output_of y out) kept x)
      (λ d w c g. (c.word, g)) (λ u c g. tt)

module _ {m r rounds leaves : ℕ} {word out : List ℕ} {xs : List ℤ} (runs : Runs m r rounds leaves word out xs) where
  abbrev result : Outcome
  result = limited leaves (reading r m rounds word)

  numbered_result : Numbered result
  numbered_result = limited_numbered leaves (reading r m rounds word) (reading_unlimited r m rounds word)

  codeword_in : CodewordIn m r result
  codeword_in =
      limited_cases leaves (reading r m rounds word) (CodewordIn m r) (λ l. tt) (λ l. reading_in r m rounds word runs.order runs.input)

  module _ {out' : List ℕ} {t : Told} (g : Gives result word out out' t) where
    pub gives_mendable : Mendable m word out' t
    gives_mendable = record {
      input = runs.input;
      output = rw g.output (delivers m word out r t.kept t.answer result numbered_result g.answer codeword_in g.kept);
    }

    pub gives_decodes : {zs : List ℤ} {d : Decoded} → zs ≡ zeros xs
        → (values_of d ≡ values_in m word out' t.answer) × (decoded_place d ≡ 0) → Decodes m result word out out' xs zs d
    gives_decodes z e = record {
      answer = e.0 ∙ rw g.output (values_are m word out t.answer result numbered_result g.answer);
      place = e.1 ∙ sym (other_place word (refusal_of result) (not_8 t.answer result numbered_result g.answer));
      output = g.output;
      lent = z ∙ sym (area_cleared xs t.answer result numbered_result g.answer);
    }

-- ---- the checks

module _ {cs : List Check} {word : List ℕ} {a : Answer} (checked : Checked cs word a) where
  pub checks_refused : {why : Refusal} (m : ℕ) (o : Outcome) (out : List ℕ) (xs : List ℤ) → all_kept cs ≡ true → a ≡ Err why
      → Decodes m (after cs o) word out out xs xs (Err record { why = why; rounds = 0; leaves = 0 })
  checks_refused {why} m o out xs all e =
      let n : first_refusal cs ≡ number_of why = sym checked.number ∙ ap answer_number e in
      after_cases cs o (λ (x : Outcome). Decodes m x word out out xs xs (Err record { why = why; rounds = 0; leaves = 0 }))
      (λ z. absurd (omega (arith, number_pos why)))
      (λ some. record {
        answer = ap (λ (k : ℕ). values k 0 0 0) (sym n);
        place = ap answer_place (sym e) ∙ checked.place;
        output = refl;
        lent = sym (rw (first_kept cs all some));
      })

-- every check passed
pub passed_decodes : (cs : List Check) {m : ℕ} {o : Outcome} {word out out' : List ℕ} {xs ys : List ℤ} {d : Decoded}
    → first_refusal cs ≡ 0 → Decodes m o word out out' xs ys d → Decodes m (after cs o) word out out' xs ys d
passed_decodes cs {m} {o} {word} {out} {out'} {xs} {ys} {d} e h =
    after_cases cs o (λ (x : Outcome). Decodes m x word out out' xs ys d) (λ z. h) (λ some. absurd (omega arith))

-- what the checks make sure of
pub passed_runs : (m r rounds leaves : ℕ) (word out : List ℕ) (xs : List ℤ)
    → first_refusal (code_checks m r ++ limit_checks rounds leaves ++ buffer_checks m word (length out) (length xs)) ≡ 0 → Runs m r rounds leaves word out xs
passed_runs m r rounds leaves word out xs e =
    let code = code_passed m r (limit_checks rounds leaves ++ buffer_checks m word (length out) (length xs)) e in
    let least = passed 3 _ _ (passed 2 _ _ (passed 2 _ _ code.1).1).1 in
    let four = passed 3 _ _ least.1 in
    let six = passed 5 _ _ (passed 4 _ _ four.1).1 in
    record {
      some = code.0.some;
      small = code.0.most;
      order = code.0.order;
      one = leb-true 1 leaves least.0;
      few = leb-true leaves 1000000 four.0;
      input = buffers_passed m word (length out) (length xs) four.1;
      output = eqb-true (length out) (2 ^ m) six.0;
      room = leb-true (8 * 2 ^ m) (length xs) (passed 6 _ _ six.1).0;
    }

-- ---- a profile

module _ (number : ℕ) {p : Profile} (e : p ≡ profile_of number) (h : number ≤ 4) where
  pub profile_small : p.m ≤ 10
  profile_small = rw e (profile_code number h).most

  pub profile_checked : {word : List ℕ} (room area : ℕ) {a : Answer} → Checked (buffer_checks p.m word room area) word a
      → Checked (profile_checks number ++ buffer_checks (profile_of number).m word room area) word a
  profile_checked room area checked = next 14 _ (le-leb number 4 h) (rw e at checked)

  pub profile_runs : (word out : List ℕ) (xs : List ℤ) → first_refusal (buffer_checks p.m word (length out) (length xs)) ≡ 0
      → Runs p.m p.r p.rounds p.leaves word out xs
  profile_runs word out xs f =
      rw e
      (passed_runs q.m q.r q.rounds q.leaves word out xs
      (rest_passes (code_checks q.m q.r ++ limit_checks q.rounds q.leaves) (buffer_checks q.m word (length out) (length xs)) (sym (rw e at f))
      ∙ profile_passes number h))
    where
      q : Profile
      q = profile_of number
