-- A call's contract from its checks and from what was drawn. Assumes nothing.
use Rattle.std.specs.Prelude.{ℕ, ◌≤◌, ◌<◌, ◌≡◌, refl, ◌≢◌, Bool, false, cond, not, List, [], ◌∷◌, ◌++◌, length, Result, Ok, Err}
use Rattle.std.proofs.Common.{arith, sym, ap, ◌∙◌}
use Rattle.std.proofs.Math.Bool.{true}
use Rattle.std.proofs.Math.Dec.{eqb, ltb}
use borrow.Author.Tests.{eq-eqb, le-leb, lt-leb, ne_eqb}
use Rattle.words.specs.Sum.{first_where}
use Rattle.words.specs.Word.{lowest_bad}
use Rattle.refusals.specs.Refusals.{Checked, check, first_refusal, place_named}
use Rattle.refusals.specs.IsCode.{IsCode}
use Rattle.refusals.proofs.CheckLaws.{goes_on, number_pos, passes, no_more, refuses, stops, fails, all_pass}
use Rattle.refusals.specs.declared.Refusal.{Refusal}
use Rattle.refusals.specs.declared.Refusal.TheVariants.{LoadStart, OutputLength, WrongPlaces, Profile as Unknown}
use Rattle.profiles.specs.declared.Profile.{Profile}
use Rattle.tables.specs.Tables.{Slot, held, is_there, some}
use Rattle.tables.specs.Slots.{Proper}
use Rattle.generator.specs.declared.Places.{Places}
use Rattle.capture.specs.Capture.{word_size}
use Rattle.load.specs.Load.{Draws, block_checks, left_short, start_checks}
use Rattle.load.specs.Steps.{BlockDrawn, Started, refusing, tested}
use Rattle.load.specs.declared.Next.{Next}

-- ---- the checks

either : (b : Bool) (x : ℕ) → cond b x x ≡ x
either true x = refl
either false x = refl

-- no byte is looked at, so that no place is named
pub nowhere : (n : ℕ) → place_named [] n ≡ 0
unfolding place_named lowest_bad first_where
nowhere n = either (eqb n 8) 0

module _ (slot : Slot) (x asked : ℕ) where
  pub no_entry : is_there slot ≡ false → Started slot x asked (Err Unknown)
  no_entry h = record { checked = refuses Unknown refl (fails 14 _ _ h); given = λ q e. absurd (cc) }

  module _ (is : is_there slot ≡ true) where
    pub no_start : x ≡ 0 → Started slot x asked (Err LoadStart)
    no_start h = record { checked = refuses LoadStart refl (passes 14 _ _ is (fails 21 _ _ (ap not (eq-eqb x 0 h)))); given = λ q e. absurd (cc) }

    module _ (some : x ≢ 0) where
      pub too_many : word_size slot < asked → Started slot x asked (Err WrongPlaces)
      too_many h = record {
        checked = refuses WrongPlaces refl (passes 14 _ _ is (passes 21 _ _ (ap not (ne_eqb x 0 some)) (fails 22 _ _ (lt-leb asked (word_size slot) h))));
        given = λ q e. absurd (cc);
      }

-- what passes is the entry
pub may_start : (p : Profile) (x asked : ℕ) → x ≢ 0 → asked ≤ word_size (some p) → Started (some p) x asked (Ok p)
may_start p x asked more h = record {
  checked = all_pass (passes 14 _ _ refl (passes 21 _ _ (ap not (ne_eqb x 0 more)) (passes 22 _ _ (le-leb asked (word_size (some p)) h) no_more)));
  given = λ q e. cc;
}

module _ {slot : Slot} {x asked : ℕ} {a : Result Profile Refusal} (s : Started slot x asked a) where
  -- 14, 21 or 22
  pub start_stops : {why : Refusal} (ok : Bool) → a ≡ Err why → Checked (start_checks slot x asked ++ (check 6 ok ∷ [])) [] (Err why)
  start_stops ok e = stops (check 6 ok ∷ []) [] refl s.checked (ap tested e)

  module _ {p : Profile} (done : a ≡ Ok p) where
    pub start_known : slot ≡ some p
    start_known = s.given p done

    -- 6
    pub length_stops : (ok : Bool) → ok ≡ false → Checked (start_checks slot x asked ++ (check 6 ok ∷ [])) [] (Err OutputLength)
    length_stops ok e = goes_on (check 6 ok ∷ []) tt s.checked (ap tested done) (refuses OutputLength refl (fails 6 ok [] e))

    pub start_passes : (ok : Bool) → ok ≡ true → 0 ≡ first_refusal (start_checks slot x asked ++ (check 6 ok ∷ []))
    start_passes ok e = (goes_on (check 6 ok ∷ []) tt s.checked (ap tested done) (all_pass {s = []} (passes 6 ok [] e no_more))).number

-- ---- a block

module _ (slot : Slot) (x asked : ℕ) {word : List ℕ} where
  pub block_refused : {why : Refusal} {a : Next} → Checked (block_checks slot x asked (length word)) [] (Err why) → a ≡ refusing why x → Draws slot x asked word word a
  block_refused {why} c e =
      let n : ℕ = first_refusal (block_checks slot x asked (length word)) in
      let some : eqb n 0 ≡ false = ne_eqb n 0 (λ (e : n ≡ 0). omega (arith, c.number, number_pos why)) in
      rw e (record { number = c.number; place = c.place ∙ nowhere n; block = rw some; state = rw some; short = rw some })

  pub block_done : {sent block : List ℕ} {p : Places} → 0 ≡ first_refusal (block_checks slot x asked (length word))
      → BlockDrawn (held slot).m (held slot).r asked x sent block p
      → Draws slot x asked word block (record { answer = (Ok tt); state = p.state; short = ltb p.wrong asked })
  unfolding left_short
  block_done e d =
      let none : eqb (first_refusal (block_checks slot x asked (length word))) 0 ≡ true = eq-eqb _ 0 (sym e) in
      record { number = e; place = refl; block = rw none d.block_is; state = rw none d.state; short = rw none (ap (λ (w : ℕ). ltb w asked) d.wrong) }

-- an entry's code
pub entry_code : {slot : Slot} → Proper slot → is_there slot ≡ true → IsCode (held slot).m (held slot).r
entry_code p e = let l = p.limits e in record { some = omega (arith, l.some); most = l.small; order = l.order }
