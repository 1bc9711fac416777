-- Laws of the checks of a call for confidences: what each test on the way says. Assumes nothing.
use Rattle.std.specs.Prelude.{ℕ, Some, None, nat_lt, position, ◌≤◌, ◌<◌, ◌≡◌, refl, Bool, true, false, not, cond, List, [], ◌∷◌, ◌++◌, eqb, ℤ, nat_abs, length, Ok, Err}
use Rattle.std.proofs.Common.{sym, ap, ◌∙◌, arith, le-leb, le-ltb, lt-ltb, ne_eqb}
use Rattle.std.proofs.lemmas.Bool.{false≢true, lt-leb}
use Rattle.std.proofs.lemmas.Option.{none-some}
use borrow.Author.Tests.{leb-true}
use Rattle.words.specs.Search.{first_where_lem}
use Rattle.words.specs.Sum.{all_below, first_where}
use Rattle.words.specs.SumLaws.{all_true, both_true}
use Rattle.words.specs.Word.{lowest_bad}
use Rattle.area.specs.Area.{at}
use Rattle.refusals.proofs.CheckLaws.{Numbered, fails, holds_place, no_more, passes, placeless, stops, then}
use Rattle.refusals.specs.Refusals.{Check, check, Checked, answer_number, first_refusal, place_named, Answer}
use Rattle.refusals.specs.declared.Refusal.{Refusal}
use Rattle.refusals.specs.declared.Refusal.TheVariants.{OutOfRange}
use Rattle.confidences.specs.Answers.{lowest_outside}
use Rattle.confidences.specs.Confidences.{greatest}
use Rattle.confidence_decoder.specs.Checked.{CheckedValues, is_inside, outside_place, range_checks}
use Rattle.value_orders.specs.FirstPlaces.{found_some, found_none}

-- ---- the lowest place

-- a search that passed values in the range only, and ends at one outside or at the end
pub outside_found : (x : List ℤ) (p : ℕ) → p ≤ length x → ((q : ℕ) → q < p → nat_abs (at x q) ≤ greatest) → (p < length x → greatest < nat_abs (at x p))
    → p ≡ lowest_outside x
unfolding lowest_outside
outside_found x p w b f =
    first_where_lem (record { within = w; before = λ q l. le-ltb greatest (nat_abs (at x q)) (b q l); found = λ l. lt-ltb greatest (nat_abs (at x p)) (f l) })

-- ---- 18

pub outside_named : {x : List ℤ} {p : ℕ} → p ≡ lowest_outside x → p < length x → CheckedValues (range_checks x) x (Err (OutOfRange p))
outside_named {x} {p} e l =
    let f : 18 ≡ first_refusal (range_checks x) = fails 18 _ _ (lt-leb (length x) (lowest_outside x) (omega arith)) in
    record { number = f; place = rw (← f) e }

pub none_outside : {x : List ℤ} {p : ℕ} → p ≡ lowest_outside x → length x ≤ p → CheckedValues (range_checks x) x (Ok tt)
none_outside {x} {p} e l =
    let f : 0 ≡ first_refusal (range_checks x) = passes 18 _ _ (le-leb (length x) (lowest_outside x) (omega arith)) no_more in
    record { number = f; place = rw (← f) refl }

-- what a search for a value outside found
module _ {x : List ℤ} where
  pub found_outside : {p : ℕ} → position (λ z. nat_lt greatest (nat_abs z)) x ≡ Some p → CheckedValues (range_checks x) x (Err (OutOfRange p))
  unfolding lowest_outside
  found_outside e = let found = found_some (λ (z : ℤ). nat_lt greatest (nat_abs z)) x e in outside_named found.1 found.0

  pub nothing_outside : position (λ z. nat_lt greatest (nat_abs z)) x ≡ None → CheckedValues (range_checks x) x (Ok tt)
  unfolding lowest_outside
  nothing_outside e = none_outside refl (found_none (λ (z : ℤ). nat_lt greatest (nat_abs z)) x (λ p h. none-some p (sym e ∙ h)))

  -- every value passed the test
  pub all_within : all_below (length x) (is_inside x) ≡ true → CheckedValues (range_checks x) x (Ok tt)
  all_within e =
      none_outside (outside_found x (length x) (omega arith) (λ q l. leb-true (nat_abs (at x q)) greatest (all_true (length x) (is_inside x) e q l)) (λ h. absurd (omega arith)))
      (omega arith)

-- ---- checks made one group after the other

-- an empty input has no bad place
none_named : (n : ℕ) → place_named [] n ≡ 0
unfolding place_named lowest_bad first_where
none_named n = go (eqb n 8)
  where
    go : (t : Bool) → ◌≡◌ {A = ℕ} (cond t 0 0) 0
    go true = refl
    go false = refl

placeless_not_18 : (cs : List Check) → placeless cs ≡ true → first_refusal cs ≡ 18 → ⊥
unfolding first_refusal
placeless_not_18 [] h e = omega arith
placeless_not_18 (check n true ∷ cs) h e = placeless_not_18 cs (both_true (not (holds_place n)) (placeless cs) h).1 e
placeless_not_18 (check n false ∷ cs) h e = false≢true (sym (ap (λ (k : ℕ). not (holds_place k)) e) ∙ (both_true (not (holds_place n)) (placeless cs) h).0)

-- a refusal of the first group of checks, which names no place
pub stops_values :
    {cs : List Check} (ds : List Check) (x : List ℤ) {a : Answer} {why : Refusal} → placeless cs ≡ true → Checked cs [] a → a ≡ Err why
    → CheckedValues (cs ++ ds) x (Err why)
stops_values {cs} ds x {a} {why} h c e =
    let s : Checked (cs ++ ds) [] (Err why) = stops ds [] h c e in
    let n : first_refusal cs ≡ first_refusal (cs ++ ds) = sym c.number ∙ ap answer_number e ∙ s.number in
    let other : outside_place x (first_refusal (cs ++ ds)) ≡ 0 = rw (ne_eqb (first_refusal (cs ++ ds)) 18 (λ z. placeless_not_18 cs h (n ∙ z))) refl in
    record { number = s.number; place = s.place ∙ none_named (first_refusal (cs ++ ds)) ∙ sym other }

-- the first group of checks passes
pub goes_on_values :
    {cs : List Check} (ds : List Check) {x : List ℤ} {a b : Answer} → Numbered cs → Checked cs [] a → a ≡ (Ok tt) → CheckedValues ds x b
    → CheckedValues (cs ++ ds) x b
goes_on_values {cs} ds {x} t c e d =
    let n : first_refusal ds ≡ first_refusal (cs ++ ds) = then cs ds t (ap answer_number (sym e) ∙ c.number) refl in
    record { number = d.number ∙ n; place = d.place ∙ ap (outside_place x) n }
