-- Whole calls: what the checks refuse and make sure of, and calls by profile and by an entry of a table. Assumes nothing.
use Prim.Native.Nat.{ℕ, ◌*◌, ◌^◌}
use native.Mathlib.Omega.{arith}
use mathlib.Core.Path.{◌≡◌, refl, sym, ap, ◌∙◌}
use mathlib.Core.Bool.{true, false≢true}
use mathlib.Core.List.{List, ◌++◌}
use lib.ListN.{length}
use lib.IntN.{ℤ}
use borrow.Author.Tests.{eqb-true, leb-true, ne_eqb}
use Rattle.profiles.specs.declared.Profile.{Profile}
use Rattle.tables.specs.declared.Table.{Table}
use Rattle.tables.specs.Limits.{is_known}
use Rattle.tables.specs.Slots.{slot_known}
use Rattle.tables.specs.Tables.{Slot, entry_of, held, is_there, known, none, slot_of, some}
use Rattle.refusals.proofs.CheckLaws.{all_kept, code_passed, first_kept, number_pos, passed}
use Rattle.refusals.specs.Refusals.{Check, answer_number, answer_place, area_kept, code_checks, first_refusal, number_of, Answer, Decoded}
use Rattle.std.specs.Prelude.{Ok, Err}
use Rattle.refusals.specs.declared.Refusal.{Refusal}
use Rattle.refusals.specs.declared.Refusal.TheVariants as refusal
use Rattle.rule.specs.Decoding.{after, limit_checks, values}
use Rattle.rule.proofs.DecodingLaws.{after_cases}
use Rattle.rule.specs.Reading.{Outcome, refused}
use Rattle.table_decoder.specs.TableLaws.{entry_passes, slot_says}
use Rattle.confidences.proofs.AlikeLaws.{table_limits, table_none}
use Rattle.confidences.specs.Answers.{DecodesValues, confidence_call, confidence_table_call, lowest_outside, value_checks, value_place}
use Rattle.confidences.proofs.Range.{range_tested}
use Rattle.confidence_decoder.specs.Checked.{CheckedValues, outside_place}
use Rattle.confidence_decoder.specs.Runs.{RunsValues}

-- ---- the checks

-- where the area is left as it is, the place is 18's
kept_place : (m r rounds : ℕ) (x : List ℤ) (n : ℕ) → area_kept n ≡ true → outside_place x n ≡ value_place m r rounds x n
unfolding value_place
kept_place m r rounds x n h = rw (ne_eqb n 17 (λ e. false≢true (ap area_kept (sym e) ∙ h)))

module _ {cs : List Check} {x : List ℤ} {a : Answer} (checked : CheckedValues cs x a) where
  pub values_passed : a ≡ Ok tt → first_refusal cs ≡ 0
  values_passed e = sym checked.number ∙ ap answer_number e

  pub checks_refused : {why : Refusal} (m r rounds : ℕ) (o : Outcome) (out : List ℕ) (xs : List ℤ) → all_kept cs ≡ true → a ≡ Err why
      → DecodesValues m r rounds (after cs o) x out out xs xs (Err record { why = why; rounds = 0; leaves = 0 })
  checks_refused {why} m r rounds o out xs all e =
      let n : first_refusal cs ≡ number_of why = sym checked.number ∙ ap answer_number e in
      after_cases cs o (λ (y : Outcome). DecodesValues m r rounds y x out out xs xs (Err record { why = why; rounds = 0; leaves = 0 }))
      (λ z. absurd (omega (arith, number_pos why)))
      (λ some. record {
        answer = ap (λ (k : ℕ). values k 0 0 0) (sym n);
        place = ap answer_place (sym e) ∙ checked.place ∙ kept_place m r rounds x (first_refusal cs) (first_kept cs all some);
        output = refl;
        lent = sym (rw (first_kept cs all some));
      })

-- every check passed
pub passed_decodes : (cs : List Check) (m r rounds : ℕ) (x : List ℤ) {o : Outcome} {out out' : List ℕ} {xs ys : List ℤ} {d : Decoded}
    → first_refusal cs ≡ 0 → DecodesValues m r rounds o x out out' xs ys d → DecodesValues m r rounds (after cs o) x out out' xs ys d
passed_decodes cs m r rounds x {o} {out} {out'} {xs} {ys} {d} e h =
    after_cases cs o (λ (y : Outcome). DecodesValues m r rounds y x out out' xs ys d) (λ z. h) (λ some. absurd (omega arith))

-- what the checks make sure of
pub passed_runs : (m r rounds leaves : ℕ) (x : List ℤ) (out : List ℕ) (xs : List ℤ)
    → first_refusal (code_checks m r ++ limit_checks rounds leaves ++ value_checks m x (length out) (length xs)) ≡ 0 → RunsValues m r leaves x out xs
passed_runs m r rounds leaves x out xs e =
    let code = code_passed m r (limit_checks rounds leaves ++ value_checks m x (length out) (length xs)) e in
    let four = passed 3 _ _ (passed 3 _ _ (passed 2 _ _ (passed 2 _ _ code.1).1).1).1 in
    let five = passed 4 _ _ four.1 in
    let six = passed 5 _ _ five.1 in
    let seven = passed 6 _ _ six.1 in
    record {
      some = code.0.some;
      small = code.0.most;
      order = code.0.order;
      few = leb-true leaves 1000000 four.0;
      input = record { size = eqb-true (length x) (2 ^ m) five.0 };
      range = range_tested x (leb-true (length x) (lowest_outside x) (passed 17 _ _ seven.1).0);
      output = eqb-true (length out) (2 ^ m) six.0;
      room = leb-true (8 * 2 ^ m) (length xs) seven.0;
    }

-- ---- 14

unknown_values : (m r rounds : ℕ) (x : List ℤ) (out : List ℕ) (xs : List ℤ)
    → DecodesValues m r rounds (refused 14 0 0) x out out xs xs (Err record { why = refusal.Profile; rounds = 0; leaves = 0 })
unfolding value_place
unknown_values m r rounds x out xs = record { answer = refl; place = refl; output = refl; lent = refl }

-- ---- an entry of a table

module _ (t : Table) (number : ℕ) (x : List ℤ) (out : List ℕ) (xs : List ℤ) {s : Slot} (q : s ≡ slot_of t number) where
  abbrev entry : Profile
  entry = entry_of t number

  pub no_entry : s ≡ none
      → DecodesValues entry.m entry.r entry.rounds (confidence_table_call t number x (length out) (length xs)) x out out xs xs (Err record { why = refusal.Profile; rounds = 0; leaves = 0 })
  no_entry e =
      rw (table_none t number x (length out) (length xs) (sym (slot_says t number) ∙ ap is_there (sym q ∙ e)))
      (unknown_values entry.m entry.r entry.rounds x out xs)

  pub entry_decodes : {p : Profile} {out' : List ℕ} {ys : List ℤ} {d : Decoded} → s ≡ some p
      → DecodesValues p.m p.r p.rounds (confidence_call p.m p.r p.rounds p.leaves x (length out) (length xs)) x out out' xs ys d
      → DecodesValues entry.m entry.r entry.rounds (confidence_table_call t number x (length out) (length xs)) x out out' xs ys d
  entry_decodes {p} e c =
      let k : known t number ≡ true = sym (slot_says t number) ∙ ap is_there (sym q ∙ e) in
      let is : p ≡ entry = ap held (sym e ∙ q ∙ slot_known t number k) in
      rw (table_limits t number x (length out) (length xs) k (entry_passes (is_known t number k).limits)) (rw is at c)
