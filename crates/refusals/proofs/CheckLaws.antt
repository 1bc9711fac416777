-- Laws of the checks of a call: what each test on the way says of the number of the first that fails. Assumes nothing.
use Rattle.std.specs.Prelude.{ℕ, zero, suc, ◌≤◌, ◌<◌, ◌≡◌, refl, Bool, true, false, not, ◌&&◌, ◌||◌, List, [], ◌∷◌, ◌++◌, length, eqb, Result, Ok, Err, IsErrAnd}
use Rattle.std.proofs.Common.{arith, sym, ap, ◌∙◌}
use Rattle.std.proofs.Math.Decide.{dec_lt}
use Rattle.std.proofs.lemmas.Bool.{false≢true}
use Rattle.std.proofs.Math.ListN.{get_or-eq_default}
use borrow.Author.Tests.{not-true, le-leb, lt-leb, leb-true, ne_eqb, ltb-true, lt-ltb, le-ltb}
use Rattle.words.specs.SumLaws.{all_true, true_all, some_false, both_true}
use Rattle.words.specs.Word.{bit, lowest_bad}
use Rattle.words.specs.Search.{lowest_above, lowest_before}
use Rattle.refusals.specs.Refusals.{Checked, number_of, place_of, answer_number, answer_place, place_named, Check, check, first_refusal, area_kept, code_checks, all_bits, byte_checks, Answer}
use Rattle.refusals.specs.declared.Refusal.{Refusal}
use Rattle.refusals.specs.declared.Refusal.TheVariants.{Exponent, Order, RoundLimit, LeafLimit, InputLength, OutputLength, AreaLength, BadByte, Tie, Flipping, Unsettled, TooManyLeaves, NotCodeword, Profile, Header, Truncated, Erased, OutOfRange, TableFile, TableEntry, LoadStart, WrongPlaces, Meters, Retries, UnknownName, NamesFull, ArrayExponent, NotArray}
use Rattle.refusals.specs.IsCode.{IsCode}
use Rattle.std.proofs.lemmas.Result.{err_from_is_err_and}

pub no_more : 0 ≡ first_refusal []
unfolding first_refusal
no_more = refl

module _ (n : ℕ) (ok : Bool) (cs : List Check) where
  pub fails : ok ≡ false → n ≡ first_refusal (check n ok ∷ cs)
  unfolding first_refusal
  fails e = rw e

  pub passes : {x : ℕ} → ok ≡ true → x ≡ first_refusal cs → x ≡ first_refusal (check n ok ∷ cs)
  unfolding first_refusal
  passes e p = rw e p

-- where no check fails, the first does not, and none of the rest
pub passed : (n : ℕ) (ok : Bool) (cs : List Check) → first_refusal (check (suc n) ok ∷ cs) ≡ 0 → (ok ≡ true) × (first_refusal cs ≡ 0)
unfolding first_refusal
passed n true cs e = (refl, e)
passed n false cs e = absurd (omega arith)

-- ---- checks made one group after the other

-- no check has the number 0
abbrev pub Numbered : List Check → Type 0
Numbered [] = Unit {0}
Numbered (check zero ok ∷ cs) = ⊥
Numbered (check (suc n) ok ∷ cs) = Numbered cs

-- the first group passes
pub then : (cs ds : List Check) → Numbered cs → 0 ≡ first_refusal cs → {x : ℕ} → x ≡ first_refusal ds → x ≡ first_refusal (cs ++ ds)
unfolding first_refusal
then [] ds t e p = p
then (check zero ok ∷ cs) ds t e p = absurd t
then (check (suc n) true ∷ cs) ds t e p = then cs ds t e p
then (check (suc n) false ∷ cs) ds t e p = absurd (omega arith)

-- the first group refuses
pub already : (cs ds : List Check) {x : ℕ} → 0 < x → x ≡ first_refusal cs → x ≡ first_refusal (cs ++ ds)
unfolding first_refusal
already [] ds h e = absurd (omega arith)
already (check n true ∷ cs) ds h e = already cs ds h e
already (check n false ∷ cs) ds h e = e

-- where two groups pass, the second does
pub rest_passed : (cs ds : List Check) → Numbered cs → first_refusal (cs ++ ds) ≡ 0 → first_refusal ds ≡ 0
unfolding first_refusal
rest_passed [] ds h e = e
rest_passed (check zero ok ∷ cs) ds h e = absurd h
rest_passed (check (suc n) true ∷ cs) ds h e = rest_passed cs ds h e
rest_passed (check (suc n) false ∷ cs) ds h e = absurd (omega arith)

-- a second group that passes changes nothing
pub rest_passes : (cs ds : List Check) → 0 ≡ first_refusal ds → first_refusal (cs ++ ds) ≡ first_refusal cs
unfolding first_refusal
rest_passes [] ds e = sym e
rest_passes (check n true ∷ cs) ds e = rest_passes cs ds e
rest_passes (check n false ∷ cs) ds e = refl

-- the second group matters by its number alone
pub rest_same : (cs ds ds' : List Check) → first_refusal ds ≡ first_refusal ds' → first_refusal (cs ++ ds) ≡ first_refusal (cs ++ ds')
unfolding first_refusal
rest_same [] ds ds' e = e
rest_same (check n true ∷ cs) ds ds' e = rest_same cs ds ds' e
rest_same (check n false ∷ cs) ds ds' e = refl

-- ---- the area

-- every refusal of the checks leaves the area as it is
abbrev pub all_kept : List Check → Bool
all_kept [] = true
all_kept (check n ok ∷ cs) = area_kept n && all_kept cs

pub first_kept : (cs : List Check) → all_kept cs ≡ true → 0 < first_refusal cs → area_kept (first_refusal cs) ≡ true
unfolding first_refusal
first_kept [] h l = absurd (omega arith)
first_kept (check n true ∷ cs) h l = first_kept cs (both_true (area_kept n) (all_kept cs) h).1 l
first_kept (check n false ∷ cs) h l = (both_true (area_kept n) (all_kept cs) h).0

-- ---- the code

-- the exponent and the order passed, and so did the checks after them
pub code_passed : (m r : ℕ) (cs : List Check) → first_refusal (code_checks m r ++ cs) ≡ 0 → IsCode m r × (first_refusal cs ≡ 0)
code_passed m r cs e =
    let one = passed 0 _ _ e in
    let two = passed 0 _ _ one.1 in
    let three = passed 1 _ _ two.1 in
    (record { some = leb-true 1 m one.0; most = leb-true m 10 two.0; order = leb-true r m three.0 }, three.1)

pub code_passes : {m r : ℕ} (cs : List Check) {x : ℕ} → IsCode m r → x ≡ first_refusal cs → x ≡ first_refusal (code_checks m r ++ cs)
code_passes {m} {r} cs c e = passes _ _ _ (le-leb 1 m c.some) (passes _ _ _ (le-leb m 10 c.most) (passes _ _ _ (le-leb r m c.order) e))

module _ (m r : ℕ) where
  pub exponent_low : m < 1 → 1 ≡ first_refusal (code_checks m r)
  exponent_low l = fails _ _ _ (lt-leb 1 m l)

  pub exponent_high : 1 ≤ m → 10 < m → 1 ≡ first_refusal (code_checks m r)
  exponent_high a l = passes _ _ _ (le-leb 1 m a) (fails _ _ _ (lt-leb m 10 l))

  pub order_high : 1 ≤ m → m ≤ 10 → m < r → 2 ≡ first_refusal (code_checks m r)
  order_high a b l = passes _ _ _ (le-leb 1 m a) (passes _ _ _ (le-leb m 10 b) (fails _ _ _ (lt-leb r m l)))

-- ---- the place that 8 names

-- any other number names none
pub other_place : (s : List ℕ) (n : ℕ) → (n ≡ 8 → ⊥) → place_named s n ≡ 0
unfolding place_named
other_place s n h = rw (ne_eqb n 8 h)

pub bad_place : (s : List ℕ) → place_named s 8 ≡ lowest_bad s
unfolding place_named
bad_place s = refl

-- the numbers of the refusals that hold a place
abbrev pub holds_place : ℕ → Bool
holds_place n = eqb n 8 || (eqb n 17 || (eqb n 18 || eqb n 20))

not_8 : {n : ℕ} → holds_place n ≡ false → n ≡ 8 → ⊥
not_8 h e = false≢true (sym h ∙ ap holds_place e)

pub only_held : (why : Refusal) → holds_place (number_of why) ≡ false → place_of why ≡ 0
only_held Exponent h = refl
only_held Order h = refl
only_held RoundLimit h = refl
only_held LeafLimit h = refl
only_held InputLength h = refl
only_held OutputLength h = refl
only_held AreaLength h = refl
only_held (BadByte p) h = absurd (false≢true (sym h))
only_held Tie h = refl
only_held Flipping h = refl
only_held Unsettled h = refl
only_held TooManyLeaves h = refl
only_held NotCodeword h = refl
only_held Profile h = refl
only_held Header h = refl
only_held Truncated h = refl
only_held (Erased p) h = absurd (false≢true (sym h))
only_held (OutOfRange p) h = absurd (false≢true (sym h))
only_held TableFile h = refl
only_held (TableEntry i) h = absurd (false≢true (sym h))
only_held LoadStart h = refl
only_held WrongPlaces h = refl
only_held Meters h = refl
only_held Retries h = refl
only_held UnknownName h = refl
only_held NamesFull h = refl
only_held ArrayExponent h = refl
only_held NotArray h = refl

pub number_pos : (why : Refusal) → 0 < number_of why
number_pos Exponent = omega arith
number_pos Order = omega arith
number_pos RoundLimit = omega arith
number_pos LeafLimit = omega arith
number_pos InputLength = omega arith
number_pos OutputLength = omega arith
number_pos AreaLength = omega arith
number_pos (BadByte p) = omega arith
number_pos Tie = omega arith
number_pos Flipping = omega arith
number_pos Unsettled = omega arith
number_pos TooManyLeaves = omega arith
number_pos NotCodeword = omega arith
number_pos Profile = omega arith
number_pos Header = omega arith
number_pos Truncated = omega arith
number_pos (Erased p) = omega arith
number_pos (OutOfRange p) = omega arith
number_pos TableFile = omega arith
number_pos (TableEntry i) = omega arith
number_pos LoadStart = omega arith
number_pos WrongPlaces = omega arith
number_pos Meters = omega arith
number_pos Retries = omega arith
number_pos UnknownName = omega arith
number_pos NamesFull = omega arith
number_pos ArrayExponent = omega arith
number_pos NotArray = omega arith

-- an answer whose number is 0
pub done_of : (a : Answer) → answer_number a ≡ 0 → a ≡ (Ok tt)
done_of (Ok tt) e = refl
done_of (Err why) e = absurd (omega (arith, number_pos why))

-- ---- bytes

pub bits_tested : (s : List ℕ) → all_bits s ≡ true → (p : ℕ) → bit s p < 2
unfolding all_bits
bits_tested s e q = elim (dec_lt q (length s)) [
  | yes b ↦ ltb-true (bit s q) 2 (all_true (length s) _ e q b)
  | no b ↦ rw (get_or-eq_default s 0 {n = q} (omega arith)) (omega arith)
]

module _ (s : List ℕ) where
  pub bytes_fail : lowest_bad s < length s → 8 ≡ first_refusal (byte_checks s)
  unfolding all_bits
  bytes_fail l = fails 8 _ _ (some_false (length s) _ (lowest_bad s) l (le-ltb (bit s (lowest_bad s)) 2 (lowest_above s l)))

  within_pass : ((q : ℕ) → q < length s → bit s q < 2) → 0 ≡ first_refusal (byte_checks s)
  unfolding all_bits
  within_pass h = passes 8 _ _ (true_all (length s) _ (λ q b. lt-ltb (bit s q) 2 (h q b))) no_more

  pub bytes_pass : length s ≤ lowest_bad s → 0 ≡ first_refusal (byte_checks s)
  bytes_pass l = within_pass (λ q b. lowest_before s q (omega arith))

  pub bits_pass : ((p : ℕ) → bit s p < 2) → 0 ≡ first_refusal (byte_checks s)
  bits_pass h = within_pass (λ q b. h q)

-- ---- what a checking function answers

pub all_pass : {cs : List Check} {s : List ℕ} → 0 ≡ first_refusal cs → Checked cs s (Ok tt)
all_pass {cs} {s} e = record { number = e; place = rw (← e) (sym (other_place s 0 (λ z. omega arith))) }

-- a refusal that names no place
pub refuses : {cs : List Check} {s : List ℕ} (why : Refusal) → holds_place (number_of why) ≡ false → number_of why ≡ first_refusal cs → Checked cs s (Err why)
refuses {cs} {s} why h e = record { number = e; place = rw (← e) (only_held why h ∙ sym (other_place s (number_of why) (not_8 h))) }

-- 8
pub names : {s : List ℕ} {p : ℕ} → p ≡ lowest_bad s → p < length s → Checked (byte_checks s) s (Err (BadByte p))
names {s} {p} e l =
    let f : 8 ≡ first_refusal (byte_checks s) = bytes_fail s (omega arith) in
    record { number = f; place = rw (← f) (e ∙ sym (bad_place s)) }

-- a check before the others passes
pub next : (n : ℕ) (ok : Bool) {cs : List Check} {s : List ℕ} {a : Answer} → ok ≡ true → Checked cs s a → Checked (check n ok ∷ cs) s a
next n ok {cs} {s} e c =
    let f : first_refusal cs ≡ first_refusal (check n ok ∷ cs) = passes n ok cs e refl in
    record { number = c.number ∙ f; place = c.place ∙ ap (place_named s) f }

-- no check has the number of a refusal that names a place
abbrev pub placeless : List Check → Bool
placeless [] = true
placeless (check n ok ∷ cs) = not (holds_place n) && placeless cs

placeless_number : (cs : List Check) → placeless cs ≡ true → holds_place (first_refusal cs) ≡ false
unfolding first_refusal
placeless_number [] h = refl
placeless_number (check n true ∷ cs) h = placeless_number cs (both_true (not (holds_place n)) (placeless cs) h).1
placeless_number (check n false ∷ cs) h = not-true (holds_place n) (both_true (not (holds_place n)) (placeless cs) h).0

-- a refusal of the first group of checks, which names no place
pub stops :
    {cs : List Check} (ds : List Check) (s : List ℕ) {a : Answer} {why : Refusal} → placeless cs ≡ true → Checked cs [] a → a ≡ Err why
    → Checked (cs ++ ds) s (Err why)
stops {cs} ds s {a} {why} h c e =
    let n : number_of why ≡ first_refusal cs = ap answer_number (sym e) ∙ c.number in
    refuses why (ap holds_place n ∙ placeless_number cs h) (already cs ds (number_pos why) n)

-- what `?` hands on
pub err_is : {A E : Type 0} {r : Result A E} {e : E} → IsErrAnd r (λ y. y ≡ e) → r ≡ Err e
err_is {r = r} i =
    let p = err_from_is_err_and r i in
    p.1 ∙ ap Err p.2

-- the same, handed on by `?`
pub handed :
    {cs : List Check} (ds : List Check) (s : List ℕ) {a r : Answer} {why : Refusal} → placeless cs ≡ true → Checked cs [] a → a ≡ Err why
    → IsErrAnd r (λ y. y ≡ why) → Checked (cs ++ ds) s r
handed ds s h c e i = rw (err_is i) (stops ds s h c e)

-- a refusal of any of the first group of checks, of the same input
pub stops_at : {cs : List Check} (ds : List Check) {s : List ℕ} {a : Answer} {why : Refusal} → Checked cs s a → a ≡ Err why → Checked (cs ++ ds) s (Err why)
stops_at {cs} ds {s} {a} {why} c e =
    let n : first_refusal cs ≡ first_refusal (cs ++ ds) = already cs ds (omega (arith, number_pos why, ap answer_number e, c.number)) refl in
    record { number = ap answer_number (sym e) ∙ c.number ∙ n; place = ap answer_place (sym e) ∙ c.place ∙ ap (place_named s) n }

-- checks that pass
pub none_refused : {cs : List Check} {s : List ℕ} {a : Answer} → Checked cs s a → a ≡ Ok tt → first_refusal cs ≡ 0
none_refused c e = sym (ap answer_number (sym e) ∙ c.number)

-- the first group of checks passes
pub goes_on : {cs : List Check} (ds : List Check) {s₀ s : List ℕ} {a b : Answer} → Numbered cs → Checked cs s₀ a → a ≡ (Ok tt) → Checked ds s b → Checked (cs ++ ds) s b
goes_on {cs} ds {s = s} t c e d =
    let n : first_refusal ds ≡ first_refusal (cs ++ ds) = then cs ds t (ap answer_number (sym e) ∙ c.number) refl in
    record { number = d.number ∙ n; place = d.place ∙ ap (place_named s) n }

pub code_done : {m r : ℕ} {s : List ℕ} {a : Answer} → Checked (code_checks m r) s a → a ≡ (Ok tt) → IsCode m r
code_done {m} {r} c e = (code_passed m r [] (none_refused c e)).0
