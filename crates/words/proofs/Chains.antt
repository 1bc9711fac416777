-- The library's chains over a slice, as tests of places.
use Rattle.std.specs.Prelude.{Some, None, ℕ, zero, suc, ◌+◌, ◌-◌, ◌≤◌, ◌<◌, ◌≡◌, refl, Bool, true, false, cond, ◌&&◌, List, ◌∷◌, length, take, drop, get_or, replicate, ltb, nat_lt, position, unwrap_or}
use Rattle.std.specs.List.{list_all, fold, position_or_len}
use Rattle.std.proofs.Common.{arith, sym, ap, ◌∙◌, add-one, ltb-false, length-drop, ext_get_or}
use Rattle.std.proofs.lemmas.List.{take_all, drop_more, length-replicate}
use Rattle.std.proofs.Math.ListN.{get_or-replicate}
use Rattle.std.proofs.lemmas.List.Folds.{list_all_more}
use Rattle.std.proofs.lemmas.List.Sums.{fold_more, position_or_len_is}
use Rattle.words.specs.Sum.{all_below, first_where, tabulate}
use Rattle.words.specs.SumLaws.{all_none, all_more, length-tabulate, get_or-tabulate}
use Rattle.words.specs.Search.{where_first}
use Rattle.words.specs.Word.{bit}

-- `all`, which ends at the first place that fails
all_take : (q : ℕ → Bool) (xs : List ℕ) (i : ℕ) → i ≤ length xs → list_all q (take i xs) ≡ all_below i (λ p. q (bit xs p))
all_take q xs zero h = all_none _
all_take q xs (suc i) h = rw (← add-one) (list_all_more q xs i 0 (omega arith) ∙ all_more i _ _ (all_take q xs i (omega arith)))

pub all_places : (q : ℕ → Bool) (xs : List ℕ) → list_all q xs ≡ all_below (length xs) (λ p. q (bit xs p))
all_places q xs = ap (list_all q) (sym (take_all (length xs) xs (omega arith))) ∙ all_take q xs (length xs) (omega arith)

-- `fold` with a test, over all entries
fold_take : (q : ℕ → Bool) (xs : List ℕ) (i : ℕ) → i ≤ length xs → fold (λ a x. a && q x) true (take i xs) ≡ all_below i (λ p. q (bit xs p))
fold_take q xs zero h = all_none _
fold_take q xs (suc i) h = rw (← add-one) (fold_more (λ a x. a && q x) true xs i 0 (omega arith) ∙ all_more i _ _ (fold_take q xs i (omega arith)))

pub fold_places : (q : ℕ → Bool) (xs : List ℕ) → fold (λ a x. a && q x) true xs ≡ all_below (length xs) (λ p. q (bit xs p))
fold_places q xs = ap (fold _ true) (sym (take_all (length xs) xs (omega arith))) ∙ fold_take q xs (length xs) (omega arith)

-- `position`, which finds the first place that passes
or_length : (k n : ℕ) → k ≤ n → unwrap_or (cond (nat_lt k n) (Some k) None) n ≡ k
or_length k n h = go (ltb k n) refl
  where
    go : (t : Bool) → ltb k n ≡ t → unwrap_or (cond t (Some k) None) n ≡ k
    go true e = refl
    go false e = omega (arith, ltb-false k n e)

pub position_places : (q : ℕ → Bool) (xs : List ℕ) → unwrap_or (position q xs) (length xs) ≡ first_where (length xs) (λ p. q (bit xs p))
position_places q xs =
    let first = where_first (length xs) (λ p. q (bit xs p)) in
    let e : position_or_len q xs ≡ first_where (length xs) (λ p. q (bit xs p)) = position_or_len_is q xs _ 0 first.within first.before first.found in
    or_length (position_or_len q xs) (length xs) (omega (arith, e, first.within)) ∙ e

-- a loop over what is left of a list from entry i on: the next item is that entry
pub record Next {X : Type 0} (d : X) (xs : List X) (i : ℕ) (x : X) (left : List X) : Type 0 where
  pub within : i < length xs
  pub item : x ≡ get_or xs i d
  pub left_is : left ≡ drop (i + 1) xs

pub next_of : {X : Type 0} (d : X) (xs : List X) (i : ℕ) {rest left : List X} {x : X} → rest ≡ drop i xs → rest ≡ x ∷ left → Next d xs i x left
next_of d xs i {left = left} {x = x} h s =
    let long : suc (length left) ≡ length xs - i = ap length (sym s ∙ h) ∙ length-drop i xs in
    let within : i < length xs = omega arith in
    let e : x ∷ left ≡ get_or xs i d ∷ drop (i + 1) xs = sym s ∙ h ∙ drop_more xs i d within in
    record { within = within; item = ap (λ l. get_or l 0 d) e; left_is = ap (drop 1) e }

-- `fill`, which writes one entry at every place
pub replicate_places : {X : Type 0} (n : ℕ) (x : X) → replicate n x ≡ tabulate n (λ p. x)
replicate_places n x =
    ext_get_or x _ _ (length-replicate n x ∙ sym (length-tabulate n (λ p. x)))
    (λ p l.
    let h : p < n = omega (arith, length-replicate n x) in
    get_or-replicate n p x x h ∙ sym (get_or-tabulate n (λ q. x) x p h))
