-- What `position` found among numbers, as the first place with a test. Assumes nothing.
use Rattle.std.specs.Prelude.{ℕ, ◌≤◌, ◌<◌, ◌≡◌, refl, Bool, true, false, cond, List, length, ℤ, pos, Some, None, nat_lt, position}
use Rattle.std.specs.List.{position_or_len}
use Rattle.std.proofs.Common.{sym, ap, ◌∙◌, arith, ltb-true, ltb-false}
use Rattle.std.proofs.lemmas.List.Sums.{position_or_len_is}
use Rattle.std.proofs.lemmas.Option.{cond_some}
use Rattle.words.specs.Search.{where_first}
use Rattle.words.specs.Sum.{first_where}
use Rattle.area.specs.Area.{at}

module _ (q : ℤ → Bool) (xs : List ℤ) where
  abbrev first_place : ℕ
  first_place = first_where (length xs) (λ p. q (at xs p))

  is_first : position_or_len q xs ≡ first_place
  is_first = let first = where_first (length xs) (λ p. q (at xs p)) in position_or_len_is q xs _ (pos 0) first.within first.before first.found

  pub found_some : {p : ℕ} → position q xs ≡ Some p → (p < length xs) × (p ≡ first_place)
  found_some {p} e =
      let found = cond_some (nat_lt (position_or_len q xs) (length xs)) (position_or_len q xs) p e in
      (omega (arith, found.1, ltb-true (position_or_len q xs) (length xs) found.0), sym found.1 ∙ is_first)

  pub found_none : ((p : ℕ) → position q xs ≡ Some p → ⊥) → length xs ≤ first_place
  found_none none = go (nat_lt (position_or_len q xs) (length xs)) refl
    where
      go : (t : Bool) → nat_lt (position_or_len q xs) (length xs) ≡ t → length xs ≤ first_place
      go true h = absurd (none (position_or_len q xs) (ap (λ (t : Bool). cond t (Some (position_or_len q xs)) None) h))
      go false h = omega (arith, is_first, ltb-false (position_or_len q xs) (length xs) h)
