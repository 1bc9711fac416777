-- `text::ten_digit` meets its contract: the table has the powers of 10. Assumes nothing.
use Prim.Native.Nat.{ℕ, ◌-◌, ◌^◌, ◌<◌}
use mathlib.Core.Path.{◌≡◌, refl}
use mathlib.Core.List.{List, [], ◌∷◌}
use native.Mathlib.Nat.{one-le-pow}
use lib.Dec.{eqb, lit<}
use lib.ListN.{get_or}
use borrow.Author.Tests.{eqb-true}
use Rattle.words.specs.Sum.{total}
use Rattle.words.specs.SumLaws.{all_true}
use Rattle.text.proofs.ten_digit.Goals as goal

abbrev powers : List ℕ
powers = 1000000000 ∷ 100000000 ∷ 10000000 ∷ 1000000 ∷ 100000 ∷ 10000 ∷ 1000 ∷ 100 ∷ 10 ∷ 1 ∷ []

-- by one computed test of the table
power : (i : ℕ) → i < 10 → get_or powers i 0 ≡ 10 ^ (9 - i)
unfolding total
power i h = eqb-true _ _ (all_true 10 (λ k. eqb (get_or powers k 0) (10 ^ (9 - k))) refl i h)

pub nonzero_div-result : goal.nonzero_div-result
nonzero_div-result c =
    rw (power _ c.requires) (one-le-pow _ 10 (lit< tt))

pub returns : goal.returns
returns c =
    rw (power _ c.requires)
