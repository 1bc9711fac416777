-- How many of a quad's sizes are g, and of some quads'. Assumes nothing.
use Prim.Native.Nat.{ℕ, ◌+◌, ◌*◌, ◌≤◌}
use mathlib.Core.Path.{◌≡◌, ap, ap₂, ◌∙◌}
use mathlib.Core.List.{List}
use native.Mathlib.Omega.{arith}
use lib.Dec.{eqb}
use lib.IntN.{ℤ}
use mir.Val.{bool_byte}
use Rattle.words.specs.Sum.{sum_below}
use Rattle.words.specs.SumLaws.{sum_most}
use Rattle.words.specs.Word.{indicator}
use Rattle.words.proofs.WordLaws.{bool_byte_lem, indicator-lt}
use Rattle.area.specs.Area.{at}
use Rattle.area.specs.Numbers.{stored}
use Rattle.quads.specs.Quads.{sum_size, difference_size, Bounded}
use Rattle.keys.proofs.Greater.{sizes_held}

module _ (g : ℕ) where
  abbrev pub hits : ℤ → ℕ
  hits z = indicator (eqb (sum_size z) g) + indicator (eqb (difference_size z) g)

  pub hits_most : (z : ℤ) → hits z ≤ 2
  hits_most z = omega (arith, indicator-lt (eqb (sum_size z) g), indicator-lt (eqb (difference_size z) g))

  hit_is : {x y : ℕ} → x ≡ y → bool_byte (eqb x g) ≡ indicator (eqb y g)
  hit_is {x} e = bool_byte_lem (eqb x g) ∙ ap (λ (n : ℕ). indicator (eqb n g)) e

  -- as the code counts them
  pub hits_are :
      {z : ℤ} {p q : ℕ} → Bounded z → (p ≡ sum_size (stored z)) × (q ≡ difference_size (stored z))
      → bool_byte (eqb p g) + bool_byte (eqb q g) ≡ hits z
  hits_are h e = let k = sizes_held h e in ap₂ ◌+◌ (hit_is k.0) (hit_is k.1)

abbrev pub hits_at : List ℤ → ℕ → ℕ → ℕ
hits_at xs g i = hits g (at xs i)

pub hits_few : (xs : List ℤ) (g i : ℕ) → sum_below i (hits_at xs g) ≤ i * 2
hits_few xs g i = sum_most i 2 (hits_at xs g) (λ j l. hits_most g (at xs j))
