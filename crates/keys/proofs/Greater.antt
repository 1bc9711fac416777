-- Keys in 32 signed bits, and the greater of two. Assumes nothing.
use Prim.Native.Nat.{ℕ, ◌+◌, ◌*◌, ◌^◌, ◌≤◌, ◌<◌, max}
use mathlib.Core.Path.{◌≡◌, sym, ap, ap₂, ◌∙◌}
use mathlib.Core.List.{List}
use mathlib.Core.Bool.{true, false}
use native.Mathlib.Omega.{arith}
use lib.Dec.{ltb}
use lib.IntN.{ℤ, pos}
use lib.Signed.{lt_z}
use borrow.Author.Tests.{ltb-true, ltb-false}
use mir.Syntax.{w32}
use mir.Val.{to_z, of_z}
use mir.Facts.{to_z_pos}
use Rattle.area.specs.Area.{at}
use Rattle.area.specs.Numbers.{stored}
use Rattle.quads.specs.Quads.{sum_size, difference_size, Bounded}
use Rattle.keys.specs.Keys.{key_of}
use Rattle.keys.proofs.Sizes.{quad_held, sum_most, difference_most}

-- the key of the quad at i
abbrev pub key_at : List ℤ → ℕ → ℕ
key_at xs i = key_of (at xs i) (4 * i)

-- a test of two numbers
module _ (a b : ℕ) (ha : a < 2 ^ 31) (hb : b < 2 ^ 31) where
  test_is : lt_z (to_z w32 a) (to_z w32 b) ≡ ltb a b
  test_is = ap₂ lt_z (to_z_pos w32 ha) (to_z_pos w32 hb)

  pub second_greater : lt_z (to_z w32 a) (to_z w32 b) ≡ true → b ≡ max a b
  second_greater e = omega (arith, ltb-true a b (sym test_is ∙ e))

  pub first_greater : lt_z (to_z w32 a) (to_z w32 b) ≡ false → a ≡ max a b
  first_greater e = omega (arith, ltb-false a b (sym test_is ∙ e))

-- the sizes that the code got of the stored quad
pub sizes_held :
    {z : ℤ} {p q : ℕ} → Bounded z → (p ≡ sum_size (stored z)) × (q ≡ difference_size (stored z)) → (p ≡ sum_size z) × (q ≡ difference_size z)
sizes_held h e = (e.0 ∙ ap sum_size (quad_held h), e.1 ∙ ap difference_size (quad_held h))

module _ {z : ℤ} {k : ℕ} (h : Bounded z) (l : k < 1023) where
  pub key_most : key_of z k ≤ 132095
  key_most = omega (arith, sum_most h, difference_most h)

  -- a key that the code got of the stored quad
  pub key_held : {x : ℤ} → x ≡ pos (key_of (stored z) k) → of_z w32 x ≡ key_of z k
  key_held e = ap (of_z w32) (e ∙ ap (λ (y : ℤ). pos (key_of y k)) (quad_held h))

  module _ {p q : ℕ} (e : (p ≡ sum_size (stored z)) × (q ≡ difference_size (stored z))) where
    s_lt : p * 1024 + k < 2 ^ 31
    s_lt = omega (arith, (sizes_held h e).0, sum_most h)

    d_lt : q * 1024 + (k + 1) < 2 ^ 31
    d_lt = omega (arith, (sizes_held h e).1, difference_most h)

    key_is : max (p * 1024 + k) (q * 1024 + (k + 1)) ≡ key_of z k
    key_is = ap₂ (λ (x y : ℕ). max (x * 1024 + k) (y * 1024 + (k + 1))) (sizes_held h e).0 (sizes_held h e).1

    pub key_second :
        lt_z (to_z w32 (p * 1024 + k)) (to_z w32 (q * 1024 + (k + 1))) ≡ true → to_z w32 (q * 1024 + (k + 1)) ≡ pos (key_of z k)
    key_second t = to_z_pos w32 d_lt ∙ ap pos (second_greater _ _ s_lt d_lt t ∙ key_is)

    pub key_first : lt_z (to_z w32 (p * 1024 + k)) (to_z w32 (q * 1024 + (k + 1))) ≡ false → to_z w32 (p * 1024 + k) ≡ pos (key_of z k)
    key_first t = to_z_pos w32 s_lt ∙ ap pos (first_greater _ _ s_lt d_lt t ∙ key_is)
