-- Four bytes packed in 32 signed bits, as the code computes with them. Assumes nothing.
use Prim.Native.Nat.{ℕ, ◌+◌, ◌*◌, ◌≤◌}
use mathlib.Core.Path.{◌≡◌}
use mathlib.Core.List.{List}
use native.Mathlib.Omega.{arith}
use lib.IntN.{pos, ◌-ℤ◌, ◌*ℤ◌}
use mir.Syntax.{w32}
use mir.Val.{SFits, to_z}
use mir.Facts.{to_z_pos}
use Rattle.words.specs.Word.{bit}
use Rattle.area.specs.Numbers.{stored}
use Rattle.quads.specs.FourSigns.{code, code-le, double_fits, signs_fit, signs_are}
use Rattle.byte_quads.specs.ByteQuads.{quad_at, Bytes}

module _ {w : List ℕ} (h : Bytes w) (i : ℕ) where
  abbrev packed : ℕ
  packed = code (bit w (4 * i)) (bit w (4 * i + 1)) (bit w (4 * i + 2)) (bit w (4 * i + 3))

  pub packed-le : packed ≤ 16843009
  packed-le = code-le _ _ _ _ (h.bits (4 * i)) (h.bits (4 * i + 1)) (h.bits (4 * i + 2)) (h.bits (4 * i + 3))

  held : to_z w32 packed ≡ pos packed
  held = to_z_pos w32 {n = packed} (omega (arith, packed-le))

  pub packed_double : SFits w32 (pos 2 *ℤ to_z w32 packed)
  packed_double = double_fits held packed-le

  pub packed_rest : SFits w32 (pos 16843009 -ℤ stored (pos 2 *ℤ to_z w32 packed))
  packed_rest = signs_fit held packed-le

  pub packed_signs : stored (pos 16843009 -ℤ stored (pos 2 *ℤ to_z w32 packed)) ≡ quad_at w i
  packed_signs = signs_are _ _ _ _ held (h.bits (4 * i)) (h.bits (4 * i + 1)) (h.bits (4 * i + 2)) (h.bits (4 * i + 3))
