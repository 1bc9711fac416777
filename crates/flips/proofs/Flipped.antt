-- What a flip does to a place. Assumes nothing.
use Prim.Native.Nat.{ℕ, ◌+◌, ◌-◌, ◌*◌, ◌%◌, ◌≤◌, ◌<◌}
use mathlib.Core.Path.{◌≡◌, refl, ap}
use mathlib.Core.Bool.{Bool, true, false}
use mathlib.Core.List.{List}
use lib.Bits.{bit_xor}
use lib.Dec.{eqb}
use lib.IntN.{ℤ, pos, nat_abs}
use mir.Syntax.{w32}
use mir.Val.{to_z, of_z}
use borrow.Author.Tests.{lt-ltb, le-ltb}
use Rattle.words.specs.Word.{bit, indicator}
use Rattle.area.specs.Area.{at, IsBit, zero_bit, one_bit, word_of}
use Rattle.rule.specs.Reading.{flipped}
use Rattle.flips.specs.Flips.{flip_of}

abbrev pub flipped_at : ℕ → ℕ → List ℤ → ℕ → ℤ
flipped_at n a xs p = pos ((bit (word_of n xs) p + flip_of n a xs p) % 2)

abbrev pub still : ℕ → ℕ → List ℤ → ℕ → Bool
still n a xs p = eqb (flip_of n a xs p) 0

-- the rule, where a directions abstained
module _ (n a : ℕ) (xs : List ℤ) (p : ℕ) where
  pub flips : n - 1 - a < 2 * nat_abs (at xs (n + p)) → flip_of n a xs p ≡ 1
  unfolding flipped
  flips h = ap indicator (lt-ltb (n - 1 - a) (2 * nat_abs (at xs (n + p))) h)

  pub stays : 2 * nat_abs (at xs (n + p)) ≤ n - 1 - a → flip_of n a xs p ≡ 0
  unfolding flipped
  stays h = ap indicator (le-ltb (n - 1 - a) (2 * nat_abs (at xs (n + p))) h)

-- a bit with the flip added
pub flipped_bit : {z : ℤ} → IsBit z → (t : Bool) → to_z w32 (bit_xor (of_z w32 z) (indicator t)) ≡ pos ((nat_abs z + indicator t) % 2)
flipped_bit zero_bit true = refl
flipped_bit zero_bit false = refl
flipped_bit one_bit true = refl
flipped_bit one_bit false = refl
