-- Laws of numbers that stand for bits. Assumes nothing.
use Rattle.std.specs.Prelude.{ℕ, ◌≤◌, ◌<◌, List, ℤ, nat_abs, FitsSigned}
use Rattle.std.specs.Int.{w32}
use Rattle.std.proofs.Common.{arith}
use Rattle.area.specs.Area.{Bits, IsBit, zero_bit, one_bit}
use Rattle.affine_test.specs.Marks.{Marked}

pub marked_fewer : {Right : ℤ → Type 0} {n k : ℕ} {xs : List ℤ} → k ≤ n → Marked Right n xs → Marked Right k xs
marked_fewer l w = record { room = omega (arith, w.room); each = λ p h. w.each p (omega arith) }

-- numbers that are bits

pub low_bit : (x : ℤ) → IsBit x → nat_abs x < 2
low_bit x zero_bit = omega arith
low_bit x one_bit = omega arith

pub bit_fits : (x : ℤ) → IsBit x → FitsSigned w32 x
bit_fits x zero_bit = record { sfits = omega arith }
bit_fits x one_bit = record { sfits = omega arith }

pub bits_marked : {n : ℕ} {xs : List ℤ} → Bits n xs → Marked IsBit n xs
bits_marked b = record { room = b.room; each = b.bits }
