-- `hex::put_hex` meets its contract: the loop writes a digit a turn. Assumes nothing.
use Prim.Native.Nat.{◌+◌, ◌-◌, ◌*◌, ◌/◌, ◌≤◌}
use mathlib.Core.Path.{◌≡◌}
use lib.ListN.{length}
use Rattle.words.specs.Written.{Written}
use Rattle.text.specs.Numbers.{hex_digit, nibble}
use Rattle.hex_digits.proofs.put_hex.Given as goal

abbrev pub invariant-loop-i : goal.invariant-loop-i
invariant-loop-i l =
    (l.digits ≡ (length l.message + 7) / 8 * 2) × (l.i ≤ l.digits) × (length l.out ≡ length l.initial.out) × Written 0 l.at l.i (λ j. hex_digit (nibble l.message j)) l.initial.out l.out

abbrev pub decreases-loop-i : goal.decreases-loop-i
decreases-loop-i l =
    l.digits - l.i
