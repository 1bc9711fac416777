-- `unpacking::unpack_byte` meets its contract: the loop writes the bits from the front. Assumes nothing.
use Prim.Native.Nat.{◌-◌, ◌/◌, ◌%◌, ◌^◌}
use Rattle.words.specs.Written.{Written}
use Rattle.unpacking.proofs.unpack_byte.Given as goal

abbrev pub invariant-loop-i : goal.invariant-loop-i
invariant-loop-i l =
    Written 0 0 l.i (λ j. l.b / 2 ^ (7 - j) % 2) l.initial.bits l.bits
