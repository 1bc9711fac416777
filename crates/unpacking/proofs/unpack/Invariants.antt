-- `unpacking::unpack` meets its contract: the loop writes eight places a turn from the front. Assumes nothing.
use Prim.Native.Nat.{◌*◌}
use Rattle.words.specs.Written.{Written}
use Rattle.unpacking.specs.Packed.{packed_bit}
use Rattle.unpacking.proofs.unpack.Given as goal

abbrev pub invariant-loop-k : goal.invariant-loop-k
invariant-loop-k l =
    Written 0 0 (8 * l.k) (packed_bit l.part) l.initial.word l.word
