-- `load::records::pack` meets its contract: the loop writes a byte a turn. Assumes nothing.
use Prim.Native.Nat.{◌+◌, ◌*◌}
use Rattle.words.specs.Word.{bit}
use Rattle.words.specs.Written.{Written}
use Rattle.load.specs.Records.{octet}
use Rattle.load.proofs.records.pack.Given as goal

abbrev pub invariant-loop-k : goal.invariant-loop-k
invariant-loop-k l =
    Written 0 0 l.k (λ j. octet (λ i. bit l.word (8 * j + i))) l.initial.out l.out
