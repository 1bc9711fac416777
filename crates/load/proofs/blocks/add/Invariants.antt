-- `load::blocks::add` meets its contract: the loop writes from the front. Assumes nothing.
use lib.Bits.{bit_xor}
use Rattle.words.specs.Word.{bit}
use Rattle.words.specs.Written.{Written}
use Rattle.load.proofs.blocks.add.Given as goal

abbrev pub invariant-loop-i : goal.invariant-loop-i
invariant-loop-i l =
    Written 0 0 l.i (λ p. bit_xor (bit l.word p) (bit l.initial.out p)) l.initial.out l.out
