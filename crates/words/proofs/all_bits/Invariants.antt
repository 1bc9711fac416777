use Rattle.std.proofs.Common.{◌≡◌, ltb}
use Rattle.words.specs.Sum.{all_below}
use Rattle.words.specs.Word.{bit}
use Rattle.words.proofs.all_bits.Given as goal

abbrev pub invariant-loop-b : goal.invariant-loop-b
invariant-loop-b l = l.all ≡ all_below l.b-index (λ p. ltb (bit l.s p) 2)
