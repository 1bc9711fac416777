use Rattle.words.specs.ButterflyLaws.{PairsDone}
use Rattle.transforms.proofs.butterfly.Given as goal

abbrev pub invariant-loop-i : goal.invariant-loop-i
invariant-loop-i g l = PairsDone g.K.Pairing.rule l.h l.i l.initial.a l.a
