-- `parities::transform` meets its contract: each level transforms blocks of twice the size. Assumes nothing.
use Rattle.std.proofs.Common.{◌-◌, ◌^◌}
use Rattle.words.specs.Levels.{Transformed}
use Rattle.parities.specs.Parities.{number_parities}
use Rattle.parities.proofs.transform.Given as goal

abbrev pub invariant-loop-h : goal.invariant-loop-h
invariant-loop-h l = Transformed number_parities l.m l.h l.fn.a l.a

abbrev pub decreases-loop-h : goal.decreases-loop-h
decreases-loop-h l = 2 ^ l.m - l.h
