-- The cycle of calls {passes}: the exponent falls. Assumes nothing.
use Rattle.halving_test.proofs.+passes.Given as goal

abbrev pub decreases-passes : goal.decreases-passes
decreases-passes l = l.m
