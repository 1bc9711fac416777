-- `packing::runs::pack` meets its contract. Assumes nothing.
use native.Mathlib.Omega.{arith}
use Rattle.words.proofs.WordLaws.{bool_byte_lem, indicator-lt}
use Rattle.packing.proofs.runs.pack.Goals as goal

pub overflow_mul-result-2 : goal.overflow_mul-result-2
overflow_mul-result-2 c =
    omega (arith, bool_byte_lem c.args.none, indicator-lt c.args.none)

pub overflow_add-result-2 : goal.overflow_add-result-2
overflow_add-result-2 c =
    omega (arith, bool_byte_lem c.args.none, indicator-lt c.args.none)

pub returns : goal.returns
returns c =
    rw (bool_byte_lem c.args.none)
