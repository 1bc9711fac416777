-- `packing::loads::pack` meets its contract. Assumes nothing.
use native.Mathlib.Omega.{arith}
use Rattle.words.proofs.WordLaws.{bool_byte_lem, indicator-lt}
use Rattle.packing.proofs.loads.pack.Goals as goal

pub overflow_mul-result : goal.overflow_mul-result
overflow_mul-result c =
    omega (arith, bool_byte_lem c.args.short, indicator-lt c.args.short)

pub overflow_add-result : goal.overflow_add-result
overflow_add-result c =
    omega (arith, bool_byte_lem c.args.short, indicator-lt c.args.short)

pub overflow_add-result-2 : goal.overflow_add-result-2
overflow_add-result-2 c =
    omega (arith, bool_byte_lem c.args.short, indicator-lt c.args.short)

pub returns : goal.returns
returns c =
    rw (bool_byte_lem c.args.short)
