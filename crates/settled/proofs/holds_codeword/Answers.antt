-- `settled::holds_codeword` meets its contract. Assumes nothing.
use native.Mathlib.Omega.{arith}
use Rattle.settled.specs.NumberLaws.{copy_entries, work_bits, area_tested}
use Rattle.settled.proofs.holds_codeword.Goals as goal

pub transform-requires : goal.transform-requires
transform-requires c =
    copy_entries _ _ _ _ c.size-n.ensures (omega arith) c.requires.2 c.copy_on.ensures

pub is_low-requires : goal.is_low-requires
is_low-requires c =
    work_bits _ _ _ _ c.size-n.ensures (omega arith) c.requires.2 c.copy_on.ensures _ c.transform.ensures c.requires.0

pub returns : goal.returns
returns c =
    area_tested _ _ _ _ c.size-n.ensures (omega arith) c.requires.2 c.copy_on.ensures _ c.transform.ensures _ _
    c.is_low.ensures
