-- `load::records::put_head` meets its contract. Assumes nothing.
use native.Mathlib.Omega.{arith}
use lib.ListN.{length-set}
use Rattle.header.specs.HeaderLaws.{five_stored}
use Rattle.load.proofs.records.put_head.Goals as goal

pub bounds-out-4 : goal.bounds-out-4
bounds-out-4 c =
    simp length-set (omega arith)

pub returns : goal.returns
returns c =
    five_stored c.args.out.now c.requires.0 _ _ _ _ _
