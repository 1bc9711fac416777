-- `affine::repeat_four` meets its contract: all four bits are read before the first is written. Assumes nothing.
use native.Mathlib.Nat.{add-zero}
use native.Mathlib.Omega.{arith}
use Rattle.area.proofs.AreaLaws.{bits_xor, four_as}
use Rattle.affine.proofs.repeat_four.Goals as goal

pub returns : goal.returns
returns c =
    let e = add-zero c.args.i in
    four_as c.put_four.ensures
    (rw e (bits_xor (rw e at (c.requires.bits 0 (omega arith))) c.requires.added))
    (bits_xor (c.requires.bits 1 (omega arith)) c.requires.added)
    (bits_xor (c.requires.bits 2 (omega arith)) c.requires.added)
    (bits_xor (c.requires.bits 3 (omega arith)) c.requires.added)

pub shape_of-a : goal.shape_of-a
shape_of-a c =
    (returns c).long
