-- `affine::repeat_eight` meets its contract: two halves, one after the other. Assumes nothing.
use Rattle.area.proofs.AreaLaws.{bit_back}
use Rattle.area.specs.Numbers.{stored}
use Rattle.affine.specs.Affine.{Repeats}
use Rattle.affine.specs.Blocks.{first_half, second_half, both_halves}
use Rattle.affine.proofs.repeat_eight.Goals as goal

pub repeat_four-requires : goal.repeat_four-requires
repeat_four-requires c =
    let asks : Repeats 8 c.args.i c.args.b (stored c.args.t) c.args.a.now = rw (bit_back c.requires.added) c.requires in
    first_half 4 (asks)

pub repeat_four-requires-2 : goal.repeat_four-requires-2
repeat_four-requires-2 c =
    let asks : Repeats 8 c.args.i c.args.b (stored c.args.t) c.args.a.now = rw (bit_back c.requires.added) c.requires in
    second_half 4 (asks) c.repeat_four.ensures

pub returns : goal.returns
returns c =
    let asks : Repeats 8 c.args.i c.args.b (stored c.args.t) c.args.a.now = rw (bit_back c.requires.added) c.requires in
    rw (bit_back c.requires.added) at (both_halves 4 (asks) c.repeat_four.ensures c.repeat_four-2.ensures)

pub shape_of-a : goal.shape_of-a
shape_of-a c =
    (returns c).long
