-- `load::blocks::draw_block` meets its contract: a codeword, the wrong places, and both added. Assumes nothing.
use native.Mathlib.Omega.{arith}
use Rattle.code.proofs.Dimension.{dimension_size}
use Rattle.load.specs.BlockLaws.{block_drawn, noise_word, sent_word}
use Rattle.load.proofs.blocks.draw_block.Goals as goal

pub slice_bounds-draw_sent-end : goal.slice_bounds-draw_sent-end
slice_bounds-draw_sent-end c =
    omega (arith, c.dimension-k.ensures, dimension_size c.args.m c.args.r, c.requires.2)

pub add-requires : goal.add-requires
add-requires c =
    let asked = c.args.asked in
    (sent_word asked c.draw_sent-x.ensures c.draw_places-p.ensures, noise_word asked c.draw_sent-x.ensures c.draw_places-p.ensures)

pub returns : goal.returns
returns c =
    block_drawn _ c.draw_sent-x.ensures c.draw_places-p.ensures c.add.ensures
