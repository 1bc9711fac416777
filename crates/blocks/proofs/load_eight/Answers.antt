-- `blocks::load_eight` meets its contract: all eight quads are made before the first is written. Assumes nothing.
use Rattle.blocks.proofs.Loads.{EightWritten, eight_written, eight_lent, eight_back}
use Rattle.blocks.proofs.load_eight.Goals as goal

pub eight-requires : goal.eight-requires
eight-requires c =
    let written : let s = c.args in EightWritten s.word.now s.i s.area.now c.put_four-2.new.a = eight_written c.args.word.now _ _ c.requires.i_in_bounds.1
    c.quad_at-z0.ensures
    c.quad_at-z1.ensures
    c.quad_at-z2.ensures
    c.quad_at-z3.ensures
    c.quad_at-z4.ensures
    c.quad_at-z5.ensures
    c.quad_at-z6.ensures
    c.quad_at-z7.ensures
    c.put_four.ensures
    c.put_four-2.ensures in
    eight_lent c.args.word.now _ _ c.requires.i_in_bounds.1 (written)

pub returns : goal.returns
returns c =
    let written : let s = c.args in EightWritten s.word.now s.i s.area.now c.put_four-2.new.a = eight_written c.args.word.now _ _ c.requires.i_in_bounds.1
    c.quad_at-z0.ensures
    c.quad_at-z1.ensures
    c.quad_at-z2.ensures
    c.quad_at-z3.ensures
    c.quad_at-z4.ensures
    c.quad_at-z5.ensures
    c.quad_at-z6.ensures
    c.quad_at-z7.ensures
    c.put_four.ensures
    c.put_four-2.ensures in
    eight_back c.args.word.now _ _ c.requires.i_in_bounds.1 (written) c.eight.ensures
