-- `load::blocks::add` meets its contract: the loop writes from the front. Assumes nothing.
use mathlib.Core.Path.{ap, ◌∙◌}
use native.Mathlib.Omega.{arith}
use lib.Bits.{bit_xor}
use Rattle.std.proofs.lemmas.Nat.{xor_comm}
use Rattle.words.specs.Word.{bit}
use Rattle.words.specs.Written.{written_none, written_more, written_to, written_all}
use Rattle.load.specs.BlockLaws.{xor_words}
use Rattle.load.proofs.blocks.add.Goals as goal

pub loop-i-init : goal.loop-i-init
loop-i-init c =
    written_none 0 0 _ _

pub bounds-out-i : goal.bounds-out-i
bounds-out-i c =
    omega (arith, c.requires.0.size, c.requires.1.size)

pub loop-i-preserved : goal.loop-i-preserved
loop-i-preserved c =
    let i = c.loop-i.i in
    let word = c.args.word.now in
    written_more c.loop-i.invariant i _ (omega arith) (omega (arith, c.requires.0.size, c.requires.1.size)) (xor_comm (bit c.loop-i.out i) (bit word i) ∙ ap (bit_xor (bit word i)) (c.loop-i.invariant.above i (omega arith)))

pub returns : goal.returns
returns c =
    let q = c.requires in
    let size = q.1.size in
    written_all (written_to c.loop-i.invariant _ (omega (arith, size))) size ∙ xor_words q.0 q.1
