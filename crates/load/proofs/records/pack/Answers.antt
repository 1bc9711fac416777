-- `load::records::pack` meets its contract: the loop writes a byte a turn. Assumes nothing.
use mathlib.Core.Path.{◌∙◌}
use native.Mathlib.Omega.{arith}
use Rattle.words.specs.Written.{written_none, written_more, written_all}
use Rattle.load.specs.RecordLaws.{eight_bits, eight-length, eight-octet, packed_is}
use Rattle.load.proofs.records.pack.Goals as goal

pub loop-k-init : goal.loop-k-init
loop-k-init c =
    written_none 0 0 _ _

pub overflow_mul-at : goal.overflow_mul-at
overflow_mul-at c =
    omega (arith, c.requires.size)

pub overflow_add-at : goal.overflow_add-at
overflow_add-at c =
    omega (arith, c.requires.size)

pub slice_bounds-octet-end : goal.slice_bounds-octet-end
slice_bounds-octet-end c =
    omega (arith, c.requires.size)

pub octet-requires : goal.octet-requires
octet-requires c =
    let k = c.loop-k.k in
    (eight-length c.args.word.now k (omega (arith, c.requires.size)), eight_bits c.args.word.now k (omega (arith, c.requires.size)) c.requires.bits)

pub loop-k-preserved : goal.loop-k-preserved
loop-k-preserved c =
    let k = c.loop-k.k in
    written_more c.loop-k.invariant k _ (omega arith) (omega arith) (c.octet.ensures ∙ eight-octet c.args.word.now k (omega (arith, c.requires.size)))

pub returns : goal.returns
returns c =
    written_all c.loop-k.invariant (omega arith) ∙ packed_is c.args.word.now (omega (arith, c.requires.size))
