-- `array_decoder::read` meets its contract. Assumes nothing.
use mathlib.Core.Path.{sym}
use native.Mathlib.Omega.{arith}
use Rattle.array_decoder.specs.ReadLaws.{delivered, lines_ask, test_asks}
use Rattle.array_decoder.proofs.read.Goals as goal

pub decode_lines-lines-requires : goal.decode_lines-lines-requires
decode_lines-lines-requires c =
    lines_ask c.requires c.copy.ensures

pub are_codewords-rows-requires : goal.are_codewords-rows-requires
are_codewords-rows-requires c =
    test_asks c.requires c.decode_lines-lines.ensures

pub deliver-requires : goal.deliver-requires
deliver-requires c =
    omega (arith, c.requires.same, c.requires.sizes.input.size, c.requires.sizes.output)

pub returns : goal.returns
returns c =
    delivered c.requires c.decode_lines-lines.ensures _ c.are_codewords-rows.ensures (c.deliver.ensures.answer, c.deliver.ensures.output) c.fill.ensures (sym c.decode_lines-lines.auto.area)
