-- `gap::measure` meets its contract. Assumes nothing.
use mathlib.Core.Path.{sym, ◌∙◌}
use Rattle.gap.specs.CallLaws.{gap_is, halves_small, signs_summable}
use Rattle.gap.specs.GapLaws.{gap_codeword}
use Rattle.gap.proofs.measure.Goals as goal

pub returns-then-known_codeword : goal.returns-then-known_codeword
returns-then-known_codeword c =
    c.requires.room ∙ sym (gap_codeword (c.known_codeword.ensures c.if-known_codeword.true))

pub correlate_halves-requires : goal.correlate_halves-requires
correlate_halves-requires c =
    signs_summable c.requires c.signs.ensures

pub widest-requires : goal.widest-requires
widest-requires c =
    halves_small c.requires c.signs.ensures c.correlate_halves.ensures

pub returns : goal.returns
returns c =
    c.widest.ensures ∙ gap_is c.requires c.signs.ensures c.correlate_halves.ensures
