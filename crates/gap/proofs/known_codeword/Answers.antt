-- `gap::known_codeword` meets its contract. Assumes nothing.
use mathlib.Core.Path.{sym, ◌∙◌}
use Rattle.code.proofs.Codewords.{codeword_of_test}
use Rattle.gap.proofs.known_codeword.Goals as goal

pub returns : goal.returns
returns c e =
    codeword_of_test _ _ _ c.requires.1 (sym c.is_affine.ensures ∙ e)
