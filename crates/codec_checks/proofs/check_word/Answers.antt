-- `codec_checks::check_word` meets its contract. Assumes nothing.
use mathlib.Core.Path.{refl, sym, ◌∙◌}
use borrow.Author.Tests.{eq-eqb, ne_eqb}
use Rattle.refusals.specs.declared.Refusal.TheVariants.{InputLength}
use Rattle.refusals.proofs.CheckLaws.{fails, refuses, next, handed, goes_on, code_done}
use Rattle.codec_checks.proofs.check_word.Goals as goal

pub returns-in_err-check_code : goal.returns-in_err-check_code
returns-in_err-check_code c =
    handed _ _ refl c.check_code.ensures c.in_err-check_code.was c.from_residual.ensures.1

pub size-requires : goal.size-requires
size-requires c =
    (code_done c.check_code.ensures c.in_ok-check_code.was).most

pub returns-then-word-size : goal.returns-then-word-size
returns-then-word-size c =
    goes_on _ tt c.check_code.ensures c.in_ok-check_code.was
    (refuses InputLength refl (fails 5 _ _ (ne_eqb _ _ (λ e. c.if-word-size.true (e ∙ sym c.size.ensures)))))

pub returns : goal.returns
returns c =
    goes_on _ tt c.check_code.ensures c.in_ok-check_code.was
    (next 5 _ (eq-eqb _ _ (c.if-word-size.false ∙ c.size.ensures)) c.check_bytes.ensures)
