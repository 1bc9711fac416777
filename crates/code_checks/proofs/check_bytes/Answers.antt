-- `code_checks::check_bytes` meets its contract. Assumes nothing.
use Rattle.refusals.proofs.CheckLaws.{bytes_pass, all_pass, names}
use Rattle.code_checks.proofs.check_bytes.Goals as goal

pub returns-then-place-s : goal.returns-then-place-s
returns-then-place-s c =
    names c.bad_place-place.ensures c.if-place-s.true

pub returns : goal.returns
returns c =
    all_pass (bytes_pass _ (rw c.bad_place-place.ensures at c.if-place-s.false))
