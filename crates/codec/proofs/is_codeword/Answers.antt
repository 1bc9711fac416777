-- `codec::is_codeword` meets its contract. Assumes nothing.
use Prim.Native.Nat.{ℕ, ◌≤◌}
use mathlib.Core.Path.{sym, ap, ◌∙◌}
use Rattle.std.specs.Prelude.{Ok}
use lib.ListN.{replicate}
use lib.Pow.{pow_mono}
use Rattle.refusals.proofs.CheckLaws.{err_is, none_refused}
use Rattle.words.specs.Parts.{front_length}
use Rattle.codec_checks.specs.Passed.{testable}
use Rattle.codec.specs.CallLaws.{test_done, test_refused}
use Rattle.codec.proofs.is_codeword.Goals as goal

pub returns-in_err-check_word : goal.returns-in_err-check_word
returns-in_err-check_word c =
    rw (err_is c.from_residual.ensures.1) (test_refused c.check_word.ensures c.in_err-check_word.was)

pub size-n-requires : goal.size-n-requires
size-n-requires c = (testable c.check_word.ensures c.in_ok-check_word.was).0.most

pub slice_bounds-t-end : goal.slice_bounds-t-end
slice_bounds-t-end c =
    rw c.size-n.ensures (pow_mono {j = 10} (testable c.check_word.ensures c.in_ok-check_word.was).0.most)

pub has_order-requires : goal.has_order-requires
has_order-requires c =
    let ok = testable c.check_word.ensures c.in_ok-check_word.was in
    let fits : c.size-n.result ≤ 1024 = rw c.size-n.ensures (pow_mono {j = 10} ok.0.most) in
    (ok.0.most, ok.0.order, ok.1, front_length {A = ℕ} _ (replicate 1024 0) fits ∙ c.size-n.ensures)

pub returns : goal.returns
returns c = test_done (sym (none_refused c.check_word.ensures c.in_ok-check_word.was)) (ap Ok c.has_order.ensures)
