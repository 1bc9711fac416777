-- `codec::read_message` meets its contract: 13 is tested before anything is written. Assumes nothing.
use Prim.Native.Nat.{ℕ, ◌≤◌}
use mathlib.Core.Path.{refl, sym, ◌∙◌}
use native.Mathlib.Omega.{arith}
use lib.ListN.{replicate}
use lib.Pow.{pow_mono}
use Rattle.refusals.specs.declared.Refusal.TheVariants.{NotCodeword}
use Rattle.refusals.proofs.CheckLaws.{err_is, then, passes, fails, no_more, none_refused, refuses, stops_at}
use Rattle.words.specs.Parts.{front_length}
use Rattle.codec_checks.specs.Passed.{readable}
use Rattle.codec.specs.CallLaws.{call_refused, call_done}
use Rattle.codec.proofs.read_message.Goals as goal

pub returns-in_err-check_codeword : goal.returns-in_err-check_codeword
returns-in_err-check_codeword c =
    rw (err_is c.from_residual.ensures.1) (call_refused _ _ (stops_at _ c.check_codeword.ensures c.in_err-check_codeword.was) refl)

pub size-n-requires : goal.size-n-requires
size-n-requires c = (readable c.check_codeword.ensures c.in_ok-check_codeword.was).code.most

pub slice_bounds-t-end : goal.slice_bounds-t-end
slice_bounds-t-end c =
    rw c.size-n.ensures (pow_mono {j = 10} (readable c.check_codeword.ensures c.in_ok-check_codeword.was).code.most)

pub read_in-requires : goal.read_in-requires
read_in-requires c =
    let ok = readable c.check_codeword.ensures c.in_ok-check_codeword.was in
    let fits : c.size-n.result ≤ 1024 = rw c.size-n.ensures (pow_mono {j = 10} ok.code.most) in
    (ok.code.most, omega (arith, ok.code.order, ok.code.most), ok.word_is, front_length {A = ℕ} _ (replicate 1024 0) fits ∙ c.size-n.ensures, ok.room_size)

pub returns-then-read_in : goal.returns-then-read_in
returns-then-read_in c =
    let r = c.read_in.ensures in
    let none = sym (none_refused c.check_codeword.ensures c.in_ok-check_codeword.was) in
    call_done _ _ _ (then _ _ tt none (passes 13 _ _ (sym r.0 ∙ c.if-read_in.true) no_more)) (r.1 ∙ rw c.if-read_in.true)

pub returns-else-read_in : goal.returns-else-read_in
returns-else-read_in c =
    let r = c.read_in.ensures in
    let none = sym (none_refused c.check_codeword.ensures c.in_ok-check_codeword.was) in
    call_refused _ _ (refuses NotCodeword refl (then _ _ tt none (fails 13 _ _ (sym r.0 ∙ c.if-read_in.false)))) (r.1 ∙ rw c.if-read_in.false)
