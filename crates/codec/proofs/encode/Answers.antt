-- `codec::encode` meets its contract: the output is the coefficients of the spread message. Assumes nothing.
use Prim.Native.Nat.{ℕ, ◌^◌, ◌≤◌}
use mathlib.Core.Path.{◌≡◌, refl, sym, ap, subst, ◌∙◌}
use mathlib.Core.List.{List}
use lib.ListN.{length}
use lib.Pow.{pow_mono}
use Rattle.refusals.proofs.CheckLaws.{err_is, none_refused}
use Rattle.words.specs.Sum.{tabulate}
use Rattle.words.specs.Word.{IsWord}
use Rattle.code.specs.Code.{spread}
use Rattle.codec_checks.specs.Passed.{Encodable, encodable}
use Rattle.reader.specs.Ranks.{rank_is}
use Rattle.codec.specs.CallLaws.{call_done, call_refused}
use Rattle.coefficients.specs.Transformed.{coefficients, spread_word, spread-coefficients}
use Rattle.codec.proofs.encode.Goals as goal

-- the message in its places
spread_out : {m r room : ℕ} {message after : List ℕ} → Encodable m r message room → after ≡ tabulate room (spread r message)
    → after ≡ tabulate (2 ^ m) (spread r message)
spread_out {r = r} {message = message} ok e = e ∙ ap (λ (n : ℕ). tabulate n (spread r message)) ok.room_size

pub returns-in_err-check_message : goal.returns-in_err-check_message
returns-in_err-check_message c =
    rw (err_is c.from_residual.ensures.1) (call_refused _ _ (rw c.in_err-check_message.was at c.check_message.ensures) refl)

pub degrees-requires : goal.degrees-requires
degrees-requires c =
    let ok = encodable c.check_message.ensures c.in_ok-check_message.was in
    let small : length c.args.out.now ≤ 1024 = rw ok.room_size (pow_mono {j = 10} ok.code.most) in
    (small, small)

pub spread-requires : goal.spread-requires
spread-requires c =
    let ok = encodable c.check_message.ensures c.in_ok-check_message.was in
    (c.degrees.ensures, rank_is _ _ ok.size ok.room_size)

pub transform-requires : goal.transform-requires
transform-requires c =
    let ok = encodable c.check_message.ensures c.in_ok-check_message.was in
    (subst (IsWord _) (sym (spread_out ok c.spread.ensures)) (spread_word _ _ _ ok.bits), ok.code.most)

pub returns : goal.returns
returns c =
    let a = c.args in
    let ok = encodable c.check_message.ensures c.in_ok-check_message.was in
    call_done _ _ _ (sym (none_refused c.check_message.ensures c.in_ok-check_message.was))
    (c.transform.ensures ∙ ap (coefficients a.m) (spread_out ok c.spread.ensures) ∙ spread-coefficients a.m a.r a.message.now)
