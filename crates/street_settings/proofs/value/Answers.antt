-- `street_settings::value` meets its contract: v is the number of the digits passed. Assumes nothing.
use Rattle.std.proofs.Common.{◌+◌, ◌≡◌, ap, ◌∙◌, sym, arith, length}
use Rattle.street_settings.specs.Settings.{kept32, value_of}
use Rattle.street_settings.specs.SettingLaws.{digit, kept_great, kept_small, value_grows, value_more, value_none}
use Rattle.street_settings.proofs.value.Goals as goal

pub loop-b-init : goal.loop-b-init
loop-b-init c = record { value = value_none _; fits = omega arith }

pub returns-in_err-checked_mul : goal.returns-in_err-checked_mul
returns-in_err-checked_mul c =
    let s = c.args.s.now in
    let k = c.loop-b.b-index in
    c.from_residual.ensures ∙ kept_great _ (omega (arith, c.in_err-checked_mul.ensures, c.loop-b.invariant.value, value_grows s (k + 1) (length s) (omega arith), value_more s k))

pub overflow_sub-b : goal.overflow_sub-b
overflow_sub-b c = (digit c.args.s.now c.requires c.loop-b.b-index (omega arith)).0

pub returns-in_err-v : goal.returns-in_err-v
returns-in_err-v c =
    let s = c.args.s.now in
    let k = c.loop-b.b-index in
    c.from_residual-in_err-v.ensures ∙ kept_great _ (omega (arith, c.in_err-v.ensures, c.in_ok-checked_mul.ensures, c.from.ensures, c.loop-b.invariant.value, value_grows s (k + 1) (length s) (omega arith), value_more s k))

pub loop-b-preserved : goal.loop-b-preserved
loop-b-preserved c = record {
  value = omega (arith, c.in_ok-v.ensures, c.in_ok-checked_mul.ensures, c.from.ensures, c.loop-b.invariant.value, value_more c.args.s.now c.loop-b.b-index);
  fits = omega (arith, c.in_ok-v.ensures);
}

pub returns : goal.returns
returns c =
    let e : c.loop-b.v ≡ value_of c.args.s.now (length c.args.s.now) = c.loop-b.invariant.value ∙ ap (value_of c.args.s.now) (omega arith) in
    sym (kept_small _ c.loop-b.invariant.fits) ∙ ap kept32 e
