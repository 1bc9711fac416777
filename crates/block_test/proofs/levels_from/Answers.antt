-- `block_test::levels_from` meets its contract: the levels below k pass. Assumes nothing.
use Prim.Native.Nat.{ℕ, suc, ◌^◌}
use mathlib.Core.Path.{◌≡◌, sym, ap, ◌∙◌}
use native.Mathlib.Numerals.{add-one}
use native.Mathlib.Omega.{arith}
use lib.Pow.{pow_pos, pow_mono}
use Rattle.words.specs.Word.{bit}
use Rattle.code.specs.FirstOrder.{repeats, levels_test}
use Rattle.code.proofs.FirstOrderLaws.{levels_next, levels_stop}
use Rattle.block_test.specs.BlockLaws.{eights}
use Rattle.block_test.proofs.levels_from.Goals as goal

pub loop-k-init : goal.loop-k-init
loop-k-init c = c.requires.0

pub repeats-requires : goal.repeats-requires
repeats-requires c =
    let l = c.loop-k in
    let w = c.requires.4 in
    let room = pow_mono {i = suc l.k} {j = c.args.m} (omega arith) in
    rw c.size.ensures (eights l.k (omega arith), pow_pos l.k, omega (arith, w.size, room), record { each = w.bits })

pub returns-then-not-repeats : goal.returns-then-not-repeats
returns-then-not-repeats c =
    let tested : c.repeats.result ≡ repeats (bit c.args.word.now) (2 ^ c.loop-k.k) = c.repeats.ensures ∙ ap (repeats _) c.size.ensures in
    sym (levels_stop _ _ _ (omega arith) (sym (tested) ∙ c.if-not-repeats.true))

pub loop-k-preserved : goal.loop-k-preserved
loop-k-preserved c =
    let tested : c.repeats.result ≡ repeats (bit c.args.word.now) (2 ^ c.loop-k.k) = c.repeats.ensures ∙ ap (repeats _) c.size.ensures in
    let next = levels_next _ _ c.loop-k.invariant (sym (tested) ∙ c.if-not-repeats.false) in
    rw add-one next

pub returns : goal.returns
returns c =
    sym (ap (λ (j : ℕ). levels_test j (bit c.args.word.now)) (omega arith) ∙ c.loop-k.invariant)
