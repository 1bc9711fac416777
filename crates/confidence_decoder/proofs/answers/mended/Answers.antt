-- `confidence_decoder::answers::mended` meets its contract: the loop counts the places so far. Assumes nothing.
use Prim.Native.Nat.{ℕ, ◌+◌, ◌^◌, ◌≤◌}
use mathlib.Core.Path.{◌≡◌, refl, sym, ap, ap₂, ◌∙◌}
use native.Mathlib.Omega.{arith}
use lib.Bits.{bit_xor}
use lib.Pow.{pow_mono}
use Rattle.words.specs.Sum.{sum_below, total}
use Rattle.words.specs.SumLaws.{sum_more}
use Rattle.words.specs.Word.{bit, differs, distance}
use Rattle.words.specs.Xor.{xor_bits}
use Rattle.area.specs.Area.{at}
use Rattle.hadamard.specs.Correlation.{constant_of}
use Rattle.confidences.specs.Confidences.{signs_of}
use Rattle.confidences.proofs.Rounds.{bit_signs, signs_word}
use Rattle.confidence_decoder.specs.Numbers.{sixteen-eq}
use Rattle.confidence_decoder.proofs.answers.mended.Goals as goal

pub loop-p-init : goal.loop-p-init
unfolding total
loop-p-init c =
    (omega arith, refl)

pub bounds-values-p : goal.bounds-values-p
bounds-values-p c =
    omega (arith, c.requires.1.size, c.requires.2.size)

pub overflow_add-d : goal.overflow_add-d
overflow_add-d c =
    let p = c.loop-p.p in
    let w = signs_of c.args.m c.args.values.now in
    let received : c.bit_of.result ≡ bit w p = c.bit_of.ensures ∙ ap constant_of (sixteen-eq (at c.args.values.now p) (omega arith)) ∙ sym (bit_signs c.args.m c.args.values.now p (omega (arith, c.requires.2.size))) in
    let added : bit_xor c.bit_of.result c.from.result ≡ differs w c.args.word.now p = ap₂ bit_xor received c.from.ensures ∙ xor_bits _ _ ((signs_word c.args.m c.args.values.now).bits p) (c.requires.2.bits p) in
    let small : 2 ^ c.args.m ≤ 1024 = pow_mono {j = 10} c.requires.0 in
    record { fits = omega (arith, added, c.requires.2.size) }

pub loop-p-preserved : goal.loop-p-preserved
loop-p-preserved c =
    let p = c.loop-p.p in
    let w = signs_of c.args.m c.args.values.now in
    let received : c.bit_of.result ≡ bit w p = c.bit_of.ensures ∙ ap constant_of (sixteen-eq (at c.args.values.now p) (omega arith)) ∙ sym (bit_signs c.args.m c.args.values.now p (omega (arith, c.requires.2.size))) in
    let added : bit_xor c.bit_of.result c.from.result ≡ differs w c.args.word.now p = ap₂ bit_xor received c.from.ensures ∙ xor_bits _ _ ((signs_word c.args.m c.args.values.now).bits p) (c.requires.2.bits p) in
    let more : sum_below (p + 1) (differs w c.args.word.now) ≡ sum_below p (differs w c.args.word.now) + differs w c.args.word.now p = sum_more p _ in
    (omega (arith, added, c.loop-p.invariant.0), omega (arith, added, more, c.loop-p.invariant.1))

pub returns : goal.returns
unfolding distance
returns c =
    let l = c.loop-p in
    let e : l.p ≡ 2 ^ c.args.m = omega (arith, c.loop-p-test.false, c.requires.2.size) in
    c.from-2.ensures ∙ l.invariant.1 ∙ ap (λ (k : ℕ). sum_below k (differs (signs_of c.args.m c.args.values.now) c.args.word.now)) e
