-- `block_test::repeats` meets its contract: same is the test of the places passed. Assumes nothing.
use Rattle.std.specs.Prelude.{ℕ, ◌+◌, ◌*◌, ◌≡◌, ◌&&◌, eqb, bit_xor}
use Rattle.std.proofs.Common.{sym, ap, subst, ◌∙◌}
use native.Mathlib.Omega.{arith}
use Rattle.words.specs.Sum.{total}
use Rattle.words.specs.SumLaws.{all_none}
use Rattle.octets.specs.Octets.{packed}
use Rattle.words.specs.Word.{bit}
use Rattle.code.specs.FirstOrder.{repeats_below, repeats}
use Rattle.block_test.specs.BlockLaws.{places_more}
use Rattle.block_test.proofs.repeats.Goals as goal

pub loop-k-init : goal.loop-k-init
loop-k-init c = all_none _

pub loop-k-preserved : goal.loop-k-preserved
unfolding packed total
loop-k-preserved c =
    let l = c.loop-k in
    let word = bit c.args.word.now in
    let e : 8 * l.k + 8 ≡ 8 * (l.k + 1) = omega arith in
    subst
    (λ (t : ℕ). (l.same && eqb (bit_xor c.eight_at.result c.eight_at-in-loop-k.result) (t * 72340172838076673)) ≡ repeats_below word c.args.h (8 * (l.k + 1)))
    (sym c.from-t.ensures)
    (rw e at (places_more c.requires.3 8 _ _ _ _ _ c.eight_at.ensures c.eight_at-in-loop-k.ensures l.invariant))

pub returns : goal.returns
unfolding repeats
returns c =
    let a = c.args in
    c.loop-k.invariant ∙ ap (repeats_below (bit a.word.now) a.h) (omega (arith, c.requires.0))
