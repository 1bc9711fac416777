-- `affine_test::levels_from` meets its contract: the levels below k pass. Assumes nothing.
use Rattle.std.proofs.Common.{ℕ, suc, ◌^◌, ◌≡◌, sym, ap, ◌∙◌, add-one, arith, pow_mono, pow_pos}
use Rattle.code.specs.FirstOrder.{repeats, levels_test}
use Rattle.code.proofs.FirstOrderLaws.{levels_next, levels_stop}
use Rattle.affine_test.specs.Marks.{mark_at}
use Rattle.affine_test.specs.MarkLaws.{marked_fewer}
use Rattle.affine_test.proofs.levels_from.Goals as goal

pub loop-k-init : goal.loop-k-init
loop-k-init g c = c.requires.area_value

pub repeats-requires : goal.repeats-requires
repeats-requires g c =
    let e = c.size.ensures in
    let half = pow_mono {i = suc c.loop-k.k} {j = c.args.m} (omega arith) in
    (omega (arith, pow_pos c.loop-k.k), marked_fewer (omega arith) c.requires.first_le_m.2)

pub returns-then-not-repeats : goal.returns-then-not-repeats
returns-then-not-repeats g c =
    let level : c.repeats.result ≡ repeats (mark_at g.M.Mark.bit_of c.args.area.now) (2 ^ c.loop-k.k) = c.repeats.ensures ∙ ap (repeats _) c.size.ensures in
    sym (levels_stop _ c.args.m c.loop-k.k (omega arith) (sym level ∙ c.if-not-repeats.true))

pub loop-k-preserved : goal.loop-k-preserved
loop-k-preserved g c =
    let level : c.repeats.result ≡ repeats (mark_at g.M.Mark.bit_of c.args.area.now) (2 ^ c.loop-k.k) = c.repeats.ensures ∙ ap (repeats _) c.size.ensures in
    rw add-one (levels_next _ c.loop-k.k c.loop-k.invariant (sym level ∙ c.if-not-repeats.false))

pub returns : goal.returns
returns g c =
    sym c.loop-k.invariant ∙ ap (λ (k : ℕ). levels_test k (mark_at g.M.Mark.bit_of c.args.area.now)) (omega arith)
