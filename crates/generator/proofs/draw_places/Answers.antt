-- `generator::draw_places` meets its contract: the loop ends where enough places are wrong, or after as many draws as there are places.
-- Assumes nothing.
use Rattle.std.proofs.Common.{ℕ, rules, ◌≡◌, arith, ap, sym, ◌∙◌, length}
use Rattle.std.specs.Prelude.{replicate}
use Rattle.std.proofs.Math.Pow.{pow_pos}
use Rattle.words.specs.Sum.{tabulate}
use Rattle.words.proofs.Chains.{replicate_places}
use Rattle.generator.specs.PlaceLaws.{turns_none, turns_holds, turns_more, turns_enough, turns_all}
use Rattle.generator.proofs.draw_places.Goals as goal

pub loop-init : goal.loop-init
loop-init c =
    let clear : c.fill.new.self ≡ replicate (length c.args.noise.now) 0 = search rules in
    turns_none _ _ _ (clear ∙ replicate_places _ 0 ∙ ap (λ (n : ℕ). tabulate n (λ p. 0)) c.requires.1)

pub returns-then-asked-p : goal.returns-then-asked-p
returns-then-asked-p c =
    turns_enough c.loop.invariant (omega arith)

pub draw_place-p-requires : goal.draw_place-p-requires
draw_place-p-requires c =
    let t = c.loop.invariant in
    let size = c.size-n.ensures in
    (omega (arith, size, pow_pos c.args.m), t.long ∙ sym size, turns_holds t)

pub loop-preserved : goal.loop-preserved
loop-preserved c =
    turns_more c.loop.invariant (omega arith) (omega arith) c.draw_place-p.auto.noise c.draw_place-p.ensures

pub returns : goal.returns
returns c =
    turns_all c.loop.invariant (omega arith)
