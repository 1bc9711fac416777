-- `street_runs::stepping::run_steps` meets its contract: a step a turn. Assumes nothing.
use Prim.Native.Nat.{ℕ}
use mathlib.Core.Path.{◌≡◌, ◌∙◌}
use native.Mathlib.Omega.{arith}
use lib.ListN.{length}
use borrow.Author.Rules.{rules}
use Rattle.street_runs.specs.RunLaws.{going_all, going_ended, going_first, going_goable, going_more}
use Rattle.street_runs.proofs.stepping.run_steps.Goals as goal

through : {a b : ℕ} (k : ℕ) → a ≡ k → k ≡ b → a ≡ b
through k p q = p ∙ q

pub loop-init : goal.loop-init
loop-init c =
    rw (c.none_sent-ran.ensures, c.begin.ensures) (going_first _ _ _ _)

pub go_on-ran-requires : goal.go_on-ran-requires
go_on-ran-requires c =
    going_goable _ _ _ _ c.requires c.loop.invariant (omega arith) (search rules) (search rules)

pub shape_of-log-then-ran : goal.shape_of-log-then-ran
shape_of-log-then-ran c =
    let l = c.loop in through (length l.log) (search rules) l.invariant.long

pub shape_of-block-then-ran : goal.shape_of-block-then-ran
shape_of-block-then-ran c =
    let l = c.loop in through (length l.block) (search rules) l.invariant.size

pub shape_of-area-then-ran : goal.shape_of-area-then-ran
shape_of-area-then-ran c =
    let l = c.loop in through (length l.area) (search rules) l.invariant.lent

pub returns-then-ran : goal.returns-then-ran
returns-then-ran c =
    going_ended _ _ _ _ c.requires c.loop.invariant (omega arith) c.go_on-ran.ensures c.if-ran.true

pub loop-preserved : goal.loop-preserved
loop-preserved c =
    going_more _ _ _ _ c.requires c.loop.invariant (omega arith) c.go_on-ran.ensures c.if-ran.false (search rules) (search rules) (search rules)

pub shape_of-log : goal.shape_of-log
shape_of-log c =
    c.loop.invariant.long

pub shape_of-block : goal.shape_of-block
shape_of-block c =
    c.loop.invariant.size

pub shape_of-area : goal.shape_of-area
shape_of-area c =
    c.loop.invariant.lent

pub returns : goal.returns
returns c =
    going_all _ _ _ _ c.requires c.loop.invariant (omega arith)
