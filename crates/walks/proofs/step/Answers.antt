-- `walks::step` meets its contract: each return is by what the step showed. Assumes nothing.
use Rattle.std.proofs.Common.{ap, sym, refl, ◌∙◌}
use Rattle.std.specs.Prelude.{Ok}
use Rattle.refusals.proofs.CheckLaws.{err_is}
use Rattle.streets.specs.Street.{Step}
use Rattle.streets.specs.State.{shown_as}
use Rattle.street_report.specs.Report.{step_of}
use Rattle.tables.specs.Tables.{ours, slot_of}
use Rattle.walks.specs.Walk.{line_of, plan_of}
use Rattle.walks.specs.LineLaws.{line_written, no_line, none_written}
use Rattle.walks.specs.WalkLaws.{none_onward, refused_onward, sent_onward}
use Rattle.walks.proofs.step.Goals as goal
use Rattle.walks.proofs.step.Goals.{then-not-s, else-not-s}

pub returns-after-not-s-clause-onward : goal.returns-after-not-s-clause-onward
returns-after-not-s-clause-onward g c =
    let seen = c.in_ok-shown.was ∙ ap Ok c.in-Some.is in
    sent_onward (slot_of ours c.args.s.profile) (plan_of c.args.s) c.args.w c.step-stepped.ensures.shown c.step-stepped.ensures.street seen c.counted.ensures

pub returns-after-not-s-clause-shown : goal.returns-after-not-s-clause-shown
returns-after-not-s-clause-shown g c =
    let seen = c.in_ok-shown.was ∙ ap Ok c.in-Some.is in
    let x = sym (ap shown_as seen) ∙ c.step-stepped.ensures.shown in
    let b = c.in-Some.block_sent in
    let y : Step = step_of b.meter b.turn b.fate in
    let k = g.W.Write.contents in
    elim c.if-not-s.branch [
      | then-not-s w ↦ line_written k c.args.to.now c.if-not-s.to c.args.s.summary _ y w.show.new.to x w.if-not-s.true w.to-is w.show.ensures.shown
      | else-not-s w ↦ λ _. none_written k c.args.to.now c.if-not-s.to c.args.s.summary _ (no_line _ c.args.s.summary y x w.if-not-s.false) w.to-is
    ]

pub returns-in-None-clause-onward : goal.returns-in-None-clause-onward
returns-in-None-clause-onward g c =
    none_onward (slot_of ours c.args.s.profile) (plan_of c.args.s) c.args.w c.step-stepped.ensures.shown (c.in_ok-shown.was ∙ ap Ok c.in-None.is)

pub returns-in-None-clause-shown : goal.returns-in-None-clause-shown
returns-in-None-clause-shown g c = λ _.
    none_written g.W.Write.contents c.args.to.now c.args.to.now c.args.s.summary _
    (ap (line_of c.args.s.summary) (sym (ap shown_as (c.in_ok-shown.was ∙ ap Ok c.in-None.is)) ∙ c.step-stepped.ensures.shown)) refl

pub returns-in_err-shown-clause-onward : goal.returns-in_err-shown-clause-onward
returns-in_err-shown-clause-onward g c =
    rw (err_is c.from_residual.ensures.1)
    (refused_onward (slot_of ours c.args.s.profile) (plan_of c.args.s) c.args.w c.step-stepped.ensures.shown c.in_err-shown.was)

pub returns-in_err-shown-clause-shown : goal.returns-in_err-shown-clause-shown
returns-in_err-shown-clause-shown g c = λ _.
    none_written g.W.Write.contents c.args.to.now c.args.to.now c.args.s.summary _
    (ap (line_of c.args.s.summary) (sym (ap shown_as c.in_err-shown.was) ∙ c.step-stepped.ensures.shown)) refl
