-- `street_runs::stepping::run_steps` meets its contract: a step a turn. Assumes nothing.
use Rattle.street_runs.specs.RunLaws.{Going}
use Rattle.street_runs.proofs.stepping.run_steps.Given as goal

abbrev pub invariant-loop : goal.invariant-loop
invariant-loop l =
    Going l.slot l.plan l.start l.budget l.counter l.initial.log l.log l.initial.block l.block l.initial.area l.area l.ran
