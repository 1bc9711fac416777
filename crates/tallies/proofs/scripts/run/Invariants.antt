-- `tallies::scripts::run` meets its contract: what stands after each operation is what the history up to it leaves. Assumes nothing.
use Rattle.tallies.specs.ScriptLaws.{Running}
use Rattle.tallies.proofs.scripts.run.Given as goal

abbrev pub invariant-loop-made : goal.invariant-loop-made
invariant-loop-made l =
    Running l.script l.fn.tally l.initial.answers l.answers l.at l.made l.last
