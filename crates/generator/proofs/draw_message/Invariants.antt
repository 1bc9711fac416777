-- `generator::draw_message` meets its contract. Assumes nothing.
use Rattle.generator.specs.MessageLaws.{Progress}
use Rattle.generator.proofs.draw_message.Given as goal

abbrev pub invariant-loop-b : goal.invariant-loop-b
invariant-loop-b l =
    Progress l.start l.initial.b-items l.b-items l.x l.b-index
