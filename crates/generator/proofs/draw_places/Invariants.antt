-- `generator::draw_places` meets its contract: the loop ends where enough places are wrong, or after as many draws as there are places.
-- Assumes nothing.
use Rattle.std.proofs.Common.{◌^◌}
use Rattle.generator.specs.PlaceLaws.{Turns}
use Rattle.generator.proofs.draw_places.Given as goal

abbrev pub invariant-loop : goal.invariant-loop
invariant-loop l =
    Turns (2 ^ l.m) l.start l.asked l.p l.noise l.counter
