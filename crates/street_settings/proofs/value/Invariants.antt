-- The digits of `street_settings::value`: v is the number of those passed.
use Rattle.std.proofs.Common.{◌≡◌, ◌^◌, ◌<◌}
use Rattle.street_settings.specs.Settings.{value_of}
use Rattle.street_settings.proofs.value.Given as goal

abbrev pub invariant-loop-b : goal.invariant-loop-b
invariant-loop-b l = record { value : l.v ≡ value_of l.s l.b-index; fits : l.v < 2 ^ 32 }
