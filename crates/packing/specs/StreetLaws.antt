-- What the exported call for a street returns, from the run's own promise. Assumes nothing.
use Rattle.std.specs.Prelude.{ℕ, ◌≡◌, List, ℤ}
use Rattle.std.proofs.Common.{◌∙◌}
use Rattle.refusals.specs.Refusals.{answer_number}
use Rattle.tables.specs.Tables.{Slot}
use Rattle.street_runs.specs.Run.{Runs}
use Rattle.streets.specs.declared.Plan.{Plan}
use Rattle.street_runs.specs.declared.Ran.{Ran}
use Rattle.packing.specs.Streets.{ReturnsStreet, pack_ran}

pub street_returns :
    {slot : Slot} {plan : Plan} {start budget : ℕ} {log log' block block' : List ℕ} {area area' : List ℤ} {a : Ran} {returned : ℕ}
    → Runs slot plan start budget log log' block block' area area' a → returned ≡ pack_ran (answer_number a.answer) a.sent a.none_left
    → ReturnsStreet slot plan start budget log log' block block' area area' returned
street_returns r e = record {
  packed = e ∙ rw (r.answer, r.steps.sent, r.none_left);
  log_is = r.steps.log_is;
  block_is = r.steps.block_is;
  area_is = r.steps.area_is;
}
