-- `write_load::fill` meets its contract: no check refuses the call. Assumes nothing.
use Rattle.std.proofs.Common.{ℕ, ◌≡◌, ◌∙◌, length}
use Rattle.refusals.specs.Refusals.{first_refusal}
use Rattle.tables.specs.Tables.{in_limits, known, ours, slot_of}
use Rattle.load.specs.Records.{capture_checks}
use Rattle.write_load.proofs.fill.Goals as goal

-- no check refuses the call
passes : (n : ℕ) → n ≡ 1305 → first_refusal (capture_checks (slot_of ours 1) 1 3 100 n) ≡ 0
unfolding first_refusal slot_of known in_limits
passes n e = rw e

pub returns : goal.returns
returns c = c.write_capture.ensures.output ∙ rw (passes (length c.args.out.now) c.requires)
