-- `harness::street_calls::rm_street` meets its contract. Assumes nothing.
use Rattle.packing.specs.StreetLaws.{street_returns}
use Rattle.harness.proofs.street_calls.rm_street.Goals as goal

pub returns : goal.returns
returns c =
    street_returns c.run-ran.ensures c.pack_ran.ensures
