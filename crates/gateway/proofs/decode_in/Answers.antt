-- `gateway::decode_in` meets its contract: its working numbers are enough. Assumes nothing.
use native.Mathlib.Omega.{arith}
use lib.IntN.{pos}
use lib.ListN.{length-replicate}
use Rattle.gateway.specs.GatewayLaws.{delivered}
use Rattle.gateway.proofs.decode_in.Goals as goal

pub returns : goal.returns
returns g c =
    delivered (λ h. omega (arith, c.requires.enough h, length-replicate g.row.N (pos 0))) c.decode_profile.ensures
