-- `gateway::gateway_decode` meets its contract. Assumes nothing.
use Rattle.gateway.specs.GatewayLaws.{own_returns}
use Rattle.gateway.proofs.gateway_decode.Goals as goal

pub returns : goal.returns
returns c =
    own_returns c.decode-answer.ensures c.pack_decoded.ensures
