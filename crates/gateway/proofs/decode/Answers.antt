-- `gateway::decode` meets its contract: profiles 0 and 1 need fewer working numbers than the longest. Assumes nothing.
use mathlib.Core.Path.{◌≡◌}
use native.Mathlib.Omega.{arith}
use Rattle.gateway.proofs.decode.Goals as goal

pub returns-in-0 : goal.returns-in-0
returns-in-0 c =
    let e : c.args.profile ≡ 0 = omega arith in
    rw e c.decode_in.ensures

pub returns-in-1 : goal.returns-in-1
returns-in-1 c =
    let e : c.args.profile ≡ 1 = omega arith in
    rw e c.decode_in-in-1.ensures
