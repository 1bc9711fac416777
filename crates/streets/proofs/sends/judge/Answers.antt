-- `streets::sends::judge` meets its contract. Assumes nothing.
use Rattle.streets.specs.SendLaws.{other_is, refused_is, right_is}
use Rattle.streets.proofs.sends.judge.Goals as goal

pub returns-then-distance-eq0 : goal.returns-then-distance-eq0
returns-then-distance-eq0 c =
    right_is _ _ _ c.in-Ok.is c.distance.ensures c.if-distance-eq0.true

pub returns-else-distance-eq0 : goal.returns-else-distance-eq0
returns-else-distance-eq0 c =
    other_is _ _ _ c.in-Ok.is c.distance.ensures c.if-distance-eq0.false

pub returns-in-Err : goal.returns-in-Err
returns-in-Err c =
    refused_is _ _ _ c.in-Err.is
