-- `pieces::is_ready` meets its contract. Assumes nothing.
use Rattle.pieces.specs.ReadyLaws.{no_room, no_area, ready_last, ready_there}
use native.Mathlib.Omega.{arith}
use Rattle.pieces.proofs.is_ready.Goals as goal

pub returns-then-room-lt268 : goal.returns-then-room-lt268
returns-then-room-lt268 c =
    no_room _ _ _ c.if-room-lt268.true

pub returns-then-area-body : goal.returns-then-area-body
returns-then-area-body c =
    no_area _ _ _ (omega arith)

pub returns-then-last : goal.returns-then-last
returns-then-last c =
    ready_last _ _ _ (omega arith) (omega arith) c.if-last.true

pub returns : goal.returns
returns c =
    let a = c.args in
    rw c.body_length-body.ensures.0 (ready_there a.slot a.part.now a.last (omega arith) (omega arith) c.if-last.false)
