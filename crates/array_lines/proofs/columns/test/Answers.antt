-- `array_lines::columns::test` meets its contract. Assumes nothing.
use Rattle.array_lines.proofs.columns.test.Goals as goal

pub returns-then-not-sound : goal.returns-then-not-sound
returns-then-not-sound c =
    rw c.if-not-sound.true

pub returns : goal.returns
returns c =
    rw c.if-not-sound.false c.has_order.ensures
