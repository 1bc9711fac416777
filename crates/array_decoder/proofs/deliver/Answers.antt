-- `array_decoder::deliver` meets its contract. Assumes nothing.
use mathlib.Core.Path.{refl}
use Rattle.array_decoder.proofs.deliver.Goals as goal

pub returns-then-accepted : goal.returns-then-accepted
returns-then-accepted c =
    record { answer = rw c.if-accepted.true refl; output = rw c.if-accepted.true c.copy.ensures }

pub returns : goal.returns
returns c =
    record { answer = rw c.if-accepted.false refl; output = rw c.if-accepted.false refl }
