-- `read`: orders 0 and 1, too few leaves, and what stands from order 2 on. Assumes nothing.
use native.Mathlib.Omega.{arith}
use Rattle.value_readings.proofs.Turns.{read_zero, read_one, read_none}
use Rattle.value_readings.proofs.read.Goals as goal

pub zero_order-requires : goal.zero_order-requires
zero_order-requires c =
    let p = c.requires in (p.small, p.values)

pub shape_of-area-then-r-eq0 : goal.shape_of-area-then-r-eq0
shape_of-area-then-r-eq0 c =
    c.zero_order.auto.area

pub returns-then-r-eq0 : goal.returns-then-r-eq0
returns-then-r-eq0 c =
    read_zero _ _ _ _ _ _ c.if-r-eq0.true c.unnamed.ensures c.zero_order.ensures

pub returns-then-left-eq0 : goal.returns-then-left-eq0
returns-then-left-eq0 c =
    read_none _ _ _ _ _ _ c.if-r-eq1.true c.if-left-eq0.true c.exhausted.ensures

pub first_order-requires : goal.first_order-requires
first_order-requires c =
    let p = c.requires in (p.some, p.small, p.values)

pub shape_of-area-then-r-eq1 : goal.shape_of-area-then-r-eq1
shape_of-area-then-r-eq1 c =
    c.first_order.auto.area

pub returns-then-r-eq1 : goal.returns-then-r-eq1
returns-then-r-eq1 c =
    read_one _ _ _ _ _ _ c.if-r-eq1.true c.if-left-eq0.false c.unnamed-then-r-eq1.ensures c.first_order.ensures

pub reading-requires : goal.reading-requires
reading-requires c =
    record { ready = c.requires; le_r = omega (arith, c.if-r-eq1.false, c.if-r-eq0.false) }

pub shape_of-area : goal.shape_of-area
shape_of-area c =
    c.reading.auto.area

pub returns : goal.returns
returns c =
    c.reading.ensures
