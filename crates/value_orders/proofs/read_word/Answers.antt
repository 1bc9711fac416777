-- `value_orders::read_word` meets its contract: a clean word is kept, by its bits or by its signs; of any other the peak decides. Assumes nothing.
use Prim.Native.Nat.{◌^◌}
use mathlib.Core.Bool.{true}
use mathlib.Core.Path.{sym, ◌∙◌}
use Rattle.area.specs.Area.{at}
use Rattle.rule.specs.Reading.{order1}
use Rattle.value_orders.specs.Leaves.{Leaf}
use Rattle.value_orders.specs.CleanLaws.{clean_leaf}
use Rattle.value_orders.specs.OrderLaws.{signs_bits}
use Rattle.value_orders.proofs.read_word.Goals as goal

pub returns-then-bits : goal.returns-then-bits
returns-then-bits c =
    let kept : let a = c.args in Leaf (2 ^ a.m) (order1 a.m (at a.part.now)) a.part.now true = clean_leaf c.args.m c.args.part.now c.requires.0 c.requires.1 c.requires.2 (sym c.is_clean.ensures ∙ c.if-not-is_clean.false) in
    rw c.if-bits.true (signs_bits c.args.m (at c.args.part.now) c.requires.2 c.to_bits.ensures (kept))

pub returns-else-bits : goal.returns-else-bits
returns-else-bits c =
    let kept : let a = c.args in Leaf (2 ^ a.m) (order1 a.m (at a.part.now)) a.part.now true = clean_leaf c.args.m c.args.part.now c.requires.0 c.requires.1 c.requires.2 (sym c.is_clean.ensures ∙ c.if-not-is_clean.false) in
    rw c.if-bits.false (kept)
