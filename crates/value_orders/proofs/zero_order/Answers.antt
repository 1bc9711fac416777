-- `value_orders::zero_order` meets its contract. Assumes nothing.
use Prim.Native.Nat.{ℕ, ◌-◌, ◌^◌, ◌≤◌}
use mathlib.Core.Path.{◌≡◌, sym, ◌∙◌, subst}
use native.Mathlib.Omega.{arith}
use lib.ListN.{length}
use lib.Pow.{pow_mono}
use Rattle.told.specs.WordPart.{lent_size, read_back}
use Rattle.confidences.specs.Values.{Values}
use Rattle.value_orders.specs.OrderLaws.{zero_tie, zero_ones, zero_zeros}
use Rattle.value_orders.proofs.zero_order.Goals as goal

pub sum_of-s-requires : goal.sum_of-s-requires
sum_of-s-requires c =
    (omega (arith, c.size-n.ensures, pow_mono {j = 10} c.requires.0), subst (λ (k : ℕ). Values k c.args.area.now) (sym c.size-n.ensures) c.requires.1)

pub returns-then-s-eq0 : goal.returns-then-s-eq0
returns-then-s-eq0 c =
    let a = c.args in
    zero_tie a.m a.area.now _ c.sum_of-s.type_inv _ c.size-n.ensures c.sum_of-s.ensures c.if-s-eq0.true

pub returns-then-s-lt0 : goal.returns-then-s-lt0
returns-then-s-lt0 c =
    let size_is : c.size-n.result - 0 ≡ 2 ^ c.args.m = omega (arith, c.size-n.ensures) in
    let within : 2 ^ c.args.m ≤ c.size-n.result - 0 = omega (arith, size_is) in
    let room : c.size-n.result - 0 ≤ length c.args.area.now = omega (arith, size_is, c.requires.1.room) in
    let a = c.args in
    let long = lent_size a.area.now (within) (room) in
    read_back a.area.now (within) (room) _ (c.fill.auto.area ∙ long)
    (zero_ones a.m a.area.now _ c.sum_of-s.type_inv _ c.size-n.ensures c.sum_of-s.ensures (long ∙ size_is) c.if-s-lt0.true c.fill.ensures)

pub returns : goal.returns
returns c =
    let size_is : c.size-n.result - 0 ≡ 2 ^ c.args.m = omega (arith, c.size-n.ensures) in
    let within : 2 ^ c.args.m ≤ c.size-n.result - 0 = omega (arith, size_is) in
    let room : c.size-n.result - 0 ≤ length c.args.area.now = omega (arith, size_is, c.requires.1.room) in
    let a = c.args in
    let long = lent_size a.area.now (within) (room) in
    read_back a.area.now (within) (room) _ (c.fill-2.auto.area ∙ long)
    (zero_zeros a.m a.area.now _ c.sum_of-s.type_inv _ c.size-n.ensures c.sum_of-s.ensures (long ∙ size_is)
    c.if-s-eq0.false c.if-s-lt0.false c.fill-2.ensures)
