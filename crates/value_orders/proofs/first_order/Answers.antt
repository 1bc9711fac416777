-- `value_orders::first_order` meets its contract. Assumes nothing.
use Prim.Native.Nat.{ℕ, ◌-◌, ◌^◌, ◌≤◌}
use mathlib.Core.Path.{◌≡◌, ◌∙◌, subst}
use native.Mathlib.Omega.{arith}
use lib.ListN.{length, take}
use Rattle.area.specs.Area.{at}
use Rattle.rule.specs.Reading.{order1}
use Rattle.told.specs.WordPart.{lent_size}
use Rattle.confidences.specs.Values.{front_of}
use Rattle.value_orders.specs.Leaves.{LeafBits}
use Rattle.value_orders.specs.OrderLaws.{part_values, part_back, first_tie, first_word}
use Rattle.value_orders.proofs.first_order.Goals as goal

pub read_word-requires : goal.read_word-requires
read_word-requires c =
    let size_is : c.size-n.result - 0 ≡ 2 ^ c.args.m = omega (arith, c.size-n.ensures) in
    let room : c.size-n.result - 0 ≤ length c.args.area.now = omega (arith, size_is, c.requires.2.room) in
    let long : length (take (c.size-n.result - 0) c.args.area.now) ≡ c.size-n.result - 0 = lent_size {n = 0} c.args.area.now (omega arith) (room) in
    (c.requires.0, c.requires.1, long ∙ size_is, part_values c.args.area.now (size_is) c.requires.2)

pub returns-then-not-read_word : goal.returns-then-not-read_word
returns-then-not-read_word c =
    let size_is : c.size-n.result - 0 ≡ 2 ^ c.args.m = omega (arith, c.size-n.ensures) in
    let leaf : let a = c.args in
    LeafBits (2 ^ a.m) (order1 a.m (at (front_of (2 ^ a.m) a.area.now))) c.read_word.new.part c.read_word.result = let a = c.args in
    subst (λ (j : ℕ). LeafBits (2 ^ a.m) (order1 a.m (at (take j a.area.now))) c.read_word.new.part c.read_word.result) (size_is)
    c.read_word.ensures in
    let a = c.args in
    first_tie a.m _ (subst (LeafBits (2 ^ a.m) _ _) c.if-not-read_word.true (leaf))

pub returns : goal.returns
returns c =
    let size_is : c.size-n.result - 0 ≡ 2 ^ c.args.m = omega (arith, c.size-n.ensures) in
    let room : c.size-n.result - 0 ≤ length c.args.area.now = omega (arith, size_is, c.requires.2.room) in
    let long : length (take (c.size-n.result - 0) c.args.area.now) ≡ c.size-n.result - 0 = lent_size {n = 0} c.args.area.now (omega arith) (room) in
    let leaf : let a = c.args in
    LeafBits (2 ^ a.m) (order1 a.m (at (front_of (2 ^ a.m) a.area.now))) c.read_word.new.part c.read_word.result = let a = c.args in
    subst (λ (j : ℕ). LeafBits (2 ^ a.m) (order1 a.m (at (take j a.area.now))) c.read_word.new.part c.read_word.result) (size_is)
    c.read_word.ensures in
    let a = c.args in
    first_word a.m _
    (part_back a.area.now (size_is) c.read_word.new.part (room) (c.read_word.auto.part ∙ long))
    (subst (LeafBits (2 ^ a.m) _ _) c.if-not-read_word.false (leaf))
