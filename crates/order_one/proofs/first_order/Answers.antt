-- `order_one::first_order` meets its contract: the reading in the word's part of the area. Assumes nothing.
use Prim.Native.Nat.{◌+◌, ◌-◌, ◌*◌, ◌^◌, ◌≤◌}
use mathlib.Core.Path.{◌≡◌, ◌∙◌}
use native.Mathlib.Omega.{arith}
use lib.ListN.{length}
use Rattle.told.specs.WordPart.{lent_size, lent_bits, lent_word, read_back, kept_back}
use Rattle.order_one.proofs.first_order.Goals as goal

pub first_order_in-requires : goal.first_order_in-requires
first_order_in-requires c =
    let part-is : c.size-n.result + c.size-n.result - 0 ≡ 2 * 2 ^ c.args.m = omega (arith, c.size-n.ensures) in
    let within : 2 ^ c.args.m ≤ c.size-n.result + c.size-n.result - 0 = omega (arith, part-is) in
    let room : c.size-n.result + c.size-n.result - 0 ≤ length c.args.area.now = omega (arith, part-is, c.requires.2) in
    let xs = c.args.area.now in
    (c.requires.0, c.requires.1, lent_size xs (within) (room) ∙ part-is, lent_bits xs (within) (room) c.requires.3)

pub returns : goal.returns
returns c =
    let part-is : c.size-n.result + c.size-n.result - 0 ≡ 2 * 2 ^ c.args.m = omega (arith, c.size-n.ensures) in
    let within : 2 ^ c.args.m ≤ c.size-n.result + c.size-n.result - 0 = omega (arith, part-is) in
    let room : c.size-n.result + c.size-n.result - 0 ≤ length c.args.area.now = omega (arith, part-is, c.requires.2) in
    let part = c.first_order_in in
    let xs = c.args.area.now in
    let long = part.auto.part ∙ lent_size xs (within) (room) in record { read = read_back xs (within) (room) _ long (rw (lent_word xs (within) (room)) at part.ensures.read); kept = kept_back xs (within) (room) _ long part.ensures.kept }
