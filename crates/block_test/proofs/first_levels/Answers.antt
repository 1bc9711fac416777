-- `block_test::first_levels` meets its contract. Assumes nothing.
use mathlib.Core.Bool.{true}
use mathlib.Core.Path.{refl}
use Rattle.words.specs.Sum.{total}
use Rattle.octets.specs.Octets.{packed}
use Rattle.code.specs.FirstOrder.{repeats}
use Rattle.block_test.specs.BlockLaws.{first_three, places_more}
use Rattle.block_test.proofs.first_levels.Goals as goal

pub returns : goal.returns
unfolding repeats packed total
returns c =
    let b = c.requires.1 in
    rw c.from.ensures (first_three b _ (places_more b 4 4 0 _ _ true c.four_at.ensures c.four_at-2.ensures refl))
