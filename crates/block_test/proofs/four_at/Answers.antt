-- `block_test::four_at` meets its contract. Assumes nothing.
use Rattle.block_test.specs.BlockLaws.{four_are}
use Rattle.block_test.proofs.four_at.Goals as goal

pub returns : goal.returns
returns c = rw (c.from.ensures, c.from-2.ensures, c.from-3.ensures, c.from-4.ensures) (four_are c.requires.1 _)
