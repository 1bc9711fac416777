-- `harness::load_calls::rm_load_block` meets its contract. Assumes nothing.
use Rattle.packing.specs.LoadLaws.{block_returns}
use Rattle.harness.proofs.load_calls.rm_load_block.Goals as goal

pub returns : goal.returns
returns c =
    block_returns c.next_block-next.ensures c.pack_next.ensures
