-- `load::blocks::draw_sent` meets its contract: the encoder refuses no drawn message. Assumes nothing.
use borrow.Author.Rules.{rules}
use Rattle.load.specs.BlockLaws.{sent_drawn}
use Rattle.load.proofs.blocks.draw_sent.Goals as goal

pub returns : goal.returns
returns c =
    sent_drawn c.requires.0 (search rules) c.requires.1 c.requires.2 c.draw_message-y.ensures c.encode.ensures
