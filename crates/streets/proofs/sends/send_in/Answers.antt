-- `streets::sends::send_in` meets its contract: a block drawn, decoded and judged. Assumes nothing.
use Rattle.streets.specs.SendLaws.{block_sent, got_is_word, sent_is_word}
use Rattle.streets.proofs.sends.send_in.Goals as goal

pub judge-requires : goal.judge-requires
judge-requires c =
    (c.requires.sendable.limits.small, sent_is_word _ _ _ c.requires c.draw_block-drawn.ensures c.decode-decoded.ensures, got_is_word _ _ _ c.requires c.draw_block-drawn.ensures c.decode-decoded.ensures)

pub returns : goal.returns
returns c =
    block_sent _ _ _ c.requires c.draw_block-drawn.ensures c.decode-decoded.ensures c.judge.ensures
