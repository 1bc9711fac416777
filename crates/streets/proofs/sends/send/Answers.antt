-- `streets::sends::send` meets its contract. Assumes nothing.
use Rattle.streets.specs.SendLaws.{fits, own_buffers}
use Rattle.streets.proofs.sends.send.Goals as goal

pub slice_bounds-sent-end : goal.slice_bounds-sent-end
slice_bounds-sent-end c =
    fits _ c.requires

pub slice_bounds-got-end : goal.slice_bounds-got-end
slice_bounds-got-end c =
    fits _ c.requires

pub send_in-requires : goal.send_in-requires
send_in-requires c =
    own_buffers _ c.requires
