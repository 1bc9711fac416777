-- `round_trip::encode_and_read` meets its contract. Assumes nothing.
use Rattle.round_trip.proofs.Returning.{message_back}
use Rattle.round_trip.proofs.encode_and_read.Goals as goal

pub returns : goal.returns
returns c =
    message_back c.encode-first.ensures c.read_message-second.ensures
