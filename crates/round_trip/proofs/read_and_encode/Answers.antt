-- `round_trip::read_and_encode` meets its contract. Assumes nothing.
use Rattle.round_trip.proofs.Returning.{word_back}
use Rattle.round_trip.proofs.read_and_encode.Goals as goal

pub returns : goal.returns
returns c =
    word_back c.read_message-first.ensures c.encode-second.ensures
