-- `harness::rm_decode_profile` meets its contract. Assumes nothing.
use Rattle.packing.specs.PackingLaws.{decoding_returns}
use Rattle.harness.proofs.rm_decode_profile.Goals as goal

pub returns : goal.returns
returns c =
    decoding_returns c.decode_profile-answer.ensures c.pack_decoded.ensures
