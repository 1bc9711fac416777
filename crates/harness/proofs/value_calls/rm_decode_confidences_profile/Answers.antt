-- `harness::value_calls::rm_decode_confidences_profile` meets its contract: document 01's table has document 01's profiles. Assumes nothing.
use lib.ListN.{length}
use Rattle.tables.specs.Limits.{ours_entry}
use Rattle.confidences.proofs.AlikeLaws.{ours_call}
use Rattle.packing.specs.PackingLaws.{decoding_returns}
use Rattle.harness.proofs.value_calls.rm_decode_confidences_profile.Goals as goal

pub returns : goal.returns
returns c =
    let a = c.args in
    let same = ours_call a.profile a.values.now (length a.out.now) (length a.area.now) in
    decoding_returns (rw (same, ours_entry a.profile) at c.decode_confidences_table-answer.ensures) c.pack_decoded.ensures
