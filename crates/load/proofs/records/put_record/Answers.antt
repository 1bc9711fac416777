-- `load::records::put_record` meets its contract: the head, then the packed bits. Assumes nothing.
use mathlib.Core.Path.{refl}
use Rattle.load.specs.Records.{record_bytes}
use Rattle.load.specs.RecordLaws.{stored_after}
use Rattle.load.proofs.records.put_record.Goals as goal

pub returns : goal.returns
unfolding record_bytes
returns c =
    stored_after 5 c.args.out.now c.put_head.ensures refl c.pack.ensures
