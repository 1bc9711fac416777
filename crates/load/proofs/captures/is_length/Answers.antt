-- `load::captures::is_length` meets its contract. Assumes nothing.
use Rattle.load.specs.CaptureLaws.{cut_record, no_header, whole_records}
use Rattle.load.proofs.captures.is_length.Goals as goal

pub returns-then-length-lt5 : goal.returns-then-length-lt5
returns-then-length-lt5 c =
    no_header _ _ _ c.if-length-lt5.true

pub returns-then-rest-size-ne0 : goal.returns-then-rest-size-ne0
returns-then-rest-size-ne0 c =
    cut_record _ _ _ c.if-length-lt5.false c.if-rest-size-ne0.true

pub returns : goal.returns
returns c =
    whole_records _ _ _ c.if-length-lt5.false c.requires c.if-rest-size-ne0.false
