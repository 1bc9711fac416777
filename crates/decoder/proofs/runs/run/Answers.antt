-- `decoder::runs::run` meets its contract: a block of order 1 goes from bytes to bytes, any other through the area. Assumes nothing.
use Rattle.decoder.proofs.Whole.{runs_readable, direct_gives, gives_mendable, gives_decodes}
use Rattle.decoder.proofs.runs.run.Goals as goal

pub read_block-told-requires : goal.read_block-told-requires
read_block-told-requires c =
    runs_readable c.requires c.if-m-gt4.true c.if-m-lt8.true

pub answered-requires : goal.answered-requires
answered-requires c =
    let runs = c.requires in
    (runs.small, gives_mendable runs (direct_gives runs c.if-r-eq1.true c.read_block-told.ensures.given))

pub returns-then-m-lt8 : goal.returns-then-m-lt8
returns-then-m-lt8 c =
    let runs = c.requires in
    gives_decodes runs (direct_gives runs c.if-r-eq1.true c.read_block-told.ensures.given) c.read_block-told.ensures.cleared (c.answered.ensures.values, c.answered.ensures.place)

pub answered-requires-2 : goal.answered-requires-2
answered-requires-2 c =
    let runs = c.requires in
    (runs.small, gives_mendable runs c.run_in_area-told.ensures.given)

pub returns : goal.returns
returns c =
    gives_decodes c.requires c.run_in_area-told.ensures.given c.run_in_area-told.ensures.cleared (c.answered-2.ensures.values, c.answered-2.ensures.place)
