-- `value_steps::quads::hear_four` meets its contract. Assumes nothing.
use Rattle.value_steps.specs.Shares.{voices_of}
use Rattle.value_steps.proofs.FourShares.{Heard, heard_adds, heard_written}
use Rattle.value_steps.proofs.quads.hear_four.Goals as goal

pub add_four-requires : goal.add_four-requires
add_four-requires g c =
    let all : Heard (voices_of c.args.v) _ c.args.n c.args.c c.args.o c.args.r c.args.area.now c.heard-v0.result c.heard-v1.result c.heard-v2.result c.heard-v3.result =
    record { asks = c.requires; zeroth = c.heard-v0.ensures; first = c.heard-v1.ensures; second = c.heard-v2.ensures; third = c.heard-v3.ensures } in
    heard_adds all

pub returns : goal.returns
returns g c =
    let all : Heard (voices_of c.args.v) _ c.args.n c.args.c c.args.o c.args.r c.args.area.now c.heard-v0.result c.heard-v1.result c.heard-v2.result c.heard-v3.result =
    record { asks = c.requires; zeroth = c.heard-v0.ensures; first = c.heard-v1.ensures; second = c.heard-v2.ensures; third = c.heard-v3.ensures } in
    heard_written all c.add_four.ensures
