-- `confidence_decoder::runs::run` meets its contract. Assumes nothing.
use native.Mathlib.Omega.{arith}
use Rattle.confidence_decoder.proofs.Whole.{loaded_ready, read_accepts, read_decodes, read_delivers}
use Rattle.confidence_decoder.proofs.runs.run.Goals as goal

pub load-requires : goal.load-requires
load-requires c =
    let s = c.requires in
    omega (arith, s.input.size, s.room)

pub read-ended-requires : goal.read-ended-requires
read-ended-requires c =
    loaded_ready (record { runs = c.requires; loaded = c.load.ensures })

pub deliver-requires : goal.deliver-requires
deliver-requires c =
    read_delivers
    (record {
      loads = record { runs = c.requires; loaded = c.load.ensures };
      same = c.read-ended.auto.area;
      read = c.read-ended.ensures;
    })

pub answered-requires : goal.answered-requires
answered-requires c =
    let s = c.requires in (
      s.small,
      s.input,
      read_accepts
          (record { loads = record { runs = s; loaded = c.load.ensures }; same = c.read-ended.auto.area; read = c.read-ended.ensures })
          c.deliver.ensures,
    )

pub returns : goal.returns
returns c =
    read_decodes
    (record {
      loads = record { runs = c.requires; loaded = c.load.ensures };
      same = c.read-ended.auto.area;
      read = c.read-ended.ensures;
    })
    c.deliver.ensures c.fill.ensures (c.answered.ensures.values, c.answered.ensures.place)
