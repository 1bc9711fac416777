-- `decoder::runs::run_in_area` meets its contract. Assumes nothing.
use Prim.Native.Nat.{ℕ}
use mathlib.Core.Path.{ap, ◌∙◌}
use lib.IntN.{pos}
use lib.ListN.{replicate}
use Rattle.decoder.proofs.Whole.{loaded_ready, read_delivers, read_gives}
use Rattle.decoder.proofs.runs.run_in_area.Goals as goal

pub reading-told-requires : goal.reading-told-requires
reading-told-requires c =
    loaded_ready (record { runs = c.requires; loaded = c.load.ensures })

pub deliver-requires : goal.deliver-requires
deliver-requires c =
    read_delivers
    (record {
      loads = record { runs = c.requires; loaded = c.load.ensures };
      same = c.reading-told.auto.area;
      read = c.reading-told.ensures.read;
      kept = c.reading-told.ensures.kept;
    })

pub returns : goal.returns
returns c =
    let same = c.reading-told.auto.area in
    let loaded = c.load.ensures in record {
      given = read_gives
          (record { loads = record { runs = c.requires; loaded = loaded }; same = same; read = c.reading-told.ensures.read; kept = c.reading-told.ensures.kept })
          c.deliver.ensures;
      cleared = c.fill.ensures ∙ ap (λ (n : ℕ). replicate n (pos 0)) (same ∙ loaded.long);
    }
