-- What is returned for a block of a load, from the core's contract. Assumes nothing.
use Rattle.std.specs.Prelude.{ℕ, ◌≡◌, List}
use Rattle.std.proofs.Common.{◌∙◌}
use Rattle.refusals.specs.Refusals.{answer_number}
use Rattle.tables.specs.Tables.{Slot}
use Rattle.load.specs.Load.{Draws}
use Rattle.load.specs.declared.Next.{Next}
use Rattle.packing.specs.Loads.{ReturnsBlock, pack_next}

pub block_returns : {slot : Slot} {x asked : ℕ} {word word' : List ℕ} {a : Next} {v : ℕ}
    → Draws slot x asked word word' a → v ≡ pack_next (answer_number a.answer) a.short a.state → ReturnsBlock slot x asked word word' v
block_returns c e = record { packed = e ∙ rw (c.number, c.short, c.state); block = c.block }
