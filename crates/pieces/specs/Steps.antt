-- What the steps of the listing ask and promise. Assumes nothing.
use Rattle.std.specs.Prelude.{ℕ, ◌+◌, ◌*◌, ◌≤◌, ◌<◌, ◌≡◌, Bool, true, false, not, List, [], length, ℤ}
use Rattle.tables.specs.declared.Table.{Table}
use Rattle.tables.specs.Tables.{Slot}
use Rattle.lines.specs.Lines.{Lines}
use Rattle.capture.specs.Capture.{body_length, slot_at}
use Rattle.pieces.specs.declared.Listed.{Listed}
use Rattle.pieces.specs.Pieces.{Piece, Waits, area_after}
use Rattle.pieces.specs.Listing.{starts_record}

-- ---- what stands at the start of a part

-- where the record at the start of s is not all there, nothing follows
abbrev pub Cut : Table → List ℕ → List ℕ → Type 0
Cut t s more = length s < 5 + body_length (slot_at t s) s → more ≡ []

-- it was listed: a record was read, which left the area zero, or the listing has ended
pub record Stepped (t : Table) (reader : Lines) (part before : List ℕ) (at : ℕ) (after : List ℕ) (area area' : List ℤ) (d : Listed) : Type 0 where
  pub piece : Piece t reader (Cut t part) part before at after d
  pub moves : d.ended ≡ false → 0 < d.consumed
  pub reads : d.ended ≡ not (starts_record t part)
  pub lent : area' ≡ area_after (starts_record t part) area

-- it was listed, under any table that has `slot` at its profile
pub record Steps (reader : Lines) (slot : Slot) (part before : List ℕ) (at : ℕ) (after : List ℕ) (area area' : List ℤ) (d : Listed) : Type 0 where
  pub under : (t : Table) → slot ≡ slot_at t part → Stepped t reader part before at after area area' d

-- it can be listed
pub record Ready (slot : Slot) (part : List ℕ) (last : Bool) (room area : ℕ) : Type 0 where
  pub line : 268 ≤ room
  pub lent : 64 * body_length slot part ≤ area
  pub there : last ≡ false → 5 + body_length slot part ≤ length part

-- whether it can
pub record Readiness (slot : Slot) (part : List ℕ) (last : Bool) (room area : ℕ) (b : Bool) : Type 0 where
  pub can : b ≡ true → Ready slot part last room area
  pub cannot : b ≡ false → Waits slot part last room area
