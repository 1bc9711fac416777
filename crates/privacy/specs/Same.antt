-- Captures that the crew cannot tell apart: document 02, request 7. Assumes nothing.
use Rattle.tables.specs.Tables.{held}
use Rattle.std.specs.Prelude.{ℕ, ◌≡◌, true, List, [], take, drop}
use Rattle.alike.specs.Alike.{Differ}
use Rattle.header.specs.Header.{header_test}
use Rattle.tables.specs.declared.Table.{Table}
use Rattle.capture.specs.Capture.{profile_at, record_size, serial_of, slot_at, unpacked}
use Rattle.pieces.specs.declared.Listed.{Listed}
use Rattle.pieces.specs.Listing.{starts_record}

-- "under one table"
module _ (t : Table) where
  -- whole records at the start of s and of s', neither of which meets 14, "that agree in serial and profile .., and whose blocks differ by
  -- codewords"
  pub record SameRecord (s s' : List ℕ) : Type 0 where
    pub first : starts_record t s ≡ true
    pub second : starts_record t s' ≡ true
    pub serial : serial_of s' ≡ serial_of s
    pub profile : profile_at s' ≡ profile_at s
    pub blocks : Differ (held (slot_at t s)).m (held (slot_at t s)).r (unpacked (slot_at t s) s) (unpacked (slot_at t s) s')

  -- "equally many whole records, nothing after the last and none meeting 14"
  pub data SameRecords : List ℕ → List ℕ → Type 0 where
    no_more : SameRecords [] []
    one_more : {s s' : List ℕ} → SameRecord s s' → SameRecords (drop (record_size (slot_at t s)) s) (drop (record_size (slot_at t s)) s') → SameRecords s s'

  -- "Two captures with right headers"
  pub record SameCaptures (c c' : List ℕ) : Type 0 where
    pub first : header_test c ≡ true
    pub second : header_test c' ≡ true
    pub records : SameRecords (drop 5 c) (drop 5 c')

-- "must give the crew the same bytes", of two calls that list parts d and e and leave the outputs v and v': where they have listed equally
-- many records, they have written the same bytes and counted as many accepted ones; where both have listed to the end, the records are
-- equally many
pub record SameLines (d e : Listed) (v v' : List ℕ) : Type 0 where
  pub lines : e.records ≡ d.records → take e.written v' ≡ take d.written v
  pub accepted : e.records ≡ d.records → e.accepted ≡ d.accepted
  pub whole : d.ended ≡ true → e.ended ≡ true → e.records ≡ d.records
