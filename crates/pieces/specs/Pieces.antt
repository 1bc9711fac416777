-- A part of a capture, listed by itself: what the functions of the listing promise. Assumes nothing.
use Rattle.std.specs.Prelude.{ℕ, ◌+◌, ◌-◌, ◌*◌, ◌≤◌, ◌<◌, ◌≡◌, Bool, true, false, ◌&&◌, cond, List, [], ◌++◌, length, take, drop, ltb, ℤ}
use Rattle.tables.specs.declared.Table.{Table}
use Rattle.tables.specs.Tables.{Slot}
use Rattle.capture.specs.Capture.{body_length, slot_at}
use Rattle.lines.specs.Lines.{Lines, Entry}
use Rattle.pieces.specs.declared.Listed.{Listed}
use Rattle.rule.specs.Decoding.{zeros}
use Rattle.pieces.specs.Listing.{starts_record, entries_of, lines_of, accepted_of}

-- nothing more of the part can be listed yet, by what the table has at the profile: `room` bytes have no room for the longest line (ten
-- digits, a space, 256 hexadecimal digits, a newline), or the area of `area` numbers is shorter than 8 × n, or the input goes on and the part
-- is less than a record
pub record Waits (slot : Slot) (part : List ℕ) (last : Bool) (room area : ℕ) : Type 0 where
  pub goes_on : 268 ≤ room → 64 * body_length slot part ≤ area → last ≡ false
  pub short : 268 ≤ room → 64 * body_length slot part ≤ area → length part < 5 + body_length slot part

-- the decoder's area: "all of it is zero" after a reading
abbrev pub area_after : Bool → List ℤ → List ℤ
area_after read area = cond read (zeros area) area

module _ (t : Table) (reader : Lines) where
  -- the entries of what stands in s, from its start to its end
  abbrev pub entries : List ℕ → List Entry
  entries s = entries_of t reader (length s) s

  -- s is whole records: whatever follows it, its entries stand before those of what follows
  pub record Whole (s : List ℕ) : Type 0 where
    pub joins : (more : List ℕ) → entries (s ++ more) ≡ entries s ++ entries more

  -- of a part that starts at a record, d says what was listed: the bytes consumed have the lines written, from place `at` of the output on,
  -- and the counts; the output past the lines is as it was. Where the listing goes on they are whole records. Where it has ended, they are
  -- all of the part, and what follows adds nothing; `follows` says what can follow.
  pub record Piece (follows : List ℕ → Type 0) (part before : List ℕ) (at : ℕ) (after : List ℕ) (d : Listed) : Type 0 where
    pub within : d.consumed ≤ length part
    pub counted : d.written ≤ length after
    pub lines : take d.written after ≡ take at before ++ lines_of (entries (take d.consumed part))
    pub past : drop d.written after ≡ drop d.written before
    pub records : d.records ≡ length (entries (take d.consumed part))
    pub accepted : d.accepted ≡ accepted_of (entries (take d.consumed part))
    pub few : d.records ≤ d.consumed
    pub fewer : d.accepted ≤ d.records
    pub goes_on : d.ended ≡ false → Whole (take d.consumed part)
    pub all : d.ended ≡ true → d.consumed ≡ length part
    pub alone : d.ended ≡ true → (more : List ℕ) → follows more → entries (part ++ more) ≡ entries part

  -- a part that starts at a record, and whether the input ends with it: the lines of its records stand at the start of the output, as many
  -- as fit. The area is as it was where no record was read, else "all of it is zero": one was where it stands at the part's start and any of
  -- the part was consumed.
  pub record Lists (part : List ℕ) (last : Bool) (before after : List ℕ) (area area' : List ℤ) (d : Listed) : Type 0 where
    pub piece : Piece (λ more. last ≡ true → more ≡ []) part before 0 after d
    pub stops : d.ended ≡ false → Waits (slot_at t (drop d.consumed part)) (drop d.consumed part) last (length after - d.written) (length area)
    pub lent : area' ≡ area_after (ltb 0 d.consumed && starts_record t part) area

  -- the bytes that a program holds, listed; those that are left stand at the front afterwards, and what follows them is as it was
  pub record Turn (held held' : List ℕ) (last : Bool) (before after : List ℕ) (area area' : List ℤ) (d : Listed) : Type 0 where
    pub lists : Lists held last before after area area' d
    pub rest : held' ≡ drop d.consumed held ++ drop (length held - d.consumed) held

-- a text that needs at most `room` bytes was put at the start of a buffer, and ends at `end`; where the buffer is smaller, nothing was. From
-- `end` on the buffer is as it was, and so it is as a whole where nothing was put.
pub record Puts (room : ℕ) (text before : List ℕ) (end : ℕ) (after : List ℕ) : Type 0 where
  pub within : end ≤ length after
  pub counted : end ≡ length (take end after)
  pub holds : room ≤ length before → take end after ≡ text
  pub none : length before < room → end ≡ 0
  pub past : drop end after ≡ drop end before
