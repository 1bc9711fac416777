-- A table file: document 02, request 4. Assumes nothing.
use Rattle.std.specs.Prelude.{ℕ, ◌+◌, ◌*◌, Bool, cond, not, ◌&&◌, List, [], ◌∷◌, length, get_or, leb, ltb, eqb, Ok, Err}
use Rattle.words.specs.Sum.{first_where, tabulate}
use Rattle.header.specs.Header.{agrees_from}
use Rattle.refusals.specs.declared.Refusal.TheVariants.{TableFile, TableEntry}
use Rattle.profiles.specs.declared.Profile.{Profile}
use Rattle.profiles.specs.Profiles.{row}
use Rattle.tables.specs.declared.Table.{Table}
use Rattle.tables.specs.Tables.{no_entry, in_limits}
use Rattle.table_files.specs.declared.Loaded.{Loaded}

abbrev pub byte : List ℕ → ℕ → ℕ
byte f i = get_or f i 0

-- "A table file has the letters WMT, a 16-bit version, 1, .. senior byte first"
abbrev pub mark : List ℕ
mark = 0x57 ∷ 0x4d ∷ 0x54 ∷ 0 ∷ 1 ∷ []

-- "a count byte of 1 to 32"
abbrev pub count_in : List ℕ → ℕ
count_in f = byte f 5

-- "then for each entry m, r, rounds (one byte each) and the leaf limit in 32 bits, all senior byte first": the entry that starts at byte a
abbrev pub entry_at : List ℕ → ℕ → Profile
entry_at f a =
    row (byte f a) (byte f (a + 1)) (byte f (a + 2)) (((byte f (a + 3) * 256 + byte f (a + 4)) * 256 + byte f (a + 5)) * 256 + byte f (a + 6))

unfoldable pub entry_in : List ℕ → ℕ → Profile
entry_in f i = entry_at f (6 + 7 * i)

-- "19, mark, version, count or file length wrong": where this is false
unfoldable pub file_test : List ℕ → Bool
file_test f = leb 6 (length f) && (agrees_from mark 0 f && (leb 1 (count_in f) && (leb (count_in f) 32 && eqb (length f) (6 + 7 * count_in f))))

-- "20, an entry outside the limits, first such entry named, from 0"; the count where none is
unfoldable pub first_outside : List ℕ → ℕ
first_outside f = first_where (count_in f) (λ i. not (in_limits (entry_in f i)))

-- the table of a file
unfoldable pub table_in : List ℕ → Table
table_in f = record { count = count_in f; entries = tabulate 32 (λ i. cond (ltb i (count_in f)) (entry_in f i) no_entry) }

-- a file loaded with the table t in use: 20 is "tested after 19"; "A refused file leaves the table in use."
unfoldable pub loaded : List ℕ → Table → Loaded
loaded f t =
    cond (not (file_test f)) (record { answer = Err TableFile; table = t })
    (cond (ltb (first_outside f) (count_in f)) (record { answer = Err (TableEntry (first_outside f)); table = t })
    (record { answer = (Ok tt); table = table_in f }))
