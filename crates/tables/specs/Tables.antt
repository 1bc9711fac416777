-- Tables of profiles: document 02, request 4. Assumes nothing.
use Rattle.std.specs.Prelude.{ℕ, Bool, true, false, ◌&&◌, cond, ◌++◌, get_or, replicate, leb, ltb, Option, Some, None}
use Rattle.profiles.specs.declared.Profile.{Profile}
use Rattle.profiles.specs.Profiles.{row, profiles}
use Rattle.tables.specs.declared.Table.{Table}

-- what stands where there is no entry
abbrev pub no_entry : Profile
no_entry = row 0 0 0 0

-- "for each entry m, r, rounds .. and the leaf limit", entries numbered from 0
abbrev pub entry_of : Table → ℕ → Profile
entry_of t number = get_or t.entries number no_entry

-- "m is 3 to 10 here; the other limits are document 01's."
unfoldable pub in_limits : Profile → Bool
in_limits p =
    leb 3 p.m && (leb p.m 10 && (leb p.r p.m && (leb 1 p.rounds && (leb p.rounds 16 && (leb 1 p.leaves && leb p.leaves 1000000)))))

-- "the programs keep ours": document 01's table
abbrev pub ours : Table
ours = record { count = 5; entries = profiles ++ replicate 27 no_entry }

-- "Refusal 14 now means a number not below the count (or, in a table no load made, above 31 or of an entry outside the limits)": where this
-- is false. No entry but the one asked for is looked at.
unfoldable pub known : Table → ℕ → Bool
known t number = ltb number t.count && (leb number 31 && in_limits (entry_of t number))

-- what a table has at a number: its entry, or none
abbrev pub Slot : Type 0
Slot = Option Profile

abbrev pub some : Profile → Slot
some p = Some p

abbrev pub none : Slot
none = None

-- whether it has one there, and that entry
abbrev pub is_there : Slot → Bool
is_there (Some p) = true
is_there None = false

abbrev pub held : Slot → Profile
held (Some p) = p
held None = no_entry

unfoldable pub slot_of : Table → ℕ → Slot
slot_of t number = cond (known t number) (some (entry_of t number)) none
