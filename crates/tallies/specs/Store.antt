-- Sixteen places for tallies under names, and what each call leaves: document 02, request 11. Assumes nothing.
use Rattle.std.specs.Prelude.{ℕ, Bool, true, false, cond, not, ◌&&◌, [], get_or, set, replicate, ltb, eqb, Ok, Err, Some, None}
use Rattle.std.proofs.Math.Option.{Option, none, some}
use Rattle.words.specs.Sum.{all_below, first_where}
use Rattle.refusals.specs.Refusals.{Answer}
use Rattle.std.specs.Prelude as std
use Rattle.refusals.specs.declared.Refusal.TheVariants.{UnknownName, NamesFull}
use Rattle.tally.specs.declared.Tally.{Tally}
use Rattle.tallies.specs.declared.Name.{Name}
use Rattle.tallies.specs.declared.Place.{Place}
use Rattle.tallies.specs.declared.Store.{Store}
use Rattle.tallies.specs.declared.Kept.{Kept}

-- "an 8-byte name": two names are the same where all eight bytes are
unfoldable pub same_name : Name → Name → Bool
same_name a b = all_below 8 (λ i. eqb (get_or a.bytes i 0) (get_or b.bytes i 0))

-- a place that is free
abbrev pub freed : std.Option Place
freed = None

-- what a place holds; where it is free, nothing asks its name or tally
abbrev pub used_in : std.Option Place → Bool
used_in None = false
used_in (Some p) = true

abbrev pub name_in : std.Option Place → Name
name_in None = record { bytes = [] }
name_in (Some p) = p.name

abbrev pub tally_in : std.Option Place → Tally
tally_in None = record { counts = [] }
tally_in (Some p) = p.tally

abbrev pub empty_store : Store
empty_store = record { places = replicate 16 freed }

-- "in 16 places"; past them there is nothing
abbrev pub place_at : Store → ℕ → std.Option Place
place_at s i = get_or s.places i None

-- place i holds a tally under the name n
abbrev pub holding : Name → std.Option Place → Bool
holding n p = used_in p && same_name (name_in p) n

abbrev pub holds : Store → Name → ℕ → Bool
holds s n i = holding n (place_at s i)

-- the first place that does, 16 where none does
unfoldable pub where_held : Store → Name → ℕ
where_held s n = first_where 16 (holds s n)

-- the tally under the name n
unfoldable pub held_under : Store → Name → Option Tally
held_under s n = cond (ltb (where_held s n) 16) (some (tally_in (place_at s (where_held s n)))) none

-- the same as the code answers
unfoldable pub held_tally : Store → Name → std.Option Tally
held_tally s n = cond (ltb (where_held s n) 16) (Some (tally_in (place_at s (where_held s n)))) None

-- the first free place, 16 where none is
unfoldable pub free_place : Store → ℕ
free_place s = first_where 16 (λ i. not (used_in (place_at s i)))

-- the place for a tally under the name n: its own, else the first that is free
unfoldable pub room_for : Store → Name → ℕ
room_for s n = cond (ltb (where_held s n) 16) (where_held s n) (free_place s)

-- a place that was searched for, as the code answers
abbrev pub found : ℕ → std.Option ℕ
found i = cond (ltb i 16) (Some i) None

abbrev pub put : Store → ℕ → std.Option Place → Store
put s i p = record { places = set s.places i p }

-- ---- what each call leaves

abbrev pub kept : Answer → Tally → Store → Kept
kept a t s = record { answer = a; tally = t; store = s }

-- "A name saved again replaces the old tally." "26, sixteen other names are held, when saving."
unfoldable pub saved : Store → Name → Tally → Kept
saved s n t =
    cond (ltb (room_for s n) 16) (kept (Ok tt) t (put s (room_for s n) (Some (record { name = n; tally = t }))))
    (kept (Err NamesFull) t s)

-- "25, no tally has that name, when returning or dropping"
unfoldable pub returned : Store → Name → Tally → Kept
returned s n t = cond (ltb (where_held s n) 16) (kept (Ok tt) (tally_in (place_at s (where_held s n))) s) (kept (Err UnknownName) t s)

-- "A dropped name frees its place for another."
unfoldable pub dropped : Store → Name → Tally → Kept
dropped s n t = cond (ltb (where_held s n) 16) (kept (Ok tt) t (put s (where_held s n) freed)) (kept (Err UnknownName) t s)
