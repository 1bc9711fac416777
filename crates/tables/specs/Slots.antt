-- What looking a number up promises, and laws of what a table has there. Assumes nothing.
use Rattle.std.specs.Prelude.{ℕ, ◌≤◌, ◌<◌, ◌≡◌, refl, Bool, true, false, Some, None, Ok, Err, ok_or}
use Rattle.std.proofs.Common.{ap, ◌∙◌}
use Rattle.std.proofs.lemmas.Bool.{false≢true}
use borrow.Author.Tests.{le-leb, lt-leb, lt-ltb, le-ltb}
use Rattle.profiles.specs.Profiles.{profile_of}
use Rattle.profiles.specs.declared.Profile.{Profile}
use Rattle.tables.specs.declared.Table.{Table}
use Rattle.tables.specs.Tables.{Slot, entry_of, held, in_limits, is_there, known, none, ours, slot_of, some}
use Rattle.tables.specs.Limits.{InLimits, is_known, ours_entry, ours-known}

-- an entry that is there is within the limits
pub record Proper (s : Slot) : Type 0 where
  pub limits : is_there s ≡ true → InLimits (held s)

module _ (t : Table) (number : ℕ) where
  pub slot_known : known t number ≡ true → slot_of t number ≡ some (entry_of t number)
  unfolding slot_of
  slot_known e = rw e

  pub slot_unknown : known t number ≡ false → slot_of t number ≡ none
  unfolding slot_of
  slot_unknown e = rw e

  pub slot_proper : Proper (slot_of t number)
  slot_proper = go (known t number) refl
    where
      go : (b : Bool) → known t number ≡ b → Proper (slot_of t number)
      go true e = rw (slot_known e) (record { limits = λ z. (is_known t number e).limits })
      go false e = rw (slot_unknown e) (record { limits = λ z. absurd (false≢true z) })

-- an entry asked for by `ok_or`
module _ {E : Type 0} where
  pub given : (slot : Slot) (e : E) (p : Profile) → Ok p ≡ ok_or slot e → slot ≡ some p
  given None e p is = cc
  given (Some q) e p is = cc

  pub not_given : (slot : Slot) (e x : E) → Err x ≡ ok_or slot e → (slot ≡ none) × (x ≡ e)
  not_given None e x is = (refl, cc)
  not_given (Some q) e x is = cc

-- ---- the code's returns

pub no_limits : Proper none
no_limits = record { limits = λ z. absurd (false≢true z) }

pub no_number : {number : ℕ} → is_there none ≡ true → number ≤ 31
no_number z = absurd (false≢true z)

module _ (t : Table) (number : ℕ) where
  pub above_count : t.count ≤ number → none ≡ slot_of t number
  unfolding slot_of known
  above_count h = rw (le-ltb number t.count h)

  pub above_31 : number < t.count → 31 < number → none ≡ slot_of t number
  unfolding slot_of known
  above_31 a h = rw (lt-ltb number t.count a, lt-leb number 31 h)

  module _ (a : number < t.count) (b : number ≤ 31) where
    pub outside : in_limits (entry_of t number) ≡ false → none ≡ slot_of t number
    unfolding slot_of known
    outside h = rw (lt-ltb number t.count a, le-leb number 31 b, h)

    pub there : in_limits (entry_of t number) ≡ true → some (entry_of t number) ≡ slot_of t number
    unfolding slot_of known
    there h = rw (lt-ltb number t.count a, le-leb number 31 b, h)

-- ---- document 01's table

pub ours_there : (number : ℕ) → number ≤ 4 → slot_of ours number ≡ some (profile_of number)
ours_there number h = slot_known ours number (ours-known number ∙ le-leb number 4 h) ∙ ap some (ours_entry number)

pub ours-none : (number : ℕ) → 4 < number → slot_of ours number ≡ none
ours-none number h = slot_unknown ours number (ours-known number ∙ lt-leb number 4 h)
