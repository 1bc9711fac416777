-- The receive loop's tally and the named ones by the history of operations: document 02, request 11. Assumes nothing.
use Rattle.std.specs.Prelude.{ℕ, ◌<◌, ◌≡◌, Bool, true, false, cond, ◌&&◌, List, [], ◌∷◌, ◌≢◌, eqb, Ok, Err}
use Rattle.std.proofs.Math.Option.{Option, none, some}
use Rattle.refusals.specs.Refusals.{answer_number}
use Rattle.refusals.specs.declared.Refusal.TheVariants.{UnknownName}
use Rattle.tally.specs.declared.Tally.{Tally}
use Rattle.tally.specs.Counts.{tallied}
use Rattle.tallies.specs.declared.Name.{Name}
use Rattle.tallies.specs.declared.Kept.{Kept}
use Rattle.tallies.specs.Store.{same_name, empty_store, kept, saved, returned, dropped}

pub data Operation : Type 0 where
  counting : ℕ → Operation
  saving : Name → Operation
  returning : Name → Operation
  dropping : Name → Operation

-- an operation's answer, and the tally and the store after it, from what the one before it left
abbrev pub operated : Operation → Kept → Kept
operated (counting number) x = kept (Ok tt) (tallied number x.tally) x.store
operated (saving n) x = saved x.store n x.tally
operated (returning n) x = returned x.store n x.tally
operated (dropping n) x = dropped x.store n x.tally

-- "From an empty start, with only these calls writing": what a history leaves. It starts with no name held and any tally t, document 02's with
-- all counts 0; its newest operation stands first.
unfoldable pub after : Tally → List Operation → Kept
after t [] = kept (Ok tt) t empty_store
after t (o ∷ h) = operated o (after t h)

-- "what the history gave when that name was last saved": the tally at the newest saving of n that was not refused; none where there is none, or
-- n was dropped since
unfoldable pub last_saved : Tally → Name → List Operation → Option Tally
last_saved t n [] = none
last_saved t n (counting number ∷ h) = last_saved t n h
last_saved t n (saving k ∷ h) =
    cond (same_name k n && eqb (answer_number (after t (saving k ∷ h)).answer) 0) (some (after t h).tally) (last_saved t n h)
last_saved t n (returning k ∷ h) = last_saved t n h
last_saved t n (dropping k ∷ h) = cond (same_name k n) none (last_saved t n h)

-- what returning gives: that tally; or "25, no tally has that name", which leaves "all as it was"
abbrev pub given : Option Tally → Kept → Kept
given (some u) x = kept (Ok tt) u x.store
given none x = kept (Err UnknownName) x.tally x.store

-- the history has saved n, and not dropped it since
abbrev pub is_some : Option Tally → Bool
is_some (some u) = true
is_some none = false

abbrev pub is_held : Tally → List Operation → Name → Bool
is_held t h n = is_some (last_saved t n h)

-- so many different names are held
pub record HeldNames (t : Tally) (h : List Operation) (count : ℕ) (names : ℕ → Name) : Type 0 where
  pub held : (i : ℕ) → i < count → is_held t h (names i) ≡ true
  pub different : (i j : ℕ) → i < count → j < count → same_name (names i) (names j) ≡ true → i ≡ j

-- "sixteen other names are held"
pub record Sixteen (t : Tally) (h : List Operation) (n : Name) : Type 0 where
  pub names : ℕ → Name
  pub held : HeldNames t h 16 names
  pub other : (i : ℕ) → i < 16 → same_name (names i) n ≡ false

-- "Both leave all as it was.": where y, which follows x, is a refusal
abbrev pub Untouched : Kept → Kept → Type 0
Untouched x y = y.answer ≢ (Ok tt) → (y.tally ≡ x.tally) × (y.store ≡ x.store)
