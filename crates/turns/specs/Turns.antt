-- What a program that lists its input keeps from turn to turn. Assumes nothing.
use Rattle.std.specs.Prelude.{ℕ, ◌+◌, ◌-◌, ◌^◌, ◌≤◌, min, ◌≡◌, Bool, true, false, cond, ◌||◌, List, eqb, length, take, drop, Option}
use Rattle.std.specs.Io.KnownBytes.{IsAtEnd}
use Rattle.turns.specs.declared.State.{State}

-- a count, and no more than 64 bits hold
abbrev pub capped : ℕ → ℕ
capped n = min n (2 ^ 64 - 1)

-- nothing is held and nothing counted
abbrev pub begun : State
begun = record { held = 0; last = false; records = 0; accepted = 0; more = true }

-- the state after a read to a buffer of `room` bytes that gave n of them: the input has ended where none came. Where it has ended already,
-- or the buffer is full, there is no read.
abbrev pub after_read : State → ℕ → ℕ → State
after_read s room n =
    cond (s.last || eqb s.held room) s (record { held = s.held + n; last = eqb n 0; records = s.records; accepted = s.accepted; more = true })

-- the buffer filled up: the bytes that it held stay
pub record Filled (s t : State) (before after : List ℕ) : Type 0 where
  pub state : t ≡ after_read s (length before) (t.held - s.held)
  pub within : t.held ≤ length after
  pub kept : take s.held after ≡ take s.held before

-- the bytes that came: those after the ones that it held
abbrev pub came : State → State → List ℕ → List ℕ
came s t after = take (t.held - s.held) (drop s.held after)

-- a read of n bytes to the end of the `held` ones
pub record Came (held : ℕ) (before after : List ℕ) (n : ℕ) : Type 0 where
  pub within : held + n ≤ length after
  pub kept : take held after ≡ take held before

-- an input that is taken to have ended has no byte left that is known, unless a read of it failed
abbrev pub ReadOut : Bool → Bool → Option (List ℕ) → Type 0
ReadOut last failed known = last ≡ true → failed ≡ false → IsAtEnd known
