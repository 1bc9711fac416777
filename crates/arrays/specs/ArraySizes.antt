-- Calls on arrays: the limits, both codes that passed their checks, buffers of the right sizes, and sound answers. Assumes nothing.
use Prim.Native.Nat.{ℕ, ◌+◌, ◌*◌, ◌^◌, ◌≤◌, max, ◌<◌}
use Rattle.std.specs.Prelude.{◌≡◌}
use mathlib.Core.List.{List}
use Rattle.words.specs.Word.{IsWord}
use Rattle.arrays.specs.IsSide.{IsSide}
use Rattle.rule.specs.Reading.{Outcome, accepted, refused}
use Rattle.arrays.specs.Arrays.{IsArray}

pub record IsLimits (rounds leaves : ℕ) : Type 0 where
  pub rounds_least : 1 ≤ rounds
  pub rounds_most : rounds ≤ 16
  pub leaves_least : 1 ≤ leaves
  pub leaves_most : leaves ≤ 1000000

-- both codes and the limits passed their checks
pub record Passed (mr rr mc rc rounds leaves : ℕ) : Type 0 where
  pub across : IsSide mr rr
  pub down : IsSide mc rc
  pub limits : IsLimits rounds leaves

-- "called as in demand 3": the input is a word, and the buffers have the right sizes
pub record RightArray (mr mc : ℕ) (word : List ℕ) (room area : ℕ) : Type 0 where
  pub input : IsWord (mc + mr) word
  pub output : room ≡ 2 ^ (mc + mr)
  pub lent : 8 * 2 ^ max mr mc ≤ area

-- an accepted output is an array of codewords, and no refusal has the number 0
abbrev pub Sound : ℕ → ℕ → ℕ → ℕ → Outcome → Type 0
Sound mr rr mc rc (accepted d k l) = IsArray mr rr mc rc d
Sound mr rr mc rc (refused e k l) = 0 < e
