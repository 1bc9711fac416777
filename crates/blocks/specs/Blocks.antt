-- A block of bytes, four to a number, in the area. Assumes nothing.
use Rattle.std.specs.Prelude.{ℕ, ◌*◌, ◌^◌, ◌≤◌, ◌≡◌, List, ◌++◌, ℤ, length, take, drop}
use Rattle.words.specs.Butterflies.{BlocksDone, halved}
use Rattle.words.specs.Sum.{tabulate}
use Rattle.hadamard.specs.Transform.{sums}
use Rattle.byte_quads.specs.ByteQuads.{quad_at, Bytes}

-- a block of 2 ^ k quads, from 8 to 32, with room for them in the area
pub record Block (k : ℕ) (word : List ℕ) (area : List ℤ) : Type 0 where
  pub some : 3 ≤ k
  pub few : k ≤ 5
  pub size : length word ≡ 4 * 2 ^ k
  pub bytes : Bytes word
  pub room : 2 ^ k ≤ length area

-- its quads
abbrev pub quads_of : ℕ → List ℕ → List ℤ
quads_of k w = tabulate (2 ^ k) (quad_at w)

-- of its quads those before i are in the area, each eight of them transformed
pub record Loaded (k : ℕ) (word : List ℕ) (i : ℕ) (area : List ℤ) : Type 0 where
  pub within : i ≤ length area
  pub done : BlocksDone (halved sums 3) 8 i (quads_of k word) (take i area ++ drop i (quads_of k word))
