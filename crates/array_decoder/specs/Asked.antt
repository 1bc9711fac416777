-- What the steps of decoding an array ask and promise. Assumes nothing.
use Rattle.std.specs.Prelude.{ℕ, ◌+◌, ◌*◌, ◌^◌, ◌≤◌, max, ◌≡◌, List, length}
use Rattle.words.specs.Word.{IsWord}
use Rattle.arrays.specs.ArraySizes.{Passed, RightArray}
use Rattle.arrays.specs.Arrays.{column_leaves, columns_left, columns_test, row_leaves, rows_left}
use Rattle.array_lines.specs.declared.columns.Read.{Read}

-- a call that passed its checks, with room for a copy of the array
pub record CallAsks (mr rr mc rc rounds leaves : ℕ) (word : List ℕ) (copy room area : ℕ) : Type 0 where
  pub passed : Passed mr rr mc rc rounds leaves
  pub sizes : RightArray mr mc word room area
  pub same : copy ≡ length word

-- the block, and a copy of it for the array in work
pub record LinesAsk (mr rr mc rc rounds leaves : ℕ) (word grid : List ℕ) (area : ℕ) : Type 0 where
  pub passed : Passed mr rr mc rc rounds leaves
  pub input : IsWord (mc + mr) word
  pub copied : grid ≡ word
  pub lent : 8 * 2 ^ max mr mc ≤ area

-- rows and columns of the block w were read, which left u
pub record LinesRead (mr rr mc rc rounds leaves : ℕ) (w u : List ℕ) (c : Read) : Type 0 where
  pub array : u ≡ columns_left mr mc rc rounds leaves (rows_left mr mc rr rounds leaves w)
  pub count : c.leaves ≡ row_leaves mr mc rr rounds leaves w + column_leaves mr mc rc rounds leaves (rows_left mr mc rr rounds leaves w)
  pub test : c.codewords ≡ columns_test mr mc rc u
