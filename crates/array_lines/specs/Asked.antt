-- What the steps of decoding an array ask and promise. Assumes nothing.
use Rattle.std.specs.Prelude.{ℕ, ◌+◌, ◌*◌, ◌^◌, ◌≤◌, ◌<◌, ◌≡◌, Bool, ◌&&◌, List, length}
use Rattle.words.specs.Sum.{tabulate}
use Rattle.words.specs.Word.{IsWord, bit}
use Rattle.code.specs.Code.{codeword_test}
use Rattle.rule.specs.Reading.{leaves_of}
use Rattle.arrays.specs.ArraySizes.{IsLimits}
use Rattle.arrays.specs.Arrays.{column_leaves, columns_left, columns_test, line_left, line_read}
use Rattle.arrays.specs.IsSide.{IsSide}
use Rattle.array_lines.specs.declared.columns.Read.{Read}
use Rattle.array_lines.specs.Scattered.{Scattered}

-- what the reading of every line asks: a code and limits that passed their checks, and its numbers
pub record Reads (m r rounds leaves area : ℕ) : Type 0 where
  pub side : IsSide m r
  pub limits : IsLimits rounds leaves
  pub lent : 8 * 2 ^ m ≤ area

-- the rows of a block, of which grid is a copy
pub record RowsAsk (mr mc r rounds leaves : ℕ) (word grid : List ℕ) (area : ℕ) : Type 0 where
  pub reads : Reads mr r rounds leaves area
  pub few : mc ≤ 6
  pub input : IsWord (mc + mr) word
  pub copied : grid ≡ word

-- the rows of an array, to be tested
pub record TestAsks (mr mc r : ℕ) (grid : List ℕ) : Type 0 where
  pub short : mr ≤ 6
  pub few : mc ≤ 6
  pub order : r ≤ mr
  pub input : IsWord (mc + mr) grid

-- n places of column j, in rows of a, stand in a list of that size
pub record Inside (j a n size : ℕ) : Type 0 where
  pub each : (i : ℕ) → i < n → i * a + j < size

-- a column to be put, with so many places mended
pub record PutAsks (mended : ℕ) (line : List ℕ) (j a : ℕ) (grid : List ℕ) : Type 0 where
  pub inside : Inside j a (length line) (length grid)
  pub some : 0 < a
  pub same : mended ≡ 0 → (i : ℕ) → i < length line → bit grid (i * a + j) ≡ bit line i

abbrev pub column_at : ℕ → ℕ → ℕ → List ℕ → List ℕ
column_at m j a w = tabulate (2 ^ m) (λ i. bit w (i * a + j))

-- a column of 2 ^ m places, by way of two buffers
pub record ColumnAsks (m r rounds leaves j a : ℕ) (grid : List ℕ) (line room area : ℕ) : Type 0 where
  pub reads : Reads m r rounds leaves area
  pub inside : Inside j a (2 ^ m) (length grid)
  pub some : 0 < a
  pub bits : (q : ℕ) → bit grid q < 2
  pub taken : line ≡ 2 ^ m
  pub space : room ≡ 2 ^ m

-- it was read, after columns that are codewords or not
pub record ColumnRead (m r rounds leaves j a : ℕ) (sound : Bool) (w v : List ℕ) (c : Read) : Type 0 where
  pub array : Scattered (line_left m r rounds leaves (column_at m j a w)) j a (2 ^ m) w v
  pub count : c.leaves ≡ leaves_of (line_read m r rounds leaves (column_at m j a w))
  pub test : c.codewords ≡ sound && codeword_test m r (line_left m r rounds leaves (column_at m j a w))

-- all columns
pub record ColumnsAsk (mr mc r rounds leaves : ℕ) (grid : List ℕ) (line room area : ℕ) : Type 0 where
  pub reads : Reads mc r rounds leaves area
  pub few : mr ≤ 6
  pub input : IsWord (mc + mr) grid
  pub taken : line ≡ 2 ^ mc
  pub space : room ≡ 2 ^ mc

pub record ColumnsRead (mr mc r rounds leaves : ℕ) (w v : List ℕ) (c : Read) : Type 0 where
  pub array : v ≡ columns_left mr mc r rounds leaves w
  pub count : c.leaves ≡ column_leaves mr mc r rounds leaves w
  pub test : c.codewords ≡ columns_test mr mc r v
