-- m and r name a code of rows or columns: 1 ≤ m ≤ 6, r ≤ m. Assumes nothing.
use Rattle.std.specs.Prelude.{ℕ, ◌≤◌}

-- the code of one side passed its checks
pub record IsSide (m r : ℕ) : Type 0 where
  pub some : 1 ≤ m
  pub most : m ≤ 6
  pub order : r ≤ m
