-- m and r name a code: 1 ≤ m ≤ 10, r ≤ m. Assumes nothing.
use Rattle.std.specs.Prelude.{ℕ, ◌≤◌}

pub record IsCode (m r : ℕ) : Type 0 where
  pub some : 1 ≤ m
  pub most : m ≤ 10
  pub order : r ≤ m
