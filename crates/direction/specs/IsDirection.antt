-- A direction of words of exponent m + 1. Assumes nothing.
use Rattle.std.specs.Prelude.{ℕ, suc, ◌^◌, ◌≤◌, ◌<◌}

-- b is a direction of words of exponent m + 1, at most 10
pub record IsDirection (m b : ℕ) : Type 0 where
  pub small : m ≤ 9
  pub some : 0 < b
  pub under : b < 2 ^ suc m
