-- What a call that passed its checks asks. Assumes nothing.
use Rattle.std.specs.Prelude.{ℕ, ◌*◌, ◌^◌, ◌≤◌, ◌≡◌, List, length, ℤ}
use Rattle.words.specs.Word.{IsWord}

-- a call that passed its checks
pub record Runs (m r rounds leaves : ℕ) (word out : List ℕ) (area : List ℤ) : Type 0 where
  pub some : 1 ≤ m
  pub small : m ≤ 10
  pub order : r ≤ m
  pub one : 1 ≤ leaves
  pub few : leaves ≤ 1000000
  pub input : IsWord m word
  pub output : length out ≡ 2 ^ m
  pub room : 8 * 2 ^ m ≤ length area
