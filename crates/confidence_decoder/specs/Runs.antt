-- What a call that passed its checks asks, and what is told of its reading. Assumes nothing.
use Rattle.std.specs.Prelude.{ℕ, ◌*◌, ◌^◌, ◌≤◌, ◌≡◌, List, length, ℤ, Ok, Err}
use Rattle.words.specs.Word.{IsWord}
use Rattle.told.specs.Told.{Verdict}
use Rattle.delivery.specs.Delivery.{noise_place}
use Rattle.confidences.specs.InRange.{InRange}
use Rattle.confidences.specs.Blocks.{IsBlock}

-- a call that passed its checks
pub record RunsValues (m r leaves : ℕ) (x : List ℤ) (out : List ℕ) (area : List ℤ) : Type 0 where
  pub some : 1 ≤ m
  pub small : m ≤ 10
  pub order : r ≤ m
  pub few : leaves ≤ 1000000
  pub input : IsBlock m x
  pub range : InRange x
  pub output : length out ≡ 2 ^ m
  pub room : 8 * 2 ^ m ≤ length area

-- where a word was accepted, the output v holds it
abbrev pub Accepts : ℕ → List ℕ → Verdict → Type 0
Accepts m v (Ok a) = IsWord m v
Accepts m v (Err u) = Unit {0}

-- the place that the answer names, which is p where a value ended as 0
abbrev pub place_told : ℕ → Verdict → ℕ
place_told p (Ok a) = 0
place_told p (Err u) = noise_place p u.why
