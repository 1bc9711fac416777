-- What counting the places mended asks. Assumes nothing.
use Rattle.std.specs.Prelude.{ℕ, ◌≡◌, Bool, true, List, Ok, Err}
use Rattle.words.specs.Word.{IsWord}
use Rattle.told.specs.Told.{Verdict}
use Rattle.told.specs.declared.Told.{Told}

-- where a word was accepted, the output v holds it, and it is the word given where that was kept
abbrev pub Delivered : ℕ → List ℕ → List ℕ → Bool → Verdict → Type 0
Delivered m w v kept (Ok a) = IsWord m v × (kept ≡ true → v ≡ w)
Delivered m w v kept (Err u) = Unit {0}

-- what counting the places mended asks
pub record Mendable (m : ℕ) (w v : List ℕ) (t : Told) : Type 0 where
  pub input : IsWord m w
  pub output : Delivered m w v t.kept t.answer
