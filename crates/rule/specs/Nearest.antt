-- What it is to be the nearest codeword, and to be answered with it or as a tie. Assumes nothing.
use Rattle.std.specs.Prelude.{ℕ, ◌≤◌, ◌<◌, ◌≡◌, ◌≢◌}
use mathlib.Core.List.{List}
use Rattle.words.specs.Word.{distance}
use Rattle.code.specs.Code.{IsCodeword}
use Rattle.rule.specs.Reading.{Outcome, accepted, refused}

-- d is a codeword, nearer to w than every other
pub record Nearest (m r : ℕ) (w d : List ℕ) : Type 0 where
  pub codeword : IsCodeword m r d
  pub nearer : (c : List ℕ) → IsCodeword m r c → c ≢ d → distance m w d < distance m w c

-- two codewords are equally near to w, and none is nearer
pub record Tied (m r : ℕ) (w : List ℕ) : Type 0 where
  pub first : List ℕ
  pub second : List ℕ
  pub first_codeword : IsCodeword m r first
  pub second_codeword : IsCodeword m r second
  pub apart : first ≢ second
  pub equal : distance m w first ≡ distance m w second
  pub least : (c : List ℕ) → IsCodeword m r c → distance m w first ≤ distance m w c

-- the outcome is the nearest codeword, or refusal 9 at a tie
pub data Judged (m r : ℕ) (w : List ℕ) : Outcome → Type 0 where
  nearest : {d : List ℕ} → Nearest m r w d → Judged m r w (accepted d 0 r)
  tied : Tied m r w → Judged m r w (refused 9 0 r)
