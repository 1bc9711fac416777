-- `value_readings::rounds::leaves::share_word` meets its contract. Assumes nothing.
use Prim.Native.Nat.{ℕ, suc, ◌+◌, ◌^◌}
use mathlib.Core.Path.{◌≡◌, refl, sym}
use mathlib.Core.Bool.{Bool, true, false, false≢true}
use mathlib.Core.List.{List}
use lib.IntN.{ℤ, pos, ◌+ℤ◌, +ℤ_idr}
use Rattle.words.specs.Written.{Written}
use Rattle.area.specs.Area.{at}
use Rattle.confidences.specs.Values.{heard_at}
use Rattle.value_steps.specs.Shares.{word_at}
use Rattle.value_readings.specs.Polls.{silence}
use Rattle.value_readings.proofs.rounds.leaves.share_word.Goals as goal

-- what is promised
abbrev Shares : (m b c : ℕ) (w : Bool) (xs ys : List ℤ) → ℕ → Type 0
Shares m b c w xs ys a =
    (a ≡ silence w) × Written (pos 0) (2 ^ suc m) (2 ^ suc m) (λ p. at xs (2 ^ suc m + p) +ℤ word_at w b c xs p) xs ys

-- no word
kept : (m b c : ℕ) (w : Bool) (xs : List ℤ) → w ≡ false → Shares m b c w xs xs 1
kept m b c true xs e = absurd (false≢true (sym e))
kept m b c false xs e = (
  refl,
  record { long = refl; within = λ p l. sym (+ℤ_idr (at xs (2 ^ suc m + p))); below = λ p l. refl; above = λ p l. refl },
)

-- a word
added : (m b c : ℕ) (w : Bool) (xs ys : List ℤ) → w ≡ true
    → Written (pos 0) (2 ^ suc m) (2 ^ suc m) (λ p. at xs (2 ^ suc m + p) +ℤ heard_at b c xs p) xs ys → Shares m b c w xs ys 0
added m b c true xs ys e new = (refl, new)
added m b c false xs ys e new = absurd (false≢true e)

pub returns-then-not-word : goal.returns-then-not-word
returns-then-not-word c =
    let a = c.args in let given = kept a.m a.b a.c a.word a.area.now c.if-not-word.true in record { count = given.0; sums = given.1 }

pub returns : goal.returns
returns c =
    let a = c.args in
    let given = added a.m a.b a.c a.word a.area.now _ c.if-not-word.false c.share.ensures in record { count = given.0; sums = given.1 }
