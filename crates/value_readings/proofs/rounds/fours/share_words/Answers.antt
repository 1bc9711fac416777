-- `value_readings::rounds::fours::share_words` meets its contract. Assumes nothing.
use Prim.Native.Nat.{ℕ, suc, ◌+◌, ◌^◌}
use mathlib.Core.Path.{◌≡◌, refl, sym, ap₂, ◌∙◌}
use mathlib.Core.Bool.{Bool, true, ◌&&◌}
use mathlib.Core.List.{List}
use native.Mathlib.Nat.{zero-add}
use lib.IntN.{ℤ, pos, ◌+ℤ◌}
use Rattle.words.specs.Sum.{total}
use Rattle.words.specs.SumLaws.{both_true}
use Rattle.words.specs.Written.{Written}
use Rattle.area.specs.Area.{at}
use Rattle.value_steps.specs.Shares.{four_words, words_at}
use Rattle.value_readings.specs.Polls.{silence, silences}
use Rattle.value_readings.proofs.rounds.fours.share_words.Goals as goal

-- what is promised
abbrev Shares : (m k : ℕ) (w : ℕ → Bool) (xs ys : List ℤ) → ℕ → Type 0
Shares m k w xs ys s =
    (s ≡ silences w) × Written (pos 0) (2 ^ suc m) (2 ^ suc m) (λ p. at xs (2 ^ suc m + p) +ℤ words_at m k w xs p) xs ys

-- all four have words
all_words : (m k : ℕ) (a b c d : Bool) (xs ys : List ℤ) → a && b && c && d ≡ true
    → Written (pos 0) (2 ^ suc m) (2 ^ suc m) (λ p. at xs (2 ^ suc m + p) +ℤ words_at m k (four_words true true true true) xs p) xs ys
    → Shares m k (four_words a b c d) xs ys 0
unfolding total
all_words m k a b c d xs ys e new =
    let abc = both_true (a && b && c) d e in
    let ab = both_true (a && b) c abc.0 in
    let one = both_true a b ab.0 in
    rw (one.0, one.1, ab.1, abc.1) (refl, new)

four_silences : {s t u v : ℕ} (a b c d : Bool) → s ≡ silence a → t ≡ silence b → u ≡ silence c → v ≡ silence d → s + t + u + v ≡ silences (four_words a b c d)
unfolding total
four_silences a b c d es et eu ev = ap₂ ◌+◌ (ap₂ ◌+◌ (ap₂ ◌+◌ (es ∙ sym (zero-add (silence a))) et) eu) ev

pub returns-then-a-b : goal.returns-then-a-b
returns-then-a-b c =
    let a = c.args in
    let given = all_words a.m a.k a.a a.b a.c a.d a.area.now _ c.if-a-b.true c.share_four.ensures in record { count = given.0; sums = given.1 }

pub returns : goal.returns
returns c =
    let a = c.args in
    record { count = four_silences a.a a.b a.c a.d c.silence.ensures.0 c.silence-2.ensures.0 c.silence-3.ensures.0 c.silence-4.ensures.0; sums = c.share_four-2.ensures }
