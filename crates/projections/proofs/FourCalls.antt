-- A direction b, from 4 on, as w + l, l its two lowest digits: what `project_fours` asks and promises is what `project` does. Assumes nothing.
use Prim.Native.Nat.{ℕ, suc, ◌+◌, ◌*◌, ◌%◌, ◌^◌, ◌≤◌}
use mathlib.Core.Path.{◌≡◌, sym, ap, ◌∙◌, subst}
use mathlib.Core.List.{List}
use native.Mathlib.Omega.{arith}
use lib.IntN.{ℤ, pos}
use Rattle.words.specs.Word.{bit}
use Rattle.words.specs.Written.{Written}
use Rattle.area.specs.Area.{word_of}
use Rattle.direction.specs.Direction.{highest, project}
use Rattle.cosets.specs.Votes.{Projects}
use Rattle.projections.specs.Fours.{InFours}

abbrev Projected : ℕ → List ℤ → List ℤ → ℕ → Type 0
Projected m xs ys b = Written (pos 0) (4 * 2 ^ m) (2 ^ m) (λ q. pos (bit (project m b (word_of (2 ^ suc m) xs)) q)) xs ys

module _ {m b : ℕ} {xs : List ℤ} (asks : Projects m b xs) (w l : ℕ) (e : w + l ≡ b) where
  module _ {h : ℕ} (top : h ≡ highest b) (digits : b % 4 ≡ l) (some : 4 ≤ b) where
    pub project_asks : InFours h w l × Projects m (w + l) xs
    project_asks = (
      record { whole = omega arith; some = omega arith; low = omega arith; top = top ∙ ap highest (sym e) },
      subst (λ (x : ℕ). Projects m x xs) (sym e) asks,
    )

  pub projected_by : {ys : List ℤ} → Projected m xs ys (w + l) → Projected m xs ys b
  projected_by {ys} = subst (Projected m xs ys) e
