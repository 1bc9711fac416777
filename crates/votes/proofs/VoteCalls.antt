-- A direction b, from 4 on, as w + l, l its two lowest digits: what `vote_fours` asks and promises is what `add_votes` does. Assumes nothing.
use Prim.Native.Nat.{ℕ, suc, ◌+◌, ◌%◌, ◌^◌, ◌≤◌}
use mathlib.Core.Path.{◌≡◌, sym, subst}
use mathlib.Core.List.{List}
use lib.IntN.{ℤ, pos, ◌+ℤ◌}
use Rattle.words.specs.Written.{Written}
use Rattle.area.specs.Area.{at}
use Rattle.direction.specs.Direction.{highest}
use Rattle.cosets.specs.Votes.{Projects, Tally, InProjection, cast_vote}
use Rattle.projections.specs.Fours.{InFours}
use Rattle.projections.proofs.FourCalls.{project_asks}

abbrev Voted : ℕ → List ℤ → List ℤ → ℕ → Type 0
Voted m xs ys b = Written (pos 0) (2 ^ suc m) (2 ^ suc m) (λ p. at xs (2 ^ suc m + p) +ℤ pos (cast_vote m b xs p)) xs ys

module _ {m b : ℕ} {xs : List ℤ} (asks : Projects m b xs) (w l : ℕ) (e : w + l ≡ b) where
  module _ {h : ℕ} (top : h ≡ highest b) (digits : b % 4 ≡ l) (some : 4 ≤ b) where
    pub vote_asks : Tally (2 ^ suc m) b xs → InProjection m xs → InFours h w l × (Projects m (w + l) xs × (Tally (2 ^ suc m) (w + l) xs × InProjection m xs))
    vote_asks tally projection =
        let p = project_asks asks w l e top digits some in
        (p.0, (p.1, (subst (λ (x : ℕ). Tally (2 ^ suc m) x xs) (sym e) tally, projection)))

  pub voted_by : {ys : List ℤ} → Voted m xs ys (w + l) → Voted m xs ys b
  voted_by {ys} = subst (Voted m xs ys) e
