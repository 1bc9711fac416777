-- What a direction's answer and its votes ask and promise. Assumes nothing.
use Rattle.std.specs.Prelude.{ℕ, suc, ◌^◌, ◌<◌, ◌≡◌, true, cond, List, eqb, ltb, ℤ, Option, None, Some, Ok, Err}
use Rattle.cosets.specs.Votes.{InProjection, cast_vote}
use Rattle.told.specs.Told.{Numbers, numbers, Verdict}
use Rattle.told.specs.declared.Told.{Told}
use Rattle.steps.specs.declared.Count.{Count}

-- l leaves were used, and a directions abstained
abbrev pub done : ℕ → ℕ → Option Count
done l a = Some (record { leaves = l; abstained = a })

-- the count that an answer brings: its leaves, and 1 where the direction abstains; none where its leaves ran out
abbrev pub count_in : Numbers → Option Count
count_in (numbers e k l) = cond (eqb e 12) None (done l (cond (eqb e 0) 0 1))

-- the leaf count l where `left` are left, a directions abstaining
abbrev pub count_of : ℕ → ℕ → ℕ → Option Count
count_of left l a = cond (ltb left l) None (done l a)

-- direction b's vote on place p after its reading's answer
abbrev pub vote_of : ℕ → ℕ → List ℤ → Verdict → ℕ → ℕ
vote_of m b xs (Ok a) p = cast_vote m b xs p
vote_of m b xs (Err u) p = 0

-- an accepted direction has its decoded word where the projection was
abbrev pub Voter : ℕ → Verdict → List ℤ → Type 0
Voter m (Ok a) xs = InProjection m xs
Voter m (Err u) xs = Unit {0}

-- a direction whose reading kept its word has no votes
pub record Unmoved (m b : ℕ) (xs : List ℤ) (t : Told) : Type 0 where
  pub none : t.kept ≡ true → (p : ℕ) → p < 2 ^ suc m → vote_of m b xs t.answer p ≡ 0
