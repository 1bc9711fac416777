-- `steps::abstain` meets its contract. Assumes nothing.
use Prim.Native.Nat.{ℕ}
use mathlib.Core.Path.{◌≡◌, refl}
use Rattle.told.specs.Told.{as_refused, numbers_in}
use Rattle.told.specs.declared.Noise.{Noise}
use Rattle.told.specs.declared.Noise.TheVariants.{Tie, Flipping, Unsettled, TooManyLeaves, Erased}
use Rattle.steps.specs.Steps.{count_in, done}
use Rattle.steps.proofs.abstain.Goals as goal

-- each case but TooManyLeaves abstains
other_abstains : (why : Noise) → (why ≡ TooManyLeaves → ⊥) → (k l : ℕ) → done l 1 ≡ count_in (numbers_in (as_refused why k l))
other_abstains Tie h k l = refl
other_abstains Flipping h k l = refl
other_abstains Unsettled h k l = refl
other_abstains TooManyLeaves h k l = absurd (h refl)
other_abstains Erased h k l = refl

pub returns-in-TooManyLeaves : goal.returns-in-TooManyLeaves
returns-in-TooManyLeaves c =
    λ k. rw c.in-TooManyLeaves.is

pub returns : goal.returns
returns c =
    λ k. other_abstains c.args.why c.in_default.not-TooManyLeaves k _
