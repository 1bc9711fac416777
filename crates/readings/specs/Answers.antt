-- The outcome of a reading, against what its code answers. Assumes nothing.
use Rattle.std.specs.Prelude.{ℕ, List}
use Rattle.std.proofs.Common.{arith}
use Rattle.rule.specs.Reading.{Outcome, accepted, refused, reading}
use Rattle.rule.specs.Counts.{ByNoise}
use Rattle.rule.proofs.Counts.{reading_noise}
use Rattle.steps.specs.Answers.{Unlimited}

-- no leaf limit is in a reading's own outcome
noise_unlimited : (o : Outcome) → ByNoise o → Unlimited o
noise_unlimited (accepted d k l) h = tt
noise_unlimited (refused e k l) h = (omega arith, λ z. omega arith)

pub reading_unlimited : (r m limit : ℕ) (w : List ℕ) → Unlimited (reading r m limit w)
reading_unlimited r m limit w = noise_unlimited (reading r m limit w) (reading_noise r m limit w)
