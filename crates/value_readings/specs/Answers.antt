-- The outcome of a reading of confidences, against what its code answers. Assumes nothing.
use Rattle.std.specs.Prelude.{ℕ, ◌<◌, ◌≡◌, List, ℤ}
use Rattle.std.proofs.Common.{arith}
use Rattle.rule.specs.Reading.{Outcome, accepted, refused}
use Rattle.steps.specs.Answers.{Unlimited}
use Rattle.confidences.specs.Confidences.{reading}
use Rattle.confidences.specs.Counts.{ByNoise}
use Rattle.confidences.proofs.Counts.{noise_by, reading_noise}

-- no leaf limit is in a reading's own outcome
noise_unlimited : (o : Outcome) → ByNoise o → Unlimited o
noise_unlimited (accepted d k l) h = tt
noise_unlimited (refused e k l) h =
    noise_by (λ (i : ℕ). (0 < i) × (i ≡ 12 → ⊥)) (omega arith, λ z. omega arith) (omega arith, λ z. omega arith) (omega arith, λ z. omega arith) e k l h

pub reading_unlimited : (r m limit : ℕ) (x : List ℤ) → Unlimited (reading r m limit x)
reading_unlimited r m limit x = noise_unlimited (reading r m limit x) (reading_noise r m limit x)
