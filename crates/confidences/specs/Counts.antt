-- The numbers, rounds and leaf counts that answers to confidences have. Assumes nothing.
use Prim.Native.Nat.{ℕ, zero, suc, ◌-◌, ◌*◌, ◌^◌}
use Rattle.std.specs.Prelude.{◌≡◌, ◌⊎◌}
use Rattle.rule.specs.Reading.{Outcome, accepted, refused}
use Rattle.words.specs.Sum.{total}

-- "the full leaf count": each round reads n - 1 directions, at each of the r - 1 orders above 1, of exponents j = m - i; "exactly the round
-- limit of rounds is made"
unfoldable pub full_leaves : ℕ → ℕ → ℕ → ℕ
full_leaves zero m rounds = 0
full_leaves (suc r) m rounds = rounds ^ r * total ◌*◌ 1 r (λ i. 2 ^ (m - i) - 1)

-- order 2 and above: exactly the round limit of rounds, and a refusal is 17 or 11
abbrev pub AllRounds : ℕ → Outcome → Type 0
AllRounds limit (accepted d k l) = k ≡ limit
AllRounds limit (refused e k l) = ((e ≡ 17) ⊎ (e ≡ 11)) × (k ≡ limit)

-- a refusal is 9, 11 or 17, and never 10
abbrev pub ByNoise : Outcome → Type 0
ByNoise (accepted d k l) = Unit {0}
ByNoise (refused e k l) = (e ≡ 9) ⊎ ((e ≡ 11) ⊎ (e ≡ 17))

-- the rounds of a reading at order r that decodes
abbrev pub rounds_made : ℕ → ℕ → ℕ
rounds_made zero limit = 0
rounds_made (suc zero) limit = 0
rounds_made (suc (suc r)) limit = limit
