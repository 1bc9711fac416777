-- The numbers, rounds and leaf counts that answers have. Assumes nothing.
use Prim.Native.Nat.{ℕ, zero, suc, pred, ◌-◌, ◌*◌, ◌^◌, ◌≤◌, ◌<◌}
use Rattle.std.specs.Prelude.{◌≡◌, ◌⊎◌}
use Rattle.rule.specs.Reading.{Outcome, accepted, refused}
use Rattle.rule.specs.Decoding.{refusal_of}

-- orders 0 and 1: no round, the order is the leaf count, and a refusal is 9
abbrev pub Leaf : ℕ → Outcome → Type 0
Leaf r (accepted d k l) = (k ≡ 0) × (l ≡ r)
Leaf r (refused e k l) = (e ≡ 9) × ((k ≡ 0) × (l ≡ r))

-- order 2 and above: more than j rounds and at most i; a refusal is 10, after i rounds, or 11
abbrev pub Rounds : ℕ → ℕ → Outcome → Type 0
Rounds j i (accepted d k l) = (j < k) × (k ≤ i)
Rounds j i (refused e k l) = ((e ≡ 10) × (k ≡ i)) ⊎ ((e ≡ 11) × ((j < k) × (k ≤ i)))

-- a refusal is 9, 10 or 11
abbrev pub ByNoise : Outcome → Type 0
ByNoise (accepted d k l) = Unit {0}
ByNoise (refused e k l) = (9 ≤ e) × (e ≤ 11)

-- a round reads each of the n - 1 directions once
unfoldable pub most_leaves : ℕ → ℕ → ℕ → ℕ
most_leaves zero m limit = 0
most_leaves (suc zero) m limit = 1
most_leaves (suc (suc r)) m limit = limit * ((2 ^ suc (pred m) - 1) * most_leaves (suc r) (pred m) limit)

-- an answer whose number is not 12
abbrev pub Not12 : Outcome → Type 0
Not12 o = refusal_of o ≡ 12 → ⊥

-- the rounds of a codeword's reading at order r
abbrev pub clean_rounds : ℕ → ℕ
clean_rounds zero = 0
clean_rounds (suc zero) = 0
clean_rounds (suc (suc r)) = 1
