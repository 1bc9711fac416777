-- Bits in the bytes of a number. Assumes nothing.
use Rattle.std.specs.Prelude.{ℕ, ◌*◌, ◌^◌, ◌<◌}
use Rattle.words.specs.Sum.{sum_below}

-- the bits f 0, .., f (n - 1), the first in the lowest byte
unfoldable pub packed : ℕ → (ℕ → ℕ) → ℕ
packed n f = sum_below n (λ i. f i * 256 ^ i)

-- eight of them
abbrev pub octet : (ℕ → ℕ) → ℕ
octet f = packed 8 f

-- they are bits
pub record AreBits (f : ℕ → ℕ) : Type 0 where
  pub each : (i : ℕ) → f i < 2
