-- The first five bytes decide, and five bytes stored one by one. Assumes nothing.
use Rattle.std.specs.Prelude.{ℕ, ◌≡◌, refl, List, [], ◌∷◌, length, set, take}
use Rattle.std.proofs.Common.{ap, arith, take_all, length-take-le, get_or-take, le-ltb}
use Rattle.std.proofs.Math.Decide.{dec_lt}
use Rattle.header.specs.Header.{header_test}

pub header_first : (c : List ℕ) → header_test (take 5 c) ≡ header_test c
header_first c = elim (dec_lt (length c) 5) [
  | yes short ↦ ap header_test (take_all 5 c (omega arith))
  | no k ↦ let l : length (take 5 c) ≡ 5 = length-take-le 5 c (omega arith) in
      rw (le-ltb (length (take 5 c)) 5 (omega arith), le-ltb (length c) 5 (omega arith), get_or-take 5 c 0 0 (omega arith), get_or-take 5 c 1 0 (omega arith), get_or-take 5 c 2 0 (omega arith), get_or-take 5 c 3 0 (omega arith), get_or-take 5 c 4 0 (omega arith))
]

-- five bytes, each stored
pub five_stored : (s : List ℕ) → length s ≡ 5 → (a b c d e : ℕ) → set (set (set (set (set s 0 a) 1 b) 2 c) 3 d) 4 e ≡ a ∷ b ∷ c ∷ d ∷ e ∷ []
five_stored [] h a b c d e = absurd (omega arith)
five_stored (_ ∷ []) h a b c d e = absurd (omega arith)
five_stored (_ ∷ _ ∷ []) h a b c d e = absurd (omega arith)
five_stored (_ ∷ _ ∷ _ ∷ []) h a b c d e = absurd (omega arith)
five_stored (_ ∷ _ ∷ _ ∷ _ ∷ []) h a b c d e = absurd (omega arith)
five_stored (_ ∷ _ ∷ _ ∷ _ ∷ _ ∷ []) h a b c d e = refl
five_stored (_ ∷ _ ∷ _ ∷ _ ∷ _ ∷ _ ∷ s) h a b c d e = absurd (omega arith)
