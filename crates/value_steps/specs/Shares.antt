-- What the parts of a share ask and promise, of one direction and of four. Assumes nothing.
use Rattle.std.specs.Prelude.{ℕ, zero, suc, ◌+◌, ◌*◌, ◌^◌, ◌≤◌, ◌<◌, ◌≡◌, refl, Bool, true, cond, List, ℤ, pos, nat_abs, length}
use Rattle.std.specs.Int.Bits.{bit_xor}
use Rattle.words.specs.Sum.{total, sum_below_ℤ}
use Rattle.area.specs.Area.{at, four_of}
use Rattle.area.specs.Numbers.{Half}
use Rattle.hadamard.specs.Correlation.{signed, constant_of}
use Rattle.confidences.specs.Confidences.{greatest}
use Rattle.confidences.specs.Values.{heard_at, four_heard}
use Rattle.value_steps.specs.declared.quads.Voices.{Voices}

-- z, by the sign of s
abbrev pub said : ℤ → ℤ → ℤ
said s z = signed (constant_of s) z

-- the same of a direction that has a word; 0 of one that abstains
abbrev pub voiced : Bool → ℤ → ℤ → ℤ
voiced w s z = cond w (said s z) (pos 0)

-- what direction b says of place p, by the signs from c on, where it has a word
abbrev pub word_at : Bool → ℕ → ℕ → List ℤ → ℕ → ℤ
word_at w b c xs p = cond w (heard_at b c xs p) (pos 0)

-- a sign at c and a confidence at o
pub record Says (c o : ℕ) (xs : List ℤ) : Type 0 where
  pub sign : c < length xs
  pub value : o < length xs
  pub small : nat_abs (at xs o) ≤ greatest

-- and a sum at r
pub record Hears (c o r : ℕ) (xs : List ℤ) : Type 0 where
  pub says : Says c o xs
  pub room : r < length xs
  pub few : nat_abs (at xs r) < 2 ^ 29

-- ---- four directions, of which some have words

-- which have, by their places
abbrev pub four_words : Bool → Bool → Bool → Bool → ℕ → Bool
four_words a b c d zero = a
four_words a b c d (suc zero) = b
four_words a b c d (suc (suc zero)) = c
four_words a b c d (suc (suc (suc l))) = d

abbrev pub voices_of : Voices → ℕ → Bool
voices_of v = four_words v.a v.b v.c v.d

-- all four, where that is told beside
abbrev pub speaking : Bool → Voices → Voices
speaking all v = cond all (record { a = true; b = true; c = true; d = true }) v

-- what those of directions 4 × k to 4 × k + 3 that have words say of place p
abbrev pub words_at : ℕ → ℕ → (ℕ → Bool) → List ℤ → ℕ → ℤ
words_at m k w xs p = sum_below_ℤ 4 (λ l. word_at (w l) (4 * k + l) (4 * 2 ^ m + l * 2 ^ m) xs p)

-- where all have words
pub all_heard : (m k : ℕ) (xs : List ℤ) (p : ℕ) → words_at m k (four_words true true true true) xs p ≡ four_heard m k xs p
unfolding total
all_heard m k xs p = refl

-- four times four signs, n apart from c on, and four confidences at o
pub record FourSays (n c o : ℕ) (xs : List ℤ) : Type 0 where
  pub signs : c + 3 * n + 4 ≤ length xs
  pub values : o + 4 ≤ length xs
  pub small : (i : ℕ) → i < 4 → nat_abs (at xs (o + i)) ≤ greatest

-- and four sums at r
pub record FourHears (n c o r : ℕ) (xs : List ℤ) : Type 0 where
  pub says : FourSays n c o xs
  pub room : r + 4 ≤ length xs
  pub few : (i : ℕ) → i < 4 → nat_abs (at xs (r + i)) < 2 ^ 29

-- what those that have words say of place i of a block, the other members in the block at o: direction l by its sign s l
abbrev pub four_said : (ℕ → Bool) → (ℕ → ℕ) → ℕ → ℕ → ℕ → List ℤ → ℕ → ℤ
four_said w s n c o xs i = sum_below_ℤ 4 (λ l. voiced (w l) (at xs (c + l * n + s l)) (at xs (o + bit_xor i l)))

-- the sign of direction l that counts for place i of a block: of the representatives, or of the other members, whose coset is i XOR l
abbrev pub signed_at : Bool → ℕ → ℕ → ℕ
signed_at others i l = cond others (bit_xor i l) i

-- four numbers that can be added to those from r on
pub record Addends (r : ℕ) (a b c d : ℤ) (xs : List ℤ) : Type 0 where
  pub room : r + 4 ≤ length xs
  pub few : (i : ℕ) → i < 4 → Half (at xs (r + i))
  pub each : (i : ℕ) → i < 4 → Half (four_of a b c d i)
