-- The message of a word: its coefficients of degree at most r, masks ascending. Reading and encoding undo one another. Assumes nothing.
use Rattle.std.specs.Prelude.{ℕ, zero, suc, ◌%◌, ◌^◌, ◌≤◌, ◌<◌, ◌≡◌, refl, List, [], ◌∷◌, ◌++◌, length, get_or, take}
use Rattle.std.proofs.Common.{sym, ap, ap₂, ◌∙◌, ⊎_elim, not-suc-le-zero, le_of_suc-le-suc, eq-or-lt_of_le, mod-eq_of_lt, arith, length-append, take-suc, le-leb}
use Rattle.std.proofs.Math.Decide.{dec_le}
use Rattle.std.proofs.Math.ListN.{get_or-append}
use Rattle.std.proofs.lemmas.List.{get_or_at}
use Rattle.std.proofs.Math.Seq.{take-length}
use Rattle.std.proofs.lemmas.Bool.{lt-leb}
use Rattle.code.specs.Code.{IsCodeword, codeword, coefficient, degree, dimension, gather, message_of, rank, spread}
use Rattle.code.proofs.Codewords.{coefficient-lt}
use Rattle.code.specs.Degree.{coef, coef_parity}
use Rattle.code.proofs.Inverse.{codeword-coef, coef_twice, coefficient-codeword, encoder_codeword, spread_high}
use Rattle.words.specs.Sum.{total}
use Rattle.words.specs.Word.{bit}
use Rattle.words.proofs.WordLaws.{word_ext}

-- ---- the rank

pub rank_in : (r n : ℕ) → degree n ≤ r → rank r (suc n) ≡ suc (rank r n)
unfolding rank total
rank_in r n h = rw (le-leb (degree n) r h) (omega arith)

pub rank_out : (r n : ℕ) → r < degree n → rank r (suc n) ≡ rank r n
unfolding rank total
rank_out r n h = rw (lt-leb (degree n) r h) (omega arith)

rank_step : (r n : ℕ) → rank r n ≤ rank r (suc n)
rank_step r n = elim (dec_le (degree n) r) [
  | yes h ↦ omega (arith, rank_in r n h)
  | no k ↦ omega (arith, rank_out r n (omega arith))
]

pub rank-lt : (r A n : ℕ) → A < n → degree A ≤ r → rank r A < rank r n
rank-lt r A zero l d = absurd (not-suc-le-zero l)
rank-lt r A (suc n) l d =
    ⊎_elim
    (λ e. omega (arith, ap (λ (x : ℕ). rank r (suc x)) e, rank_in r A d))
    (λ k. omega (arith, rank-lt r A n k d, rank_step r n))
    (eq-or-lt_of_le (le_of_suc-le-suc l))

-- ---- gathering

gather_in : (r : ℕ) (f : ℕ → ℕ) (n : ℕ) → degree n ≤ r → gather r f (suc n) ≡ gather r f n ++ (f n ∷ [])
unfolding gather
gather_in r f n h = rw (le-leb (degree n) r h)

gather_out : (r : ℕ) (f : ℕ → ℕ) (n : ℕ) → r < degree n → gather r f (suc n) ≡ gather r f n
unfolding gather
gather_out r f n h = rw (lt-leb (degree n) r h)

pub length-gather : (r : ℕ) (f : ℕ → ℕ) (n : ℕ) → length (gather r f n) ≡ rank r n
unfolding gather rank total
length-gather r f zero = refl
length-gather r f (suc n) = elim (dec_le (degree n) r) [
  | yes h ↦ ap length (gather_in r f n h) ∙ length-append (gather r f n) (f n ∷ []) ∙ omega (arith, length-gather r f n, rank_in r n h)
  | no k ↦ ap length (gather_out r f n (omega arith)) ∙ length-gather r f n ∙ sym (rank_out r n (omega arith))
]

-- the element of a mask stands at its rank
pub get_or-gather : (r : ℕ) (f : ℕ → ℕ) (n A : ℕ) → A < n → degree A ≤ r → get_or (gather r f n) (rank r A) 0 ≡ f A
get_or-gather r f zero A l d = absurd (not-suc-le-zero l)
get_or-gather r f (suc n) A l d =
    ⊎_elim
    (λ e. rw e (ap (λ (x : List ℕ). get_or x (rank r n) 0) (gather_in r f n (rw e at d)) ∙ get_or_at (gather r f n) (f n) [] 0 (rank r n) (length-gather r f n)))
    (λ k. elim (dec_le (degree n) r) [
      | yes h ↦ ap (λ (x : List ℕ). get_or x (rank r A) 0) (gather_in r f n h)
          ∙ get_or-append (gather r f n) (f n ∷ []) 0 (rank r A) (omega (arith, length-gather r f n, rank-lt r A n k d))
          ∙ get_or-gather r f n A k d
      | no j ↦ ap (λ (x : List ℕ). get_or x (rank r A) 0) (gather_out r f n (omega arith)) ∙ get_or-gather r f n A k d
    ])
    (eq-or-lt_of_le (le_of_suc-le-suc l))

-- gathering what a message spreads gives the message back
gather_spread : (r : ℕ) (f : ℕ → ℕ) (message : List ℕ) (n : ℕ) → ((A : ℕ) → A < n → degree A ≤ r → f A ≡ bit message (rank r A)) → rank r n ≤ length message
    → gather r f n ≡ take (rank r n) message
unfolding gather rank total
gather_spread r f message zero h l = refl
gather_spread r f message (suc n) h l = elim (dec_le (degree n) r) [
  | yes d ↦ gather_in r f n d
      ∙ ap₂ (λ (x : List ℕ) (y : ℕ). x ++ (y ∷ [])) (gather_spread r f message n (λ A k. h A (omega arith)) (omega (arith, rank_in r n d))) (h n (omega arith) d)
      ∙ sym (ap (λ (x : ℕ). take x message) (rank_in r n d) ∙ take-suc message (rank r n) 0 (omega (arith, rank_in r n d)))
  | no k ↦ gather_out r f n (omega arith)
      ∙ gather_spread r f message n (λ A j. h A (omega arith)) (omega (arith, rank_out r n (omega arith)))
      ∙ ap (λ (x : ℕ). take x message) (sym (rank_out r n (omega arith)))
]

-- ---- the message's size and bits

append_bits : (xs : List ℕ) (a : ℕ) → ((i : ℕ) → bit xs i < 2) → a < 2 → (i : ℕ) → bit (xs ++ (a ∷ [])) i < 2
append_bits [] a h l zero = l
append_bits [] a h l (suc i) = omega arith
append_bits (x ∷ xs) a h l zero = h 0
append_bits (x ∷ xs) a h l (suc i) = append_bits xs a (λ j. h (suc j)) l i

gather_bits : (r : ℕ) (f : ℕ → ℕ) → ((A : ℕ) → f A < 2) → (n i : ℕ) → bit (gather r f n) i < 2
unfolding gather
gather_bits r f h zero i = omega arith
gather_bits r f h (suc n) i = elim (dec_le (degree n) r) [
  | yes l ↦ rw (le-leb (degree n) r l) (append_bits (gather r f n) (f n) (gather_bits r f h n) (h n) i)
  | no k ↦ rw (lt-leb (degree n) r (omega arith)) (gather_bits r f h n i)
]

pub message_bits : (m r : ℕ) (w : List ℕ) (i : ℕ) → bit (message_of m r w) i < 2
unfolding message_of
message_bits m r w = gather_bits r (coefficient m w) (coefficient-lt m w) (2 ^ m)

pub message_length : (m r : ℕ) (w : List ℕ) → length (message_of m r w) ≡ dimension m r
unfolding message_of dimension
message_length m r w = length-gather r (coefficient m w) (2 ^ m)

-- ---- reading and encoding

pub spread_in : (r : ℕ) (message : List ℕ) (A : ℕ) → degree A ≤ r → spread r message A ≡ bit message (rank r A)
unfolding spread
spread_in r message A h = rw (le-leb (degree A) r h)

-- a message of the right size, encoded and read
pub message_codeword : (m r : ℕ) (message : List ℕ) → length message ≡ dimension m r → ((i : ℕ) → bit message i < 2) → message_of m r (codeword m r message) ≡ message
unfolding message_of dimension
message_codeword m r message e h =
    gather_spread r (coefficient m (codeword m r message)) message (2 ^ m)
    (λ A l d. coefficient-codeword m r message A l ∙ ap (λ (x : ℕ). x % 2) (spread_in r message A d) ∙ mod-eq_of_lt (h (rank r A)))
    (omega arith)
    ∙ ap (λ (x : ℕ). take x message) (sym e) ∙ take-length message

-- a codeword, read and encoded
spread_message : (m r : ℕ) (w : List ℕ) → IsCodeword m r w → (A : ℕ) → A < 2 ^ m → spread r (message_of m r w) A ≡ coefficient m w A
unfolding message_of
spread_message m r w c A l = elim (dec_le (degree A) r) [
  | yes d ↦ spread_in r (message_of m r w) A d ∙ get_or-gather r (coefficient m w) (2 ^ m) A l d
  | no k ↦ spread_high r (message_of m r w) A (omega arith) ∙ sym (c.low A l (omega arith))
]

pub codeword_message : (m r : ℕ) (w : List ℕ) → IsCodeword m r w → codeword m r (message_of m r w) ≡ w
unfolding coefficient coef
codeword_message m r w c =
    word_ext (encoder_codeword m r (message_of m r w)).word c.word
    (λ p l. codeword-coef m r (message_of m r w) p l
    ∙ coef_parity m (spread r (message_of m r w)) (coef m (bit w)) p (λ A k. ap (λ (x : ℕ). x % 2) (spread_message m r w c A k))
    ∙ coef_twice m (bit w) p l ∙ mod-eq_of_lt (c.word.bits p))
