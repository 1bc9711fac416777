-- The bytes of a record: how many there are, and what the capture reader makes of them. Assumes nothing.
use Prim.Native.Nat.{ℕ, zero, suc, ◌+◌, ◌-◌, ◌*◌, ◌/◌, ◌%◌, ◌^◌, ◌≤◌, ◌<◌}
use native.Mathlib.Omega.{arith}
use Rattle.std.proofs.Common.{le_refl, add-one, sym, ap, ap₂, ◌∙◌, drop_of_length-le, length-drop, shr-shr, get_or-append-add, take_at}
use Rattle.std.proofs.Math.Decide.{dec_lt}
use Rattle.std.specs.Prelude.{◌≡◌, length, drop, take}
use mathlib.Core.List.{List, [], ◌∷◌, ◌++◌, append-nil}
use Rattle.std.proofs.Math.ListN.{get_or, length-append, get_or-append, get_or-eq_default}
use Rattle.std.proofs.Math.Arith.{digits_lt}
use borrow.Rule.Slice.PartMut.{put_mid}
use Rattle.words.specs.Sum.{tabulate, total}
use Rattle.words.specs.SumLaws.{bit_tabulate, length-tabulate, split_last, total_ext}
use Rattle.words.specs.Parts.{at-part_of, part_length}
use Rattle.words.specs.Word.{bit}
use Rattle.unpacking.specs.Packed.{packed_bit}
use Rattle.capture.specs.Capture.{profile_at, serial_of}
use Rattle.load.specs.Records.{octet, packed, record_bytes}

-- ---- lists of one length, joined

module _ (s : ℕ) (f : ℕ → List ℕ) (each : (i : ℕ) → length (f i) ≡ s) where
  pub joined_length : (n : ℕ) → length (total ◌++◌ [] n f) ≡ n * s
  unfolding total
  joined_length zero = omega arith
  joined_length (suc n) = length-append (total ◌++◌ [] n f) (f n) ∙ omega (arith, joined_length n, each n)

  pub joined_at : (n i q : ℕ) → i < n → q < s → get_or (total ◌++◌ [] n f) (i * s + q) 0 ≡ get_or (f i) q 0
  unfolding total
  joined_at zero i q l h = absurd (omega arith)
  joined_at (suc n) i q l h =
      split_last n (λ (j : ℕ). get_or (total ◌++◌ [] n f ++ f n) (j * s + q) 0 ≡ get_or (f j) q 0)
      (λ j b. get_or-append (total ◌++◌ [] n f) (f n) 0 (j * s + q) (rw (joined_length n) (digits_lt b h)) ∙ joined_at n j q b h)
      (rw (joined_length n) at (get_or-append-add (total ◌++◌ [] n f) (f n) q 0)) i l

-- a head stored first, then the rest of the list, as the code lends both parts
module _ (a : ℕ) (out : List ℕ) {h head : List ℕ} (eh : h ≡ head) (size : length head ≡ a) where
  pub head_length : a ≤ length out → length (h ++ drop a out) ≡ length out
  head_length l = length-append h (drop a out) ∙ omega (arith, ap length eh, length-drop a out)

  pub rest_length : a ≤ length out → length (take (length (h ++ drop a out) - a) (drop a (h ++ drop a out))) ≡ length out - a
  rest_length l = part_length 0 a (length (h ++ drop a out) - a) (h ++ drop a out) (omega (arith, head_length l)) ∙ ap (λ (n : ℕ). n - a) (head_length l)

  pub stored_after : {r rest : List ℕ} → r ≡ rest → put_mid a (length (h ++ drop a out) - a) (h ++ drop a out) r ≡ head ++ rest
  stored_after {r} {rest} er =
      let mid : List ℕ = h ++ drop a out in
      let none : drop (length mid - a) (drop a mid) ≡ [] = drop_of_length-le (drop a mid) {i = length mid - a} (rw (length-drop a mid) (le_refl (length mid - a))) in
      ap₂ (λ (x y : List ℕ). x ++ (r ++ y)) (take_at h (drop a out) a (ap length eh ∙ size)) none
      ∙ ap₂ (λ (x y : List ℕ). x ++ y) eh (append-nil r ∙ er)

-- ---- bits

-- the number of the bits f 0, .., f (n - 1), the first on top
abbrev pub binary : ℕ → (ℕ → ℕ) → ℕ
binary n f = total (λ x b. x * 2 + b) 0 n f

-- bit i of n, from the top
binary_bit : (f : ℕ → ℕ) → ((i : ℕ) → f i < 2) → (n i k : ℕ) → n ≡ suc (i + k) → binary n f / 2 ^ k % 2 ≡ f i
unfolding total
binary_bit f b zero i k e = absurd (omega arith)
binary_bit f b (suc n) i zero e = omega (arith, b n, ap f {x = n} {y = i} (omega arith))
binary_bit f b (suc n) i (suc k) e =
    let x : ℕ = binary n f * 2 + f n in
    ap (λ (j : ℕ). x / 2 ^ j % 2) {x = suc k} {y = 1 + k} (omega arith) ∙ ap (λ (y : ℕ). y % 2) (sym (shr-shr x 1 k))
    ∙ ap (λ (y : ℕ). y / 2 ^ k % 2) {x = x / 2} {y = binary n f} (omega (arith, b n)) ∙ binary_bit f b n i k (omega arith)

pub octet_bit : (f : ℕ → ℕ) → ((i : ℕ) → f i < 2) → (i : ℕ) → i < 8 → octet f / 2 ^ (7 - i) % 2 ≡ f i
octet_bit f b i l = binary_bit f b 8 i (7 - i) (omega arith)

pub binary-lt : (f : ℕ → ℕ) → ((i : ℕ) → f i < 2) → (n : ℕ) → binary n f < 2 ^ n
unfolding total
binary-lt f b zero = omega arith
binary-lt f b (suc n) = omega (arith, binary-lt f b n, b n)

-- one more bit
pub binary_more : (f : ℕ → ℕ) (n : ℕ) → binary n f * 2 + f n ≡ binary (n + 1) f
unfolding total
binary_more f n = rw (add-one n)

-- ---- a record

pub packed-length : (word : List ℕ) → length (packed word) ≡ length word / 8
unfolding packed
packed-length word = length-tabulate (length word / 8) _

pub packed_at : (word : List ℕ) (k : ℕ) → k < length word / 8 → get_or (packed word) k 0 ≡ octet (λ i. bit word (8 * k + i))
unfolding packed
packed_at word k l = bit_tabulate (length word / 8) _ k l

-- the eight bits that byte k packs, as the code takes them
abbrev pub eight : List ℕ → ℕ → List ℕ
eight word k = take (8 * k + 8 - 8 * k) (drop (8 * k) word)

module _ (word : List ℕ) (k : ℕ) (room : 8 * k + 8 ≤ length word) where
  pub eight-length : length (eight word k) ≡ 8
  eight-length = rw (part_length 0 (8 * k) (8 * k + 8 - 8 * k) word (omega arith)) (omega arith)

  eight_at : (i : ℕ) → i < 8 → bit (eight word k) i ≡ bit word (8 * k + i)
  eight_at i l = at-part_of 0 (8 * k) (8 * k + 8 - 8 * k) word (omega arith) i (omega arith)

  pub eight_bits : ((i : ℕ) → bit word i < 2) → (i : ℕ) → bit (eight word k) i < 2
  eight_bits b i = elim (dec_lt i 8) [
    | yes l ↦ rw (eight_at i l) (b (8 * k + i))
    | no l ↦ rw (get_or-eq_default (eight word k) 0 {n = i} (omega (arith, eight-length))) (omega arith)
  ]

  pub eight-octet : octet (bit (eight word k)) ≡ octet (λ i. bit word (8 * k + i))
  eight-octet = total_ext (λ x b. x * 2 + b) 0 8 _ _ eight_at

pub packed_is : (word : List ℕ) {n : ℕ} → n ≡ length word / 8 → tabulate n (λ k. octet (λ i. bit word (8 * k + i))) ≡ packed word
unfolding packed
packed_is word e = ap (λ (m : ℕ). tabulate m (λ k. octet (λ i. bit word (8 * k + i)))) e

pub record_length : (serial profile : ℕ) (word : List ℕ) → length (record_bytes serial profile word) ≡ 5 + length word / 8
unfolding record_bytes
record_length serial profile word = omega (arith, packed-length word)

record_body : (serial profile : ℕ) (word : List ℕ) (k : ℕ) → get_or (record_bytes serial profile word) (5 + k) 0 ≡ get_or (packed word) k 0
unfolding record_bytes
record_body serial profile word k = get_or-append-add (_ ∷ _ ∷ _ ∷ _ ∷ _ ∷ []) (packed word) k 0

-- what the capture reader reads of a list that starts with a record
module _ (serial profile : ℕ) (word s : List ℕ) (starts : (q : ℕ) → q < 5 + length word / 8 → get_or s q 0 ≡ get_or (record_bytes serial profile word) q 0) where
  pub reads_serial : serial < 2 ^ 32 → serial_of s ≡ serial
  unfolding record_bytes
  reads_serial h =
      omega (arith, starts 0 (omega arith), starts 1 (omega arith), starts 2 (omega arith), starts 3 (omega arith))

  pub reads_profile : profile_at s ≡ profile
  unfolding record_bytes
  reads_profile = starts 4 (omega arith)

  pub reads_bit : ((i : ℕ) → bit word i < 2) → length word % 8 ≡ 0 → (p : ℕ) → p < length word → packed_bit s p ≡ bit word p
  reads_bit b e p l =
      ap (λ (x : ℕ). x / 2 ^ (7 - p % 8) % 2) (starts (5 + p / 8) (omega arith) ∙ record_body serial profile word (p / 8) ∙ packed_at word (p / 8) (omega arith))
      ∙ octet_bit (λ i. bit word (8 * (p / 8) + i)) (λ i. b (8 * (p / 8) + i)) (p % 8) (omega arith) ∙ ap (bit word) (omega arith)
