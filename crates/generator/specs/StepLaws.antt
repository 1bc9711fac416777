-- A step keeps to 32 bits, and can be undone: no state but 0 leads to 0. Assumes nothing.
use Rattle.std.specs.Prelude.{ℕ, zero, suc, ◌+◌, ◌*◌, ◌/◌, ◌%◌, ◌^◌, ◌<◌, ◌≡◌, ◌≢◌}
use Rattle.std.proofs.Common.{arith, add-mul, add-zero, mod-lt, mul_assoc, mul_right_comm, sym, ap, ◌∙◌, pow-add, shr-shr, pow_pos}
use Rattle.std.proofs.Math.Nat.{add-mul-mod_self_right, mod-add-div'}
use Rattle.std.specs.Int.Bits.{bit_xor, xor_zero_r}
use Rattle.std.proofs.lemmas.Nat.{xor_lt, xor_mod, xor_shr, xor_block, shr_le}
use Rattle.words.specs.Xor.{xor_assoc, xor_twice}
use Rattle.generator.specs.Generator.{mix_left, mix_right, step, steps}

-- ---- 32 bits

left_lt : (k x : ℕ) → x < 2 ^ 32 → mix_left k x < 2 ^ 32
left_lt k x h = xor_lt 32 x (x * 2 ^ k % 2 ^ 32) h (mod-lt (x * 2 ^ k) (omega arith))

right_lt : (k x : ℕ) → x < 2 ^ 32 → mix_right k x < 2 ^ 32
right_lt k x h = xor_lt 32 x (x / 2 ^ k) h (omega (arith, shr_le x k))

pub step-lt : (x : ℕ) → x < 2 ^ 32 → step x < 2 ^ 32
unfolding step
step-lt x h = left_lt 5 (mix_right 17 (mix_left 13 x)) (right_lt 17 (mix_left 13 x) (left_lt 13 x h))

pub steps-lt : (k x : ℕ) → x < 2 ^ 32 → steps k x < 2 ^ 32
unfolding steps
steps-lt zero x h = h
steps-lt (suc k) x h = step-lt (steps k x) (steps-lt k x h)

-- ---- twice the same shift is one twice as far

-- of what is kept, the product is kept too
kept : (x c : ℕ) → x % 2 ^ 32 * c % 2 ^ 32 ≡ x * c % 2 ^ 32
kept x c =
    sym (add-mul-mod_self_right (x % 2 ^ 32 * c) (x / 2 ^ 32 * c) (2 ^ 32))
    ∙ ap (λ (z : ℕ). z % 2 ^ 32)
    (ap (λ (z : ℕ). x % 2 ^ 32 * c + z) (mul_right_comm (x / 2 ^ 32) c (2 ^ 32)) ∙ sym (add-mul (x % 2 ^ 32) (x / 2 ^ 32 * 2 ^ 32) c)
    ∙ ap (λ (z : ℕ). z * c) (mod-add-div' x (2 ^ 32)))

xor_shl : (a b k : ℕ) → bit_xor (a * 2 ^ k) (b * 2 ^ k) ≡ bit_xor a b * 2 ^ k
xor_shl a b k = simp add-zero at (xor_block k a b 0 0 (pow_pos k) (pow_pos k))

nothing : (x z : ℕ) → z ≡ 0 → bit_xor x z ≡ x
nothing x z e = ap (bit_xor x) e ∙ xor_zero_r x

-- exclusive or commutes with a shift and with keeping to 32 bits
shifted_xor : (k a b : ℕ) → bit_xor a b * 2 ^ k % 2 ^ 32 ≡ bit_xor (a * 2 ^ k % 2 ^ 32) (b * 2 ^ k % 2 ^ 32)
shifted_xor k a b = ap (λ (z : ℕ). z % 2 ^ 32) (sym (xor_shl a b k)) ∙ xor_mod (a * 2 ^ k) (b * 2 ^ k) 32

shifted_twice : (k x : ℕ) → x * 2 ^ k % 2 ^ 32 * 2 ^ k % 2 ^ 32 ≡ x * 2 ^ (k + k) % 2 ^ 32
shifted_twice k x = kept (x * 2 ^ k) (2 ^ k) ∙ ap (λ (z : ℕ). z % 2 ^ 32) (mul_assoc x (2 ^ k) (2 ^ k) ∙ ap (λ (z : ℕ). x * z) (sym (pow-add 2 k k)))

twice : (x s t : ℕ) → bit_xor (bit_xor x s) (bit_xor s t) ≡ bit_xor x t
twice x s t = sym (xor_assoc (bit_xor x s) s t) ∙ ap (λ (z : ℕ). bit_xor z t) (xor_twice x s)

left_twice : (k x : ℕ) → mix_left k (mix_left k x) ≡ mix_left (k + k) x
left_twice k x = rw (shifted_xor k x (x * 2 ^ k % 2 ^ 32), shifted_twice k x) (twice x (x * 2 ^ k % 2 ^ 32) (x * 2 ^ (k + k) % 2 ^ 32))

right_twice : (k x : ℕ) → mix_right k (mix_right k x) ≡ mix_right (k + k) x
right_twice k x = rw (xor_shr x (x / 2 ^ k) k, shr-shr x k k) (twice x (x / 2 ^ k) (x / 2 ^ (k + k)))

-- ---- a shift by 32 or more leaves nothing, so that some number of times is none

left_13 : (x : ℕ) → mix_left 13 (mix_left 13 (mix_left 13 (mix_left 13 x))) ≡ x
left_13 x = left_twice 13 (mix_left 13 (mix_left 13 x)) ∙ ap (mix_left 26) (left_twice 13 x) ∙ left_twice 26 x ∙ nothing x (x * 2 ^ 52 % 2 ^ 32) (omega arith)

right_17 : (x : ℕ) → x < 2 ^ 32 → mix_right 17 (mix_right 17 x) ≡ x
right_17 x h = right_twice 17 x ∙ nothing x (x / 2 ^ 34) (omega arith)

left_5_twice : (x : ℕ) → mix_left 5 (mix_left 5 (mix_left 5 (mix_left 5 x))) ≡ mix_left 20 x
left_5_twice x = left_twice 5 (mix_left 5 (mix_left 5 x)) ∙ ap (mix_left 10) (left_twice 5 x) ∙ left_twice 10 x

left_5 : (x : ℕ) → mix_left 5 (mix_left 5 (mix_left 5 (mix_left 5 (mix_left 5 (mix_left 5 (mix_left 5 (mix_left 5 x))))))) ≡ x
left_5 x =
    left_5_twice (mix_left 5 (mix_left 5 (mix_left 5 (mix_left 5 x)))) ∙ ap (mix_left 20) (left_5_twice x) ∙ left_twice 20 x
    ∙ nothing x (x * 2 ^ 40 % 2 ^ 32) (omega arith)

-- ---- a step undone

unfoldable pub unstep : ℕ → ℕ
unstep y =
    let a : ℕ = mix_left 5 (mix_left 5 (mix_left 5 (mix_left 5 (mix_left 5 (mix_left 5 (mix_left 5 y)))))) in
    let b : ℕ = mix_right 17 a in
    mix_left 13 (mix_left 13 (mix_left 13 b))

pub unstep-step : (x : ℕ) → x < 2 ^ 32 → unstep (step x) ≡ x
unfolding step unstep
unstep-step x h =
    ap (λ (z : ℕ). mix_left 13 (mix_left 13 (mix_left 13 (mix_right 17 z)))) (left_5 (mix_right 17 (mix_left 13 x)))
    ∙ ap (λ (z : ℕ). mix_left 13 (mix_left 13 (mix_left 13 z))) (right_17 (mix_left 13 x) (left_lt 13 x h))
    ∙ left_13 x

pub step-unstep : (y : ℕ) → y < 2 ^ 32 → step (unstep y) ≡ y
unfolding step unstep
step-unstep y h =
    let a : ℕ = mix_left 5 (mix_left 5 (mix_left 5 (mix_left 5 (mix_left 5 (mix_left 5 (mix_left 5 y)))))) in
    ap (λ (z : ℕ). mix_left 5 (mix_right 17 z)) (left_13 (mix_right 17 a))
    ∙ ap (mix_left 5) (right_17 a (left_lt 5 _ (left_lt 5 _ (left_lt 5 _ (left_lt 5 _ (left_lt 5 _ (left_lt 5 _ (left_lt 5 y h)))))))) ∙ left_5 y

pub step_some : (x : ℕ) → x < 2 ^ 32 → x ≢ 0 → step x ≢ 0
unfolding unstep
step_some x h some e = some (sym (unstep-step x h) ∙ ap unstep e)

-- a state of 32 bits that is not 0, of which 21 is not said
pub record Live (x : ℕ) : Type 0 where
  pub small : x < 2 ^ 32
  pub some : x ≢ 0

pub step_live : {x : ℕ} → Live x → Live (step x)
step_live {x} h = record { small = step-lt x h.small; some = step_some x h.small h.some }

pub steps_live : (k : ℕ) {x : ℕ} → Live x → Live (steps k x)
unfolding steps
steps_live zero h = h
steps_live (suc k) h = step_live (steps_live k h)
