-- How often and where the greatest size occurs, in one sum. Assumes nothing.
use Prim.Native.Nat.{ℕ, zero, suc, ◌+◌, ◌*◌, ◌%◌, ◌≤◌, ◌<◌}
use Rattle.std.specs.Prelude.{◌≡◌, cond, ◌≢◌, ◌⊎◌, eqb}
use Rattle.std.proofs.Math.Path.{refl}
use Rattle.std.proofs.Common.{sym, ap, ◌∙◌, subst, inl, inr, ⊎_elim, not-suc-le-zero, le_refl, arith, eq-eqb, ne_eqb}
use Rattle.std.proofs.Math.Decide.{ℕ_discrete}
use Rattle.std.proofs.Math.Numerals.{add-one}
use Rattle.words.specs.Sum.{greatest_below, total}
use Rattle.words.specs.SumLaws.{le_or_lt, sum_ext, sum_most, sum_prefix, sum_zero}
use Rattle.hadamard.specs.Peak.{Alone, Shared, alone_greatest, peak, shared_greatest}
use Rattle.peaks.specs.Peaks.{keys_below}

-- what a place adds
abbrev key_at : (ℕ → ℕ) → ℕ → ℕ → ℕ
key_at f x i = cond (eqb (f i) x) (65536 + i) 0

module _ (f : ℕ → ℕ) (x : ℕ) where
  hit : (i : ℕ) → f i ≡ x → key_at f x i ≡ 65536 + i
  hit i e = rw (eq-eqb (f i) x e)

  miss : (i : ℕ) → f i ≢ x → key_at f x i ≡ 0
  miss i k = rw (ne_eqb (f i) x k)

  key_most : (i : ℕ) → key_at f x i ≤ 65536 + i
  key_most i = elim (ℕ_discrete (f i) x) [
    | yes e ↦ omega (arith, hit i e)
    | no k ↦ omega (arith, miss i k)
  ]

  -- ---- a loop that adds them

  pub keys_none : keys_below 0 f x ≡ 0
  unfolding keys_below total
  keys_none = refl

  pub keys_hit : (n : ℕ) → f n ≡ x → keys_below (n + 1) f x ≡ keys_below n f x + (65536 + n)
  unfolding keys_below total
  keys_hit n e = rw add-one (omega (arith, hit n e))

  pub keys_miss : (n : ℕ) → f n ≢ x → keys_below (n + 1) f x ≡ keys_below n f x
  unfolding keys_below total
  keys_miss n k = rw add-one (omega (arith, miss n k))

  pub keys_most : (n : ℕ) → n ≤ 512 → keys_below n f x ≤ n * 66048
  unfolding keys_below
  keys_most n l = sum_most n 66048 (key_at f x) (λ i k. omega (arith, key_most i))

  -- ---- one place, or two

  one_key : (n u : ℕ) → u < n → f u ≡ x → ((v : ℕ) → v < n → v ≢ u → f v ≢ x) → keys_below n f x ≡ 65536 + u
  unfolding keys_below total
  one_key zero u l e others = absurd (not-suc-le-zero l)
  one_key (suc n) u l e others = elim (ℕ_discrete n u) [
    | yes q ↦ omega (arith, sum_zero n (key_at f x) (λ v k. miss v (others v (omega arith) (λ d. omega arith))), hit n (ap f q ∙ e))
    | no k ↦ omega (arith, one_key n u (omega arith) e (λ v m. others v (omega arith)), miss n (others n (le_refl (suc n)) k))
  ]

  two_keys : (n u v : ℕ) → u < v → v < n → f u ≡ x → f v ≡ x → 131072 ≤ keys_below n f x
  unfolding keys_below total
  two_keys n u v h l eu ev =
      omega (arith, sum_prefix n (suc v) (key_at f x) l, sum_prefix v (suc u) (key_at f x) h, hit u eu, hit v ev)

-- ---- one place alone, or two that share it

module _ {n : ℕ} {f : ℕ → ℕ} where
  pub keys_alone : {u : ℕ} → Alone n f u → keys_below n f (greatest_below n f) ≡ 65536 + u
  keys_alone {u} a = rw (alone_greatest a) (one_key f (f u) n u a.below refl (λ v l k e. omega (arith, a.others v l k)))

  keys_shared : Shared n f → 131072 ≤ keys_below n f (greatest_below n f)
  keys_shared s = rw (shared_greatest s) (go (le_or_lt u v))
    where
      u : ℕ
      u = s.first

      v : ℕ
      v = s.second

      go : (u ≤ v) ⊎ (v < u) → 131072 ≤ keys_below n f (f u)
      go (inl l) = two_keys f (f u) n u v (omega (arith, s.apart)) s.second_below refl (sym s.equal)
      go (inr l) = two_keys f (f u) n v u l s.first_below (sym s.equal) refl

-- the keys of the greatest tell which, and its place
module _ {n : ℕ} {f : ℕ → ℕ} {key : ℕ} (some : 0 < n) (few : n ≤ 512) (e : key ≡ keys_below n f (greatest_below n f)) where
  pub keys_many : 131071 < key → Shared n f
  keys_many l = ⊎_elim (λ a. absurd (omega (arith, keys_alone a, a.below))) (λ s. s) (peak n f some)

  pub keys_one : key ≤ 131071 → Alone n f (key % 65536)
  keys_one l =
      ⊎_elim
      (λ a. subst (Alone n f) (omega (arith, keys_alone a, a.below)) a)
      (λ s. absurd (omega (arith, keys_shared s)))
      (peak n f some)

-- functions that agree below n have the same keys
pub keys_ext : (n : ℕ) (f g : ℕ → ℕ) (x : ℕ) → ((i : ℕ) → i < n → f i ≡ g i) → keys_below n f x ≡ keys_below n g x
unfolding keys_below
keys_ext n f g x h = sum_ext n (key_at f x) (key_at g x) (λ i l. ap (λ (y : ℕ). cond (eqb y x) (65536 + i) 0) (h i l))
