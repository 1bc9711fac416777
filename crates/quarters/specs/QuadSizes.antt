-- The sizes of quads as those of a list of pairs, and where the pair of a size is found. Assumes nothing.
use Rattle.std.specs.Prelude.{ℕ, ◌+◌, ◌-◌, ◌≤◌, ◌<◌, ◌≡◌, refl, cond, List, ◌⊎◌, eqb, ℤ, pos, ◌+ℤ◌, ◌-ℤ◌, length, take, drop}
use Rattle.std.proofs.Common.{sym, ap, ◌∙◌, subst, inl, inr, ⊎_elim, mod-lt, mod-eq_of_lt, arith, eq-eqb, ne_eqb, lt-ltb, le-ltb}
use Rattle.std.proofs.Math.Decide.{dec_lt}
use Rattle.std.proofs.Math.Nat.{mod-eq-sub-mod}
use Rattle.std.specs.Int.Bits.{bit_and}
use Rattle.words.specs.Parts.{at-part_of, part_length}
use Rattle.area.specs.Area.{at}
use Rattle.peaks.specs.Found.{Held}
use Rattle.peaks.specs.Pairs.{sizes}
use Rattle.peaks.specs.Peaks.{joined}
use Rattle.quads.specs.Quads.{number_of, first_sum, last_sum, first_difference, last_difference, sum_size, difference_size}
use Rattle.quads.specs.Small.{sum_small, difference_small}
use Rattle.quarter_sizes.specs.Sized.{Quads, Sized}
use Rattle.quarters.specs.Quarters.{firsts, lasts}

-- ---- the sizes as a list of pairs

module _ (q : ℕ) (xs : List ℤ) (i : ℕ) where
  sum_sized : i < q → sizes (firsts q xs) (lasts q xs) i ≡ sum_size (at xs i)
  sum_sized l = rw (lt-ltb i q l)

  difference_sized : q ≤ i → sizes (firsts q xs) (lasts q xs) i ≡ difference_size (at xs (i - q))
  difference_sized l = rw (le-ltb i q l)

  pub sizes_small : sizes (firsts q xs) (lasts q xs) i ≤ 1024
  sizes_small = elim (dec_lt i q) [
    | yes k ↦ omega (arith, sum_sized k, sum_small (at xs i))
    | no k ↦ omega (arith, difference_sized (omega arith), difference_small (at xs (i - q)))
  ]

-- written after the quads, as the code takes `[q..q + (q + q)]`
pub sizes_held :
    {q : ℕ} {xs ys : List ℤ} → Quads q xs → Sized q q xs ys
    → Held (q + q) (firsts q xs) (lasts q xs) (take ((q + (q + q)) - q) (drop q ys))
sizes_held {q} {xs} {ys} k s =
    let room : q + (q + q) ≤ length ys = omega (arith, s.long, k.size) in
    let all : (q + (q + q)) - q ≡ q + q = omega arith in
    rw all (record { long = part_length (pos 0) q (q + q) ys room; each = λ i l. at-part_of (pos 0) q (q + q) ys room i l ∙ each i l })
  where
    each : (i : ℕ) → i < q + q → at ys (q + i) ≡ pos (sizes (firsts q xs) (lasts q xs) i)
    each i l = elim (dec_lt i q) [
      | yes h ↦ s.sums i h ∙ ap pos (sym (sum_sized q xs i h))
      | no h ↦
          let place : q + q + (i - q) ≡ q + i = omega arith in
          subst (λ (p : ℕ). at ys p ≡ pos (sizes (firsts q xs) (lasts q xs) i)) place
          (s.differences (i - q) (omega arith) ∙ ap pos (sym (difference_sized q xs i (omega arith))))
    ]

-- ---- the pair at a place, by the mask

-- where the quad of the pair j stands
abbrev pub low_of : ℕ → ℕ → ℕ
low_of q j = bit_and j (q - 1)

module _ {q : ℕ} {xs : List ℤ} (k : Quads q xs) (j : ℕ) where
  pub low_below : low_of q j < q
  low_below = rw (k.masked j) (mod-lt j k.some)

  module _ (l : j < q + q) where
    -- a quad's sums are at its own place, its differences q further
    low_is : ((j < q) × (low_of q j ≡ j)) ⊎ ((q ≤ j) × (low_of q j ≡ j - q))
    low_is = elim (dec_lt j q) [
      | yes h ↦ inl (h, k.masked j ∙ mod-eq_of_lt h)
      | no h ↦
          let past : q ≤ j = omega arith in
          inr (past, k.masked j ∙ mod-eq-sub-mod past ∙ mod-eq_of_lt (omega arith))
    ]

    joined_at :
        (x y : ℕ → ℤ)
        → joined q x y j ≡ cond (eqb j (low_of q j)) (x (low_of q j) +ℤ y (low_of q j)) (x (low_of q j) -ℤ y (low_of q j))
    joined_at x y =
        ⊎_elim
        (λ (a : (j < q) × (low_of q j ≡ j)). rw (a.1, lt-ltb j q a.0, eq-eqb j j refl))
        (λ (b : (q ≤ j) × (low_of q j ≡ j - q)). rw (b.1, le-ltb j q b.0, ne_eqb j (j - q) (λ e. omega (arith, k.some))))
        low_is

    -- z is the quad that stands there
    module _ {z : ℤ} (e : z ≡ at xs (low_of q j)) where
      pub first_at : cond (eqb j (low_of q j)) (first_sum z) (first_difference z) ≡ firsts q xs j
      first_at = rw e (sym (joined_at (λ i. number_of 1 (at xs i)) (λ i. number_of 256 (at xs i))))

      pub last_at : cond (eqb j (low_of q j)) (last_sum z) (last_difference z) ≡ lasts q xs j
      last_at = rw e (sym (joined_at (λ i. number_of 65536 (at xs i)) (λ i. number_of 16777216 (at xs i))))
