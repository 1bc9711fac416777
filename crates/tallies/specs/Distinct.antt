-- Different numbers below n are at most n. Assumes nothing.
use Prim.Native.Nat.{ℕ, zero, suc, ◌≤◌, ◌<◌}
use Rattle.std.specs.Prelude.{◌≡◌, Bool, true, false, cond, ◌≢◌, eqb}
use Rattle.std.proofs.Math.Path.{refl}
use Rattle.std.proofs.Common.{sym, ◌∙◌, not-suc-le-zero, arith, eqb-true}
use Rattle.std.proofs.lemmas.Bool.{eqb-false}

-- g 0, .., g (k - 1) are below n, and no two are equal
pub record Distinct (k n : ℕ) (g : ℕ → ℕ) : Type 0 where
  pub below : (i : ℕ) → i < k → g i < n
  pub differ : (i j : ℕ) → i < k → j < k → g i ≡ g j → i ≡ j

-- without the last of them, where n is in the way it takes the last one's place
module _ {k n : ℕ} {g : ℕ → ℕ} (d : Distinct (suc k) (suc n) g) where
  fewer : ℕ → ℕ
  fewer i = cond (eqb (g i) n) (g k) (g i)

  fewer_below : (i : ℕ) → i < k → (t : Bool) → eqb (g i) n ≡ t → cond t (g k) (g i) < n
  fewer_below i l true e =
      let at : g i ≡ n = eqb-true (g i) n e in
      let ne : g k ≡ n → ⊥ = λ f. omega (arith, d.differ i k (omega arith) (omega arith) (at ∙ sym f)) in
      omega (arith, d.below k (omega arith))
  fewer_below i l false e =
      let ne : g i ≡ n → ⊥ = eqb-false (g i) n e in
      omega (arith, d.below i (omega arith))

  fewer_differ : (i j : ℕ) → i < k → j < k → (s t : Bool) → eqb (g i) n ≡ s → eqb (g j) n ≡ t → cond s (g k) (g i) ≡ cond t (g k) (g j) → i ≡ j
  fewer_differ i j li lj true true e f h = d.differ i j (omega arith) (omega arith) (eqb-true (g i) n e ∙ sym (eqb-true (g j) n f))
  fewer_differ i j li lj true false e f h = omega (arith, d.differ k j (omega arith) (omega arith) h)
  fewer_differ i j li lj false true e f h = omega (arith, d.differ i k (omega arith) (omega arith) h)
  fewer_differ i j li lj false false e f h = d.differ i j (omega arith) (omega arith) h

  less : Distinct k n fewer
  unfolding fewer
  less = record {
    below = λ i l. fewer_below i l (eqb (g i) n) refl;
    differ = λ i j li lj h. fewer_differ i j li lj (eqb (g i) n) (eqb (g j) n) refl refl h;
  }

pub distinct_most : {k n : ℕ} {g : ℕ → ℕ} → Distinct k n g → k ≤ n
distinct_most {k = zero} d = omega arith
distinct_most {k = suc k} {n = zero} d = absurd (not-suc-le-zero (d.below 0 (omega arith)))
distinct_most {k = suc k} {n = suc n} d = omega (arith, distinct_most {k = k} (less d))

-- with a number below n that is none of them there is one more
module _ {k n : ℕ} {g : ℕ → ℕ} (d : Distinct k n g) (p : ℕ) (l : p < n) (other : (i : ℕ) → i < k → g i ≢ p) where
  more : ℕ → ℕ
  more i = cond (eqb i k) p (g i)

  more_below : (i : ℕ) → i < suc k → (t : Bool) → eqb i k ≡ t → cond t p (g i) < n
  more_below i h true e = l
  more_below i h false e = let ne : i ≡ k → ⊥ = eqb-false i k e in d.below i (omega arith)

  more_differ : (i j : ℕ) → i < suc k → j < suc k → (s t : Bool) → eqb i k ≡ s → eqb j k ≡ t → cond s p (g i) ≡ cond t p (g j) → i ≡ j
  more_differ i j hi hj true true e f h = eqb-true i k e ∙ sym (eqb-true j k f)
  more_differ i j hi hj true false e f h = let ne : j ≡ k → ⊥ = eqb-false j k f in absurd (other j (omega arith) (sym h))
  more_differ i j hi hj false true e f h = let ne : i ≡ k → ⊥ = eqb-false i k e in absurd (other i (omega arith) h)
  more_differ i j hi hj false false e f h =
      let ni : i ≡ k → ⊥ = eqb-false i k e in
      let nj : j ≡ k → ⊥ = eqb-false j k f in
      d.differ i j (omega arith) (omega arith) h

  pub distinct_fewer : k < n
  unfolding more
  distinct_fewer = distinct_most {k = suc k} {g = more} (record {
    below = λ i h. more_below i h (eqb i k) refl;
    differ = λ i j hi hj h. more_differ i j hi hj (eqb i k) (eqb j k) refl refl h;
  })
