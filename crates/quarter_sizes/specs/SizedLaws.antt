-- The sizes of quads come into a list after the quads, four quads at a time. Assumes nothing.
use Rattle.std.specs.Prelude.{ℕ, ◌+◌, ◌-◌, ◌≤◌, ◌<◌, ◌≡◌, refl, List, ℤ, pos}
use Rattle.std.proofs.Common.{sym, ap, ◌∙◌, subst, arith}
use Rattle.std.proofs.Math.Decide.{dec_lt}
use Rattle.words.specs.Written.{Written}
use Rattle.area.specs.Area.{at}
use Rattle.quads.specs.Quads.{sum_size, difference_size}
use Rattle.quarter_sizes.specs.Sized.{Quads, FourSized, Sized}

pub sized_none : (q : ℕ) (xs : List ℤ) → Sized q 0 xs xs
sized_none q xs = record {
  long = refl;
  quads = λ j l. refl;
  sums = λ j l. absurd (omega arith);
  differences = λ j l. absurd (omega arith);
}

module _ {q n : ℕ} {xs ys : List ℤ} (s : Sized q n xs ys) where
  pub sized_quads : Quads q xs → Quads q ys
  sized_quads k = record {
    some = k.some;
    few = k.few;
    fours = k.fours;
    masked = k.masked;
    size = k.size ∙ sym s.long;
    each = λ i l. rw (s.quads i l) (k.each i l);
  }

  -- what g gives of each quad, from place a on: four more
  run_more :
      (g : ℤ → ℕ) (a : ℕ) {us vs : List ℤ} → n + 4 ≤ q → ((j : ℕ) → j < n → at us (a + j) ≡ pos (g (at xs j)))
      → Written (pos 0) (a + n) 4 (λ k. pos (g (at ys (n + k)))) us vs → (j : ℕ) → j < n + 4 → at vs (a + j) ≡ pos (g (at xs j))
  run_more g a {vs = vs} room old w j l = elim (dec_lt j n) [
    | yes k ↦ w.below (a + j) (omega arith) ∙ old j k
    | no k ↦
        let here : n + (j - n) ≡ j = omega arith in
        let place : a + n + (j - n) ≡ a + j = omega arith in
        subst (λ (p : ℕ). at vs p ≡ pos (g (at xs j))) place
        (w.within (j - n) (omega arith) ∙ rw here (ap (λ (z : ℤ). pos (g z)) (s.quads j (omega arith))))
  ]

  pub sized_more : {zs : List ℤ} → n + 4 ≤ q → FourSized q n ys zs → Sized q (n + 4) xs zs
  sized_more room f = record {
    long = f.differences.long ∙ f.sums.long ∙ s.long;
    quads = λ j l. f.differences.below j (omega arith) ∙ f.sums.below j (omega arith) ∙ s.quads j l;
    sums = λ j l. f.differences.below (q + j) (omega arith) ∙ run_more sum_size q room s.sums f.sums j l;
    differences =
        run_more difference_size (q + q) room (λ j l. f.sums.above (q + q + j) (omega arith) ∙ s.differences j l) f.differences;
  }
