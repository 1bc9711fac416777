-- A reading at order 0 or 1 gives the codeword nearest to its word, and a tie exactly where two are equally near. Assumes nothing.
use Rattle.std.specs.Prelude.{ℕ, zero, suc, ◌+◌, ◌-◌, ◌*◌, ◌^◌, ◌≤◌, ◌<◌, ◌≡◌, refl, ◌≢◌, ℤ, pos, negsuc, nat_abs}
use Rattle.std.proofs.Common.{sym, ap, ap₂, ◌∙◌, subst, ⊎_elim, le_refl, arith, lit<, pow_pos}
use mathlib.Core.List.{List, List-discrete}
use Rattle.std.proofs.Math.Decide.{ℕ_discrete}
use Rattle.std.proofs.Math.Arith.{lt-one}
use Rattle.words.specs.Word.{IsWord, distance, bit}
use Rattle.code.specs.Code.{IsCodeword}
use Rattle.code.proofs.Distance.{code_distance, distance_self}
use Rattle.hadamard.specs.Correlation.{affine, constant_of, correlation, values}
use Rattle.hadamard.specs.AffineWords.{IsAffine, affine_codeword, affine_mask, affine_start, codeword_affine, codeword_constant, constant_affine, constant_codeword}
use Rattle.hadamard.specs.CorrelationLaws.{constant_of-lt, far_distance, near_distance}
use Rattle.hadamard.specs.Peak.{Alone, Shared, peak}
use Rattle.rule.specs.Reading.{Outcome, accepted, refused, by_sum, constant, order0, order1}
use Rattle.rule.proofs.Order0.{order0-correlation}
use Rattle.rule.proofs.Order1.{alone_pos, candidate, order1_alone, order1_shared, sizes}
use Rattle.rule.specs.Nearest.{Nearest, Tied, Judged, nearest, tied}

-- ---- orders 0 and 1 alike

-- the codewords of order r are the affine words of the masks below n
record Masks (m r n : ℕ) : Type 0 where
  within : n ≤ 2 ^ m
  in_code : (u s : ℕ) → u < n → s < 2 → IsCodeword m r (affine m u s)
  of_code : (c : List ℕ) → IsCodeword m r c → IsAffine m n c

masks_1 : (m : ℕ) → Masks m 1 (2 ^ m)
masks_1 m = record { within = le_refl (2 ^ m); in_code = λ u s l h. affine_codeword m u s l; of_code = codeword_affine m }

masks_0 : (m : ℕ) → Masks m 0 1
masks_0 m = record {
  within = pow_pos m;
  in_code = λ u s l h. rw (lt-one l) (subst (IsCodeword m 0) (constant_affine m s h) (constant_codeword m s h));
  of_code = λ c hc. record {
    mask = 0;
    start = bit c 0;
    mask_lt = lit< tt;
    start_lt = hc.word.bits 0;
    same = codeword_constant m c hc ∙ constant_affine m (bit c 0) (hc.word.bits 0);
  };
}

module _ {m r n : ℕ} {w : List ℕ} (hw : IsWord m w) (code : Masks m r n) where
  abbrev v : ℕ → ℤ
  v = values w

  -- a mask's codewords are no nearer than its correlation says
  any_distance : (u s : ℕ) → s < 2 → 2 ^ m ≤ sizes m v u + 2 * distance m w (affine m u s)
  any_distance u s h = elim (ℕ_discrete s (constant_of (correlation m v u))) [
    | yes e ↦ rw e (omega (arith, near_distance hw u))
    | no k ↦ omega (arith, far_distance hw u s h k)
  ]

  candidate_codeword : (u : ℕ) → u < n → IsCodeword m r (candidate m v u)
  candidate_codeword u l = code.in_code u _ l (constant_of-lt (correlation m v u))

  alone_nearest : {u : ℕ} → Alone n (sizes m v) u → 0 < sizes m v u → Nearest m r w (candidate m v u)
  alone_nearest {u} a h = record {
    codeword = candidate_codeword u a.below;
    nearer = λ c hc ne. let k = code.of_code c hc in rw k.same (far k.mask k.start k.mask_lt k.start_lt (λ e. ne (k.same ∙ e)));
  }
    where
      far : (x s : ℕ) → x < n → s < 2 → affine m x s ≢ candidate m v u → distance m w (candidate m v u) < distance m w (affine m x s)
      far x s lx ls ne = elim (ℕ_discrete x u) [
        | yes e ↦ rw e (omega (arith, near_distance hw u, far_distance hw u s ls (λ d. ne (ap₂ (affine m) e d))))
        | no k ↦ omega (arith, near_distance hw u, a.others x lx k, any_distance x s ls)
      ]

  shared_tied : Shared n (sizes m v) → Tied m r w
  shared_tied s = record {
    first = candidate m v s.first;
    second = candidate m v s.second;
    first_codeword = candidate_codeword s.first s.first_below;
    second_codeword = candidate_codeword s.second s.second_below;
    apart = λ e. s.apart (affine_mask m _ _ _ _ e (omega (arith, code.within, s.first_below)) (omega (arith, code.within, s.second_below)));
    equal = omega (arith, near_distance hw s.first, near_distance hw s.second, s.equal);
    least = λ c hc. let k = code.of_code c hc in
        rw k.same (omega (arith, near_distance hw s.first, s.most k.mask k.mask_lt, any_distance k.mask k.start k.start_lt));
  }

  -- where every correlation is 0, all codewords are equally near
  zero_tied : (u : ℕ) → u < n → ((x : ℕ) → x < n → sizes m v x ≡ 0) → Tied m r w
  zero_tied u l zeros = record {
    first = affine m u 0;
    second = affine m u 1;
    first_codeword = code.in_code u 0 l (lit< tt);
    second_codeword = code.in_code u 1 l (lit< tt);
    apart = λ e. omega (arith, affine_start m u 0 u 1 e);
    equal = omega (arith, half u l 0 (lit< tt), half u l 1 (lit< tt));
    least = λ c hc. let k = code.of_code c hc in rw k.same (omega (arith, half u l 0 (lit< tt), half k.mask k.mask_lt k.start k.start_lt));
  }
    where
      half : (x : ℕ) → x < n → (s : ℕ) → s < 2 → 2 * distance m w (affine m x s) ≡ 2 ^ m
      half x lx s h = elim (ℕ_discrete s (constant_of (correlation m v x))) [
        | yes e ↦ rw e (omega (arith, near_distance hw x, zeros x lx))
        | no k ↦ omega (arith, far_distance hw x s h k, zeros x lx)
      ]

-- ---- the readings

pub order1_judged : {m : ℕ} {w : List ℕ} → 1 ≤ m → IsWord m w → Judged m 1 w (order1 m (values w))
order1_judged {m} {w} hm hw =
    ⊎_elim
    (λ a. rw (order1_alone m (values w) a) (nearest (alone_nearest hw (masks_1 m) a (alone_pos hm a))))
    (λ s. rw (order1_shared m (values w) s) (tied (shared_tied hw (masks_1 m) s)))
    (peak (2 ^ m) (sizes m (values w)) (pow_pos m))

pub order0_judged : {m : ℕ} {w : List ℕ} → IsWord m w → Judged m 0 w (order0 m (values w))
order0_judged {m} {w} hw = rw (order0-correlation m (values w)) (go (correlation m (values w) 0) refl)
  where
    only : Alone 1 (sizes m (values w)) 0
    only = record { below = lit< tt; others = λ x l ne. absurd (ne (lt-one l)) }

    accept : (z : ℤ) → correlation m (values w) 0 ≡ z → 0 < nat_abs z → Judged m 0 w (accepted (constant m (constant_of z)) 0 0)
    accept z e h = rw (constant_affine m (constant_of z) (constant_of-lt z), ← e) (nearest (alone_nearest hw (masks_0 m) only (rw e h)))

    go : (z : ℤ) → correlation m (values w) 0 ≡ z → Judged m 0 w (by_sum m z)
    go (pos zero) e = tied (zero_tied hw (masks_0 m) 0 (lit< tt) (λ x l. rw (lt-one l) (ap nat_abs e)))
    go (pos (suc k)) e = accept (pos (suc k)) e (omega arith)
    go (negsuc k) e = accept (negsuc k) e (omega arith)

-- ---- conversely

module _ {m r : ℕ} {w : List ℕ} where
  nearest_unique : {c d : List ℕ} → Nearest m r w c → Nearest m r w d → c ≡ d
  nearest_unique {c} {d} hc hd = elim (List-discrete ℕ_discrete c d) [
    | yes e ↦ e
    | no k ↦ absurd (omega (arith, hd.nearer c hc.codeword k, hc.nearer d hd.codeword (λ e. k (sym e))))
  ]

  not_both : {d : List ℕ} → Nearest m r w d → Tied m r w → ⊥
  not_both {d} h t = elim (List-discrete ℕ_discrete t.first d) [
    | yes e ↦ omega (arith, ap (distance m w) e, t.equal, h.nearer t.second t.second_codeword (λ k. t.apart (e ∙ sym k)))
    | no k ↦ omega (arith, t.least d h.codeword, h.nearer t.first t.first_codeword k)
  ]

  -- a reading accepts exactly the nearest codeword, and refuses exactly a tie
  pub accepted_nearest : {o : Outcome} {d : List ℕ} {k l : ℕ} → Judged m r w o → o ≡ accepted d k l → Nearest m r w d
  accepted_nearest (nearest h) e = subst (Nearest m r w) (cc) h
  accepted_nearest (tied t) e = let z : ◌≡◌ {A = ℕ} 0 1 = cc in absurd (omega arith)

  pub nearest_accepted : {o : Outcome} {d : List ℕ} → Judged m r w o → Nearest m r w d → o ≡ accepted d 0 r
  nearest_accepted (nearest h) k = ap (λ (c : List ℕ). accepted c 0 r) (nearest_unique h k)
  nearest_accepted (tied t) k = absurd (not_both k t)

  pub refused_tied : {o : Outcome} {e k l : ℕ} → Judged m r w o → o ≡ refused e k l → Tied m r w
  refused_tied (nearest h) q = let z : ◌≡◌ {A = ℕ} 0 1 = cc in absurd (omega arith)
  refused_tied (tied t) q = t

  pub tied_refused : {o : Outcome} → Judged m r w o → Tied m r w → o ≡ refused 9 0 r
  tied_refused (nearest h) t = absurd (not_both h t)
  tied_refused (tied s) t = refl

-- ---- a codeword is its own nearest

pub itself : {m r : ℕ} {w : List ℕ} → r ≤ m → IsCodeword m r w → Nearest m r w w
itself {m} {r} {w} h c = record {
  codeword = c;
  nearer = λ d hd ne. omega (arith, distance_self m w, code_distance h c hd (λ e. ne (sym e)), pow_pos (m - r));
}

pub order1_codeword : {m : ℕ} {w : List ℕ} → 1 ≤ m → IsCodeword m 1 w → order1 m (values w) ≡ accepted w 0 1
order1_codeword h c = nearest_accepted (order1_judged h c.word) (itself h c)
