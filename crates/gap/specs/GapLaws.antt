-- What the gap promises: a changed block gets the same codeword, and adding a codeword leaves it. Assumes nothing.
use Rattle.std.specs.Prelude.{ℕ, ◌+◌, ◌*◌, ◌^◌, ◌≤◌, ◌<◌, ◌≡◌, ◌≢◌, List, ℤ, nat_abs}
use Rattle.std.proofs.Common.{sym, ap, ap₂, ◌∙◌, ⊎_elim, arith, pow_pos}
use Rattle.std.proofs.Math.Decide.{ℕ_discrete}
use Rattle.std.specs.Int.Bits.{bit_xor}
use Rattle.std.proofs.lemmas.Nat.{xor_lt}
use Rattle.code.specs.Code.{IsCodeword}
use Rattle.code.proofs.Distance.{distance_self, triangle}
use Rattle.hadamard.specs.AffineWords.{IsAffine, affine_codeword, codeword_affine}
use Rattle.hadamard.specs.Correlation.{affine, constant_of, correlation, first_below, values}
use Rattle.hadamard.specs.CorrelationLaws.{correlation_add, far_distance, nat_abs-signed, near_distance}
use Rattle.hadamard.specs.Peak.{peak}
use Rattle.hadamard.specs.Spread.{correlations_spread}
use Rattle.rule.specs.Nearest.{Nearest}
use Rattle.rule.proofs.Nearest.{nearest_accepted, order1_judged}
use Rattle.rule.proofs.Order1.{alone_pos, candidate, order1_alone, order1_shared, sizes}
use Rattle.rule.specs.Reading.{Outcome, accepted, order1, reading, refused}
use Rattle.words.specs.Sum.{greatest_below}
use Rattle.words.specs.Word.{IsWord, add_words, distance}
use Rattle.words.specs.Xor.{xor_twice}
use Rattle.gap.specs.Gap.{gap_of}
use Rattle.gap.specs.Seconds.{Most, first_most, gap_at, gap_least, gap_moved, gap_some, gap_tie, gap_whole}

-- ---- "If 4 × the number of changed places is less than the gap, the changed block gets the same codeword."

module _ {m : ℕ} {w : List ℕ} (hw : IsWord m w) where
  abbrev v : ℕ → ℤ
  v = values w

  best : ℕ
  best = first_below (2 ^ m) (sizes m v) (greatest_below (2 ^ m) (sizes m v))

  at_best : Most (2 ^ m) (sizes m v) best
  unfolding best
  at_best = first_most (2 ^ m) (sizes m v) (pow_pos m)

  -- any other codeword is farther from w, by half the gap at least
  farther : (x s : ℕ) → x < 2 ^ m → s < 2 → affine m x s ≢ candidate m v best → 0 < gap_of m w
      → 2 * distance m w (candidate m v best) + gap_of m w ≤ 2 * distance m w (affine m x s)
  farther x s lx ls ne some = elim (ℕ_discrete x best) [
    | yes e ↦ rw e (omega (arith, near_distance hw best, far_distance hw best s ls (λ d. ne (ap₂ (affine m) e d)), gap_at at_best))
    | no k ↦ elim (ℕ_discrete s (constant_of (correlation m v x))) [
      | yes d ↦ rw d (omega (arith, near_distance hw best, near_distance hw x, gap_least at_best x lx k some))
      | no d ↦ omega (arith, near_distance hw best, far_distance hw x s ls d, gap_least at_best x lx k some)
    ]
  ]

  module _ {w' : List ℕ} (few : 4 * distance m w w' < gap_of m w) where
    still_nearest : Nearest m 1 w' (candidate m v best)
    still_nearest = record {
      codeword = affine_codeword m best _ at_best.below;
      nearer = λ c hc ne. let k = codeword_affine m c hc in
          rw k.same (omega (
            arith,
            farther k.mask k.start k.mask_lt k.start_lt (λ e. ne (k.same ∙ e)) (omega arith),
            triangle m w w' (candidate m v best),
            triangle m w' w (affine m k.mask k.start),
            triangle m w w' w,
            distance_self m w,
          ));
    }

    changed : 1 ≤ m → IsWord m w' → order1 m (values w') ≡ accepted (candidate m v best) 0 1
    changed hm hw' = nearest_accepted (order1_judged hm hw') still_nearest

-- both blocks are accepted as the same codeword, at any round limit
pub record SameCodeword (m : ℕ) (w w' : List ℕ) : Type 0 where
  pub codeword : List ℕ
  pub in_code : IsCodeword m 1 codeword
  pub first : (rounds : ℕ) → reading 1 m rounds w ≡ accepted codeword 0 1
  pub second : (rounds : ℕ) → reading 1 m rounds w' ≡ accepted codeword 0 1

pub gap_same : {m : ℕ} {w w' : List ℕ} → 1 ≤ m → IsWord m w → IsWord m w' → 4 * distance m w w' < gap_of m w → SameCodeword m w w'
unfolding reading
gap_same {m} {w} {w'} hm hw hw' few = record {
  codeword = candidate m (values w) (best hw);
  in_code = affine_codeword m (best hw) _ (at_best hw).below;
  first = λ rounds. changed hw (omega (arith, distance_self m w)) hm hw;
  second = λ rounds. changed hw few hm hw';
}

-- "A tie has gap 0.", and nothing else has
pub tie_gap : (m : ℕ) (w : List ℕ) → order1 m (values w) ≡ refused 9 0 1 → gap_of m w ≡ 0
tie_gap m w e =
    ⊎_elim
    (λ a. let z : ◌≡◌ {A = ℕ} 0 1 = ap taken (sym e ∙ order1_alone m (values w) a) in absurd (omega arith))
    (λ h. gap_tie h)
    (peak (2 ^ m) (sizes m (values w)) (pow_pos m))
  where
    taken : Outcome → ℕ
    taken (accepted d k l) = 1
    taken (refused n k l) = 0

pub gap_tied : (m : ℕ) (w : List ℕ) → 1 ≤ m → gap_of m w ≡ 0 → order1 m (values w) ≡ refused 9 0 1
gap_tied m w hm e =
    ⊎_elim
    (λ a. absurd (omega (arith, gap_some a (alone_pos hm a))))
    (λ h. order1_shared m (values w) h)
    (peak (2 ^ m) (sizes m (values w)) (pow_pos m))

-- a codeword has the widest gap
pub gap_codeword : {m : ℕ} {w : List ℕ} → IsCodeword m 1 w → gap_of m w ≡ 2 ^ m
gap_codeword {m} {w} hc = gap_whole L.mask_lt (λ u l ne. omega (arith, correlations_spread hw u L.mask l L.mask_lt ne, whole)) ∙ whole
  where
    hw : IsWord m w
    hw = hc.word

    L : IsAffine m (2 ^ m) w
    L = codeword_affine m w hc

    at : distance m w (affine m L.mask L.start) ≡ 0
    at = ap (distance m w) (sym L.same) ∙ distance_self m w

    whole : sizes m (values w) L.mask ≡ 2 ^ m
    whole = elim (ℕ_discrete L.start (constant_of (correlation m (values w) L.mask))) [
      | yes e ↦ omega (arith, near_distance hw L.mask, ap (λ (s : ℕ). distance m w (affine m L.mask s)) e, at)
      | no k ↦ absurd (omega (arith, far_distance hw L.mask L.start L.start_lt k, at, pow_pos m))
    ]

-- ---- "Adding a codeword leaves the gap."

pub gap_add : {m : ℕ} {w c : List ℕ} → IsWord m w → IsCodeword m 1 c → gap_of m (add_words w c) ≡ gap_of m w
gap_add {m} {w} {c} hw hc =
    let L = codeword_affine m c hc in
    rw L.same (moved L.mask L.start L.mask_lt L.start_lt)
  where
    moved : (a t : ℕ) → a < 2 ^ m → t < 2 → gap_of m (add_words w (affine m a t)) ≡ gap_of m w
    moved a t ha ht =
        gap_moved (2 ^ m) (λ u. bit_xor u a) (λ u l. xor_lt m u a l ha) (λ u l. xor_twice u a)
        (sizes m (values w)) (sizes m (values (add_words w (affine m a t)))) (pow_pos m)
        (λ u l. ap nat_abs (correlation_add hw a t ht u) ∙ nat_abs-signed t (correlation m (values w) (bit_xor u a)))
