-- A call of `gap`: its contract from its checks, and the correlations of the word in the lent numbers. Assumes nothing.
use Rattle.std.specs.Prelude.{ℕ, suc, ◌+◌, ◌-◌, ◌*◌, ◌/◌, ◌^◌, ◌≤◌, ◌<◌, ◌≡◌, refl, Bool, true, false, cond, List, ◌++◌, leb, ℤ, pos, nat_abs, length, Ok, Err}
use Rattle.std.proofs.Common.{sym, ap, ap₂, ◌∙◌, mul-le-mul, arith, pow_mono, pow_pos, eq-eqb, eqb-true, leb-true, ne_eqb}
use Rattle.std.proofs.Math.Decide.{dec_lt, ℕ_discrete}
use Rattle.std.proofs.Math.ListN.{get_or-eq_default}
use Rattle.area.specs.Area.{at}
use Rattle.correlations.specs.Halves.{HalvesDone}
use Rattle.hadamard.specs.Correlation.{correlation, sign, values}
use Rattle.hadamard.specs.CorrelationLaws.{correlation_ext, sign_size}
use Rattle.hadamard.specs.Summable.{Summable}
use Rattle.peaks.specs.Joined.{joined_whole}
use Rattle.peaks.specs.Packing.{correlation_size}
use Rattle.peaks.specs.Peaks.{pairs_joined}
use Rattle.refusals.proofs.CheckLaws.{bits_tested, number_pos, passed}
use Rattle.refusals.specs.Refusals.{Checked, answer_number, answer_place, code_checks, first_refusal, number_of, place_named, place_of, Answer}
use Rattle.refusals.specs.declared.Refusal.{Refusal}
use Rattle.rule.specs.Decoding.{buffer_checks, zeros}
use Rattle.words.specs.Word.{IsWord, bit}
use Rattle.words.specs.Written.{Written}
use Rattle.gap.specs.Calls.{Measures, gap_call, gap_checks, gap_in, gap_values, measured_values, Measured}
use Rattle.gap.specs.Gap.{gap_below, gap_of}
use Rattle.gap.specs.Measuring.{Fits, Small}
use Rattle.gap.specs.Seconds.{gap_ext}

-- ---- the checks

-- they are the decoder's at order 1, with an output of the right size: 2 and 6 never fail
twice : (s t : Bool) (x : ℕ) → cond s (cond t (cond s x 2) 1) 1 ≡ cond s (cond t x 1) 1
twice true t x = refl
twice false t x = refl

decoders : (m : ℕ) (word : List ℕ) (area : ℕ) → first_refusal (code_checks m 1 ++ buffer_checks m word (2 ^ m) area) ≡ first_refusal (gap_checks m word area)
unfolding first_refusal
decoders m word area = rw (eq-eqb (2 ^ m) (2 ^ m) refl) (twice (leb 1 m) (leb m 10) _)

pub gap_checked : (m : ℕ) {word : List ℕ} (area : ℕ) {a : Answer}
    → Checked (code_checks m 1 ++ buffer_checks m word (2 ^ m) area) word a → Checked (gap_checks m word area) word a
gap_checked m {word} area c =
    let e = decoders m word area in
    record { number = c.number ∙ e; place = c.place ∙ ap (place_named word) e }

-- what they make sure of
pub record Passed (m : ℕ) (word : List ℕ) (area : ℕ) : Type 0 where
  pub some : 1 ≤ m
  pub most : m ≤ 10
  pub input : IsWord m word
  pub room : 8 * 2 ^ m ≤ area

pub gap_passed : (m : ℕ) (word : List ℕ) (area : ℕ) → first_refusal (gap_checks m word area) ≡ 0 → Passed m word area
gap_passed m word area e =
    let one = passed 0 _ _ e in
    let two = passed 0 _ _ one.1 in
    let five = passed 4 _ _ two.1 in
    let seven = passed 6 _ _ five.1 in
    record {
      some = leb-true 1 m one.0;
      most = leb-true m 10 two.0;
      input = record { size = eqb-true (length word) (2 ^ m) five.0; bits = bits_tested word (passed 7 _ _ seven.1).0 };
      room = leb-true (8 * 2 ^ m) area seven.0;
    }

-- ---- the contract

module _ (m : ℕ) (word : List ℕ) (area : ℕ) where
  abbrev refusal : ℕ
  refusal = first_refusal (gap_checks m word area)

  call_measured : refusal ≡ 0 → gap_call m word area ≡ gap_values 0 (gap_of m word) 0
  unfolding gap_call
  call_measured e = rw e

  call_refused : (refusal ≡ 0 → ⊥) → gap_call m word area ≡ gap_values refusal 0 (place_named word refusal)
  unfolding gap_call
  call_refused k = rw (ne_eqb refusal 0 k)

pub gap_refused : {m : ℕ} {word : List ℕ} (area : List ℤ) {a : Answer} {why : Refusal}
    → Checked (gap_checks m word (length area)) word a → a ≡ Err why → Measures m word area area (Err why)
gap_refused {m} {word} area {a} {why} c e =
    let n : number_of why ≡ refusal m word (length area) = ap answer_number (sym e) ∙ c.number in
    let p : place_of why ≡ place_named word (refusal m word (length area)) = ap answer_place (sym e) ∙ c.place in
    let some : refusal m word (length area) ≡ 0 → ⊥ = λ z. omega (arith, number_pos why) in
    record {
      answer = ap₂ (λ (x y : ℕ). gap_values x 0 y) n p ∙ sym (call_refused m word (length area) some);
      lent = rw (ne_eqb (refusal m word (length area)) 0 some);
    }

pub gap_done : {m : ℕ} {word : List ℕ} {area area' : List ℤ} {g : ℕ}
    → 0 ≡ first_refusal (gap_checks m word (length area)) → g ≡ gap_of m word → area' ≡ zeros area → Measures m word area area' (Ok g)
gap_done {m} {word} {area} e h z = record {
  answer = ap (λ (x : ℕ). gap_values 0 x 0) h ∙ sym (call_measured m word (length area) (sym e));
  lent = rw (← e) z;
}

-- an answer with a gap above 0 comes after checks that passed, and the gap is the word's
pub gap_given : {m : ℕ} {word : List ℕ} {area area' : List ℤ} {a : Measured} → Measures m word area area' a → 0 < gap_in (measured_values a)
    → Passed m word (length area) × (gap_in (measured_values a) ≡ gap_of m word)
gap_given {m} {word} {area} {a = a} h some = elim (ℕ_discrete (refusal m word (length area)) 0) [
  | yes e ↦ (gap_passed m word (length area) e, ap gap_in (h.answer ∙ call_measured m word (length area) e))
  | no k ↦ absurd (omega (arith, ap gap_in (h.answer ∙ call_refused m word (length area) k)))
]

-- ---- the lent numbers: first xs, the signs of the word

module _ {m : ℕ} {word : List ℕ} {part xs : List ℤ} (h : Fits m word part) (w : Written (pos 0) 0 (length word) (λ p. sign (bit word p)) part xs) where
  sign_at : (p : ℕ) → p < 2 ^ m → at xs p ≡ values word p
  sign_at p l =
      let e : 0 + p ≡ p = omega arith in
      ap (at xs) (sym e) ∙ w.within p (omega (arith, h.input.size))

  signs_long : length xs ≡ 2 ^ m
  signs_long = w.long ∙ h.room

  sign_small : (p : ℕ) → nat_abs (at xs p) ≤ 1
  sign_small p = elim (dec_lt p (2 ^ m)) [
    | yes l ↦ omega (arith, ap nat_abs (sign_at p l), sign_size (bit word p))
    | no a ↦ omega (arith, ap nat_abs (get_or-eq_default xs (pos 0) {n = p} (omega (arith, signs_long))))
  ]

  -- the exponent of a half
  abbrev k : ℕ
  k = m - 1

  whole : suc k ≡ m
  whole = omega (arith, h.some)

  doubled : 2 ^ k + 2 ^ k ≡ 2 ^ m
  doubled = omega (arith, ap (λ (r : ℕ). 2 ^ r) whole)

  half_few : 2 ^ k ≤ 512
  half_few = omega (arith, doubled, pow_mono {j = 10} h.most)

  pub signs_summable : Summable (suc k) xs
  signs_summable = rw whole record {
    size = signs_long;
    small = λ p. omega (arith, mul-le-mul (sign_small p) (pow_mono {j = 10} h.most));
  }

  -- then ys, the correlations of each half
  module _ {ys : List ℤ} (d : HalvesDone k xs ys) where
    abbrev n : ℕ
    n = length ys / 2

    en : n ≡ 2 ^ k
    en = omega (arith, d.long, signs_long, doubled)

    abbrev high : ℕ → ℤ
    high p = at xs (2 ^ k + p)

    second_at : (u : ℕ) → u < n → at ys (n + u) ≡ correlation k high u
    second_at u l = ap (λ (a : ℕ). at ys (a + u)) en ∙ d.second u (omega (arith, en))

    long : length ys ≡ n + n
    long = d.long ∙ signs_long ∙ omega (arith, en, doubled)

    size_at : (u : ℕ) → u < n + n → nat_abs (pairs_joined n ys u) ≡ nat_abs (correlation m (values word) u)
    size_at u l =
        ap nat_abs
        (joined_whole k n (at xs) (at ys) (λ i. at ys (n + i)) en (λ v b. d.first v (omega (arith, en))) second_at u l
        ∙ ap (λ (r : ℕ). correlation r (at xs) u) whole ∙ correlation_ext m (at xs) (values word) sign_at u)

    each : (i : ℕ) → nat_abs (at ys i) ≤ 512
    each i = elim (dec_lt i n) [
      | yes l ↦
          omega (
            arith,
            ap nat_abs (d.first i (omega (arith, en))),
            correlation_size k (at xs) i (λ p b. sign_small p),
            half_few,
          )
      | no a ↦ elim (dec_lt i (n + n)) [
        | yes l ↦
            let back : n + (i - n) ≡ i = omega arith in
            omega (
              arith,
              ap (λ (b : ℕ). nat_abs (at ys b)) back,
              ap nat_abs (second_at (i - n) (omega arith)),
              correlation_size k high (i - n) (λ p b. sign_small (2 ^ k + p)),
              half_few,
            )
        | no b ↦ omega (arith, ap nat_abs (get_or-eq_default ys (pos 0) {n = i} (omega (arith, long))))
      ]
    ]

    pub halves_small : Small n ys
    halves_small = record {
      pairs = record {
        some = omega (arith, en, pow_pos k);
        few = omega (arith, en, half_few);
        size = long;
        small = λ i l. omega (arith, each i);
      };
      each = each;
    }

    pub gap_is : gap_below (n + n) (λ u. nat_abs (pairs_joined n ys u)) ≡ gap_of m word
    gap_is =
        gap_ext (n + n) (λ u. nat_abs (pairs_joined n ys u)) (λ u. nat_abs (correlation m (values word) u)) (omega (arith, en, pow_pos k)) size_at
        ∙ ap (λ (r : ℕ). gap_below r (λ u. nat_abs (correlation m (values word) u))) (omega (arith, en, doubled))
