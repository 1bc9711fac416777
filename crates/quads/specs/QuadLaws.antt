-- Four words packed in one are transformed together, and the four numbers of a quad can be read again. Assumes nothing.
use Rattle.std.specs.Prelude.{ℕ, ◌+◌, ◌*◌, ◌/◌, ◌%◌, ◌≤◌, ◌≡◌, ℤ, nat_abs, ◌+ℤ◌, ◌-ℤ◌}
use Rattle.std.proofs.Common.{sym, ap₂, subst, ◌∙◌, arith}
use Rattle.std.proofs.Math.Path.{ap}
use Rattle.std.proofs.Math.IntN.{pos}
use Rattle.area.specs.Numbers.{nat_abs-add}
use Rattle.hadamard.specs.Correlation.{correlation, sign}
use Rattle.hadamard.specs.CorrelationLaws.{sign_size}
use Rattle.peaks.specs.Peaks.{packed_by}
use Rattle.peaks.specs.Packing.{correlation_packed, lifted, lifted_back, packed_size, packed_sum}
use Rattle.quads.specs.Quads.{quad, raised, number_of, Raisable, Bounded}

pub correlation-quad :
    (m : ℕ) (a b c d : ℕ → ℤ) (u : ℕ)
    → correlation m (λ p. quad (a p) (b p) (c p) (d p)) u
    ≡ quad (correlation m a u) (correlation m b u) (correlation m c u) (correlation m d u)
correlation-quad m a b c d u =
    correlation_packed 65536 m (λ p. packed_by 256 (a p) (b p)) (λ p. packed_by 256 (c p) (d p)) u
    ∙ ap₂ (packed_by 65536) (correlation_packed 256 m a b u) (correlation_packed 256 m c d u)

pub quad_size : (a b c d : ℤ) → nat_abs (quad a b c d) ≤ nat_abs a + nat_abs b * 256 + (nat_abs c + nat_abs d * 256) * 65536
quad_size a b c d =
    omega (arith, packed_size 65536 (packed_by 256 a b) (packed_by 256 c d), packed_size 256 a b, packed_size 256 c d)

-- of four signs
pub signs_size : (a b c d : ℕ) → nat_abs (quad (sign a) (sign b) (sign c) (sign d)) ≤ 16843009
signs_size a b c d = omega (arith, quad_size (sign a) (sign b) (sign c) (sign d), sign_size a, sign_size b, sign_size c, sign_size d)

module _ (a b c d : ℤ) (ha : nat_abs a ≤ 32) (hb : nat_abs b ≤ 32) (hc : nat_abs c ≤ 32) (hd : nat_abs d ≤ 32) where
  pub quad_raisable : Raisable (quad a b c d)
  quad_raisable = record { small = omega (arith, quad_size a b c d) }

  -- raised by 64 a number is not negative
  abbrev up : ℤ → ℕ
  up x = nat_abs (x +ℤ pos 64)

  up-le : (x : ℤ) → nat_abs x ≤ 32 → up x ≤ 96
  up-le x h = omega (arith, nat_abs-add x (pos 64))

  -- the four digits
  digits : raised (quad a b c d) ≡ up a + up b * 256 + (up c + up d * 256) * 65536
  digits =
      ap nat_abs
      (packed_sum 65536 (packed_by 256 a b) (packed_by 256 c d) (pos 16448) (pos 16448)
      ∙ ap₂ (packed_by 65536)
      (packed_sum 256 a b (pos 64) (pos 64) ∙ ap₂ (packed_by 256) (lifted 64 a (omega arith)) (lifted 64 b (omega arith)))
      (packed_sum 256 c d (pos 64) (pos 64) ∙ ap₂ (packed_by 256) (lifted 64 c (omega arith)) (lifted 64 d (omega arith))))

  pub first_number : number_of 1 (quad a b c d) ≡ a
  unfolding number_of
  first_number =
      let digit : raised (quad a b c d) / 1 % 256 ≡ up a = omega (arith, digits, up-le a ha) in
      ap (λ (x : ℕ). pos x -ℤ pos 64) digit ∙ lifted_back 64 a (omega arith)

  pub second_number : number_of 256 (quad a b c d) ≡ b
  unfolding number_of
  second_number =
      let digit : raised (quad a b c d) / 256 % 256 ≡ up b = omega (arith, digits, up-le a ha, up-le b hb) in
      ap (λ (x : ℕ). pos x -ℤ pos 64) digit ∙ lifted_back 64 b (omega arith)

  pub third_number : number_of 65536 (quad a b c d) ≡ c
  unfolding number_of
  third_number =
      let digit : raised (quad a b c d) / 65536 % 256 ≡ up c = omega (arith, digits, up-le a ha, up-le b hb, up-le c hc) in
      ap (λ (x : ℕ). pos x -ℤ pos 64) digit ∙ lifted_back 64 c (omega arith)

  pub fourth_number : number_of 16777216 (quad a b c d) ≡ d
  unfolding number_of
  fourth_number =
      let digit : raised (quad a b c d) / 16777216 % 256 ≡ up d = omega (arith, digits, up-le a ha, up-le b hb, up-le c hc, up-le d hd) in
      ap (λ (x : ℕ). pos x -ℤ pos 64) digit ∙ lifted_back 64 d (omega arith)

-- z is a quad of four small numbers
pub record Numbers (a b c d z : ℤ) : Type 0 where
  pub bounded : Bounded z
  pub first : number_of 1 z ≡ a
  pub second : number_of 256 z ≡ b
  pub third : number_of 65536 z ≡ c
  pub fourth : number_of 16777216 z ≡ d

pub numbers :
    {a b c d z : ℤ} → z ≡ quad a b c d → nat_abs a ≤ 32 → nat_abs b ≤ 32 → nat_abs c ≤ 32 → nat_abs d ≤ 32 → Numbers a b c d z
numbers {a} {b} {c} {d} e ha hb hc hd =
    let first = first_number a b c d ha hb hc hd in
    let second = second_number a b c d ha hb hc hd in
    let third = third_number a b c d ha hb hc hd in
    let fourth = fourth_number a b c d ha hb hc hd in
    subst (Numbers a b c d) (sym e)
    (record {
      bounded = record {
        raisable = quad_raisable a b c d ha hb hc hd;
        first = rw first ha;
        second = rw second hb;
        third = rw third hc;
        fourth = rw fourth hd;
      };
      first = first;
      second = second;
      third = third;
      fourth = fourth;
    })
