-- The checks of a call on an array: what each test on the way says. Assumes nothing.
use Rattle.std.specs.Prelude.{ℕ, ◌+◌, ◌*◌, ◌^◌, ◌≤◌, ◌<◌, max, ◌≡◌, List, [], Ok}
use Rattle.std.proofs.Common.{sym, ap, ◌∙◌, mul-le-mul, arith, pow-add, pow_mono, le-leb}
use Rattle.std.proofs.Math.Decide.{dec_le}
use Rattle.std.proofs.Math.Nat.{max-le}
use Rattle.std.proofs.lemmas.Bool.{lt-leb}
use Rattle.refusals.proofs.CheckLaws.{fails, passes}
use Rattle.refusals.specs.Refusals.{Checked, answer_number, code_checks, first_refusal, place_named, Answer}
use Rattle.arrays.specs.ArraySizes.{Passed}
use Rattle.arrays.proofs.ArrayCalls.{all_passed}
use Rattle.arrays.specs.Arrays.{array_limits, side_checks}

module _ (m r : ℕ) where
  pub side_long : 6 < m → m < 11 → 27 ≡ first_refusal (side_checks m r)
  side_long a b = passes _ _ _ (le-leb 1 m (omega arith)) (passes _ _ _ (le-leb m 10 (omega arith)) (fails _ _ _ (lt-leb m 6 a)))

  -- any other exponent is refused, or not, as by the core
  side_same : (6 < m → m < 11 → ⊥) → first_refusal (code_checks m r) ≡ first_refusal (side_checks m r)
  unfolding first_refusal
  side_same h = elim (dec_le m 6) [
    | yes a ↦ rw (le-leb m 6 a)
    | no a ↦ let b : m < 11 → ⊥ = h (omega arith) in rw (lt-leb m 10 (omega arith))
  ]

  pub side_checked : {s : List ℕ} {a : Answer} → (6 < m → m < 11 → ⊥) → Checked (code_checks m r) s a → Checked (side_checks m r) s a
  side_checked {s} h c = record { number = c.number ∙ side_same h; place = c.place ∙ ap (place_named s) (side_same h) }

pub limits_done : (mr rr mc rc rounds leaves : ℕ) {s : List ℕ} {a : Answer} → Checked (array_limits mr rr mc rc rounds leaves) s a → a ≡ (Ok tt)
    → Passed mr rr mc rc rounds leaves
limits_done mr rr mc rc rounds leaves c e = (all_passed mr rr mc rc rounds leaves [] (sym c.number ∙ ap answer_number e)).0

-- ---- sizes

module _ {mr mc : ℕ} (hr : mr ≤ 6) (hc : mc ≤ 6) where
  pub array_few : 2 ^ mc * 2 ^ mr ≤ 4096
  array_few = mul-le-mul {n₁ = 2 ^ mc} {m₁ = 2 ^ mr} {n₂ = 64} {m₂ = 64} (pow_mono {j = 6} hc) (pow_mono {j = 6} hr)

  pub longest_few : 2 ^ max mr mc ≤ 64
  longest_few = pow_mono {j = 6} (max-le hr hc)

pub array_size : (mr mc : ℕ) → 2 ^ mc * 2 ^ mr ≡ 2 ^ (mc + mr)
array_size mr mc = sym (pow-add 2 mc mr)
