-- Laws of a column written place by place. Assumes nothing.
use Rattle.std.specs.Prelude.{ℕ, ◌+◌, ◌*◌, ◌<◌, ◌≡◌, refl, List, length, set}
use Rattle.std.proofs.Common.{◌∙◌, mul-lt-mul_of_pos_right, arith, length-set, get_or-set_other, get_or-set_same}
use Rattle.std.proofs.Math.Decide.{ℕ_discrete}
use Rattle.words.specs.Word.{bit}
use Rattle.array_lines.specs.Scattered.{Scattered}

pub scattered_none : (line : List ℕ) (j a : ℕ) (w : List ℕ) → Scattered line j a 0 w w
scattered_none line j a w = record { long = refl; here = λ i l. absurd (omega arith); other = λ q h. refl }

-- a turn writes place n
pub scattered_more : {line : List ℕ} {j a n : ℕ} {w v : List ℕ} → Scattered line j a n w v → 0 < a → n * a + j < length w
    → Scattered line j a (n + 1) w (set v (n * a + j) (bit line n))
scattered_more {line} {j} {a} {n} {w} {v} h pos l = record {
  long = length-set v (n * a + j) (bit line n) ∙ h.long;
  here = λ i li. elim (ℕ_discrete i n) [
    | yes e ↦ rw e (get_or-set_same v (n * a + j) (bit line n) 0 (omega (arith, h.long)))
    | no k ↦
        get_or-set_other v (n * a + j) (i * a + j) (bit line n) 0 (λ e. omega (arith, mul-lt-mul_of_pos_right {m = i} {n = n} {k = a} (omega arith) pos))
        ∙ h.here i (omega arith)
  ];
  other = λ q hq. get_or-set_other v (n * a + j) q (bit line n) 0 (hq n (omega arith)) ∙ h.other q (λ i li. hq i (omega arith));
}

-- the column is the same already
pub scattered_same : {line : List ℕ} {j a : ℕ} {w : List ℕ} → ((i : ℕ) → i < length line → bit w (i * a + j) ≡ bit line i) → Scattered line j a (length line) w w
scattered_same h = record { long = refl; here = h; other = λ q n. refl }
