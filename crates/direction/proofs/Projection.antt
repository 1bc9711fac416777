-- The projection of a word of low degree has a degree lower by one. Assumes nothing.
use Rattle.std.specs.Prelude.{ℕ, zero, suc, pred, ◌+◌, ◌%◌, ◌^◌, ◌≤◌, ◌<◌}
use Rattle.std.proofs.Common.{sym, ap, ◌∙◌, subst, ⊎_elim, eq-or-lt_of_le, le_of_suc-le-suc, arith, pow_mono}
use Rattle.std.proofs.Math.Arith.{le-zero}
use Rattle.std.specs.Int.Bits.{bit_xor}
use Rattle.code.specs.Degree.{Low, ◌⊕◌, low_first, low_join, low_parity, low_sum, second}
use Rattle.code.specs.Shift.{low_derivative}
use Rattle.direction.specs.Direction.{insert_zero}
use Rattle.direction.proofs.Insert.{Top, insert_low, insert_lt, insert_top}
use Rattle.words.specs.TopBit.{xor_top_low}

-- the projection by b, whose highest one stands at h
abbrev pub projected : ℕ → ℕ → (ℕ → ℕ) → ℕ → ℕ
projected h b f q = f (insert_zero h q) + f (bit_xor (insert_zero h q) b)

-- by a direction with the top bit: the derivative's first half
low_projected_top : (m s b : ℕ) (f : ℕ → ℕ) → b < 2 ^ suc m → Low (suc m) s f → Low m (pred s) (projected m b f)
low_projected_top m s b f hb low =
    low_parity (low_first (low_derivative (suc m) s b f hb low)) _ (λ q l. ap (λ (x : ℕ). (f x + f (bit_xor x b)) % 2) (sym (insert_low m q l)))

pub low_projected : (m s h b : ℕ) (f : ℕ → ℕ) → Top h b → h ≤ m → Low (suc m) s f → Low m (pred s) (projected h b f)
low_projected zero s h b f t l low =
    subst (λ (x : ℕ). Low 0 (pred s) (projected x b f)) (sym (le-zero l))
    (low_projected_top 0 s b f (subst (λ (x : ℕ). b < 2 ^ suc x) (le-zero l) t.below) low)
low_projected (suc m) s h b f t l low =
    ⊎_elim
    (λ e. subst (λ (x : ℕ). Low (suc m) (pred s) (projected x b f)) (sym e)
    (low_projected_top (suc m) s b f (subst (λ (x : ℕ). b < 2 ^ suc x) e t.below) low))
    (λ k. let hb : b < 2 ^ suc m = omega (arith, t.below, pow_mono k) in
    low_join m (pred s) _
    (low_projected m s h b f t (le_of_suc-le-suc k) (low_first low))
    (low_parity (low_projected m (pred s) h b (f ⊕ second (suc m) f) t (le_of_suc-le-suc k) (low_sum low)) _
    (λ q lq. omega (
      arith,
      ap f (insert_top m h q (le_of_suc-le-suc k)),
      ap f (ap (λ (x : ℕ). bit_xor x b) (insert_top m h q (le_of_suc-le-suc k)) ∙ xor_top_low (suc m) (insert_zero h q) b (insert_lt m h q lq) hb),
    ))))
    (eq-or-lt_of_le l)
