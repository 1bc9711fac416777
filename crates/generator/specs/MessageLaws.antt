-- Messages drawn. Assumes nothing.
use Rattle.std.specs.Prelude.{ℕ, suc, ◌+◌, ◌/◌, ◌^◌, ◌≤◌, ◌<◌, ◌≡◌, List, set}
use Rattle.std.proofs.Common.{arith, add-one, ◌∙◌}
use Rattle.std.proofs.Math.Decide.{dec_lt}
use Rattle.std.proofs.Math.Path.{refl, ap}
use Rattle.std.proofs.Math.ListN.{length, get_or-eq_default}
use Rattle.words.specs.Sum.{tabulate}
use Rattle.words.specs.SumLaws.{bit_tabulate, length-tabulate}
use Rattle.words.specs.Word.{bit}
use Rattle.words.specs.Written.{Written, written_none, written_more, written_to, written_all}
use Rattle.generator.specs.Generator.{message_from, step, steps}
use Rattle.generator.specs.Drawing.{MessageDrawn}
use Rattle.generator.specs.StepLaws.{steps-lt}

-- bit i of the message drawn from x
abbrev pub drawn_bit : ℕ → ℕ → ℕ
drawn_bit x i = steps (suc i) x / 2 ^ 31

pub message_length : (k x : ℕ) → length (message_from k x) ≡ k
unfolding message_from
message_length k x = length-tabulate k (drawn_bit x)

pub message_bits : (k x : ℕ) → x < 2 ^ 32 → (i : ℕ) → bit (message_from k x) i < 2
unfolding message_from
message_bits k x h i = elim (dec_lt i k) [
  | yes l ↦ rw (bit_tabulate k (drawn_bit x) i l) (omega (arith, steps-lt (suc i) x h))
  | no l ↦ rw (get_or-eq_default (tabulate k (drawn_bit x)) 0 {n = i} (omega (arith, length-tabulate k (drawn_bit x)))) (omega arith)
]

-- ---- the loop

-- i bits are drawn
pub record Progress (start : ℕ) (before after : List ℕ) (x i : ℕ) : Type 0 where
  pub within : i ≤ length before
  pub state : x ≡ steps i start
  pub long : length after ≡ length before
  pub written : Written 0 0 i (drawn_bit start) before after

pub progress_none : (start : ℕ) (xs : List ℕ) → Progress start xs xs start 0
unfolding steps
progress_none start xs = record { within = omega arith; state = refl; long = refl; written = written_none 0 0 (drawn_bit start) xs }

module _ {start : ℕ} {xs ys : List ℕ} {x i : ℕ} (d : Progress start xs ys x i) where
  pub progress_more : {y : ℕ} → y ≡ step x → i < length xs → Progress start xs (set ys i (y / 2 ^ 31)) y (i + 1)
  unfolding steps
  progress_more {y} e l =
      let next : y ≡ steps (suc i) start = e ∙ ap step d.state in
      let w = written_more d.written i (y / 2 ^ 31) (omega arith) l (ap (λ (z : ℕ). z / 2 ^ 31) next) in
      record { within = omega arith; state = rw (add-one i) next; long = w.long; written = w }

  pub progress_all : length xs ≤ i → MessageDrawn start xs ys x
  unfolding message_from
  progress_all l =
      let e : i ≡ length xs = omega (arith, d.within) in
      record { state = d.state ∙ ap (λ (k : ℕ). steps k start) e; message = written_all (written_to d.written (length xs) e) refl }
