-- What a reading's answer delivers and returns, by the outcome that it tells. Assumes nothing.
use Rattle.std.specs.Prelude.{ℕ, ◌≤◌, ◌≡◌, refl, List, length, ℤ}
use Rattle.std.proofs.Common.{sym, subst, arith}
use Rattle.area.specs.Area.{Front}
use Rattle.area.proofs.AreaLaws.{front_bits, front_word}
use Rattle.rule.specs.Reading.{Outcome}
use Rattle.rule.specs.Decoding.{answer_of, area_of, output_of, zeros}
use Rattle.told.specs.Told.{Verdict, Holds, Read, numbers_in, numbers_of}
use Rattle.told.specs.ToldLaws.{noise_clears}
use Rattle.steps.specs.Answers.{Numbered, by_answer}
use Rattle.told.specs.declared.Noise.{Noise}
use Rattle.told.specs.declared.Noise.TheVariants.{Tie, Flipping, Unsettled, TooManyLeaves, Erased}
use Rattle.delivery.specs.Delivery.{Deliverable, delivered, noise_place, values_in}

module _ {n : ℕ} {o : Outcome} {a : Verdict} {us : List ℤ} (numbered : Numbered o) (read : Read n o us a) (out : List ℕ) (size : length out ≡ n) (room : n ≤ length us) where
  sized : {w : List ℕ} → Front n w us → Front (length out) w us
  sized {w} = subst (λ (k : ℕ). Front k w us) (sym size)

  pub read_delivers : Deliverable (length out) a us
  read_delivers =
      by_answer (λ (x : Verdict) (y : Outcome). Holds n y us → Deliverable (length out) x us)
      (λ w a h. front_bits (omega arith) (sized h)) (λ u h. tt) a o numbered read.said read.word

  pub output_is : delivered a out us ≡ output_of o out
  output_is =
      by_answer (λ (x : Verdict) (y : Outcome). Holds n y us → delivered x out us ≡ output_of y out)
      (λ w a h. front_word (omega arith) (sized h)) (λ u h. refl) a o numbered read.said read.word

-- of bits no place is named
pub none_named : (why : Noise) → noise_place 0 why ≡ 0
none_named Tie = refl
none_named Flipping = refl
none_named Unsettled = refl
none_named TooManyLeaves = refl
none_named Erased = refl

-- "After every other return, all of it is zero."
pub area_cleared : (xs : List ℤ) (a : Verdict) (o : Outcome) → Numbered o → numbers_in a ≡ numbers_of o → area_of o xs ≡ zeros xs
area_cleared xs =
    by_answer (λ (x : Verdict) (y : Outcome). area_of y xs ≡ zeros xs) (λ d a. refl)
    (λ u. rw (noise_clears u.why))

pub values_are : (m : ℕ) (word out : List ℕ) (a : Verdict) (o : Outcome) → Numbered o → numbers_in a ≡ numbers_of o
    → values_in m word (output_of o out) a ≡ answer_of m word o
values_are m word out = by_answer (λ (x : Verdict) (y : Outcome). values_in m word (output_of y out) x ≡ answer_of m word y) (λ d a. refl) (λ u. refl)
