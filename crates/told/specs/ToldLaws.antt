-- Laws of what a reading tells. Assumes nothing.
use Rattle.std.specs.Prelude.{ℕ, ◌^◌, ◌≤◌, ◌<◌, ◌≡◌, refl, true, false, List, ℤ, pos, replicate}
use Rattle.std.proofs.Common.{arith, sym, subst, ◌∙◌}
use Rattle.std.proofs.lemmas.Bool.{false≢true}
use Rattle.std.proofs.lemmas.List.{get_or-replicate}
use Rattle.words.specs.SumLaws.{bit_tabulate, length-tabulate}
use Rattle.refusals.specs.Refusals.{area_kept}
use Rattle.rule.specs.Reading.{Outcome, accepted, constant, leaves_of}
use Rattle.rule.specs.Decoding.{limited}
use Rattle.rule.proofs.DecodingLaws.{limited_above, limited_within}
use Rattle.told.specs.Told.{noise_number, numbers_of, Verdict, as_accepted, as_refused, numbers_in, Holds, Read, Kept}
use Rattle.told.specs.declared.Noise.{Noise}
use Rattle.told.specs.declared.Noise.TheVariants.{Tie, Flipping, Unsettled, TooManyLeaves, Erased}
use Rattle.told.specs.declared.Told.{Told}

-- the noise is 9 and above
pub noise_number_lem : (why : Noise) → 9 ≤ noise_number why
noise_number_lem Tie = omega arith
noise_number_lem Flipping = omega arith
noise_number_lem Unsettled = omega arith
noise_number_lem TooManyLeaves = omega arith
noise_number_lem Erased = omega arith

-- and the area is all zero after it
pub noise_clears : (why : Noise) → area_kept (noise_number why) ≡ false
noise_clears Tie = refl
noise_clears Flipping = refl
noise_clears Unsettled = refl
noise_clears TooManyLeaves = refl
noise_clears Erased = refl

-- an answer that says nothing of the word given
module _ {a : Verdict} {t : Told} (e : (t.answer ≡ a) × (t.kept ≡ false)) where
  pub changed_kept : {P : Type 0} → t.kept ≡ true → P
  changed_kept q = absurd (false≢true (sym e.1 ∙ q))

module _ {n : ℕ} {a : Verdict} {ys : List ℤ} {t : Told} (e : (t.answer ≡ a) × (t.kept ≡ false)) where
  pub changed_reads : {o : Outcome} → Read n o ys a → Read n o ys t.answer
  changed_reads {o} read = subst (Read n o ys) (sym e.0) read

  pub changed_keeps : {xs : List ℤ} → Kept n xs ys t
  changed_keeps = record { same = changed_kept e }

  pub changed_tells : {o : Outcome} {xs : List ℤ} → Read n o ys a → Read n o ys t.answer × Kept n xs ys t
  changed_tells read = (changed_reads read, changed_keeps)

-- an area of one value throughout
pub constant_read : (m : ℕ) {v k : ℕ} {ys : List ℤ} → v < 2 → k ≡ 2 ^ m → ys ≡ replicate k (pos v) → Read (2 ^ m) (accepted (constant m v) 0 0) ys (as_accepted 0 0)
constant_read m {v} {k} {ys} h ek e = record {
  said = refl;
  word = record {
    size = length-tabulate (2 ^ m) _;
    each = λ p l. rw (e, bit_tabulate (2 ^ m) (λ q. v) p l) (get_or-replicate k p (pos v) (pos 0) (omega arith));
    bits = λ p l. rw (bit_tabulate (2 ^ m) (λ q. v) p l) h;
  };
}

-- ---- under a leaf limit

module _ {n left : ℕ} (ys : List ℤ) (o : Outcome) where
  pub read_within : {a : Verdict} → leaves_of o ≤ left → numbers_in a ≡ numbers_of o → Holds n o ys → Read n (limited left o) ys a
  read_within h e w = rw (limited_within left o h) (record { said = e; word = w })

  pub read_above : left < leaves_of o → Read n (limited left o) ys (as_refused TooManyLeaves 0 left)
  read_above h = rw (limited_above left o h) (record { said = refl; word = tt })
