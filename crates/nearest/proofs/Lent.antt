-- A word's parts, packed after it, are lent to the transform and to the search: what is common to both packings. Assumes nothing.
use Prim.Native.Nat.{ℕ, ◌+◌, ◌-◌, ◌*◌, ◌^◌, ◌≤◌, ◌<◌}
use mathlib.Core.Path.{◌≡◌, subst, ◌∙◌}
use mathlib.Core.Bool.{Bool}
use mathlib.Core.List.{List}
use native.Mathlib.Decide.{dec_lt}
use native.Mathlib.Omega.{arith}
use borrow.Rule.Slice.PartMut.{put_mid}
use lib.IntN.{ℤ, pos, nat_abs}
use lib.ListN.{length, take, drop, get_or-eq_default}
use Rattle.words.specs.Sum.{tabulate}
use Rattle.words.specs.SumLaws.{get_or-tabulate, length-tabulate}
use Rattle.words.specs.Parts.{part_length, at-part_of, back_length, back_below, back_within}
use Rattle.words.specs.Written.{Written}
use Rattle.area.specs.Area.{at, Bits, SameFront, word_of}
use Rattle.hadamard.specs.Correlation.{values, correlation}
use Rattle.hadamard.specs.CorrelationLaws.{correlation_ext}
use Rattle.hadamard.specs.Summable.{Summable}
use Rattle.std.specs.Prelude.{Option}
use Rattle.peaks.specs.declared.Peak.{Peak}
use Rattle.peaks.specs.Peaks.{IsPeak}
use Rattle.nearest.specs.Nearest.{Packable, PackedAfter, Searchable, places_of, searched}
use Rattle.peaks.specs.SamePeak.{peak_ext}

-- the area xs holds a word of n places, of parts of q, in its first half
pub record Layout (m k n q : ℕ) (xs : List ℤ) : Type 0 where
  pub places : n ≡ 2 ^ m
  pub part : q ≡ 2 ^ k
  pub within : q ≤ n
  pub room : length xs ≡ n + n
  pub bits : Bits n xs

-- a part of n numbers, of which the first are the correlations of f
pub record Correlated (k n : ℕ) (f : ℕ → ℤ) (ps : List ℤ) : Type 0 where
  pub long : length ps ≡ n
  pub each : (u : ℕ) → u < 2 ^ k → at ps u ≡ correlation k f u

-- a way to pack the word: its signs, and what their correlations say
pub record Packing (quarters : Bool) (m k n q : ℕ) (xs : List ℤ) : Type 0 where
  pub layout : Layout m k n q xs
  pub packable : Packable quarters q xs
  pub signs : ℕ → ℤ
  pub small : (p : ℕ) → nat_abs (signs p) * 2 ^ k < 2 ^ 31
  pub written : {ys : List ℤ} → PackedAfter quarters q xs ys → Written (pos 0) n q signs xs ys
  pub searchable : {ps : List ℤ} → Correlated k n signs ps → Searchable quarters q ps
  pub covers : places_of quarters q ≡ n
  pub whole : {ps : List ℤ} → Correlated k n signs ps → (u : ℕ) → u < n → searched quarters q ps u ≡ correlation m (values (word_of n xs)) u

module _ {b : Bool} {m k n q : ℕ} {xs : List ℤ} (t : Packing b m k n q xs) where
  -- the peak that is found is the word's
  pub found_peak :
      {ps : List ℤ} {o : Option Peak} → Correlated k n t.signs ps → IsPeak (places_of b q) (searched b q ps) o
      → IsPeak (2 ^ m) (correlation m (values (word_of (2 ^ m) xs))) o
  found_peak {ps} {o} c s =
      subst (λ (r : ℕ). IsPeak r (correlation m (values (word_of r xs))) o) t.layout.places
      (peak_ext (subst (λ (r : ℕ). IsPeak r (searched b q ps) o) t.covers s) (t.whole c))

  -- the signs stand in ys after the word, and are lent as `[n..n + q]`
  module _ {ys : List ℤ} (w : Written (pos 0) n q t.signs xs ys) where
    abbrev j : ℕ
    j = (n + q) - n

    abbrev lent : List ℤ
    lent = take j (drop n ys)

    room : n + j ≤ length ys
    room = omega (arith, w.long)

    lent-length : length lent ≡ 2 ^ k
    lent-length = omega (arith, part_length (pos 0) n j ys room)

    lent-at : (p : ℕ) → p < 2 ^ k → at lent p ≡ t.signs p
    lent-at p l = at-part_of (pos 0) n j ys room p (omega arith) ∙ w.within p (omega arith)

    pub lent_summable : Summable k lent
    lent_summable = record {
      size = lent-length;
      small = λ p. elim (dec_lt p (2 ^ k)) [
        | yes l ↦ rw (lent-at p l) (t.small p)
        | no l ↦ rw (get_or-eq_default lent (pos 0) {n = p} (omega (arith, lent-length))) (omega arith)
      ];
    }

    -- they are transformed to zs, which come back, and are searched with the room after them, as `[n..n + n]`
    module _ {zs : List ℤ} (ez : zs ≡ tabulate (2 ^ k) (correlation k (at lent))) where
      same : length zs ≡ j
      same = rw ez (omega (arith, length-tabulate (2 ^ k) (correlation k (at lent))))

      correlated : (u : ℕ) → u < 2 ^ k → at zs u ≡ correlation k t.signs u
      correlated u l = rw ez (get_or-tabulate (2 ^ k) _ (pos 0) u l) ∙ correlation_ext k (at lent) t.signs lent-at u

      abbrev back : List ℤ
      back = put_mid n j ys zs

      back_long : length back ≡ length ys
      back_long = back_length (pos 0) n j ys room zs same

      abbrev i : ℕ
      i = (n + n) - n

      back_room : n + i ≤ length back
      back_room = omega (arith, w.long, back_long)

      pub search_part : Correlated k n t.signs (take i (drop n back))
      search_part = record {
        long = omega (arith, part_length (pos 0) n i back back_room);
        each = λ u l.
            at-part_of (pos 0) n i back back_room u (omega arith) ∙ back_within (pos 0) n j ys room zs same u (omega arith) ∙ correlated u l;
      }

      -- the front is as it was
      pub front_kept : (bs : List ℤ) → length bs ≡ length (take i (drop n back)) → SameFront (2 ^ m) xs (put_mid n i back bs)
      front_kept bs e =
          let same' : length bs ≡ i = e ∙ part_length (pos 0) n i back back_room in
          record {
            long = back_length (pos 0) n i back back_room bs same' ∙ back_long ∙ w.long;
            same = λ p l.
                back_below (pos 0) n i back back_room bs same' p (omega arith) ∙ back_below (pos 0) n j ys room zs same p (omega arith)
                ∙ w.below p (omega arith);
          }
