-- The reading at order 1 from the peak of the word's correlations. Assumes nothing.
use Prim.Native.Nat.{ℕ, ◌^◌, ◌≤◌, ◌<◌}
use mathlib.Core.Path.{◌≡◌, refl, sym, ap, ◌∙◌}
use mathlib.Core.Bool.{true}
use mathlib.Core.List.{List}
use native.Mathlib.Nat.{le_refl}
use native.Mathlib.Omega.{arith}
use Rattle.std.specs.Prelude.{Option, Some, None}
use lib.IntN.{ℤ, pos}
use lib.ListN.{length, take}
use borrow.Rule.Slice.PartMut.{put_mid}
use Rattle.words.specs.Sum.{tabulate}
use Rattle.words.specs.Word.{bit}
use Rattle.area.specs.Area.{at, Bits, word_of}
use Rattle.area.proofs.AreaLaws.{bit_back, front_of, word_of_word}
use Rattle.area.specs.Numbers.{stored}
use Rattle.hadamard.specs.Correlation.{values, correlation}
use Rattle.hadamard.specs.AffineWords.{bit-affine, word_affine}
use Rattle.affine.specs.Blocks.{affine_front}
use Rattle.affine.specs.Affine.{affine_at}
use Rattle.peaks.specs.declared.Peak.{Peak}
use Rattle.peaks.specs.Peaks.{IsPeak}
use Rattle.code.specs.Code.{codeword_test}
use Rattle.code.proofs.Codewords.{codeword_of_test}
use Rattle.rule.specs.Reading.{order1}
use Rattle.rule.proofs.Nearest.{order1_codeword}
use Rattle.told.specs.Told.{Read, as_accepted, as_refused}
use Rattle.told.specs.declared.Noise.TheVariants.{Tie}
use Rattle.order_one.specs.OrderOne.{PeakOf, nearest, order1_tie, order1-nearest, constant_bit}
use Rattle.told.specs.WordPart.{lent_size}

-- a word that is a codeword already
pub codeword_read :
    (m : ℕ) {xs : List ℤ} → 1 ≤ m → Bits (2 ^ m) xs → codeword_test m 1 (word_of (2 ^ m) xs) ≡ true
    → Read (2 ^ m) (order1 m (values (word_of (2 ^ m) xs))) xs (as_accepted 0 1)
codeword_read m hm b e =
    rw (order1_codeword hm (codeword_of_test m 1 _ (word_of_word {m = m} b) e)) (record { said = refl; word = front_of b })

-- o is the peak of the word in the front of xs
pub record Peaked (m : ℕ) (xs : List ℤ) (o : Option Peak) : Type 0 where
  pub bits : Bits (2 ^ m) xs
  pub peak : IsPeak (2 ^ m) (correlation m (values (word_of (2 ^ m) xs))) o

module _ {m : ℕ} {xs : List ℤ} where
  pub peak_of : {o : Option Peak} → Peaked m xs o → PeakOf m (word_of (2 ^ m) xs) o
  peak_of k = record { word = word_of_word {m = m} k.bits; peak = k.peak }

  pub tie_read : Peaked m xs None → {ys : List ℤ} → Read (2 ^ m) (order1 m (values (word_of (2 ^ m) xs))) ys (as_refused Tie 0 1)
  tie_read k = rw (order1_tie (peak_of k)) (record { said = refl; word = tt })

  module _ {p : Peak} (k : Peaked m xs (Some p)) where
    -- the area holds it
    nearest_read :
        {ys : List ℤ} → ((q : ℕ) → q < 2 ^ m → at ys q ≡ pos (bit (nearest m (word_of (2 ^ m) xs) p) q)) → Read (2 ^ m) (order1 m (values (word_of (2 ^ m) xs))) ys (as_accepted 0 1)
    nearest_read each =
        let w = word_affine m p.mask _ in
        rw (order1-nearest (peak_of k)) (record { said = refl; word = record { size = w.size; each = each; bits = λ q l. w.bits q } })

    codeword_at : (q : ℕ) → q < 2 ^ m → affine_at p.mask (stored p.constant) q ≡ pos (bit (nearest m (word_of (2 ^ m) xs) p) q)
    codeword_at q l =
        ap (λ (z : ℤ). affine_at p.mask z q) (bit_back (constant_bit (peak_of k)) ∙ k.peak.constant)
        ∙ ap pos (sym (bit-affine m p.mask _ q l))

    -- it was written in the first n numbers of ys
    pub written_read :
        (n : ℕ) (ys : List ℤ) {zs : List ℤ} → n ≡ 2 ^ m → n ≤ length ys
        → zs ≡ tabulate (length (take n ys)) (affine_at p.mask (stored p.constant))
        → Read (2 ^ m) (order1 m (values (word_of (2 ^ m) xs))) (put_mid 0 n ys zs) (as_accepted 0 1)
    written_read n ys en room ez =
        let w = affine_front {u = p.mask} {s = stored p.constant} ys room (rw (lent_size ys (le_refl n) room) at ez) in
        nearest_read (λ q l. w.each q (omega arith) ∙ codeword_at q l)
