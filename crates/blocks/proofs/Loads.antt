-- The quads of a block in the area, eight after eight. Assumes nothing.
use Prim.Native.Nat.{ℕ, ◌+◌, ◌-◌, ◌*◌, ◌^◌, ◌≤◌, ◌<◌}
use mathlib.Core.Path.{◌≡◌, refl, sym, ap, subst, ◌∙◌}
use mathlib.Core.Logic.{⊎_elim}
use mathlib.Core.List.{List, ◌++◌, append-nil}
use native.Mathlib.Nat.{add-zero, mul-le-mul_right}
use native.Mathlib.Omega.{arith}
use lib.IntN.{ℤ, pos, nat_abs}
use lib.ListN.{length, take, drop, drop_of_length-le, get_or-eq_default}
use lib.Pow.{pow_mono}
use lib.Seq.{take_at}
use borrow.Rule.Slice.PartMut.{put_mid}
use Rattle.words.specs.Parts.{back_length}
use Rattle.words.specs.Blocks.{block_fits, blocks_more, blocks_none}
use Rattle.words.specs.Butterflies.{Blocked, BlocksDone, Entries, halved}
use Rattle.words.specs.ButterflyLaws.{length-halved}
use Rattle.words.specs.Levels.{halved_keeps, transformed_blocks, whole_blocks}
use Rattle.words.specs.Sum.{tabulate}
use Rattle.words.specs.SumLaws.{get_or-tabulate, le_or_lt, length-tabulate, tabulate_ext}
use Rattle.words.specs.Written.{Written, written_run}
use Rattle.words.specs.Word.{bit}
use Rattle.area.specs.Area.{at, four_of}
use Rattle.area.proofs.AreaLaws.{four_as}
use Rattle.area.specs.Numbers.{stored, stored-eq}
use Rattle.correlations.specs.Begun.{Blockwise}
use Rattle.hadamard.specs.Correlation.{correlation}
use Rattle.hadamard.specs.CorrelationLaws.{correlation_ext}
use Rattle.hadamard.specs.Summable.{Summable}
use Rattle.hadamard.specs.Transform.{sums, summable_entries}
use Rattle.quads.specs.QuadLaws.{signs_size}
use Rattle.byte_quads.specs.ByteQuads.{quad_at}
use Rattle.blocks.specs.Blocks.{Loaded, quads_of}
use Rattle.blocks.proofs.Rows.{front_more, front_rest, part_is, written_lent, written_over}

-- ---- quads are small

at_small : (w : List ℕ) (i : ℕ) → nat_abs (quad_at w i) ≤ 16843009
at_small w i = signs_size (bit w (4 * i)) (bit w (4 * i + 1)) (bit w (4 * i + 2)) (bit w (4 * i + 3))

summed_fits : (k x : ℕ) → k ≤ 5 → x ≤ 16843009 → x * 2 ^ k < 2 ^ 31
summed_fits k x l h = omega (arith, mul-le-mul_right (2 ^ k) h, pow_mono l)

-- so 2 ^ k of them can be summed
small_summable : (k : ℕ) (f : ℕ → ℤ) → k ≤ 5 → ((p : ℕ) → nat_abs (f p) ≤ 16843009) → Summable k (tabulate (2 ^ k) f)
small_summable k f l small = record {
  size = length-tabulate (2 ^ k) f;
  small = λ i. ⊎_elim
      (λ (h : 2 ^ k ≤ i).
      rw (get_or-eq_default (tabulate (2 ^ k) f) (pos 0) {n = i} (rw length-tabulate h)) (summed_fits k 0 l (omega arith)))
      (λ (h : i < 2 ^ k). rw (get_or-tabulate (2 ^ k) f (pos 0) i h) (summed_fits k _ l (small i)))
      (le_or_lt (2 ^ k) i);
}

-- ---- eight quads from place i on

abbrev eight_at : List ℕ → ℕ → ℕ → ℤ
eight_at w i k = quad_at w (i + k)

-- transformed
abbrev transformed_at : List ℕ → ℕ → List ℤ
transformed_at w i = halved sums 3 (tabulate 8 (eight_at w i))

transformed_length : (w : List ℕ) (i : ℕ) → length (transformed_at w i) ≡ 8
transformed_length w i = length-halved sums 3 (tabulate 8 (eight_at w i)) (length-tabulate 8 (eight_at w i))

-- ys is xs with the eight quads written
abbrev pub EightWritten : List ℕ → ℕ → List ℤ → List ℤ → Type 0
EightWritten w i xs ys = Written (pos 0) i 8 (eight_at w i) xs ys

module _ (w : List ℕ) (i : ℕ) (xs : List ℤ) (room : i + 8 ≤ length xs) where
  abbrev Quad : ℕ → ℤ → Type 0
  Quad j z = z ≡ quad_at w j

  held : {z : ℤ} (j : ℕ) → Quad j z → stored z ≡ quad_at w j
  held {z} j e = stored-eq z (rw e (omega (arith, at_small w j))) ∙ e

  pub eight_written :
      {a b c d e f g h : ℤ} {ys zs : List ℤ} → Quad i a → Quad (i + 1) b → Quad (i + 2) c → Quad (i + 3) d
      → Quad (i + 4) e → Quad (i + 5) f → Quad (i + 6) g → Quad (i + 7) h
      → Written (pos 0) i 4 (four_of (stored a) (stored b) (stored c) (stored d)) xs ys
      → Written (pos 0) (i + 4) 4 (four_of (stored e) (stored f) (stored g) (stored h)) ys zs → EightWritten w i xs zs
  eight_written ea eb ec ed ee ef eg eh u v =
      written_run (four_as u (rw (add-zero i) (held i ea)) (held (i + 1) eb) (held (i + 2) ec) (held (i + 3) ed))
      (four_as {f = λ (q : ℕ). eight_at w i (4 + q)} v (held (i + 4) ee) (held (i + 5) ef) (held (i + 6) eg) (held (i + 7) eh))
      refl (λ q l. refl)

  -- lent to be transformed, and back
  module _ {ys : List ℤ} (v : EightWritten w i xs ys) where
    cut : i + 8 - i ≡ 8
    cut = omega arith

    pub eight_lent : Entries sums 8 3 (take (i + 8 - i) (drop i ys))
    eight_lent = rw (cut, written_lent v room) (summable_entries (small_summable 3 (eight_at w i) (omega arith) (λ p. at_small w (i + p))))

    pub eight_back :
        {zs : List ℤ} → zs ≡ halved sums 3 (take (i + 8 - i) (drop i ys)) → put_mid i (i + 8 - i) ys zs ≡ put_mid i 8 xs (transformed_at w i)
    eight_back ez = rw (ez, cut, written_lent v room) (written_over v room (transformed_at w i))

  pub eight_length : length (put_mid i 8 xs (transformed_at w i)) ≡ length xs
  eight_length = back_length (pos 0) i 8 xs room (transformed_at w i) (transformed_length w i)

-- ---- a block of them, eight after eight

module _ (k : ℕ) (w : List ℕ) where
  many : length (quads_of k w) ≡ 2 ^ k
  many = length-tabulate (2 ^ k) (quad_at w)

  pub load_none : (area : List ℤ) → Loaded k w 0 area
  load_none area = record { within = omega arith; done = blocks_none (halved sums 3) 8 (quads_of k w) }

  -- all are in the area
  pub load_all : {i : ℕ} {area : List ℤ} → Loaded k w i area → 2 ^ k ≤ i → Loaded k w (2 ^ k) area
  load_all {i} {area} d l = subst (λ (j : ℕ). Loaded k w j area) (omega (arith, d.done.within, many)) d

  module _ (some : 3 ≤ k) (few : k ≤ 5) where
    block_summable : Summable k (quads_of k w)
    block_summable = small_summable k (quad_at w) few (at_small w)

    entries : Entries sums (2 ^ k) k (quads_of k w)
    entries = summable_entries block_summable

    eights : Blocked sums 8 3 (quads_of k w)
    eights = whole_blocks sums entries 3 3 some some

    module _ {i : ℕ} {area : List ℤ} (d : Loaded k w i area) (l : i < 2 ^ k) where
      inside : i < length (quads_of k w)
      inside = omega (arith, many)

      pub load_fits : i + 8 ≤ 2 ^ k
      load_fits = omega (arith, block_fits (halved_keeps sums 3) eights d.done inside, many)

      -- the next eight
      next : take 8 (drop i (take i area ++ drop i (quads_of k w))) ≡ tabulate 8 (eight_at w i)
      next =
          ap (take 8) (front_rest i area (quads_of k w) d.within)
          ∙ part_is (pos 0) i 8 (quads_of k w) (eight_at w i) (omega (arith, load_fits, many))
          (λ q h. get_or-tabulate (2 ^ k) (quad_at w) (pos 0) (i + q) (omega (arith, load_fits)))

      pub load_more : 2 ^ k ≤ length area → {new : List ℤ} → new ≡ put_mid i 8 area (transformed_at w i) → Loaded k w (i + 8) new
      load_more room e =
          let fits : i + 8 ≤ length area = omega (arith, load_fits) in
          rw e record {
            within = omega (arith, eight_length w i area fits);
            done =
                subst (BlocksDone (halved sums 3) 8 (i + 8) (quads_of k w))
                (front_more i area (quads_of k w) d.within 8 (transformed_at w i) (transformed_length w i))
                (blocks_more (halved_keeps sums 3) eights d.done inside (i + 8) 8 refl refl (sym (ap (halved sums 3) next)));
          }

    -- ---- the levels after them

    module _ {area : List ℤ} (d : Loaded k w (2 ^ k) area) {q : ℕ} (e : q ≡ 2 ^ k) where
      whole : take (2 ^ k) area ++ drop (2 ^ k) (quads_of k w) ≡ take (q - 0) area
      whole =
          let n : q - 0 ≡ 2 ^ k = omega arith in
          rw (drop_of_length-le (quads_of k w) {i = 2 ^ k} (omega (arith, many)), n) (append-nil (take (2 ^ k) area))

      pub eights_done : Blockwise 8 k (quads_of k w) (take (q - 0) area)
      eights_done = record {
        summable = block_summable;
        transformed = transformed_blocks sums entries 3 some (rw (many, ← whole) d.done);
      }

      pub correlated :
          {zs : List ℤ} → zs ≡ tabulate (2 ^ k) (correlation k (at (quads_of k w)))
          → take (2 ^ k) (put_mid 0 (q - 0) area zs) ≡ tabulate (2 ^ k) (correlation k (quad_at w))
      correlated {zs} ez =
          take_at zs (drop (q - 0) area) (2 ^ k) (ap length ez ∙ length-tabulate (2 ^ k) _) ∙ ez
          ∙ tabulate_ext (2 ^ k) _ _ (λ u l. correlation_ext k (at (quads_of k w)) (quad_at w) (get_or-tabulate (2 ^ k) (quad_at w) (pos 0)) u)
