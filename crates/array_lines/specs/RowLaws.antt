-- Rows read and tested one after the other. Assumes nothing.
use Rattle.std.specs.Prelude.{ℕ, suc, ◌+◌, ◌-◌, ◌*◌, ◌/◌, ◌%◌, ◌^◌, ◌≤◌, ◌<◌, ◌≡◌, Bool, true, false, List, drop, length, take, ℤ}
use Rattle.std.proofs.Math.Path.{refl, sym, ap}
use Rattle.std.proofs.Common.{ap₂, subst, ◌∙◌, mul-le-mul, mul-le-mul_right, suc-mul, arith, pow-add, pow_mono}
use Rattle.std.proofs.Math.Pow.{high, low}
use borrow.Rule.Slice.PartMut.{put_mid}
use Rattle.words.specs.Parts.{at-part_of, part_length, written_part}
use Rattle.words.specs.Sum.{all_below, sum_below, total}
use Rattle.words.specs.SumLaws.{all_more, all_none, length-tabulate, some_false, sum_more, sum_most, tabulate_ext, tabulate-get_or}
use Rattle.words.specs.Word.{IsWord, bit}
use Rattle.words.proofs.WordLaws.{word_tabulate}
use Rattle.words.specs.Written.{Written, written_all, written_none, written_to}
use Rattle.code.specs.Code.{codeword_test}
use Rattle.code.specs.TestSteps.{steps_test}
use Rattle.code.proofs.TestStepLaws.{steps_test_lem}
use Rattle.rule.specs.Decoding.{output_of}
use Rattle.rule.specs.Reading.{leaves_of}
use Rattle.decoder.specs.Runs.{Runs}
use Rattle.arrays.specs.Arrays.{line_left, line_read, row, row_leaves, rows_left, rows_test}
use Rattle.arrays.proofs.Lines.{leaves_most, left_word, picked_word}
use Rattle.array_lines.specs.Asked.{Reads, RowsAsk, TestAsks}
use Rattle.array_lines.specs.LineLaws.{line_runs}

-- row i ends within the array
pub row_ends : (mr mc i : ℕ) → i < 2 ^ mc → i * 2 ^ mr + 2 ^ mr ≤ 2 ^ (mc + mr)
row_ends mr mc i l = rw (pow-add 2 mc mr) (omega (arith, mul-le-mul_right {m = suc i} {n = 2 ^ mc} (2 ^ mr) l, suc-mul i (2 ^ mr)))

part_row : (mr mc i : ℕ) (w : List ℕ) → i * 2 ^ mr + 2 ^ mr ≤ length w → take (2 ^ mr) (drop (i * 2 ^ mr) w) ≡ row mr mc w i
part_row mr mc i w room =
    sym (tabulate-get_or (2 ^ mr) (take (2 ^ mr) (drop (i * 2 ^ mr) w)) 0 (part_length 0 (i * 2 ^ mr) (2 ^ mr) w room))
    ∙ tabulate_ext (2 ^ mr) _ _ (λ j l. at-part_of 0 (i * 2 ^ mr) (2 ^ mr) w room j l)

-- row i as the code takes it: from i * n to i * n + n
module _ (mr mc : ℕ) {w : List ℕ} (hw : IsWord (mc + mr) w) {n : ℕ} (en : n ≡ 2 ^ mr) (i : ℕ) (l : i < 2 ^ mc) where
  pub row_within : i * n + n ≤ length w
  row_within = rw en (omega (arith, row_ends mr mc i l, hw.size))

  width : i * n + n - i * n ≡ 2 ^ mr
  width = omega arith

  pub row_part : take (i * n + n - i * n) (drop (i * n) w) ≡ row mr mc w i
  row_part = rw (width, en) (part_row mr mc i w (rw en at row_within))

  pub part_word : IsWord mr (take (i * n + n - i * n) (drop (i * n) w))
  part_word = subst (IsWord mr) (sym row_part) (word_tabulate mr _ (λ j lj. hw.bits (i * 2 ^ mr + j)))

-- ---- the first i rows were read: the block w, the array v, the leaf sum

pub record RowsDone (mr mc r rounds leaves : ℕ) (w : List ℕ) (i : ℕ) (v : List ℕ) (l : ℕ) : Type 0 where
  pub written : Written 0 0 (i * 2 ^ mr) (λ p. bit (line_left mr r rounds leaves (row mr mc w (p / 2 ^ mr))) (p % 2 ^ mr)) w v
  pub counted : l ≡ sum_below i (λ k. leaves_of (line_read mr r rounds leaves (row mr mc w k)))

module _ {mr mc r rounds leaves : ℕ} {w grid : List ℕ} {area : ℕ} (h : RowsAsk mr mc r rounds leaves w grid area) where
  pub rows_none : RowsDone mr mc r rounds leaves w 0 grid 0
  unfolding total
  rows_none = record { written = written_to (subst (Written 0 0 0 _ w) (sym h.copied) (written_none 0 0 _ w)) _ (omega arith); counted = refl }

  module _ {i l : ℕ} {v : List ℕ} (b : RowsDone mr mc r rounds leaves w i v l) where
    pub sum_few : i ≤ 2 ^ mc → l ≤ 64000000
    sum_few li = omega (arith, b.counted, sum_most i leaves _ (λ j lj. leaves_most mr r rounds leaves (row mr mc w j)), mul-le-mul {n₁ = i} {m₁ = leaves} {n₂ = 64} {m₂ = 1000000} (omega (arith, pow_mono {j = 6} h.few)) h.reads.limits.leaves_most)

    module _ {n : ℕ} (en : n ≡ 2 ^ mr) (li : i < 2 ^ mc) where
      -- the row stands in the array as it was received
      same_part : take (i * n + n - i * n) (drop (i * n) v) ≡ row mr mc w i
      same_part =
          rw (width mr mc h.input en i li, en)
          (part_row mr mc i v (omega (arith, b.written.long, rw en at (row_within mr mc h.input en i li)))
          ∙ tabulate_ext (2 ^ mr) _ _ (λ j lj. b.written.above (i * 2 ^ mr + j) (omega arith)))

      pub row_runs : {ys : List ℤ} → length ys ≡ area
          → Runs mr r rounds leaves (take (i * n + n - i * n) (drop (i * n) w)) (take (i * n + n - i * n) (drop (i * n) v)) ys
      row_runs {ys} e = line_runs (subst (Reads mr r rounds leaves) (sym e) h.reads) (part_word mr mc h.input en i li) (ap length same_part ∙ length-tabulate (2 ^ mr) _)

      pub rows_more : {zs : List ℕ} {l' : ℕ}
          → zs ≡ output_of (line_read mr r rounds leaves (take (i * n + n - i * n) (drop (i * n) w))) (take (i * n + n - i * n) (drop (i * n) v))
          → l' ≡ leaves_of (line_read mr r rounds leaves (take (i * n + n - i * n) (drop (i * n) w)))
          → RowsDone mr mc r rounds leaves w (i + 1) (put_mid (i * n) (i * n + n - i * n) v zs) (l + l')
      rows_more {zs} {l'} ez el =
          let here = row_part mr mc h.input en i li in
          let at = width mr mc h.input en i li in
          let left : zs ≡ line_left mr r rounds leaves (row mr mc w i) = ez ∙ rw (here, same_part) in
          record {
            written = written_to
                (written_part b.written (i * n) (i * n + n - i * n) zs (ap (λ (x : ℕ). i * x) en ∙ omega arith)
                (omega (arith, row_within mr mc h.input en i li))
                (ap length left ∙ (left_word h.reads.side rounds leaves (row mr mc w i) (picked_word mr _ h.input)).size ∙ sym at)
                (λ q lq. ap (λ (x : List ℕ). bit x q) left
                ∙ ap₂ (λ (x y : ℕ). bit (line_left mr r rounds leaves (row mr mc w x)) y) (sym (high i mr (omega arith))) (sym (low i mr (omega arith)))))
                _ (omega (arith, suc-mul i (2 ^ mr)));
            counted = ap₂ ◌+◌ b.counted (el ∙ ap (λ (x : List ℕ). leaves_of (line_read mr r rounds leaves x)) here) ∙ sym (sum_more i _);
          }

    pub rows_array : i ≡ 2 ^ mc → v ≡ rows_left mr mc r rounds leaves w
    unfolding rows_left
    rows_array e = written_all (written_to b.written _ (ap (λ (x : ℕ). x * 2 ^ mr) e ∙ sym (pow-add 2 mc mr))) h.input.size

    pub rows_leaves : i ≡ 2 ^ mc → l ≡ row_leaves mr mc r rounds leaves w
    unfolding row_leaves
    rows_leaves e = b.counted ∙ ap (λ (x : ℕ). sum_below x (λ k. leaves_of (line_read mr r rounds leaves (row mr mc w k)))) e

-- ---- the first i rows were tested, and passed

pub record RowsTested (mr mc r : ℕ) (w : List ℕ) (i : ℕ) : Type 0 where
  pub all : true ≡ all_below i (λ k. codeword_test mr r (row mr mc w k))

module _ {mr mc r : ℕ} {w : List ℕ} (h : TestAsks mr mc r w) where
  pub tested_none : RowsTested mr mc r w 0
  tested_none = record { all = all_none _ }

  module _ {n : ℕ} (en : n ≡ 2 ^ mr) (i : ℕ) (li : i < 2 ^ mc) {b : Bool} (e : b ≡ steps_test mr r (take (i * n + n - i * n) (drop (i * n) w))) where
    row_test : b ≡ codeword_test mr r (row mr mc w i)
    row_test = e ∙ steps_test_lem mr r _ (part_word mr mc h.input en i li) ∙ ap (codeword_test mr r) (row_part mr mc h.input en i li)

    pub tested_more : b ≡ true → RowsTested mr mc r w i → RowsTested mr mc r w (i + 1)
    tested_more y t = record { all = sym y ∙ row_test ∙ all_more i (λ k. codeword_test mr r (row mr mc w k)) true t.all }

    pub tested_fails : b ≡ false → false ≡ rows_test mr mc r w
    unfolding rows_test
    tested_fails y = sym (some_false (2 ^ mc) _ i li (sym row_test ∙ y))

  pub tested_all : {i : ℕ} → i ≡ 2 ^ mc → RowsTested mr mc r w i → true ≡ rows_test mr mc r w
  unfolding rows_test
  tested_all e t = rw e at t.all
