-- Columns read one after the other. Assumes nothing.
use Rattle.std.specs.Prelude.{ℕ, ◌+◌, ◌*◌, ◌/◌, ◌%◌, ◌^◌, ◌≤◌, ◌<◌, ◌≡◌, Bool, true, ◌&&◌, List, length}
use Rattle.std.proofs.Math.Path.{refl, sym, ap}
use Rattle.std.proofs.Common.{ap₂, ◌∙◌, le_refl, mod-lt, mul-le-mul, arith, pow_mono, pow_pos, shr_lt}
use Rattle.std.proofs.Math.Decide.{dec_lt, ℕ_discrete}
use Rattle.std.proofs.Math.Pow.{low, split}
use Rattle.words.specs.Sum.{all_below, sum_below, total}
use Rattle.words.specs.SumLaws.{all_ext, all_more, sum_more, sum_most, tabulate_ext, tabulate-get_or}
use Rattle.words.specs.Word.{IsWord, bit}
use Rattle.words.proofs.WordLaws.{word_of_bits}
use Rattle.code.specs.Code.{codeword_test}
use Rattle.rule.specs.Reading.{leaves_of}
use Rattle.arrays.specs.Arrays.{column, column_leaves, columns_left, columns_test, line_left, line_read}
use Rattle.arrays.proofs.Lines.{leaves_most, left_word, picked_word}
use Rattle.array_lines.specs.declared.columns.Read.{Read}
use Rattle.array_lines.specs.Asked.{ColumnAsks, ColumnRead, ColumnsAsk, ColumnsRead, column_at}
use Rattle.array_lines.specs.RowLaws.{row_ends}

-- the first k columns were read: the array w before and v now, the leaf sum, and whether each is a codeword
pub record ColumnsDone (mr mc r rounds leaves : ℕ) (w : List ℕ) (k : ℕ) (v : List ℕ) (l : ℕ) (b : Bool) : Type 0 where
  pub long : length v ≡ length w
  pub done : (i j : ℕ) → i < 2 ^ mc → j < k → bit v (i * 2 ^ mr + j) ≡ bit (line_left mc r rounds leaves (column mr mc w j)) i
  pub rest : (i j : ℕ) → i < 2 ^ mc → k ≤ j → j < 2 ^ mr → bit v (i * 2 ^ mr + j) ≡ bit w (i * 2 ^ mr + j)
  pub counted : l ≡ sum_below k (λ j. leaves_of (line_read mc r rounds leaves (column mr mc w j)))
  pub tested : b ≡ all_below k (λ j. codeword_test mc r (line_left mc r rounds leaves (column mr mc w j)))

-- places of one row are in different columns
one_column : (mr i j x y : ℕ) → j < 2 ^ mr → y < 2 ^ mr → i * 2 ^ mr + j ≡ x * 2 ^ mr + y → j ≡ y
one_column mr i j x y lj ly e = sym (low i mr lj) ∙ ap (λ (p : ℕ). p % 2 ^ mr) e ∙ low x mr ly

module _ {mr mc r rounds leaves : ℕ} {w : List ℕ} {line room area : ℕ} (h : ColumnsAsk mr mc r rounds leaves w line room area) where
  pub columns_none : ColumnsDone mr mc r rounds leaves w 0 w 0 true
  unfolding total
  columns_none = record { long = refl; done = λ i j li lj. absurd (omega arith); rest = λ i j li a b. refl; counted = refl; tested = refl }

  left_is : (j : ℕ) → IsWord mc (line_left mc r rounds leaves (column mr mc w j))
  left_is j = left_word h.reads.side rounds leaves (column mr mc w j) (picked_word mc _ h.input)

  module _ {k l : ℕ} {v : List ℕ} {b : Bool} (d : ColumnsDone mr mc r rounds leaves w k v l b) where
    pub leaves_few : k ≤ 2 ^ mr → l ≤ 64000000
    leaves_few lk =
        omega (
          arith,
          d.counted,
          sum_most k leaves _ (λ j lj. leaves_most mc r rounds leaves (column mr mc w j)),
          mul-le-mul {n₁ = k} {m₁ = leaves} {n₂ = 64} {m₂ = 1000000} (omega (arith, pow_mono {j = 6} h.few)) h.reads.limits.leaves_most,
        )

    -- the array is still one of bits
    bits_still : (q : ℕ) → bit v q < 2
    bits_still = (word_of_bits (mc + mr) v (d.long ∙ h.input.size) place).bits
      where
        place : (p : ℕ) → p < 2 ^ (mc + mr) → bit v p < 2
        place p lp =
            let i : ℕ = p / 2 ^ mr in
            let j : ℕ = p % 2 ^ mr in
            let at : i * 2 ^ mr + j ≡ p = split p mr in
            let li : i < 2 ^ mc = shr_lt mc mr lp in
            elim (dec_lt j k) [
              | yes a ↦ rw (sym (ap (bit v) at) ∙ d.done i j li a) ((left_is j).bits i)
              | no a ↦ rw (sym (ap (bit v) at) ∙ d.rest i j li (omega arith) (mod-lt p (pow_pos mr))) (h.input.bits (i * 2 ^ mr + j))
            ]

    module _ {a : ℕ} (ea : a ≡ 2 ^ mr) (lk : k < 2 ^ mr) where
      pub column_ready : (line' room' area' : ℕ) → line' ≡ line → room' ≡ room → area' ≡ area → ColumnAsks mc r rounds leaves k a v line' room' area'
      column_ready line' room' area' el er eb = record {
        reads = rw eb h.reads;
        inside = record { each = λ i li. rw ea (omega (arith, row_ends mr mc i li, d.long, h.input.size)) };
        some = omega (arith, pow_pos mr);
        bits = bits_still;
        taken = el ∙ h.taken;
        space = er ∙ h.space;
      }

      -- the column stands in the array as the rows left it
      same_column : column_at mc k a v ≡ column mr mc w k
      same_column = rw ea (tabulate_ext (2 ^ mc) _ _ (λ i li. d.rest i k li (le_refl k) lk))

      pub columns_more : {v' : List ℕ} {c : Read} → ColumnRead mc r rounds leaves k a b v v' c → ColumnsDone mr mc r rounds leaves w (k + 1) v' (l + c.leaves) c.codewords
      columns_more {v'} {c} t = record {
        long = t.array.long ∙ d.long;
        done = λ i j li lj. elim (ℕ_discrete j k) [
          | yes e ↦ rw e (ap (λ (x : ℕ). bit v' (i * x + k)) (sym ea) ∙ t.array.here i li ∙ ap (λ (x : List ℕ). bit (line_left mc r rounds leaves x) i) same_column)
          | no n ↦ t.array.other (i * 2 ^ mr + j) (λ x lx e. n (one_column mr i j x k (omega arith) lk (rw ea at e))) ∙ d.done i j li (omega arith)
        ];
        rest = λ i j li lo hi. t.array.other (i * 2 ^ mr + j) (λ x lx e. let same = one_column mr i j x k hi lk (rw ea at e) in omega arith) ∙ d.rest i j li (omega arith) hi;
        counted = ap₂ ◌+◌ d.counted (t.count ∙ ap (λ (x : List ℕ). leaves_of (line_read mc r rounds leaves x)) same_column) ∙ sym (sum_more k _);
        tested = t.test ∙ ap₂ ◌&&◌ d.tested (ap (λ (x : List ℕ). codeword_test mc r (line_left mc r rounds leaves x)) same_column)
            ∙ all_more k (λ j. codeword_test mc r (line_left mc r rounds leaves (column mr mc w j))) _ refl;
      }

    -- all were read
    module _ (e : k ≡ 2 ^ mr) where
      columns_array : v ≡ columns_left mr mc r rounds leaves w
      unfolding columns_left
      columns_array =
          sym (tabulate-get_or (2 ^ (mc + mr)) v 0 (d.long ∙ h.input.size))
          ∙ tabulate_ext (2 ^ (mc + mr)) _ _
          (λ p lp. ap (bit v) (sym (split p mr)) ∙ d.done (p / 2 ^ mr) (p % 2 ^ mr) (shr_lt mc mr lp) (rw e (mod-lt p (pow_pos mr))))

      columns_leaves : l ≡ column_leaves mr mc r rounds leaves w
      unfolding column_leaves
      columns_leaves = d.counted ∙ ap (λ (x : ℕ). sum_below x (λ j. leaves_of (line_read mc r rounds leaves (column mr mc w j)))) e

      columns_tested : b ≡ columns_test mr mc r v
      unfolding columns_test
      columns_tested =
          d.tested ∙ ap (λ (x : ℕ). all_below x (λ j. codeword_test mc r (line_left mc r rounds leaves (column mr mc w j)))) e
          ∙ all_ext (2 ^ mr) _ _ (λ j lj. ap (codeword_test mc r)
          (sym (tabulate_ext (2 ^ mc) _ _ (λ i li. d.done i j li (rw e lj)) ∙ tabulate-get_or (2 ^ mc) (line_left mc r rounds leaves (column mr mc w j)) 0 (left_is j).size)))

      pub columns_all : ColumnsRead mr mc r rounds leaves w v (record { leaves = l; codewords = b })
      columns_all = record { array = columns_array; count = columns_leaves; test = columns_tested }
