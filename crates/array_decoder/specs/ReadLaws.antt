-- A call that passed its checks: the rows, the columns, the test, and what is delivered. Assumes nothing.
use Rattle.std.specs.Prelude.{ℕ, ◌+◌, ◌-◌, ◌*◌, ◌^◌, ◌≤◌, ◌≡◌, refl, Bool, true, false, cond, ◌&&◌, List, length, replicate, take, ℤ, pos, Ok, Err}
use Rattle.std.proofs.Common.{sym, ap, ap₂, subst, ◌∙◌, mul-le-mul_left, arith, pow_mono}
use Rattle.std.proofs.Math.Nat.{le-max_left, le-max_right}
use Rattle.words.specs.Parts.{front_length}
use Rattle.words.specs.Word.{IsWord}
use Rattle.refusals.proofs.CheckLaws.{other_place}
use Rattle.refusals.specs.declared.Refusal.TheVariants.{NotArray}
use Rattle.rule.specs.Decoding.{zeros}
use Rattle.rule.specs.Reading.{accepted, refused}
use Rattle.arrays.proofs.ArrayCalls.{columns_most, rows_most}
use Rattle.arrays.proofs.ArrayLaws.{columns_word, rows_word}
use Rattle.arrays.specs.Arrays.{array_read, array_test, column_leaves, columns_left, row_leaves, rows_left, rows_test}
use Rattle.array_decoder.specs.Calls.{ArrayDecoded, DecodesArray, array_leaves, array_number, array_place}
use Rattle.array_lines.specs.declared.columns.Read.{Read}
use Rattle.array_lines.specs.Asked.{ColumnsAsk, ColumnsRead, RowsAsk, TestAsks}
use Rattle.array_decoder.specs.Asked.{CallAsks, LinesAsk, LinesRead}

-- what is delivered of an array u that passes the test or not
by_test : (b : Bool) {word out out' : List ℕ} {area area' : List ℤ} {d : ArrayDecoded} (u : List ℕ) (l : ℕ) → d ≡ cond b (Ok l) (Err record { why = NotArray; leaves = l }) → out' ≡ cond b u out → area' ≡ zeros area
    → DecodesArray (cond b (accepted u 0 l) (refused 28 0 l)) word out out' area area' d
by_test true {word} u l e o a = record {
  number = ap array_number e;
  leaves = ap array_leaves e;
  place = ap array_place e ∙ sym (other_place word 0 (λ z. omega arith));
  output = o;
  lent = a;
}
by_test false {word} u l e o a = record {
  number = ap array_number e;
  leaves = ap array_leaves e;
  place = ap array_place e ∙ sym (other_place word 28 (λ z. omega arith));
  output = o;
  lent = a;
}

-- ---- the lines

module _ {mr rr mc rc rounds leaves : ℕ} {w grid : List ℕ} {area : ℕ} (h : LinesAsk mr rr mc rc rounds leaves w grid area) where
  pub row_lent : 8 * 2 ^ mr ≤ area
  row_lent = omega (arith, h.lent, mul-le-mul_left 8 (pow_mono (le-max_left mr mc)))

  pub column_lent : 8 * 2 ^ mc ≤ area
  column_lent = omega (arith, h.lent, mul-le-mul_left 8 (pow_mono (le-max_right mr mc)))

  -- the front of the area is lent
  pub rows_ask : (ys : List ℤ) {n : ℕ} → length ys ≡ area → n ≡ 2 ^ mr → RowsAsk mr mc rr rounds leaves w grid (length (take (8 * n - 0) ys))
  rows_ask ys {n} ey en = record {
    reads = record { side = h.passed.across; limits = h.passed.limits; lent = omega (arith, front_length (8 * n) ys (omega (arith, row_lent))) };
    few = h.passed.down.most;
    input = h.input;
    copied = h.copied;
  }

  module _ {v : List ℕ} (ev : v ≡ rows_left mr mc rr rounds leaves w) where
    pub columns_ask : (ys : List ℤ) {n : ℕ} → length ys ≡ area → n ≡ 2 ^ mc → ColumnsAsk mr mc rc rounds leaves v (2 ^ mc) (2 ^ mc) (length (take (8 * n - 0) ys))
    columns_ask ys {n} ey en = record {
      reads = record { side = h.passed.down; limits = h.passed.limits; lent = omega (arith, front_length (8 * n) ys (omega (arith, column_lent))) };
      few = h.passed.across.most;
      input = subst (IsWord (mc + mr)) (sym ev) (rows_word h.passed.across h.passed.down rounds leaves w h.input);
      taken = refl;
      space = refl;
    }

    module _ {u : List ℕ} {c : Read} (r : ColumnsRead mr mc rc rounds leaves v u c) {l : ℕ} (el : l ≡ row_leaves mr mc rr rounds leaves w) where
      pub leaves_fit : l + c.leaves ≤ 128000000
      leaves_fit = omega (arith, r.count, rows_most h.passed w, columns_most h.passed v)

      pub lines_read : LinesRead mr rr mc rc rounds leaves w u (record { leaves = l + c.leaves; codewords = c.codewords })
      lines_read = record {
        array = r.array ∙ ap (columns_left mr mc rc rounds leaves) ev;
        count = ap₂ ◌+◌ el (r.count ∙ ap (column_leaves mr mc rc rounds leaves) ev);
        test = r.test;
      }

-- ---- the call

module _ {mr rr mc rc rounds leaves : ℕ} {w : List ℕ} {copy room area : ℕ} (h : CallAsks mr rr mc rc rounds leaves w copy room area) where
  pub lines_ask : {grid : List ℕ} → grid ≡ w → LinesAsk mr rr mc rc rounds leaves w grid area
  lines_ask e = record { passed = h.passed; input = h.sizes.input; copied = e; lent = h.sizes.lent }

  module _ {u : List ℕ} {c : Read} (r : LinesRead mr rr mc rc rounds leaves w u c) where
    pub test_asks : TestAsks mr mc rr u
    test_asks = record {
      short = h.passed.across.most;
      few = h.passed.down.most;
      order = h.passed.across.order;
      input = subst (IsWord (mc + mr)) (sym r.array)
          (columns_word h.passed.across h.passed.down rounds leaves _ (rows_word h.passed.across h.passed.down rounds leaves w h.sizes.input));
    }

    read_is : {t : Bool} → t ≡ rows_test mr mc rr u → array_read mr rr mc rc rounds leaves w ≡ cond (t && c.codewords) (accepted u 0 c.leaves) (refused 28 0 c.leaves)
    unfolding array_read array_test
    read_is et = rw (et, r.test, r.count, r.array)

    pub delivered : {t : Bool} {out out' : List ℕ} {ys ys' : List ℤ} {d : ArrayDecoded} (k : ℕ) → t ≡ rows_test mr mc rr u
        → (d ≡ cond (t && c.codewords) (Ok c.leaves) (Err record { why = NotArray; leaves = c.leaves })) × (out' ≡ cond (t && c.codewords) u out)
        → ys' ≡ replicate k (pos 0) → length ys ≡ k → DecodesArray (array_read mr rr mc rc rounds leaves w) w out out' ys ys' d
    delivered {t} k et e ea ek = rw (read_is et) (by_test (t && c.codewords) u c.leaves e.0 e.1 (ea ∙ ap (λ (n : ℕ). replicate n (pos 0)) (sym ek)))
