-- Calls on arrays: what is accepted, clean arrays, the leaf sum, and two calls on arrays that differ by an array of codewords. Assumes nothing.
use Prim.Native.Nat.{ℕ, ◌+◌, ◌*◌, ◌/◌, ◌%◌, ◌^◌, ◌≤◌, ◌<◌, max, min}
use Rattle.std.specs.Prelude.{◌≡◌, Bool, cond, length}
use Rattle.std.proofs.Math.Path.{refl, ap}
use Rattle.std.proofs.Common.{◌∙◌, div-add-mod', pow_mono, eq-eqb, eqb-true, le-leb, leb-true}
use Rattle.std.proofs.Math.Bool.{true, false}
use mathlib.Core.List.{List, [], ◌++◌}
use Rattle.std.proofs.Math.Nat.{mul-le-mul}
use native.Mathlib.Omega.{arith}
use Rattle.words.specs.SumLaws.{bit_tabulate, sum_most, sum_same, tabulate_ext, tabulate-get_or}
use Rattle.words.specs.Word.{IsWord, add_words, bit}
use Rattle.words.proofs.WordLaws.{add_cancel}
use Rattle.refusals.proofs.CheckLaws.{bits_pass, bits_tested, passed, passes, rest_passes}
use Rattle.refusals.specs.Refusals.{Check, first_refusal}
use Rattle.rule.specs.Counts.{most_leaves}
use Rattle.rule.specs.Decoding.{after, limit_checks}
use Rattle.rule.proofs.DecodingLaws.{after_cases, after-shift}
use Rattle.rule.specs.Outcomes.{shift}
use Rattle.rule.specs.Reading.{Outcome, accepted, leaves_of, refused}
use Rattle.arrays.specs.Arrays.{IsArray, array, array_buffers, array_call, array_limits, array_read, array_test, column, column_leaves, columns_left, row, row_leaves, rows_left, side_checks}
use Rattle.arrays.proofs.ArrayLaws.{array_of_test, array_read_add, column_of, columns_word, row_of, rows_word, test_of_array}
use Rattle.arrays.specs.IsSide.{IsSide}
use Rattle.arrays.proofs.Lines.{leaves_clean, leaves_most, left_clean}
use Rattle.arrays.specs.ArraySizes.{Passed, RightArray, Sound}

-- ---- the limits

pub side_passed : (m r : ℕ) (cs : List Check) → first_refusal (side_checks m r ++ cs) ≡ 0 → IsSide m r × (first_refusal cs ≡ 0)
side_passed m r cs e =
    let one = passed 0 _ _ e in
    let three = passed 26 _ _ (passed 0 _ _ one.1).1 in
    let four = passed 1 _ _ three.1 in
    (record { some = leb-true 1 m one.0; most = leb-true m 6 three.0; order = leb-true r m four.0 }, four.1)

pub all_passed : (mr rr mc rc rounds leaves : ℕ) (cs : List Check) → first_refusal (array_limits mr rr mc rc rounds leaves ++ cs) ≡ 0
    → Passed mr rr mc rc rounds leaves × (first_refusal cs ≡ 0)
all_passed mr rr mc rc rounds leaves cs e =
    let across = side_passed mr rr (side_checks mc rc ++ limit_checks rounds leaves ++ cs) e in
    let down = side_passed mc rc (limit_checks rounds leaves ++ cs) across.1 in
    let least = passed 2 _ _ down.1 in
    let most = passed 2 _ _ least.1 in
    let few = passed 3 _ _ most.1 in
    let last = passed 3 _ _ few.1 in (
      record {
        across = across.0;
        down = down.0;
        limits = record {
          rounds_least = leb-true 1 rounds least.0;
          rounds_most = leb-true rounds 16 most.0;
          leaves_least = leb-true 1 leaves few.0;
          leaves_most = leb-true leaves 1000000 last.0;
        };
      },
      last.1,
    )

pub array_sized : {mr mc : ℕ} {word : List ℕ} {room area : ℕ} → first_refusal (array_buffers mr mc word room area) ≡ 0 → RightArray mr mc word room area
array_sized {mr} {mc} {word} {room} {area} e =
    let five = passed 4 _ _ e in
    let six = passed 5 _ _ five.1 in
    let seven = passed 6 _ _ six.1 in
    record {
      input = record { size = eqb-true (length word) (2 ^ (mc + mr)) five.0; bits = bits_tested word (passed 7 _ _ seven.1).0 };
      output = eqb-true room (2 ^ (mc + mr)) six.0;
      lent = leb-true (8 * 2 ^ max mr mc) area seven.0;
    }

few : {m r : ℕ} → IsSide m r → 2 ^ m ≤ 64
few s = pow_mono {j = 6} s.most

module _ {mr rr mc rc rounds leaves : ℕ} (p : Passed mr rr mc rc rounds leaves) where
  -- ---- a clean array

  module _ {w : List ℕ} (h : IsArray mr rr mc rc w) where
    unchanged : array mr mc (λ i j. bit w (i * 2 ^ mr + j)) ≡ w
    unchanged = tabulate_ext (2 ^ (mc + mr)) _ _ (λ q l. ap (bit w) (div-add-mod' q (2 ^ mr))) ∙ tabulate-get_or (2 ^ (mc + mr)) w 0 h.word.size

    rows_clean : rows_left mr mc rr rounds leaves w ≡ w
    unfolding rows_left
    rows_clean =
        tabulate_ext (2 ^ (mc + mr)) _ _ (λ q l. ap (λ (v : List ℕ). bit v (q % 2 ^ mr))
        (left_clean p.across rounds leaves p.limits.rounds_least (row mr mc w (q / 2 ^ mr)) (h.rows (q / 2 ^ mr) (row_of mr mc q l)))
        ∙ bit_tabulate (2 ^ mr) _ (q % 2 ^ mr) (column_of mr mc q))
        ∙ unchanged

    columns_clean : columns_left mr mc rc rounds leaves w ≡ w
    unfolding columns_left
    columns_clean =
        tabulate_ext (2 ^ (mc + mr)) _ _ (λ q l. ap (λ (v : List ℕ). bit v (q / 2 ^ mr))
        (left_clean p.down rounds leaves p.limits.rounds_least (column mr mc w (q % 2 ^ mr)) (h.columns (q % 2 ^ mr) (column_of mr mc q)))
        ∙ bit_tabulate (2 ^ mc) _ (q / 2 ^ mr) (row_of mr mc q l))
        ∙ unchanged

    -- an array of codewords is accepted as it came, also where readings are refused 12
    pub clean_array : array_read mr rr mc rc rounds leaves w ≡ accepted w 0 (2 ^ mc * min (most_leaves rr mr 1) leaves + 2 ^ mr * min (most_leaves rc mc 1) leaves)
    unfolding array_read row_leaves column_leaves
    clean_array =
        rw (
          rows_clean,
          columns_clean,
          test_of_array h,
          sum_same (2 ^ mc) (min (most_leaves rr mr 1) leaves) _ (λ i l. leaves_clean p.across rounds leaves p.limits.rounds_least (row mr mc w i) (h.rows i l)),
          sum_same (2 ^ mr) (min (most_leaves rc mc 1) leaves) _ (λ j l. leaves_clean p.down rounds leaves p.limits.rounds_least (column mr mc w j) (h.columns j l)),
        )

  -- ---- what is accepted is an array of codewords

  array_sound : {w : List ℕ} → IsWord (mc + mr) w → Sound mr rr mc rc (array_read mr rr mc rc rounds leaves w)
  unfolding array_read
  array_sound {w} hw =
      let v : List ℕ = rows_left mr mc rr rounds leaves w in
      go (columns_left mr mc rc rounds leaves v) (columns_word p.across p.down rounds leaves v (rows_word p.across p.down rounds leaves w hw)) _
      (array_test mr rr mc rc (columns_left mr mc rc rounds leaves v)) refl
    where
      go : (d : List ℕ) → IsWord (mc + mr) d → (l : ℕ) (t : Bool) → array_test mr rr mc rc d ≡ t → Sound mr rr mc rc (cond t (accepted d 0 l) (refused 28 0 l))
      go d hd l true e = array_of_test hd e
      go d hd l false e = omega arith

  -- ---- the leaf sum

  read_leaves : (w : List ℕ) → leaves_of (array_read mr rr mc rc rounds leaves w)
      ≡ row_leaves mr mc rr rounds leaves w + column_leaves mr mc rc rounds leaves (rows_left mr mc rr rounds leaves w)
  unfolding array_read
  read_leaves w = go _ _ (array_test mr rr mc rc (columns_left mr mc rc rounds leaves (rows_left mr mc rr rounds leaves w)))
    where
      go : (d : List ℕ) (l : ℕ) (t : Bool) → leaves_of (cond t (accepted d 0 l) (refused 28 0 l)) ≡ l
      go d l true = refl
      go d l false = refl

  pub rows_most : (w : List ℕ) → row_leaves mr mc rr rounds leaves w ≤ 64000000
  unfolding row_leaves
  rows_most w = omega (arith, sum_most (2 ^ mc) leaves _ (λ i l. leaves_most mr rr rounds leaves (row mr mc w i)), mul-le-mul {n₁ = 2 ^ mc} {m₁ = leaves} (few p.down) p.limits.leaves_most)

  pub columns_most : (w : List ℕ) → column_leaves mr mc rc rounds leaves w ≤ 64000000
  unfolding column_leaves
  columns_most w = omega (arith, sum_most (2 ^ mr) leaves _ (λ j l. leaves_most mc rc rounds leaves (column mr mc w j)), mul-le-mul {n₁ = 2 ^ mr} {m₁ = leaves} (few p.across) p.limits.leaves_most)

-- ---- calls

module _ (mr rr mc rc rounds leaves : ℕ) where
  abbrev limits : List Check
  limits = array_limits mr rr mc rc rounds leaves

  -- of any call
  pub call_sound : (word : List ℕ) (room area : ℕ) → Sound mr rr mc rc (array_call mr rr mc rc rounds leaves word room area)
  unfolding array_call
  call_sound word room area =
      after_cases (limits ++ array_buffers mr mc word room area) (array_read mr rr mc rc rounds leaves word) (Sound mr rr mc rc)
      (λ e. let p = all_passed mr rr mc rc rounds leaves (array_buffers mr mc word room area) e in array_sound p.0 (array_sized p.1).input) (λ e. e)

  -- "with the summed leaf count", which 27 bits hold
  pub leaf_sum : (word : List ℕ) (room area : ℕ) → leaves_of (array_call mr rr mc rc rounds leaves word room area) < 2 ^ 27
  unfolding array_call
  leaf_sum word room area =
      after_cases (limits ++ array_buffers mr mc word room area) (array_read mr rr mc rc rounds leaves word) (λ (o : Outcome). leaves_of o < 2 ^ 27)
      (λ e. let p = (all_passed mr rr mc rc rounds leaves (array_buffers mr mc word room area) e).0 in omega (arith, read_leaves p word, rows_most p word, columns_most p (rows_left mr mc rr rounds leaves word)))
      (λ e. omega arith)

  array_call_is : {word : List ℕ} {room area : ℕ} → RightArray mr mc word room area
      → array_call mr rr mc rc rounds leaves word room area ≡ after limits (array_read mr rr mc rc rounds leaves word)
  unfolding array_call after
  array_call_is {word} {room} {area} h =
      rw (rest_passes limits (array_buffers mr mc word room area)
      (passes _ _ _ (eq-eqb (length word) (2 ^ (mc + mr)) h.input.size)
      (passes _ _ _ (eq-eqb room (2 ^ (mc + mr)) h.output)
      (passes _ _ _ (le-leb (8 * 2 ^ max mr mc) area h.lent)
      (bits_pass word h.input.bits)))))

  -- "Arrays differing by such an array of codewords, called as in demand 3, get the same refusal or outputs that differ by it, and equal leaf
  -- counts": under any limits, in areas of any length
  pub arrays_alike : {w w' : List ℕ} {room area room' area' : ℕ} → RightArray mr mc w room area → RightArray mr mc w' room' area' → IsArray mr rr mc rc (add_words w w')
      → array_call mr rr mc rc rounds leaves w' room' area' ≡ shift (add_words w w') (array_call mr rr mc rc rounds leaves w room area)
  arrays_alike {w} {w'} h h' hc =
      rw (array_call_is h, array_call_is h')
      (after-shift limits (add_words w w') (array_read mr rr mc rc rounds leaves w) (array_read mr rr mc rc rounds leaves w')
      (λ e. let p : Passed mr rr mc rc rounds leaves = (all_passed mr rr mc rc rounds leaves [] e).0 in
      ap (array_read mr rr mc rc rounds leaves) (add_cancel h.input h'.input)
      ∙ array_read_add p.across p.down rounds leaves w (add_words w w') h.input hc))
