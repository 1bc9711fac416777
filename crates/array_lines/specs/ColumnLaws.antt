-- One column read: gathered, decoded, and scattered where it is accepted. Assumes nothing.
use Rattle.std.specs.Prelude.{ℕ, ◌+◌, ◌*◌, ◌^◌, ◌≡◌, refl, Bool, ◌&&◌, List, length, ℤ}
use Rattle.std.proofs.Common.{sym, ap, subst, ◌∙◌, arith}
use Rattle.std.proofs.Math.Bool.{and-true}
use Rattle.words.specs.Sum.{tabulate}
use Rattle.words.specs.SumLaws.{bit_tabulate}
use Rattle.words.specs.Word.{IsWord, bit}
use Rattle.words.proofs.WordLaws.{word_tabulate}
use Rattle.code.specs.Code.{codeword_test}
use Rattle.code.specs.TestSteps.{steps_test}
use Rattle.code.proofs.TestStepLaws.{steps_test_lem}
use Rattle.rule.specs.Decoding.{output_of}
use Rattle.rule.specs.Reading.{leaves_of}
use Rattle.decoder.specs.Runs.{Runs}
use Rattle.arrays.specs.Arrays.{line_left, line_read}
use Rattle.array_lines.specs.Asked.{ColumnAsks, ColumnRead, Inside, PutAsks, Reads, column_at}
use Rattle.array_lines.specs.LineLaws.{LineTaken, line_runs}
use Rattle.array_lines.specs.Scattered.{Scattered}

module _ {m r rounds leaves j a : ℕ} {grid : List ℕ} {line room area : ℕ} (h : ColumnAsks m r rounds leaves j a grid line room area) where
  pub column_inside : (n : ℕ) → n ≡ 2 ^ m → Inside j a n (length grid)
  column_inside n e = rw e h.inside

  -- what was gathered
  module _ (given : List ℕ) (g : given ≡ tabulate line (λ i. bit grid (i * a + j))) where
    column_is : given ≡ column_at m j a grid
    column_is = g ∙ ap (λ (n : ℕ). tabulate n (λ i. bit grid (i * a + j))) h.taken

    pub column_word : IsWord m given
    column_word = subst (IsWord m) (sym column_is) (word_tabulate m _ (λ i l. h.bits (i * a + j)))

    pub column_runs : {left : List ℕ} {ys : List ℤ} → length left ≡ room → length ys ≡ area → Runs m r rounds leaves given left ys
    column_runs {left} {ys} el ey = line_runs (subst (Reads m r rounds leaves) (sym ey) h.reads) column_word (el ∙ h.space)

    module _ {c : ℕ} {out left : List ℕ} (t : LineTaken m r given out (line_read m r rounds leaves given) c)
        (e : left ≡ output_of (line_read m r rounds leaves given) out) (size : length left ≡ room) where
      left_is : left ≡ line_left m r rounds leaves (column_at m j a grid)
      left_is = e ∙ t.left ∙ ap (line_left m r rounds leaves) column_is

      pub put_asks : PutAsks c left j a grid
      put_asks = record {
        inside = column_inside (length left) (size ∙ h.space);
        some = h.some;
        same = λ z i li. sym (bit_tabulate (2 ^ m) _ i (omega (arith, h.space))) ∙ ap (λ (x : List ℕ). bit x i) (sym column_is ∙ t.same z ∙ sym (e ∙ t.left));
      }

      pub column_taken : {l : ℕ} {v : List ℕ} (sound : Bool) → l ≡ leaves_of (line_read m r rounds leaves given) → Scattered left j a (length left) grid v
          → ColumnRead m r rounds leaves j a sound grid v (record { leaves = l; codewords = sound })
      column_taken {v = v} sound el s = record {
        array = subst (λ (x : List ℕ). Scattered x j a (2 ^ m) grid v) left_is (subst (λ (n : ℕ). Scattered left j a n grid v) (size ∙ h.space) s);
        count = rw column_is at el;
        test = sym (ap (λ (b : Bool). sound && b) (rw column_is at t.test) ∙ and-true sound);
      }

    pub column_kept : {l : ℕ} {sound b : Bool} → line_left m r rounds leaves given ≡ given → l ≡ leaves_of (line_read m r rounds leaves given)
        → b ≡ sound && steps_test m r given
        → ColumnRead m r rounds leaves j a sound grid grid (record { leaves = l; codewords = b })
    column_kept {l} {sound} {b} k el e =
        let same : line_left m r rounds leaves (column_at m j a grid) ≡ column_at m j a grid = rw column_is at k in
        record {
          array = rw same (record { long = refl; here = λ i l. sym (bit_tabulate (2 ^ m) _ i l); other = λ q n. refl });
          count = rw column_is at el;
          test = rw same (e ∙ ap (λ (x : Bool). sound && x) (steps_test_lem m r given column_word ∙ ap (codeword_test m r) column_is));
        }
