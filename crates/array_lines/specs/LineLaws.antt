-- One line read by the decoder. Assumes nothing.
use Rattle.std.specs.Prelude.{ℕ, ◌^◌, ◌<◌, ◌≡◌, refl, true, List, length, ℤ, Ok, Err}
use Rattle.std.proofs.Common.{sym, ap, ◌∙◌, arith}
use Rattle.words.specs.Word.{IsWord, distance}
use Rattle.words.proofs.WordLaws.{distance_none}
use Rattle.code.specs.Code.{codeword_test}
use Rattle.code.proofs.Codewords.{test_of_codeword}
use Rattle.refusals.proofs.CheckLaws.{number_pos}
use Rattle.refusals.specs.Refusals.{number_of, Decoded}
use Rattle.refusals.specs.declared.Accepted.{Accepted}
use Rattle.refusals.specs.declared.Refused.{Refused}
use Rattle.rule.specs.Calls.{Decodes, values_of}
use Rattle.rule.specs.Decoding.{Values, answer_of, output_of, values}
use Rattle.rule.specs.Demand3.{Sound}
use Rattle.rule.specs.Reading.{Outcome, accepted, leaves_of, refused}
use Rattle.decoder.specs.Runs.{Runs}
use Rattle.arrays.specs.Arrays.{line_left, line_read}
use Rattle.arrays.proofs.Lines.{line_sound}
use Rattle.array_lines.specs.Asked.{Reads}

-- what the decoder asks of a line
pub line_runs : {m r rounds leaves : ℕ} {line out : List ℕ} {area : List ℤ} → Reads m r rounds leaves (length area) → IsWord m line → length out ≡ 2 ^ m
    → Runs m r rounds leaves line out area
line_runs h input output = record {
  some = h.side.some;
  small = omega (arith, h.side.most);
  order = h.side.order;
  one = h.limits.leaves_least;
  few = h.limits.leaves_most;
  input = input;
  output = output;
  room = h.lent;
}

-- ---- the answer

abbrev count_in : Values → ℕ
count_in (values e k l c) = l

counted : (m : ℕ) (line : List ℕ) (o : Outcome) → count_in (answer_of m line o) ≡ leaves_of o
counted m line (accepted d k l) = refl
counted m line (refused e k l) = refl

-- what an accepted line is left as, of an output `out` before
pub record LineTaken (m r : ℕ) (line out : List ℕ) (o : Outcome) (c : ℕ) : Type 0 where
  pub left : output_of o out ≡ output_of o line
  pub test : codeword_test m r (output_of o line) ≡ true
  pub same : c ≡ 0 → line ≡ output_of o line

taken : (m r : ℕ) (line out : List ℕ) (k l c : ℕ) (o : Outcome) → IsWord m line → values 0 k l c ≡ answer_of m line o → Sound m r o → LineTaken m r line out o c
taken m r line out k l c (accepted d i j) h e s =
    let mended : c ≡ distance m line d = cc in
    record { left = refl; test = test_of_codeword m r d s; same = λ z. distance_none h s.word (sym mended ∙ z) }
taken m r line out k l c (refused n i j) h e s = let z : 0 ≡ n = cc in absurd (omega arith)

-- a refused one stays
kept : (m : ℕ) (line : List ℕ) (n k l : ℕ) → 0 < n → (o : Outcome) → values n k l 0 ≡ answer_of m line o → output_of o line ≡ line
kept m line n k l some (accepted d i j) e = let z : n ≡ 0 = cc in absurd (omega arith)
kept m line n k l some (refused x i j) e = refl

module _ {m r rounds leaves : ℕ} {line out out' : List ℕ} {area area' : List ℤ} {d : Decoded} (asks : Runs m r rounds leaves line out area)
    (run : Decodes m (line_read m r rounds leaves line) line out out' area area' d) where
  -- of either case
  pub line_leaves : {x : Decoded} → d ≡ x → count_in (values_of x) ≡ leaves_of (line_read m r rounds leaves line)
  line_leaves e = ap (λ (y : Decoded). count_in (values_of y)) (sym e) ∙ ap count_in run.answer ∙ counted m line (line_read m r rounds leaves line)

  pub line_taken : {x : Accepted} → d ≡ Ok x → LineTaken m r line out (line_read m r rounds leaves line) x.mended
  line_taken {x} e =
      taken m r line out x.rounds x.leaves x.mended (line_read m r rounds leaves line) asks.input (ap values_of (sym e) ∙ run.answer) (line_sound m r rounds leaves asks.order line asks.input)

  pub line_kept : {x : Refused} → d ≡ Err x → line_left m r rounds leaves line ≡ line
  line_kept {x} e = kept m line (number_of x.why) x.rounds x.leaves (number_pos x.why) (line_read m r rounds leaves line) (ap values_of (sym e) ∙ run.answer)
