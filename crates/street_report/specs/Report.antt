-- The report of a street: a line for each step, and the summary. Text is a list of bytes. Assumes nothing.
use Rattle.std.specs.Prelude.{ℕ, ◌+◌, ◌&&◌, List, [], ◌∷◌, ◌++◌, eqb}
use Rattle.words.specs.Word.{indicator}
use Rattle.text.specs.Numbers.{decimal}
use Rattle.lines.specs.Lines.{newline, refusal_text}
use Rattle.turns.specs.Turns.{capped}
use Rattle.streets.specs.Street.{Answered, Step, count_steps, is_refused, other, other_in, refusal, refused_in, right, right_in, sent_in}
use Rattle.streets.specs.State.{answered}
use Rattle.streets.specs.declared.Fate.{Fate}
use Rattle.street_report.specs.declared.Counts.{Counts}

-- ---- the line of a step: "the meter, its try (0 in the first turn) and its answer"

-- " right", " other", or " refused " and the number
abbrev pub answer_text : Answered → List ℕ
answer_text right = 32 ∷ 114 ∷ 105 ∷ 103 ∷ 104 ∷ 116 ∷ []
answer_text other = 32 ∷ 111 ∷ 116 ∷ 104 ∷ 101 ∷ 114 ∷ []
answer_text (refusal e) = refusal_text e

abbrev pub step_line : Step → List ℕ
step_line s = (decimal s.meter ++ (32 ∷ [])) ++ decimal s.try ++ answer_text s.answer ++ newline

-- the step that the code's values show
abbrev pub step_of : ℕ → ℕ → Fate → Step
step_of meter try fate = record { meter = meter; try = try; answer = answered fate }

-- ---- the counts of a list of steps

-- the meters never read: no try follows the last, so a meter that is refused in it is not read
abbrev pub never_in : ℕ → List Step → ℕ
never_in retries l = count_steps (λ s. is_refused s.answer && eqb s.try retries) l

-- "blocks sent are those accepted right, accepted as another codeword, and refused", each no more than 64 bits hold
abbrev pub counts_of : ℕ → List Step → Counts
counts_of retries l = record {
  sent = capped (sent_in l);
  right = capped (right_in l);
  other = capped (other_in l);
  refused = capped (refused_in l);
  never = capped (never_in retries l);
}

-- ---- counting step by step

abbrev pub no_counts : Counts
no_counts = record { sent = 0; right = 0; other = 0; refused = 0; never = 0 }

-- with one more step, at the try k
abbrev pub plus_step : ℕ → Counts → ℕ → Answered → Counts
plus_step retries c k right = record { sent = capped (c.sent + 1); right = capped (c.right + 1); other = c.other; refused = c.refused; never = c.never }
plus_step retries c k other = record { sent = capped (c.sent + 1); right = c.right; other = capped (c.other + 1); refused = c.refused; never = c.never }
plus_step retries c k (refusal e) = record {
  sent = capped (c.sent + 1);
  right = c.right;
  other = c.other;
  refused = capped (c.refused + 1);
  never = capped (c.never + indicator (eqb k retries));
}

-- ---- the summary

-- " sent, ", " right, ", " other, ", " refused, ", " never read", each after its count
abbrev pub summary_line : Counts → List ℕ
summary_line c =
    (decimal c.sent ++ (32 ∷ 115 ∷ 101 ∷ 110 ∷ 116 ∷ 44 ∷ 32 ∷ []))
    ++ (decimal c.right ++ (32 ∷ 114 ∷ 105 ∷ 103 ∷ 104 ∷ 116 ∷ 44 ∷ 32 ∷ []))
    ++ (decimal c.other ++ (32 ∷ 111 ∷ 116 ∷ 104 ∷ 101 ∷ 114 ∷ 44 ∷ 32 ∷ []))
    ++ (decimal c.refused ++ (32 ∷ 114 ∷ 101 ∷ 102 ∷ 117 ∷ 115 ∷ 101 ∷ 100 ∷ 44 ∷ 32 ∷ []))
    ++ (decimal c.never ++ (32 ∷ 110 ∷ 101 ∷ 118 ∷ 101 ∷ 114 ∷ 32 ∷ 114 ∷ 101 ∷ 97 ∷ 100 ∷ []))
    ++ newline
