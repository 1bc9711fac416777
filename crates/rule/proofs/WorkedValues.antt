-- The values of the table are those that the definitions give. Assumes nothing.
use Rattle.std.specs.Prelude.{ℕ, suc, ◌≡◌, refl, List, ◌++◌, map, eqb}
use Rattle.std.proofs.Common.{ap, ap₂, ◌∙◌, arith}
use Rattle.std.specs.Int.Count.{count_leading_zeros, ones, ones_in}
use Rattle.code.specs.Code.{codeword, codeword_test, coefficient, low_test, monomial, rank, spread}
use Rattle.code.proofs.Inverse.{encoder_codeword}
use Rattle.rule.proofs.Covariance.{reading_add}
use Rattle.rule.specs.Decoding.{after, decode_of, limited}
use Rattle.rule.specs.Reading.{abstained, accepted, flipped, flips, order0, order1, reading, round_leaves, rounds, votes}
use Rattle.rule.specs.Outcomes.{shift}
use Rattle.rule.specs.WorkedTable.{wrong, valued, digits, marked, four, sixteen, beside, deep, cast, table}
use Rattle.rule.proofs.WorkedRounds.{four_rounds, mended, one_round_only, stopped}
use Rattle.rule.proofs.WorkedVotes.{left_alone, nine_mended}
use Rattle.direction.specs.Direction.{coset_of, delete_bit, highest, insert_zero, project, representative}
use Rattle.hadamard.specs.Correlation.{affine, correlation, count_below}
use Rattle.refusals.specs.Refusals.{first_refusal}
use Rattle.words.specs.Sum.{first_where, tabulate, total}
use Rattle.words.specs.Word.{add_words, indicator}
use Rattle.words.proofs.WordLaws.{indicator-lt, word_tabulate}

-- the block plus a codeword, by covariance, under any round limit from 2 on
plus : (left : ℕ) → reading 2 4 (suc (suc left)) (digits 16 1001000100010001) ≡ accepted (digits 16 0001000100010001) 2 30
unfolding tabulate add_words codeword monomial rank spread total ones ones_in
plus left =
    let message : List ℕ = digits 11 00010000000 in
    reading_add 2 4 (suc (suc left)) (omega arith) (omega arith) (wrong 16) (codeword 4 2 message) (word_tabulate 4 (λ p. indicator (eqb p 0)) (λ p l. indicator-lt (eqb p 0)))
    (encoder_codeword 4 2 message)
    ∙ ap (shift (codeword 4 2 message)) (mended left)

four_values : map valued four ≡ four
unfolding four decode_of after first_refusal
four_values = cc (
  ap (limited 1000000) (mended 0),
  ap (limited 29) (mended 0),
  ap (limited 29) (mended 2),
  ap (limited 15) stopped,
  ap (limited 14) stopped,
  ap (limited 1000000) (plus 0),
  ap (limited 1000000) (plus 2),
)

deep_values : map valued deep ≡ deep
unfolding deep decode_of after first_refusal
deep_values = cc (ap (limited 1000000) four_rounds, ap (limited 1394) four_rounds, ap (limited 1000000) one_round_only)

cast_values : map valued cast ≡ cast
unfolding cast decode_of after first_refusal
cast_values = cc (ap (limited 1000000) (left_alone 3), ap (limited 1000000) (nine_mended 2))

small_values : map valued (marked ++ sixteen ++ beside) ≡ marked ++ sixteen ++ beside
unfolding marked sixteen beside decode_of after first_refusal codeword_test low_test coefficient project tabulate insert_zero highest count_leading_zeros reading rounds votes abstained flipped flips round_leaves order1 order0 count_below first_where correlation affine total ones ones_in coset_of representative delete_bit add_words codeword monomial rank spread
small_values = refl

pub worked_values : map valued table ≡ table
unfolding table marked sixteen beside four deep tabulate
worked_values = ap₂ ◌++◌ small_values (ap₂ ◌++◌ four_values (ap₂ ◌++◌ deep_values cast_values))
