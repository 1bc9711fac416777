-- The values of the table are those that the definitions give. Assumes nothing.
use Rattle.std.specs.Prelude.{◌≡◌, refl, [], ◌∷◌, map, pos}
use Rattle.std.specs.Int.Count.{count_leading_zeros, ones, ones_in}
use Rattle.code.specs.Code.{codeword_test, coefficient, low_test}
use Rattle.direction.specs.Direction.{coset_of, delete_bit, highest, insert_zero, representative}
use Rattle.hadamard.specs.Correlation.{affine, correlation, count_below}
use Rattle.refusals.specs.Refusals.{first_refusal}
use Rattle.rule.specs.Decoding.{after}
use Rattle.rule.specs.Reading.{order0, order1}
use Rattle.rule.specs.WorkedTable.{digits}
use Rattle.words.specs.Sum.{first_where, tabulate, total}
use Rattle.words.specs.Word.{distance}
use Rattle.confidences.specs.Answers.{confidence_call, lowest_outside, value_place}
use Rattle.confidences.specs.Confidences.{abstained, ended, leaves_after, lowest_zero, negated, project_values, reading, round_leaves, signs_of, sums, updated, values_after, zero_place}
use Rattle.confidences.specs.WorkedTable.{valued, minus, zeroth, first, outside, rounds, cut, kept, zeros, limit, received, table}

pub worked_values : map valued table ≡ table
unfolding table zeroth first outside rounds cut kept zeros limit received confidence_call after first_refusal lowest_outside value_place zero_place distance ended leaves_after lowest_zero project_values reading round_leaves signs_of abstained sums updated values_after codeword_test coefficient low_test coset_of delete_bit highest insert_zero representative affine correlation count_below first_where order0 order1 tabulate total count_leading_zeros ones ones_in
worked_values = refl

-- the last two rows' values differ by the word of ones
pub received_differ : negated (pos 0 ∷ pos 5 ∷ pos 5 ∷ pos 5 ∷ []) (digits 4 1111) ≡ pos 0 ∷ minus 5 ∷ minus 5 ∷ minus 5 ∷ []
unfolding negated tabulate
received_differ = refl
