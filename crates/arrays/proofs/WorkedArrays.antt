-- The values of the table are those that the definitions give. Assumes nothing.
use Rattle.std.specs.Prelude.{◌≡◌, refl, map}
use Rattle.std.specs.Int.Count.{count_leading_zeros, ones, ones_in}
use Rattle.words.specs.Sum.{first_where, tabulate, total}
use Rattle.words.specs.Word.{add_words}
use Rattle.code.specs.Code.{codeword_test, coefficient, low_test}
use Rattle.direction.specs.Direction.{coset_of, delete_bit, highest, insert_zero, project, representative}
use Rattle.hadamard.specs.Correlation.{affine, correlation, count_below}
use Rattle.refusals.specs.Refusals.{all_bits, first_refusal}
use Rattle.rule.specs.Decoding.{after}
use Rattle.rule.specs.Reading.{abstained, flipped, flips, order0, order1, reading, round_leaves, rounds, votes}
use Rattle.arrays.specs.Arrays.{array_call, array_read, array_test, column_leaves, columns_left, columns_test, row_leaves, rows_left, rows_test}
use Rattle.arrays.specs.WorkedTable.{valued, table}

pub worked_arrays : map valued table ≡ table
unfolding table array_call after first_refusal all_bits array_read array_test rows_test columns_test rows_left columns_left row_leaves column_leaves codeword_test low_test coefficient project tabulate insert_zero highest count_leading_zeros reading rounds votes abstained flipped flips round_leaves order1 order0 count_below first_where correlation affine total ones ones_in coset_of representative delete_bit add_words
worked_arrays = refl
