-- "profiles may now meet 12": an entry of a table that does, where document 01's cannot (`profile-call-not-12` of rule/ProfileLaws).
-- Assumes nothing.
use Rattle.std.specs.Prelude.{◌≡◌, refl, ◌∷◌, replicate}
use Rattle.std.specs.Int.Count.{count_leading_zeros, ones, ones_in}
use Rattle.words.specs.Sum.{first_where, tabulate, total}
use Rattle.words.specs.Word.{add_words}
use Rattle.code.specs.Code.{codeword_test, coefficient, low_test}
use Rattle.direction.specs.Direction.{coset_of, delete_bit, highest, insert_zero, project, representative}
use Rattle.hadamard.specs.Correlation.{affine, correlation, count_below}
use Rattle.refusals.specs.Refusals.{all_bits, first_refusal}
use Rattle.profiles.specs.Profiles.{row}
use Rattle.tables.specs.declared.Table.{Table}
use Rattle.tables.specs.Tables.{in_limits, known, no_entry}
use Rattle.rule.specs.Reading.{abstained, flipped, flips, order1, reading, refused, round_leaves, rounds, votes}
use Rattle.rule.specs.Decoding.{after}
use Rattle.table_decoder.specs.Table.{decode_table_call}

-- one entry: m 3, r 2, one round, leaf limit 1, where a round has 7 leaves
abbrev pub one_leaf : Table
one_leaf = record { count = 1; entries = row 3 2 1 1 ∷ replicate 31 no_entry }

-- even a codeword, in buffers of the right sizes
pub meets_12 : decode_table_call one_leaf 0 (replicate 8 0) 8 64 ≡ refused 12 0 1
unfolding decode_table_call known in_limits after first_refusal all_bits codeword_test low_test coefficient project tabulate insert_zero highest count_leading_zeros reading rounds votes abstained flipped flips round_leaves order1 count_below first_where correlation affine ones ones_in coset_of representative delete_bit add_words total
meets_12 = refl
