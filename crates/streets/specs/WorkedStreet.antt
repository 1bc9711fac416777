-- A street worked out: under document 01's first profile three meters send from the start 3, ten wrong places asked in a block; meter 1 is
-- refused and sends again in the one later turn. Assumes nothing.
use Rattle.std.specs.Prelude.{ℕ, ◌≡◌, refl, [], ◌∷◌}
use Rattle.std.specs.Int.Count.{ones, ones_in}
use Rattle.words.specs.Sum.{first_where, tabulate, total}
use Rattle.words.specs.Word.{add_words, distance}
use Rattle.code.specs.Code.{codeword, dimension, monomial, rank, spread}
use Rattle.hadamard.specs.Correlation.{affine, correlation, count_below}
use Rattle.refusals.specs.Refusals.{first_refusal}
use Rattle.tables.specs.Tables.{Slot, in_limits, known, ours, slot_of}
use Rattle.rule.specs.Reading.{order1, reading}
use Rattle.rule.specs.Decoding.{after, decode_of}
use Rattle.generator.specs.Generator.{draw, draw_times, draw_until, message_from, places_from, step, steps, wrong_in}
use Rattle.load.specs.Load.{block_from, places_after, sent_from, state_after, state_before}
use Rattle.streets.specs.Street.{Answered, Step, answer_to, meter_in, other, refusal, right, sender_after, sends_in, some_step, steps_after, turn_now, with_step}
use Rattle.streets.specs.declared.Plan.{Plan}

abbrev pub slot : Slot
slot = slot_of ours 0

abbrev pub plan : Plan
plan = record { wrong = 10; meters = 3; retries = 1 }

-- the meter, its try and its answer, the newest first
abbrev shown : ℕ → ℕ → Answered → Step
shown i k a = record { meter = i; try = k; answer = a }

-- all three answers are met, and of five calls the last finds nobody left
pub worked_street : steps_after slot plan 3 5 ≡ shown 1 1 right ∷ shown 2 0 other ∷ shown 1 0 (refusal 9) ∷ shown 0 0 right ∷ []
unfolding steps_after with_step sender_after turn_now meter_in sends_in some_step answer_to state_before state_after block_from sent_from places_after codeword spread rank monomial dimension ones ones_in add_words message_from places_from draw_times draw_until draw wrong_in step steps tabulate total first_where slot_of known in_limits first_refusal after decode_of reading order1 count_below correlation affine distance
worked_street = refl
