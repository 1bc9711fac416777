-- What the exported calls under tables return: document 02, request 4. Assumes nothing.
use Rattle.std.specs.Prelude.{ℕ, ◌+◌, ◌*◌, ◌%◌, ◌≡◌, cond, List, eqb, ℤ, length, replicate, Ok, Err}
use Rattle.refusals.specs.Refusals.{answer_number, answer_place, place_named, Answer}
use Rattle.profiles.specs.declared.Profile.{Profile}
use Rattle.tables.specs.declared.Table.{Table}
use Rattle.tables.specs.Tables.{entry_of, ours}
use Rattle.table_files.specs.declared.Loaded.{Loaded}
use Rattle.table_files.specs.File.{loaded}
use Rattle.rule.specs.Reading.{Outcome}
use Rattle.rule.specs.Decoding.{refusal_of, answer_of, output_of, area_of}
use Rattle.table_decoder.specs.Table.{decode_table_call}
use Rattle.capture.specs.Capture as capture
use Rattle.packing.specs.Packing.{pack, pack_values}

-- "a table no load made": all of its entries are p
abbrev pub made : ℕ → Profile → Table
made count p = record { count = count; entries = replicate 32 p }

-- what loading a file gives; where it has length 0, the constant table
abbrev pub table_of : List ℕ → Loaded
table_of file = cond (eqb (length file) 0) (record { answer = (Ok tt); table = ours }) (loaded file ours)

-- x where a load is done, y where it is refused
abbrev pub when_loaded : {A : Type 0} → Answer → A → A → A
when_loaded (Ok tt) x y = x
when_loaded (Err why) x y = y

-- a decoding under entry `number` of the table that a load gave; where that is refused, 19, or 20 with the entry in the place, and output
-- and area as they were
module _ (l : Loaded) (number : ℕ) (word out : List ℕ) (area : List ℤ) where
  abbrev outcome : Outcome
  outcome = decode_table_call l.table number word (length out) (length area)

  pub record ReturnsLoaded (out' : List ℕ) (area' : List ℤ) (returned : ℕ) : Type 0 where
    pub packed : returned ≡
        when_loaded l.answer (pack_values (answer_of (entry_of l.table number).m word outcome) (place_named word (refusal_of outcome)))
        (pack (answer_number l.answer) 0 0 0 (answer_place l.answer))
    pub output : out' ≡ when_loaded l.answer (output_of outcome out) out
    pub lent : area' ≡ when_loaded l.answer (area_of outcome area) area

-- what the capture reader answers: refusal or 0 in the lowest 8 bits, 1 in the next 8 where no record is left, the record's profile in 8, 8
-- zero bits, the serial in 32
abbrev pub pack_found : capture.Answer → ℕ
pack_found capture.none_left = 256
pack_found (capture.refused number serial) = number + serial * 4294967296
pack_found (capture.record_at serial profile next) = profile % 256 * 65536 + serial * 4294967296

-- the record at the start of `rest`, under the table that a load gave; 19 and 20 without the entry, and the word as it was
module _ (l : Loaded) (rest word : List ℕ) where
  abbrev found : capture.Answer
  found = capture.record_in (capture.slot_at l.table rest) rest 0 (length word)

  pub record ReturnsRecord (word' : List ℕ) (returned : ℕ) : Type 0 where
    pub packed : returned ≡ when_loaded l.answer (pack_found found) (answer_number l.answer)
    pub buffer : word' ≡ when_loaded l.answer (capture.buffer_of (capture.slot_at l.table rest) found rest word) word
