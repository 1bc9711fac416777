-- What the functions that draw blocks and write records ask and promise. Assumes nothing.
use Rattle.std.specs.Prelude.{ℕ, ◌*◌, ◌%◌, ◌^◌, ◌<◌, ◌≡◌, false, true, List, [], ◌++◌, ltb, length, Result, Ok, Err}
use Rattle.words.specs.Sum.{total}
use Rattle.words.specs.Word.{bit}
use Rattle.code.specs.Code.{dimension}
use Rattle.refusals.specs.Refusals.{Checked, Answer}
use Rattle.refusals.specs.declared.Refusal.{Refusal}
use Rattle.profiles.specs.declared.Profile.{Profile}
use Rattle.tables.specs.Tables.{Slot, held, is_there, some}
use Rattle.tables.specs.Slots.{Proper}
use Rattle.generator.specs.Generator.{steps, wrong_in}
use Rattle.generator.specs.declared.Places.{Places}
use Rattle.load.specs.Load.{block_from, left_short, places_after, sent_from, start_checks, state_after}
use Rattle.load.specs.Records.{nth_record, record_bytes, short_among, state_at}
use Rattle.load.specs.declared.Captured.{Captured}
use Rattle.load.specs.declared.Next.{Next}

-- what the checks say, without the entry that passes
abbrev pub tested : Result Profile Refusal → Answer
tested (Ok p) = Ok tt
tested (Err why) = Err why

-- the checks before that of a buffer's length; what passes is the entry
pub record Started (slot : Slot) (x asked : ℕ) (a : Result Profile Refusal) : Type 0 where
  pub checked : Checked (start_checks slot x asked) [] (tested a)
  pub given : (p : Profile) → a ≡ Ok p → slot ≡ some p

-- what a refused call answers
abbrev pub refusing : Refusal → ℕ → Next
refusing why x = record { answer = Err why; state = x; short = false }

-- a codeword drawn from the state x: the codeword, and the state after its message
pub record SentDrawn (m r x : ℕ) (sent : List ℕ) (y : ℕ) : Type 0 where
  pub sent_is : sent ≡ sent_from m r x
  pub state : y ≡ steps (dimension m r) x

-- a block drawn from the state x: the codeword, the block, the state after it and the number of wrong places
pub record BlockDrawn (m r asked x : ℕ) (sent block : List ℕ) (p : Places) : Type 0 where
  pub sent_is : sent ≡ sent_from m r x
  pub block_is : block ≡ block_from m r asked x
  pub state : p.state ≡ state_after m r asked x
  pub wrong : p.wrong ≡ wrong_in (places_after m r asked x).noise

-- a word whose bits fill the bytes of a list
pub record Packable (word out : List ℕ) : Type 0 where
  pub size : length word ≡ 8 * length out
  pub bits : (i : ℕ) → bit word i < 2

-- an entry that is there, with a number of one byte
pub record Usable (slot : Slot) (number : ℕ) : Type 0 where
  pub proper : Proper slot
  pub known : is_there slot ≡ true
  pub byte : number < 256

-- block i drawn from the state x, and its record
pub record RecordDrawn (slot : Slot) (number asked x i : ℕ) (out : List ℕ) (p : Places) : Type 0 where
  pub bytes : out ≡ record_bytes (i % 2 ^ 32) number (block_from (held slot).m (held slot).r asked x)
  pub state : p.state ≡ state_after (held slot).m (held slot).r asked x
  pub short : ltb p.wrong asked ≡ left_short (held slot).m (held slot).r asked x

-- the first blocks of a load drawn, and their records
pub record RecordsDrawn (slot : Slot) (number asked start blocks : ℕ) (out : List ℕ) (a : Captured) : Type 0 where
  pub answer : a.answer ≡ (Ok tt)
  pub bytes : out ≡ total ◌++◌ [] blocks (nth_record slot number asked start)
  pub state : a.state ≡ state_at slot asked start blocks
  pub short : a.short ≡ short_among slot asked start blocks
