-- What the functions that send a block ask and promise. Assumes nothing.
use Rattle.std.specs.Prelude.{ℕ, ◌*◌, ◌^◌, ◌≤◌, ◌≡◌, cond, List, eqb, length, ℤ, Ok, Err}
use Rattle.words.specs.Word.{IsWord, distance}
use Rattle.refusals.specs.Refusals.{number_of, Decoded}
use Rattle.profiles.specs.declared.Profile.{Profile}
use Rattle.tables.specs.Limits.{InLimits}
use Rattle.rule.specs.Decoding.{zeros}
use Rattle.load.specs.Load.{state_after}
use Rattle.streets.specs.Street.{Answered, answer_to, block_of, other, refusal, right}
use Rattle.streets.specs.State.{answered}
use Rattle.streets.specs.declared.sends.Sending.{Sending}

-- what the code makes of the decoder's answer, and of the word that it gave
abbrev pub judged_by : ℕ → List ℕ → List ℕ → Decoded → Answered
judged_by m sent got (Ok d) = cond (eqb (distance m sent got) 0) right other
judged_by m sent got (Err e) = refusal (number_of e.why)

-- an entry's block in buffers of the right sizes
pub record Sendable (p : Profile) (block : List ℕ) (area : List ℤ) : Type 0 where
  pub limits : InLimits p
  pub size : length block ≡ 2 ^ p.m
  pub room : 8 * 2 ^ p.m ≤ length area

-- with a buffer for the codeword sent, and one that holds a word
pub record SendableIn (p : Profile) (sent got block : List ℕ) (area : List ℤ) : Type 0 where
  pub sendable : Sendable p block area
  pub sent_size : length sent ≡ 2 ^ p.m
  pub got_word : IsWord p.m got

-- the block from the state x: the buffer's, the area before and after, and what was told
pub record Sends (p : Profile) (wrong x : ℕ) (block : List ℕ) (area area' : List ℤ) (r : Sending) : Type 0 where
  pub block_is : block ≡ block_of p wrong x
  pub answer : answered r.fate ≡ answer_to p wrong x
  pub state : r.state ≡ state_after p.m p.r wrong x
  pub area_is : area' ≡ zeros area
