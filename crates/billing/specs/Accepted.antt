-- What the steps to billing's line of a record ask. Assumes nothing.
use Rattle.std.specs.Prelude.{ℕ, ◌≤◌, ◌≡◌, List}
use Rattle.words.specs.Word.{IsWord}
use Rattle.refusals.specs.Refusals.{Decoded}
use Rattle.refusals.specs.IsCode.{IsCode}
use Rattle.code.specs.Code.{IsCodeword, dimension}
use Rattle.profiles.specs.declared.Profile.{Profile}
use Rattle.rule.specs.Decoding.{answer_of, output_of}
use Rattle.rule.specs.Calls.{values_of}
use Rattle.lines.specs.Lines.{decoded_by}

-- a codeword, and room for its message
pub record Readable (m r : ℕ) (word : List ℕ) (room : ℕ) : Type 0 where
  pub code : IsCode m r
  pub codeword : IsCodeword m r word
  pub sized : room ≡ dimension m r
  pub small : room ≤ 1024

-- a codeword of an entry
pub record AcceptedWord (p : Profile) (word : List ℕ) : Type 0 where
  pub code : IsCode p.m p.r
  pub codeword : IsCodeword p.m p.r word

-- the decoder's answer to a word of an entry, and what it left in its output
pub record Answered (p : Profile) (word decoded : List ℕ) (a : Decoded) : Type 0 where
  pub code : IsCode p.m p.r
  pub received : IsWord p.m word
  pub answer : values_of a ≡ answer_of p.m word (decoded_by p word)
  pub output : decoded ≡ output_of (decoded_by p word) decoded
