-- Reading a block of order 1 from its bytes: what a call asks and promises. Assumes nothing.
use Rattle.std.specs.Prelude.{ℕ, ◌^◌, ◌≤◌, ◌≡◌, true, List, ℤ, length}
use Rattle.words.specs.Word.{IsWord}
use Rattle.rule.specs.Reading.{Outcome}
use Rattle.rule.specs.Decoding.{output_of}
use Rattle.told.specs.Told.{numbers_of, numbers_in}
use Rattle.told.specs.declared.Told.{Told}

-- a block of 32 to 128 places with its output, and room for its quads
pub record Readable (m : ℕ) (word out : List ℕ) (area : List ℤ) : Type 0 where
  pub some : 5 ≤ m
  pub few : m ≤ 7
  pub input : IsWord m word
  pub output : length out ≡ 2 ^ m
  pub room : 2 ^ m ≤ length area

-- what a reading tells of the outcome o, and leaves in the output; where it says that it kept its word, an accepted one is the word given
pub record Gives (o : Outcome) (word out out' : List ℕ) (t : Told) : Type 0 where
  pub answer : numbers_in t.answer ≡ numbers_of o
  pub output : out' ≡ output_of o out
  pub kept : t.kept ≡ true → output_of o word ≡ word
