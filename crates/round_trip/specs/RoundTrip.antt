-- The round trip of two calls: a message encoded and read, a codeword read and encoded. Assumes nothing.
use Rattle.std.specs.Prelude.{ℕ, ◌^◌, ◌≤◌, ◌<◌, ◌≡◌, List, length, Ok}
use Rattle.words.specs.Word.{bit}
use Rattle.refusals.specs.Refusals.{Answer}
use Rattle.code.specs.Code.{dimension}

-- "There are k message bits"
pub record IsMessage (m r : ℕ) (message : List ℕ) : Type 0 where
  pub size : length message ≡ dimension m r
  pub bits : (i : ℕ) → bit message i < 2

-- "Size exponent m is 1 to 10, order r is 0 to m"; buffers of the right sizes, n for a word and k for a message
pub record Fit (m r : ℕ) (word message : List ℕ) : Type 0 where
  pub some : 1 ≤ m
  pub most : m ≤ 10
  pub order : r ≤ m
  pub word_size : length word ≡ 2 ^ m
  pub message_size : length message ≡ dimension m r

-- the answers a and a' to two calls, the second given the first one's output: neither refuses (13 neither), the first leaves x, and the
-- second leaves s, which the first was given
pub record Back (x s v v' : List ℕ) (a a' : Answer) : Type 0 where
  pub first : a ≡ (Ok tt)
  pub second : a' ≡ (Ok tt)
  pub between : v ≡ x
  pub back : v' ≡ s
