-- What the decoder surely mends: document 02, request 6. Assumes nothing.
use Rattle.std.specs.Prelude.{ℕ, pred, ◌-◌, ◌*◌, ◌/◌, ◌^◌, ◌≤◌, ◌<◌, ◌≡◌, List, Ok}
use Rattle.words.specs.Sum.{total}
use Rattle.words.specs.Word.{IsWord, distance}
use Rattle.code.specs.Code.{IsCodeword}
use Rattle.refusals.specs.Refusals.{Decoded}
use Rattle.rule.specs.Reading.{Outcome, accepted}

-- "the product of 2 × (2^j − 1) for j from m down to m − r + 2, taken as 1 for r of 0 or 1": the r - 1 factors of j = m - i
unfoldable pub enough : ℕ → ℕ → ℕ
enough m r = total ◌*◌ 1 (pred r) (λ i. 2 * (2 ^ (m - i) - 1))

-- the greatest number of places that is "fewer than half the distance", 2 ^ (m - r)
unfoldable pub surely : ℕ → ℕ → ℕ
surely m r = (2 ^ (m - r) - 1) / 2

-- "Let fewer than half the distance of places be wrong": the codeword c is sent, the word w received
pub record Received (m r : ℕ) (w c : List ℕ) : Type 0 where
  pub word : IsWord m w
  pub sent : IsCodeword m r c
  pub few : 2 * distance m w c < 2 ^ (m - r)

-- "and the round limit be 2 to 16. Let the leaf limit be at most 1,000,000 and at least the product": for a code of document 01
pub record Limits (m r rounds leaves : ℕ) : Type 0 where
  pub some : 1 ≤ m
  pub most : m ≤ 10
  pub order : r ≤ m
  pub rounds_least : 2 ≤ rounds
  pub rounds_most : rounds ≤ 16
  pub leaves_least : enough m r ≤ leaves
  pub leaves_most : leaves ≤ 1000000

-- "the sent codeword is accepted, in at most 2 rounds, with a leaf count within that product", which is `product`: of an outcome
pub record Mends (c : List ℕ) (product : ℕ) (o : Outcome) : Type 0 where
  pub rounds : ℕ
  pub leaves : ℕ
  pub outcome : o ≡ accepted c rounds leaves
  pub rounds_most : rounds ≤ 2
  pub leaves_most : leaves ≤ product

-- the same of a call that answers d and leaves out' in the output; the places mended are the wrong ones
pub record Mended (m r : ℕ) (w c out' : List ℕ) (d : Decoded) : Type 0 where
  pub rounds : ℕ
  pub leaves : ℕ
  pub answer : d ≡ Ok record { rounds = rounds; leaves = leaves; mended = distance m w c }
  pub output : out' ≡ c
  pub rounds_most : rounds ≤ 2
  pub leaves_most : leaves ≤ enough m r
