-- Scripts of operations, and what a run of one gives. Assumes nothing.
use Rattle.std.specs.Prelude.{ℕ, zero, suc, ◌+◌, ◌≡◌, cond, List, [], ◌∷◌, eqb, leb, ltb, get_or, length}
use Rattle.words.specs.Sum.{first_where, tabulate}
use Rattle.refusals.specs.Refusals.{answer_number}
use Rattle.tally.specs.declared.Tally.{Tally}
use Rattle.tallies.specs.declared.Name.{Name}
use Rattle.tallies.specs.declared.scripts.Ran.{Ran}
use Rattle.tallies.specs.History.{Operation, counting, saving, returning, dropping, after}

abbrev pub byte : List ℕ → ℕ → ℕ
byte s i = get_or s i 0

-- an operation is a byte that says which, 0 to 3, and the number of an answer in one byte, or a name
unfoldable pub size_of : ℕ → ℕ
size_of code = cond (eqb code 0) 2 (cond (leb code 3) 9 0)

-- the bytes of the operation that stands at position a, 0 where none stands there whole
unfoldable pub size_at : List ℕ → ℕ → ℕ
size_at s a = cond (leb (a + size_of (byte s a)) (length s)) (size_of (byte s a)) 0

-- the name in the eight bytes from position a on
unfoldable pub name_at : List ℕ → ℕ → Name
name_at s a = record { bytes = tabulate 8 (λ i. byte s (a + i)) }

unfoldable pub operation_at : List ℕ → ℕ → Operation
operation_at s a =
    cond (eqb (byte s a) 0) (counting (byte s (a + 1)))
    (cond (eqb (byte s a) 1) (saving (name_at s (a + 1)))
    (cond (eqb (byte s a) 2) (returning (name_at s (a + 1))) (dropping (name_at s (a + 1)))))

-- where operation i starts
unfoldable pub position : List ℕ → ℕ → ℕ
position s zero = 0
position s (suc i) = position s i + size_at s (position s i)

-- the history of operations 0 to i - 1, the newest first
unfoldable pub history : List ℕ → ℕ → List Operation
history s zero = []
history s (suc i) = operation_at s (position s i) ∷ history s i

-- how many are made: a run ends where there is no operation, or where there is no room for another answer
unfoldable pub made : List ℕ → ℕ → ℕ
made s room = first_where room (λ i. eqb (size_at s (position s i)) 0)

-- the answer to operation i
unfoldable pub answer_to : List ℕ → Tally → ℕ → ℕ
answer_to s t i = answer_number (after t (history s (suc i))).answer

-- the answers after a run, from those before it
unfoldable pub answers_after : List ℕ → Tally → List ℕ → List ℕ
answers_after s t before = tabulate (length before) (λ i. cond (ltb i (made s (length before))) (answer_to s t i) (get_or before i 0))

-- what a run of the script s from the tally t promises: the number of operations and the tally after them, and the answers before and after it
pub record Runs (s : List ℕ) (t : Tally) (before now : List ℕ) (r : Ran) : Type 0 where
  pub count : r.made ≡ made s (length before)
  pub tally : r.tally ≡ (after t (history s (made s (length before)))).tally
  pub answers : now ≡ answers_after s t before

-- the same of a run on lent counts, which returns x: where they are not 32, 2^64 - 1, and nothing is written
pub record RunsLent (s before now counts counts' : List ℕ) (x : ℕ) : Type 0 where
  pub returned : x ≡ cond (eqb (length counts) 32) (made s (length before)) 18446744073709551615
  pub answers : now ≡ cond (eqb (length counts) 32) (answers_after s (record { counts = counts }) before) before
  pub tally : counts' ≡ cond (eqb (length counts) 32) (after (record { counts = counts }) (history s (made s (length before)))).tally.counts counts
