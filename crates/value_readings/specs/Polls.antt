-- What a round of confidences and its directions ask and promise. Assumes nothing.
use Rattle.std.specs.Prelude.{Option, Ok, Err, ℕ, suc, ◌+◌, ◌-◌, ◌*◌, ◌%◌, ◌^◌, ◌≤◌, ◌<◌, ◌≡◌, Bool, cond, List, length, take, drop, eqb, ltb, ℤ, pos, nat_abs, ◌+ℤ◌}
use Rattle.std.specs.Int.Bits.{bit_xor}
use Rattle.words.specs.Sum.{sum_below}
use Rattle.words.specs.Written.{Written}
use Rattle.area.specs.Area.{at, SameFront}
use Rattle.direction.specs.Direction.{coset_of}
use Rattle.hadamard.specs.Correlation.{signed}
use Rattle.rule.specs.Reading.{Outcome, order1}
use Rattle.told.specs.Told.{Verdict}
use Rattle.steps.specs.Steps.{count_of}
use Rattle.steps.specs.declared.Count.{Count}
use Rattle.confidences.specs.Confidences.{abstained, cut, greatest, round_leaves, updated}
use Rattle.confidences.specs.FirstDirections.{abstained_to, sums_to}
use Rattle.confidences.specs.Values.{Values, front_of}
use Rattle.value_orders.specs.Leaves.{Leaf}

-- values of exponent m + 1 stand in the front, and there is room for a round of them
pub record Rounded (m : ℕ) (xs : List ℤ) : Type 0 where
  pub some : 1 ≤ m
  pub few : m ≤ 9
  pub room : 8 * 2 ^ m ≤ length xs
  pub values : Values (2 ^ suc m) xs

-- what a round of values of exponent m + 1 leaves: the new values
pub record Renewed (m left : ℕ) (lower : List ℤ → Outcome) (xs ys : List ℤ) (count : Option Count) : Type 0 where
  pub said : count ≡ count_of left (round_leaves m lower (front_of (2 ^ suc m) xs)) (abstained m lower (front_of (2 ^ suc m) xs))
  pub long : length ys ≡ length xs
  pub values : round_leaves m lower (front_of (2 ^ suc m) xs) ≤ left → (p : ℕ) → p < 2 ^ suc m
      → at ys p ≡ at (updated m lower (front_of (2 ^ suc m) xs)) p

-- a value's new number: of a round in which a directions abstained
abbrev pub new_at : ℕ → ℕ → List ℤ → ℕ → ℤ
new_at m a xs p = cond (eqb a (2 ^ suc m - 1)) (at xs p) (cut (at xs (2 ^ suc m + p)))

-- ---- directions

-- directions 1 to i were heard, each read by `lower`: their sums stand after the values
pub record Poll (m : ℕ) (lower : List ℤ → Outcome) (i : ℕ) (xs : List ℤ) : Type 0 where
  pub round : Rounded m xs
  pub many : i ≤ 2 ^ suc m - 1
  pub sums : (p : ℕ) → p < 2 ^ suc m → at xs (2 ^ suc m + p) ≡ sums_to m lower (front_of (2 ^ suc m) xs) i p

-- directions i + 1 to j were heard, of which a abstained
pub record Polled (m : ℕ) (lower : List ℤ → Outcome) (i j : ℕ) (xs ys : List ℤ) (a : ℕ) : Type 0 where
  pub poll : Poll m lower j ys
  pub front : SameFront (2 ^ suc m) xs ys
  pub silent : abstained_to m lower (front_of (2 ^ suc m) xs) i + a ≡ abstained_to m lower (front_of (2 ^ suc m) xs) j

-- ---- how many are heard together, where each is read at order 1

-- after the first i: of the first three one, then four
abbrev pub together : ℕ → ℕ
together i = cond (ltb i 3) 1 4

-- more follow the first i, which are whole fours from the fourth on
pub record Next (m i : ℕ) : Type 0 where
  pub more : i < 2 ^ suc m - 1
  pub whole : 3 ≤ i → (i + 1) % 4 ≡ 0

-- ---- readings of a higher order: the word that an answer tells of stands by bits

-- what direction b says of place p after its reading's answer, by the bits from 4 × 2^m on
abbrev pub said_of : ℕ → ℕ → List ℤ → Verdict → ℕ → ℤ
said_of m b xs (Ok a) p = signed (nat_abs (at xs (4 * 2 ^ m + coset_of b p))) (at xs (bit_xor p b))
said_of m b xs (Err u) p = pos 0

-- it was heard
pub record Heard (m b : ℕ) (answer : Verdict) (xs ys : List ℤ) : Type 0 where
  pub front : SameFront (2 ^ suc m) xs ys
  pub sums : (p : ℕ) → p < 2 ^ suc m → at ys (2 ^ suc m + p) ≡ at xs (2 ^ suc m + p) +ℤ said_of m b xs answer p

-- ---- readings at order 1

abbrev pub leaf : ℕ → List ℤ → Outcome
leaf m x = order1 m (at x)

-- the k numbers from place c on
abbrev pub part_of : ℕ → ℕ → List ℤ → List ℤ
part_of c k xs = take k (drop c xs)

-- values of exponent m stand from place c on
pub record LeafAt (m c : ℕ) (xs : List ℤ) : Type 0 where
  pub some : 1 ≤ m
  pub few : m ≤ 9
  pub room : c + 2 ^ m ≤ length xs
  pub small : (q : ℕ) → q < 2 ^ m → nat_abs (at xs (c + q)) ≤ greatest

-- they were read, and nothing else was touched
pub record ReadAt (m c : ℕ) (xs ys : List ℤ) (b : Bool) : Type 0 where
  pub leaf : Leaf (2 ^ m) (leaf m (part_of c (2 ^ m) xs)) (part_of c (2 ^ m) ys) b
  pub rest : Written (pos 0) c (2 ^ m) (λ q. at ys (c + q)) xs ys

-- whether a direction abstains, and how many of four
abbrev pub silence : Bool → ℕ
silence w = cond w 0 1

abbrev pub silences : (ℕ → Bool) → ℕ
silences w = sum_below 4 (λ l. silence (w l))
