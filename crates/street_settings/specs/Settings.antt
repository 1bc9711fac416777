-- The settings of a street from a program's arguments: up to five numbers, in the order profile, wrong places, meters, retries, start, and
-- anywhere among them the word summary. Text is a list of bytes. Assumes nothing.
use Rattle.std.specs.Prelude.{ℕ, zero, suc, ◌+◌, ◌-◌, ◌*◌, ◌^◌, Option, Some, None, Result, Ok, Err, Bool, true, false, cond, ◌&&◌, List, [], ◌∷◌, eqb, leb, ltb, length}
use Rattle.words.specs.Sum.{all_below}
use Rattle.words.specs.Word.{bit}
use Rattle.street_settings.specs.declared.Asked.{Asked}
use Rattle.street_settings.specs.declared.Bad.{Bad}
use Rattle.street_settings.specs.declared.Bad.TheVariants.{NotNumber, TooMany}
use Rattle.street_settings.specs.declared.Settings.{Settings}

-- where an argument is left out: profile 1, 3 wrong places, 100 meters, 3 retries, start 1, a line for each step before the summary
abbrev pub defaults : Settings
defaults = record { profile = 1; wrong = 3; meters = 100; retries = 3; start = 1; summary = false }

-- ---- numbers

abbrev pub is_digit : ℕ → Bool
is_digit b = leb 48 b && ltb b 58

unfoldable pub all_digits : List ℕ → Bool
all_digits s = all_below (length s) (λ p. is_digit (bit s p))

-- the number that the first k digits of s say
unfoldable pub value_of : List ℕ → ℕ → ℕ
value_of s zero = 0
value_of s (suc k) = 10 * value_of s k + (bit s k - 48)

-- decimal digits, at least one, of a number below 2^32
unfoldable pub is_number : List ℕ → Bool
is_number s = ltb 0 (length s) && all_digits s && ltb (value_of s (length s)) (2 ^ 32)

unfoldable pub number_in : List ℕ → Option ℕ
number_in s = cond (is_number s) (Some (value_of s (length s))) None

-- a number below 2^32
abbrev pub kept32 : ℕ → Option ℕ
kept32 v = cond (ltb v (2 ^ 32)) (Some v) None

-- ---- arguments

abbrev pub same_bytes : List ℕ → List ℕ → Bool
same_bytes a b = eqb (length a) (length b) && all_below (length a) (λ p. eqb (bit a p) (bit b p))

-- the word summary
abbrev pub is_summary : List ℕ → Bool
is_summary s = same_bytes s (115 ∷ 117 ∷ 109 ∷ 109 ∷ 97 ∷ 114 ∷ 121 ∷ [])

-- the settings with a number in its place
abbrev pub with_number : Settings → ℕ → ℕ → Settings
with_number s place v = record {
  profile = cond (eqb place 0) v s.profile;
  wrong = cond (eqb place 1) v s.wrong;
  meters = cond (eqb place 2) v s.meters;
  retries = cond (eqb place 3) v s.retries;
  start = cond (eqb place 4) v s.start;
  summary = s.summary;
}

abbrev pub with_summary : Settings → Settings
with_summary s = record { profile = s.profile; wrong = s.wrong; meters = s.meters; retries = s.retries; start = s.start; summary = true }

-- a number after those so far: "up to five"
abbrev pub asked_by : Asked → Option ℕ → Result Asked Bad
asked_by a None = Err NotNumber
asked_by a (Some v) = cond (ltb 4 a.numbers) (Err TooMany) (Ok (record { settings = with_number a.settings a.numbers v; numbers = a.numbers + 1 }))

-- what the arguments ask with one more
unfoldable pub asked : Asked → List ℕ → Result Asked Bad
asked a s = cond (is_summary s) (Ok (record { settings = with_summary a.settings; numbers = a.numbers })) (asked_by a (number_in s))
