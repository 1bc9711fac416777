-- The generator of a load: document 02, request 9. Assumes nothing.
use Rattle.std.specs.Prelude.{ℕ, zero, suc, ◌*◌, ◌/◌, ◌%◌, ◌^◌, cond, List, ltb, length, set}
use Rattle.std.specs.Int.Bits.{bit_xor}
use Rattle.words.specs.Sum.{sum_below, tabulate}
use Rattle.words.specs.Word.{bit}

-- "exclusive or with itself shifted left .. kept to 32 bits", and right
abbrev pub mix_left : ℕ → ℕ → ℕ
mix_left k x = bit_xor x (x * 2 ^ k % 2 ^ 32)

abbrev pub mix_right : ℕ → ℕ → ℕ
mix_right k x = bit_xor x (x / 2 ^ k)

-- "From a 32-bit start, each step is: exclusive or with itself shifted left 13, then right 17, then left 5, kept to 32 bits."
unfoldable pub step : ℕ → ℕ
step x = mix_left 5 (mix_right 17 (mix_left 13 x))

-- the state after so many steps
unfoldable pub steps : ℕ → ℕ → ℕ
steps zero x = x
steps (suc k) x = step (steps k x)

-- "draws a message, one step a bit, top bit of the new state"
unfoldable pub message_from : ℕ → ℕ → List ℕ
message_from k x = tabulate k (λ i. steps (suc i) x / 2 ^ 31)

-- a state, and a word that is 1 at the wrong places
pub record Drawn : Type 0 where
  pub state : ℕ
  pub noise : List ℕ

-- how many places are wrong
unfoldable pub wrong_in : List ℕ → ℕ
wrong_in noise = sum_below (length noise) (bit noise)

-- "draws places, one step each, new state modulo n": a place that is wrong already stays so
unfoldable pub draw : Drawn → Drawn
draw d = let y : ℕ = step d.state in record { state = y; noise = set d.noise (y % length d.noise) 1 }

-- "until the asked number of different places is wrong"
unfoldable pub draw_until : ℕ → Drawn → Drawn
draw_until asked d = cond (ltb (wrong_in d.noise) asked) (draw d) d

-- so many times
unfoldable pub draw_times : ℕ → ℕ → Drawn → Drawn
draw_times asked zero d = d
draw_times asked (suc k) d = draw_until asked (draw_times asked k d)

-- "At most n steps are made for places": of n places, none wrong at first
unfoldable pub places_from : ℕ → ℕ → ℕ → Drawn
places_from n asked x = draw_times asked n record { state = x; noise = tabulate n (λ p. 0) }
