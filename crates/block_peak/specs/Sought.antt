-- The correlations from the quads, and what the search of their peak asks. Assumes nothing.
use Rattle.std.specs.Prelude.{ℕ, ◌+◌, ◌*◌, ◌/◌, ◌≤◌, ◌<◌, ◌≡◌, Bool, true, cond, not, ◌&&◌, List, ◌≢◌, eqb, ltb, ℤ, nat_abs, length}
use Rattle.area.specs.Area.{at}
use Rattle.quads.specs.Quads.{number_of}
use Rattle.keys.specs.Keys.{BoundedAll, count_of}
use Rattle.hadamard.specs.LowDigits.{by_digits}

-- the value of mask u: the quad u / 4, by the two low digits of u
abbrev pub value_at : List ℤ → ℕ → ℤ
value_at xs u =
    let z : ℤ = at xs (u / 4) in
    by_digits u (number_of 1 z) (number_of 256 z) (number_of 65536 z) (number_of 16777216 z)

-- whether the pair x, y, of the greatest size g, gives a mask that is alone: g is above h, half the places, or no other size is g and
-- neither number is 0
abbrev pub lone_test : ℕ → List ℤ → ℕ → ℤ → ℤ → Bool
lone_test h xs g x y = cond (ltb h g) true (eqb (count_of xs g) 1 && not (eqb (nat_abs x) 0) && not (eqb (nat_abs y) 0))

-- quads of which no two values are both great; h is the number of their pairs
pub record Sought (h : ℕ) (xs : List ℤ) : Type 0 where
  pub some : 0 < length xs
  pub pairs : h ≡ 2 * length xs
  pub all : BoundedAll xs
  pub spread : (u v : ℕ) → u < h + h → v < h + h → u ≢ v → nat_abs (value_at xs u) + nat_abs (value_at xs v) ≤ h + h
