-- Quads as the code reads them, and their sizes as it writes them. Assumes nothing.
use Prim.Native.Nat.{ℕ, ◌+◌, ◌*◌, ◌^◌, ◌≤◌, ◌<◌}
use mathlib.Core.Path.{◌≡◌, refl, ap, ◌∙◌}
use mathlib.Core.List.{List}
use native.Mathlib.Omega.{arith}
use lib.IntN.{ℤ, pos}
use lib.ListN.{length}
use Rattle.words.specs.Written.{Written}
use Rattle.area.specs.Area.{at, four_of}
use Rattle.area.proofs.AreaLaws.{four_as}
use Rattle.area.specs.Numbers.{stored, stored-eq}
use Rattle.area.specs.Places.{Places, places}
use Rattle.peaks.specs.Stored.{number_read}
use Rattle.quads.specs.Quads.{Bounded}
use Rattle.quarter_sizes.specs.Sized.{Quads}

module _ {q : ℕ} {xs : List ℤ} (k : Quads q xs) where
  pub quad_read : (j : ℕ) → j < q → stored (at xs j) ≡ at xs j
  quad_read j l = stored-eq (at xs j) (omega (arith, (k.each j l).raisable.small))

  pub quad_bounded : (j : ℕ) → j < q → Bounded (stored (at xs j))
  quad_bounded j l = rw (quad_read j l) (k.each j l)

-- the places that the code takes
pub record Rooms (q i n : ℕ) : Type 0 where
  pub quads : Places i 4 n
  pub sums : Places (q + i) 4 n
  pub differences : Places (q + (q + i)) 4 n

pub size_rooms : (i : ℕ) {q : ℕ} {xs : List ℤ} → (i + 4 ≤ q) × Quads q xs → length xs * 4 < 2 ^ 63 → Rooms q i (length xs)
size_rooms i pre small = record {
  quads = places small tt (omega (arith, pre.0, pre.1.size));
  sums = places small tt (omega (arith, pre.0, pre.1.size));
  differences = places small tt (omega (arith, pre.0, pre.1.size));
}

-- the sizes of the four quads from i on, written from place a on
module _ (i : ℕ) {q : ℕ} {xs : List ℤ} (pre : (i + 4 ≤ q) × Quads q xs) (g : ℤ → ℕ) (small : (z : ℤ) → g z ≤ 764) where
  abbrev SizeAt : ℕ → ℤ → Type 0
  SizeAt j r = r ≡ pos (g (stored (at xs j)))

  size_stored : (p j : ℕ) → p < 4 → j ≡ i + p → {r : ℤ} → SizeAt j r → stored r ≡ pos (g (at xs (i + p)))
  size_stored p j l e er =
      number_read
      (er ∙ rw e (ap (λ (z : ℤ). pos (g z)) (quad_read pre.1 (i + p) (omega (arith, pre.0)))))
      (omega (arith, small (at xs (i + p))))

  pub four_written :
      {a : ℕ} {ys zs : List ℤ} {r s t u : ℤ} → SizeAt i r → SizeAt (i + 1) s → SizeAt (i + 2) t → SizeAt (i + 3) u
      → Written (pos 0) a 4 (four_of (stored r) (stored s) (stored t) (stored u)) ys zs
      → Written (pos 0) a 4 (λ p. pos (g (at xs (i + p)))) ys zs
  four_written er es et eu w =
      four_as w
      (size_stored 0 i (omega arith) (omega arith) er)
      (size_stored 1 (i + 1) (omega arith) refl es)
      (size_stored 2 (i + 2) (omega arith) refl et)
      (size_stored 3 (i + 3) (omega arith) refl eu)
