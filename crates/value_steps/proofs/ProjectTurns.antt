-- A turn of `project`: the joint value of the members of coset q. Assumes nothing.
use Prim.Native.Nat.{ℕ, suc, ◌^◌, ◌≤◌, ◌<◌}
use mathlib.Core.Path.{◌≡◌, sym, ap, ap₂, ◌∙◌}
use mathlib.Core.List.{List}
use lib.Bits.{bit_xor}
use lib.IntN.{ℤ, nat_abs}
use Rattle.area.specs.Area.{at}
use Rattle.area.specs.Numbers.{stored}
use Rattle.direction.proofs.Members.{Members}
use Rattle.confidences.specs.Confidences.{greatest, joint, project_values}
use Rattle.confidences.proofs.Rounds.{at_project}
use Rattle.confidences.specs.Values.{Projects, front_of}
use Rattle.value_steps.proofs.ValueReads.{at_front, value_small, joint_kept}

module _ {m b c : ℕ} {xs : List ℤ} (asks : Projects m b c xs) {q p : ℕ} (coset : Members m b q p) (ys : List ℤ) (same : (j : ℕ) → j < 2 ^ suc m → at ys j ≡ at xs j) where
  small : (j : ℕ) → j < 2 ^ suc m → nat_abs (at ys j) ≤ greatest
  small j l = rw (same j l) (asks.values.small j l)

  pub pair_asks : (nat_abs (stored (at ys p)) < 2 ^ 29) × (nat_abs (stored (at ys (bit_xor p b))) < 2 ^ 29)
  pair_asks = (value_small (at ys p) (small p coset.place), value_small (at ys (bit_xor p b)) (small (bit_xor p b) coset.partner))

  -- the members' joint value is the projection's entry
  pub pair_value : joint (at ys p) (at ys (bit_xor p b)) ≡ at (project_values m b (front_of (2 ^ suc m) xs)) q
  pair_value =
      let here : (j : ℕ) → j < 2 ^ suc m → at ys j ≡ at (front_of (2 ^ suc m) xs) j = λ j l. same j l ∙ sym (at_front (2 ^ suc m) xs j l) in
      ap₂ joint (here p coset.place) (here (bit_xor p b) coset.partner)
      ∙ ap (λ (i : ℕ). joint (at (front_of (2 ^ suc m) xs) i) (at (front_of (2 ^ suc m) xs) (bit_xor i b))) coset.inserted
      ∙ sym (at_project m b (front_of (2 ^ suc m) xs) q coset.number)

  pub pair_is : (r : ℤ) → r ≡ joint (stored (at ys p)) (stored (at ys (bit_xor p b))) → stored r ≡ at (project_values m b (front_of (2 ^ suc m) xs)) q
  pair_is r e = joint_kept (at ys p) (at ys (bit_xor p b)) (small p coset.place) (small (bit_xor p b) coset.partner) r e ∙ pair_value
