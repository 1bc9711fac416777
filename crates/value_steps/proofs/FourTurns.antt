-- Four directions, 4 k to 4 k + 3, and the members of a block of 4 cosets of each. Assumes nothing.
use Prim.Native.Nat.{ℕ, suc, ◌+◌, ◌*◌, ◌%◌, ◌^◌, ◌≤◌, ◌<◌}
use mathlib.Core.Path.{◌≡◌, sym, ap, ◌∙◌}
use mathlib.Core.List.{List}
use native.Mathlib.Omega.{arith}
use lib.Bits.{bit_xor}
use lib.ListN.{length}
use lib.IntN.{ℤ, nat_abs}
use Rattle.area.specs.Area.{at}
use Rattle.direction.specs.Direction.{highest, insert_zero}
use Rattle.direction.proofs.Insert.{Top, top_le}
use Rattle.direction.specs.IsDirection.{IsDirection}
use Rattle.direction.proofs.Members.{direction_top}
use Rattle.projections.specs.Fours.{InFours}
use Rattle.projections.specs.FourLaws.{pow_whole, high_top}
use Rattle.projections.proofs.FourTurns.{FourTurn, four_members, four_partner, partner_place}
use Rattle.confidences.specs.Confidences.{greatest, project_values}
use Rattle.confidences.specs.Values.{Projects, ProjectsFour, front_of}
use Rattle.value_steps.specs.Pairs.{ValueBlocks, pair_joint}
use Rattle.value_steps.proofs.ProjectTurns.{pair_value}

-- ---- the highest one is that of 4 k

top_same : {h g b : ℕ} → Top h b → Top g b → h ≡ g
top_same {h} {g} t u = omega (arith, top_le t g u.below, top_le u h t.below)

module _ {m k : ℕ} {xs : List ℤ} (asks : ProjectsFour m k xs) where
  four_top : Top (highest (4 * k)) (4 * k)
  four_top = direction_top asks.direction

  module _ (l : ℕ) (hl : l < 4) where
    digits_top : Top (highest (4 * k)) (4 * k + l)
    digits_top =
        let w : 2 ^ suc (highest (4 * k)) % 4 ≡ 0 = pow_whole (suc (highest (4 * k))) (omega (arith, high_top four_top (omega (arith, asks.direction.some)))) in
        record { above = omega (arith, four_top.above); below = omega (arith, four_top.below) }

    digits : IsDirection m (4 * k + l)
    digits = record {
      small = asks.direction.small;
      some = omega (arith, asks.direction.some);
      under = omega (arith, asks.direction.under, pow_whole (suc m) (omega (arith, asks.blocks)));
    }

    in_fours : {h : ℕ} → h ≡ highest (4 * k) → InFours h (4 * k) l
    in_fours e = record {
      whole = omega arith;
      some = omega (arith, asks.direction.some);
      low = hl;
      top = e ∙ top_same digits_top (direction_top digits);
    }

    -- the cosets of direction 4 k + l
    pub digits_ask : Projects m (4 * k + l) (4 * 2 ^ m) xs
    digits_ask = record {
      direction = digits;
      beyond = omega arith;
      room = omega (arith, asks.room);
      values = asks.values;
    }

    pub four_turn : {h q p : ℕ} → h ≡ highest (4 * k) → q < 2 ^ m → q % 4 ≡ 0 → p ≡ insert_zero h q → FourTurn m h (4 * k) l q p
    four_turn e lq wq ep = record { fours = in_fours e; direction = digits; number = lq; whole = wq; inserted = ep }

-- ---- the blocks of a turn

module _ {m h w l q p : ℕ} (t : FourTurn m h w l q p) where
  -- the places of one direction
  pub value_blocks : {b : ℕ} {xs : List ℤ} → Projects m (w + l) b xs → (ys : List ℤ) → length ys ≡ length xs → ((j : ℕ) → j < 2 ^ suc m → at ys j ≡ at xs j)
      → (c : ℕ) → c + 4 ≤ length xs → ValueBlocks c p (bit_xor p w) l ys
  value_blocks asks ys long same c room =
      let small : (j : ℕ) → j < 2 ^ suc m → nat_abs (at ys j) ≤ greatest = λ j lj. rw (same j lj) (asks.values.small j lj) in
      record {
        low = t.fours.low;
        room = omega (arith, long);
        place = omega (arith, asks.values.room, long, (four_members t 3 (omega arith)).place);
        partner = omega (arith, asks.values.room, long, partner_place t 3 (omega arith));
        one = λ i hi. small (p + i) (four_members t i hi).place;
        two = λ i hi. small (bit_xor p w + i) (partner_place t i hi);
      }

  -- their joint values are the projection's entries
  pub four_joint : {c : ℕ} {xs : List ℤ} → Projects m (w + l) c xs → (ys : List ℤ) → ((j : ℕ) → j < 2 ^ suc m → at ys j ≡ at xs j) → (i : ℕ) → i < 4
      → pair_joint ys (p + i) (bit_xor p w + bit_xor i l) ≡ at (project_values m (w + l) (front_of (2 ^ suc m) xs)) (q + i)
  four_joint asks ys same i hi =
      ap (pair_joint ys (p + i)) (sym (four_partner t i hi)) ∙ pair_value asks (four_members t i hi) ys same
