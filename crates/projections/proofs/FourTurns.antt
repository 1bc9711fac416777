-- One turn of the loops by blocks of 4: the members of the cosets q to q + 3 and their bits. Assumes nothing.
use Prim.Native.Nat.{ℕ, suc, ◌+◌, ◌-◌, ◌*◌, ◌%◌, ◌^◌, ◌≤◌, ◌<◌}
use mathlib.Core.Path.{◌≡◌, sym, ap, ◌∙◌}
use mathlib.Core.List.{List}
use mathlib.Core.Logic.{◌⊎◌, inl, inr, ⊎_elim}
use native.Mathlib.Omega.{arith}
use lib.Bits.{bit_xor}
use lib.ListN.{length}
use lib.IntN.{ℤ, pos}
use Rattle.words.specs.Word.{bit}
use Rattle.words.specs.Xor.{xor_twice}
use Rattle.area.specs.Area.{at, word_of}
use Rattle.area.proofs.AreaLaws.{bits_xor}
use Rattle.direction.specs.Direction.{coset_of, insert_zero, project}
use Rattle.direction.proofs.Insert.{Top, top_le}
use Rattle.direction.specs.IsDirection.{IsDirection}
use Rattle.direction.proofs.Members.{Members, members, direction_top, number_one, number_two, only_members}
use Rattle.cosets.specs.SetBelow.{Among, among, Blocks}
use Rattle.cosets.specs.Votes.{Projects}
use Rattle.projections.specs.Fours.{InFours, TwoBlocks, pair_sum}
use Rattle.projections.specs.FourLaws.{four_lt, pow_whole, high_top, insert_four, insert_whole, partner_four, blocks_apart}
use Rattle.cosets.proofs.Turns.{pair_value}

-- p is the representative of coset q, the first of a block
pub record FourTurn (m h w l q p : ℕ) : Type 0 where
  pub fours : InFours h w l
  pub direction : IsDirection m (w + l)
  pub number : q < 2 ^ m
  pub whole : q % 4 ≡ 0
  pub inserted : p ≡ insert_zero h q

module _ {m h w l : ℕ} (fours : InFours h w l) (d : IsDirection m (w + l)) where
  top : Top h (w + l)
  top = rw fours.top (direction_top d)

  pub highest_le : h ≤ m
  highest_le = top_le top m d.under

  two_le : 2 ≤ h
  two_le = high_top top (omega (arith, fours.some))

  pub size_whole : 2 ^ m % 4 ≡ 0
  size_whole = pow_whole m (omega (arith, two_le, highest_le))

module _ {m h w l q p : ℕ} (t : FourTurn m h w l q p) where
  two : 2 ≤ h
  two = two_le t.fours t.direction

  pub block_room : q + 4 ≤ 2 ^ m
  block_room = omega (arith, size_whole t.fours t.direction)

  pub place_whole : p % 4 ≡ 0
  place_whole = rw t.inserted (insert_whole h q two t.whole)

  module _ (i : ℕ) (hi : i < 4) where
    pub four_members : Members m (w + l) (q + i) (p + i)
    four_members =
        members t.direction (omega (arith, block_room)) t.fours.top (ap (λ (x : ℕ). x + i) t.inserted ∙ sym (insert_four h q two t.whole i hi))

    pub four_partner : bit_xor (p + i) (w + l) ≡ bit_xor p w + bit_xor i l
    four_partner = partner_four p w place_whole t.fours.whole i l hi t.fours.low

    -- of place p + i
    pub coset_one : coset_of (w + l) (p + i) ≡ q + i
    coset_one = number_one t.direction four_members

  -- of place z + i, z being p XOR w
  module _ (i : ℕ) (hi : i < 4) where
    low_lt : bit_xor i l < 4
    low_lt = four_lt hi t.fours.low

    other_is : bit_xor (p + bit_xor i l) (w + l) ≡ bit_xor p w + i
    other_is = four_partner (bit_xor i l) low_lt ∙ ap (λ (x : ℕ). bit_xor p w + x) (xor_twice i l)

    pub coset_two : coset_of (w + l) (bit_xor p w + i) ≡ q + bit_xor i l
    coset_two = ap (coset_of (w + l)) (sym other_is) ∙ number_two t.direction (four_members (bit_xor i l) low_lt)

    pub back_two : bit_xor (bit_xor p w + i) (w + l) ≡ p + bit_xor i l
    back_two = ap (λ (x : ℕ). bit_xor x (w + l)) (sym other_is) ∙ xor_twice (p + bit_xor i l) (w + l)

    pub partner_place : bit_xor p w + i < 2 ^ suc m
    partner_place = omega (arith, (four_members (bit_xor i l) low_lt).partner, other_is)

  -- ---- the blocks at p and at p XOR w

  in_one : (r : ℕ) → Among p 4 r → Among q 4 (coset_of (w + l) r)
  in_one r a =
      let i : r - p < 4 = omega (arith, a.least, a.most) in
      let e : coset_of (w + l) r ≡ q + (r - p) = ap (coset_of (w + l)) (omega (arith, a.least)) ∙ coset_one (r - p) i in
      record { least = omega arith; most = omega arith }

  in_two : (r : ℕ) → Among (bit_xor p w) 4 r → Among q 4 (coset_of (w + l) r)
  in_two r a =
      let i : r - bit_xor p w < 4 = omega (arith, a.least, a.most) in
      let e : coset_of (w + l) r ≡ q + bit_xor (r - bit_xor p w) l = ap (coset_of (w + l)) (omega (arith, a.least)) ∙ coset_two (r - bit_xor p w) i in
      record { least = omega arith; most = omega (arith, low_lt (r - bit_xor p w) i) }

  is_member : (r : ℕ) → Among q 4 (coset_of (w + l) r) → Among p 4 r ⊎ Among (bit_xor p w) 4 r
  is_member r a =
      let i : ℕ = coset_of (w + l) r - q in
      let hi : i < 4 = omega (arith, a.least, a.most) in
      let of : coset_of (w + l) r ≡ q + i = omega (arith, a.least) in
      ⊎_elim (λ (e : r ≡ p + i). inl (rw e (among p 4 i hi)))
      (λ (e : r ≡ bit_xor (p + i) (w + l)). inr (rw (e, four_partner i hi) (among (bit_xor p w) 4 (bit_xor i l) (low_lt i hi))))
      (only_members t.direction (four_members i hi) r of)

  pub four_blocks : Blocks m (w + l) 4 q p (bit_xor p w)
  four_blocks = record {
    place = omega (arith, (four_members 3 (omega arith)).place);
    partner = omega (arith, partner_place 3 (omega arith));
    apart = record { apart = blocks_apart p w place_whole t.fours.whole (omega (arith, t.fours.some)) };
    one = in_one;
    two = in_two;
    only = is_member;
  }

  -- ---- their bits

  module _ {xs : List ℤ} (asks : Projects m (w + l) xs) (ys : List ℤ) (long : length ys ≡ length xs) (same : (j : ℕ) → j < 2 ^ suc m → at ys j ≡ at xs j) where
    pub two_blocks : (c : ℕ) → c + 4 ≤ 5 * 2 ^ m → TwoBlocks c p (bit_xor p w) l ys
    two_blocks c lc = record {
      low = t.fours.low;
      room = omega (arith, asks.room);
      place = omega (arith, asks.room, four_blocks.place);
      partner = omega (arith, asks.room, four_blocks.partner);
      one = λ i hi. rw (same (p + i) (four_members i hi).place) (asks.bits.bits (p + i) (four_members i hi).place);
      two = λ i hi. rw (same (bit_xor p w + i) (partner_place i hi)) (asks.bits.bits (bit_xor p w + i) (partner_place i hi));
    }

    -- the sum of the members' bits is the projected bit
    pub four_value : (i : ℕ) → i < 4 → pair_sum p (bit_xor p w) l ys i ≡ pos (bit (project m (w + l) (word_of (2 ^ suc m) xs)) (q + i))
    four_value i hi =
        let b = two_blocks 0 (omega (arith, block_room)) in
        sym (bits_xor (b.one i hi) (b.two (bit_xor i l) (low_lt i hi)))
        ∙ rw (sym (four_partner i hi)) (pair_value asks (four_members i hi) ys same)
