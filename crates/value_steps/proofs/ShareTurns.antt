-- A turn of `share`: each member of coset q hears the other. Assumes nothing.
use Prim.Native.Nat.{ℕ, suc, ◌+◌, ◌*◌, ◌^◌, ◌≤◌, ◌<◌}
use mathlib.Core.Path.{◌≡◌, refl, sym, ap, ap₂, ◌∙◌}
use mathlib.Core.List.{List}
use native.Mathlib.Nat.{add-zero}
use native.Mathlib.Omega.{arith}
use lib.Bits.{bit_xor}
use lib.ListN.{length}
use lib.IntN.{ℤ, pos, nat_abs, ◌+ℤ◌}
use Rattle.words.specs.Written.{Written}
use Rattle.words.specs.Xor.{xor_twice}
use Rattle.area.specs.Area.{at}
use Rattle.direction.specs.Direction.{coset_of, highest, insert_zero}
use Rattle.direction.proofs.Members.{Members, members, number_one, number_two}
use Rattle.cosets.specs.SetBelow.{Blocks, SetBelow, apart_after, still, two_runs, pair_blocks, set_more}
use Rattle.confidences.specs.Confidences.{greatest}
use Rattle.confidences.specs.Values.{Projects, Sums, heard_at}
use Rattle.value_steps.specs.Shares.{said, Hears}

-- p is the representative of coset q, and ys the area before the turn
pub record Turn (m b c : ℕ) (xs : List ℤ) (n q p : ℕ) (ys : List ℤ) : Type 0 where
  pub asks : Projects m b c xs
  pub sums : Sums (2 ^ suc m) xs
  pub size : n ≡ 2 ^ m
  pub coset : Members m b q p
  pub so_far : SetBelow m b (λ p. at xs (2 ^ suc m + p) +ℤ heard_at b c xs p) xs q ys

-- from what the code knows there
pub turn_of : {m b c n h q p : ℕ} {xs ys : List ℤ} → Projects m b c xs → Sums (2 ^ suc m) xs → n ≡ 2 ^ m → q < 2 ^ m → h ≡ highest b → p ≡ insert_zero h q
    → SetBelow m b (λ p. at xs (2 ^ suc m + p) +ℤ heard_at b c xs p) xs q ys → Turn m b c xs n q p ys
turn_of asks sums size l top inserted so_far = record { asks = asks; sums = sums; size = size; coset = members asks.direction l top inserted; so_far = so_far }

module _ {m b c n q p : ℕ} {xs ys : List ℤ} (t : Turn m b c xs n q p ys) where
  abbrev o : ℕ
  o = bit_xor p b

  one_of : coset_of b p ≡ q
  one_of = number_one t.asks.direction t.coset

  two_of : coset_of b o ≡ q
  two_of = number_two t.asks.direction t.coset

  blocks : Blocks m b 1 q p o
  blocks = pair_blocks t.asks.direction t.coset

  room : c + q < length ys
  room = omega (arith, t.so_far.long, t.asks.room, t.coset.number)

  abbrev f : ℕ → ℤ
  f r = at xs (2 ^ suc m + r) +ℤ heard_at b c xs r

  value : (j : ℕ) → j < 2 ^ suc m → nat_abs (at ys j) ≤ greatest
  value j l = rw (t.so_far.below j l) (t.asks.values.small j l)

  -- the sum of a member, before it hears
  sum_ahead : (r : ℕ) → r < 2 ^ suc m → coset_of b r ≡ q → at ys (2 * n + r) ≡ at xs (2 ^ suc m + r)
  sum_ahead r l e = ap (at ys) {x = 2 * n + r} {y = 2 ^ suc m + r} (omega (arith, t.size)) ∙ t.so_far.ahead r l (omega arith)

  few : (r : ℕ) → r < 2 ^ suc m → coset_of b r ≡ q → nat_abs (at ys (2 * n + r)) < 2 ^ 29
  few r l e = rw (sum_ahead r l e) (t.sums.small r l)

  -- what the member r hears of the other
  heard : (r s : ℕ) → r < 2 ^ suc m → s < 2 ^ suc m → coset_of b r ≡ q → bit_xor r b ≡ s → at ys (2 * n + r) +ℤ said (at ys (c + q)) (at ys s) ≡ f r
  heard r s lr ls er es =
      ap₂ ◌+ℤ◌ (sum_ahead r lr er)
      (ap₂ said (t.so_far.above (c + q) (omega (arith, t.asks.beyond)) ∙ ap (λ (x : ℕ). at xs (c + x)) (sym er)) (t.so_far.below s ls ∙ ap (at xs) (sym es)))

  pub first_asks : Hears (c + q) o (2 * n + p) ys
  first_asks = record {
    says = record { sign = room; value = omega (arith, room, t.asks.beyond, t.coset.partner); small = value o t.coset.partner };
    room = omega (arith, room, t.asks.beyond, t.coset.place, t.size);
    few = few p t.coset.place one_of;
  }

  module _ {us : List ℤ} (first : Written (pos 0) (2 * n + p) 1 (λ _. at ys (2 * n + p) +ℤ said (at ys (c + q)) (at ys o)) ys us) where
    sign_kept : at us (c + q) ≡ at ys (c + q)
    sign_kept = first.above (c + q) (omega (arith, t.asks.beyond, t.coset.place, t.size))

    value_kept : at us p ≡ at ys p
    value_kept = first.below p (omega (arith, t.coset.place, t.size))

    sum_kept : at us (2 * n + o) ≡ at ys (2 * n + o)
    sum_kept = rw (add-zero (2 * n + o)) at (still (apart_after (2 * n) blocks.apart) first 0 (omega arith))

    pub second_asks : Hears (c + q) p (2 * n + o) us
    second_asks = record {
      says = record {
        sign = omega (arith, room, first.long);
        value = omega (arith, room, first.long, t.asks.beyond, t.coset.place);
        small = rw value_kept (value p t.coset.place);
      };
      room = omega (arith, room, first.long, t.asks.beyond, t.coset.partner, t.size);
      few = rw sum_kept (few o t.coset.partner two_of);
    }

    pub share_more : {vs : List ℤ} → Written (pos 0) (2 * n + o) 1 (λ _. at us (2 * n + o) +ℤ said (at us (c + q)) (at us p)) us vs → SetBelow m b f xs (q + 1) vs
    share_more second =
        set_more blocks t.so_far (two_runs (apart_after (2 * n) blocks.apart) first second) (omega (arith, t.size)) (omega (arith, t.size))
        (λ i hi. heard p o t.coset.place t.coset.partner one_of refl ∙ ap f (omega arith))
        (λ i hi. rw (sum_kept, sign_kept, value_kept) (heard o p t.coset.partner t.coset.place two_of (xor_twice p b) ∙ ap f (omega arith)))
