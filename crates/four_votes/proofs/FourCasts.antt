-- The votes of a block of 4 cosets, added at both members. Assumes nothing.
use Prim.Native.Nat.{ℕ, ◌+◌, ◌-◌, ◌*◌, ◌^◌, ◌<◌, ◌≤◌}
use mathlib.Core.Path.{◌≡◌, sym, ap, ap₂, ◌∙◌}
use mathlib.Core.List.{List}
use native.Mathlib.Nat.{zero-add}
use native.Mathlib.Omega.{arith}
use lib.Bits.{bit_xor, xor_zero_r}
use lib.ListN.{length}
use lib.IntN.{ℤ, pos, ◌+ℤ◌}
use mir.Syntax.{w64}
use mir.Val.{Fits}
use borrow.Rule.Slice.PartMut.{put_mid}
use Rattle.words.specs.Written.{Written, written_none, written_to, written_as}
use Rattle.words.specs.Parts.{written_part}
use Rattle.area.specs.Area.{at, IsBit, four_of}
use Rattle.area.proofs.AreaLaws.{bit_back, by_four}
use Rattle.area.specs.Numbers.{stored, Half}
use Rattle.area.specs.Places.{Places, index_fits, places}
use Rattle.cosets.specs.SetBelow.{Apart, apart_after, still, two_runs}
use Rattle.projections.specs.Fours.{bit_sum, pair_sum}
use Rattle.four_votes.specs.FourVotes.{Addends, FourVotes, four_vote, FourVoted}
use Rattle.projections.specs.FourLaws.{four_lt}
use Rattle.projections.proofs.FourParts.{four, four-length, four-at, four_sum, sum_bit}

-- a block of 4 entries to which the numbers v were added, in the order j XOR l, has come back
part_added : (r l : ℕ) (xs part : List ℤ) (v : ℕ → ℤ) → r + 4 ≤ length xs → Written (pos 0) 0 4 (λ j. at (four r xs) j +ℤ v (bit_xor j l)) (four r xs) part
    → Written (pos 0) r 4 (λ j. at xs (r + j) +ℤ v (bit_xor j l)) xs (put_mid r (r + 4 - r) xs part)
part_added r l xs part v room w =
    written_to
    (written_part (written_none (pos 0) r (λ j. at xs (r + j) +ℤ v (bit_xor j l)) xs) r (r + 4 - r) part (omega arith) (omega arith)
    (w.long ∙ four-length r xs room ∙ omega arith)
    (λ j lj.
    ap (at part) {x = j} {y = 0 + j} (omega arith) ∙ w.within j (omega arith) ∙ ap (λ (x : ℤ). x +ℤ v (bit_xor j l)) (four-at r xs room j (omega arith))
    ∙ ap (λ (k : ℕ). at xs (r + k) +ℤ v (bit_xor k l)) (sym (zero-add j))))
    4 (omega arith)

-- the places that the code takes
pub record Rooms (n q p z len : ℕ) : Type 0 where
  pub four : Fits w64 (4 * n)
  pub twice : Fits w64 (2 * n)
  pub decoded : Places (4 * n + q) 4 len
  pub place : Places p 4 len
  pub partner : Places z 4 len
  pub one : Places (2 * n + p) 4 len
  pub two : Places (2 * n + z) 4 len

-- what the code has for the vote of coset q + i
abbrev pub Vote : ℕ → ℕ → ℕ → ℕ → ℕ → List ℤ → ℕ → ℤ → Type 0
Vote n q p z l xs i x = x ≡ bit_sum (at (four (4 * n + q) xs) i) (bit_sum (at (four p xs) i) (at (four z xs) (bit_xor i l)))

-- the four votes
pub record Casts (n q p z l : ℕ) (xs : List ℤ) (a b c d : ℤ) : Type 0 where
  pub asks : FourVotes n q p z l xs
  pub votes : (i : ℕ) → i < 4 → four_of a b c d i ≡ four_vote n q p z l xs i

module _ {n q p z l : ℕ} {xs : List ℤ} (asks : FourVotes n q p z l xs) where
  pub vote_rooms : length xs * 4 < 2 ^ 63 → Rooms n q p z (length xs)
  vote_rooms small = record {
    four = index_fits small (omega (arith, asks.bits.room));
    twice = index_fits small (omega (arith, asks.room_one));
    decoded = places small tt asks.bits.room;
    place = places small tt asks.bits.place;
    partner = places small tt asks.bits.partner;
    one = places small tt asks.room_one;
    two = places small tt asks.room_two;
  }

  pub decoded_lt : (i : ℕ) → i < 4 → (i < length (four (4 * n + q) xs)) × IsBit (at (four (4 * n + q) xs) i)
  decoded_lt i hi = (
    omega (arith, four-length (4 * n + q) xs asks.bits.room),
    rw (four-at (4 * n + q) xs asks.bits.room i hi) (asks.decoded i hi),
  )

  vote_is : (i : ℕ) → i < 4 → {x : ℤ} → Vote n q p z l xs i x → stored x ≡ four_vote n q p z l xs i
  vote_is i hi {x} e =
      let v : x ≡ four_vote n q p z l xs i = e ∙ ap₂ bit_sum (four-at (4 * n + q) xs asks.bits.room i hi) (four_sum asks.bits i hi) in
      rw v (bit_back (sum_bit (at xs (4 * n + q + i)) (pair_sum p z l xs i)))

  pub casts : {a b c d : ℤ} → Vote n q p z l xs 0 a → Vote n q p z l xs 1 b → Vote n q p z l xs 2 c → Vote n q p z l xs 3 d
      → Casts n q p z l xs (stored a) (stored b) (stored c) (stored d)
  casts {a} {b} {c} {d} ea eb ec ed = record {
    asks = asks;
    votes = by_four (λ (i : ℕ). four_of (stored a) (stored b) (stored c) (stored d) i ≡ four_vote n q p z l xs i)
        (vote_is 0 (omega arith) ea) (vote_is 1 (omega arith) eb) (vote_is 2 (omega arith) ec) (vote_is 3 (omega arith) ed);
  }

module _ {n q p z l : ℕ} {xs : List ℤ} {a b c d : ℤ} (t : Casts n q p z l xs a b c d) where
  vote_half : (i : ℕ) → i < 4 → Half (four_of a b c d i)
  vote_half i hi = rw (t.votes i hi) (record { half = omega arith })

  apart : Apart 4 (2 * n + p) (2 * n + z)
  apart = apart_after (2 * n) t.asks.apart

  pub first_adds : Addends 0 a b c d (four (2 * n + p) xs)
  first_adds = record {
    size = four-length (2 * n + p) xs t.asks.room_one;
    low = omega arith;
    few = λ i hi. rw (four-at (2 * n + p) xs t.asks.room_one i hi) (t.asks.few_one i hi);
    each = vote_half;
  }

  module _ {part : List ℤ} (one : Written (pos 0) 0 4 (λ j. at (four (2 * n + p) xs) j +ℤ four_of a b c d (bit_xor j 0)) (four (2 * n + p) xs) part) where
    abbrev between : List ℤ
    between = put_mid (2 * n + p) (2 * n + p + 4 - (2 * n + p)) xs part

    first : Written (pos 0) (2 * n + p) 4 (λ j. at xs (2 * n + p + j) +ℤ four_of a b c d (bit_xor j 0)) xs between
    first = part_added (2 * n + p) 0 xs part (four_of a b c d) t.asks.room_one one

    pub room_two : 2 * n + z + 4 ≤ length between
    room_two = omega (arith, first.long, t.asks.room_two)

    kept : (i : ℕ) → i < 4 → at between (2 * n + z + i) ≡ at xs (2 * n + z + i)
    kept = still apart first

    pub second_adds : Addends l a b c d (four (2 * n + z) between)
    second_adds = record {
      size = four-length (2 * n + z) between room_two;
      low = t.asks.bits.low;
      few = λ i hi. rw (four-at (2 * n + z) between room_two i hi, kept i hi) (t.asks.few_two i hi);
      each = vote_half;
    }

    module _ {part' : List ℤ} (two : Written (pos 0) 0 4 (λ j. at (four (2 * n + z) between) j +ℤ four_of a b c d (bit_xor j l)) (four (2 * n + z) between) part') where
      abbrev after : List ℤ
      after = put_mid (2 * n + z) (2 * n + z + 4 - (2 * n + z)) between part'

      second : Written (pos 0) (2 * n + z) 4 (λ j. at between (2 * n + z + j) +ℤ four_of a b c d (bit_xor j l)) between after
      second = part_added (2 * n + z) l between part' (four_of a b c d) room_two two

      pub four_voted : FourVoted n q p z l xs after
      four_voted =
          two_runs apart
          (written_as first _ (λ i hi. ap (λ (x : ℤ). at xs (2 * n + p + i) +ℤ x) (ap (four_of a b c d) (xor_zero_r i) ∙ t.votes i hi)))
          (written_as second _ (λ i hi. ap₂ ◌+ℤ◌ (kept i hi) (t.votes (bit_xor i l) (four_lt hi t.asks.bits.low))))
