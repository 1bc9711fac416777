-- The loop of `vote_fours`: a turn adds the votes of the cosets q to q + 3 at both members. Assumes nothing.
use Prim.Native.Nat.{ℕ, suc, ◌+◌, ◌*◌, ◌%◌, ◌^◌, ◌≤◌, ◌<◌}
use mathlib.Core.Path.{◌≡◌, ap, ap₂, ◌∙◌}
use mathlib.Core.List.{List}
use native.Mathlib.Nat.{add_comm}
use native.Mathlib.Omega.{arith}
use lib.Bits.{bit_xor}
use lib.IntN.{ℤ, pos, nat_abs, ◌+ℤ◌}
use Rattle.words.specs.Word.{bit}
use Rattle.area.specs.Area.{at, word_of}
use Rattle.area.specs.Numbers.{Half}
use Rattle.direction.specs.Direction.{coset_of, project}
use Rattle.direction.proofs.Members.{direction_lt}
use Rattle.cosets.specs.SetBelow.{Blocks, set_more}
use Rattle.cosets.specs.Votes.{Projects, Tally, InProjection, cast_vote}
use Rattle.four_votes.specs.FourVotes.{FourVotes, four_vote, FourVoted}
use Rattle.projections.specs.FourLaws.{four_lt}
use Rattle.cosets.proofs.VoteLoops.{VotedBelow}
use Rattle.projections.proofs.FourTurns.{FourTurn, block_room, coset_one, coset_two, four_blocks, two_blocks, four_value}

-- ys is the area before the turn
pub record VoteTurn (m h w l : ℕ) (xs : List ℤ) (n q p : ℕ) (ys : List ℤ) : Type 0 where
  pub turn : FourTurn m h w l q p
  pub asks : Projects m (w + l) xs
  pub tally : Tally (2 ^ suc m) (w + l) xs
  pub projection : InProjection m xs
  pub size : n ≡ 2 ^ m
  pub voted : VotedBelow m (w + l) xs q ys

module _ {m h w l n q p : ℕ} {xs ys : List ℤ} (t : VoteTurn m h w l xs n q p ys) where
  abbrev b : ℕ
  b = w + l

  abbrev z : ℕ
  z = bit_xor p w

  blocks : Blocks m b 4 q p z
  blocks = four_blocks t.turn

  -- ---- what a turn asks

  decoded_same : (i : ℕ) → i < 4 → at ys (4 * n + q + i) ≡ at xs (4 * 2 ^ m + (q + i))
  decoded_same i hi = ap (at ys) {x = 4 * n + q + i} {y = 4 * 2 ^ m + (q + i)} (omega (arith, t.size)) ∙ t.voted.above (4 * 2 ^ m + (q + i)) (omega arith)

  -- the votes of place r + i, in coset q + j
  module _ (r i j : ℕ) (lr : r + 4 ≤ 2 ^ suc m) (hi : i < 4) (of : coset_of b (r + i) ≡ q + j) where
    votes_same : at ys (2 * n + r + i) ≡ at xs (2 ^ suc m + (r + i))
    votes_same = ap (at ys) {x = 2 * n + r + i} {y = 2 ^ suc m + (r + i)} (omega (arith, t.size)) ∙ t.voted.ahead (r + i) (omega arith) (omega arith)

    few : Half (at ys (2 * n + r + i))
    few = rw votes_same (record { half = omega (arith, t.tally.few (r + i) (omega arith), direction_lt t.asks.direction) })

    -- with its coset's vote
    vote_is : j < 4 → at ys (2 * n + r + i) +ℤ four_vote n q p z l ys j ≡ at xs (2 ^ suc m + (r + i)) +ℤ pos (cast_vote m b xs (r + i))
    vote_is hj =
        ap₂ ◌+ℤ◌ votes_same
        (ap₂ (λ (x y : ℤ). pos ((nat_abs x + nat_abs y) % 2)) (decoded_same j hj) (four_value t.turn t.asks ys t.voted.long t.voted.below j hj)
        ∙ rw of (ap (λ (x : ℕ). pos (x % 2)) (add_comm (nat_abs (at xs (4 * 2 ^ m + (q + j)))) (bit (project m b (word_of (2 ^ suc m) xs)) (q + j)))))

  pub four_asks : FourVotes n q p z l ys
  four_asks = record {
    bits = two_blocks t.turn t.asks ys t.voted.long t.voted.below (4 * n + q) (omega (arith, t.size, block_room t.turn));
    decoded = λ i hi. rw (decoded_same i hi) (t.projection.decoded (q + i) (omega (arith, block_room t.turn)));
    apart = blocks.apart;
    room_one = omega (arith, t.size, t.voted.long, t.asks.room, blocks.place);
    room_two = omega (arith, t.size, t.voted.long, t.asks.room, blocks.partner);
    few_one = λ i hi. few p i i blocks.place hi (coset_one t.turn i hi);
    few_two = λ i hi. few z i (bit_xor i l) blocks.partner hi (coset_two t.turn i hi);
  }

  -- ---- what it leaves

  pub voted_four : {zs : List ℤ} → FourVoted n q p z l ys zs → VotedBelow m b xs (q + 4) zs
  voted_four v =
      set_more blocks t.voted v (omega (arith, t.size)) (omega (arith, t.size))
      (λ i hi. vote_is p i i blocks.place hi (coset_one t.turn i hi) hi)
      (λ i hi. vote_is z i (bit_xor i l) blocks.partner hi (coset_two t.turn i hi) (four_lt hi t.turn.fours.low))
