-- The loops over the cosets that add votes: a turn adds the vote of coset q at both members. Assumes nothing.
use Prim.Native.Nat.{ℕ, suc, ◌+◌, ◌*◌, ◌%◌, ◌^◌, ◌<◌}
use mathlib.Core.Path.{◌≡◌, refl, sym, ap, ◌∙◌}
use mathlib.Core.List.{List}
use native.Mathlib.Nat.{add_comm, add-zero}
use native.Mathlib.Omega.{arith}
use lib.Bits.{bit_xor}
use lib.ListN.{length, length-set, set}
use lib.IntN.{ℤ, pos, nat_abs, ◌+ℤ◌}
use mir.Syntax.{w32}
use mir.Val.{SFits, to_z, of_z}
use Rattle.words.specs.Word.{bit}
use Rattle.words.specs.Written.{Written, written_none, written_more}
use Rattle.area.specs.Area.{at, word_of}
use Rattle.area.proofs.AreaLaws.{is_bit, xor_stored}
use Rattle.area.specs.Numbers.{stored, Half, sum_fits, sum_stored}
use Rattle.direction.specs.Direction.{coset_of, highest, insert_zero, project}
use Rattle.direction.proofs.Members.{Members, members, direction_lt, number_one, number_two}
use Rattle.direction.proofs.Projected.{word_project}
use Rattle.cosets.specs.SetBelow.{Blocks, SetBelow, apart_after, still, two_runs, pair_blocks, set_more}
use Rattle.cosets.specs.Votes.{Projects, Tally, InProjection, cast_vote}
use Rattle.cosets.proofs.Turns.{pair_sum}

-- ys is xs with the votes of the cosets numbered below q
abbrev pub VotedBelow : ℕ → ℕ → List ℤ → ℕ → List ℤ → Type 0
VotedBelow m b xs q ys = SetBelow m b (λ p. at xs (2 ^ suc m + p) +ℤ pos (cast_vote m b xs p)) xs q ys

-- a turn of the loop: p is the representative of coset q, and ys the area before it
pub record Turn (m b : ℕ) (xs : List ℤ) (n q p : ℕ) (ys : List ℤ) : Type 0 where
  pub asks : Projects m b xs
  pub tally : Tally (2 ^ suc m) b xs
  pub projection : InProjection m xs
  pub size : n ≡ 2 ^ m
  pub coset : Members m b q p
  pub voted : VotedBelow m b xs q ys

pub turn_of : {m b n h q p : ℕ} {xs ys : List ℤ} → Projects m b xs → Tally (2 ^ suc m) b xs → InProjection m xs → n ≡ 2 ^ m → h ≡ highest b
    → p ≡ insert_zero h q → q < n → VotedBelow m b xs q ys → Turn m b xs n q p ys
turn_of asks tally projection size top inserted less voted = record {
  asks = asks;
  tally = tally;
  projection = projection;
  size = size;
  coset = members asks.direction (omega arith) top inserted;
  voted = voted;
}

module _ {m b n q p : ℕ} {xs ys : List ℤ} (t : Turn m b xs n q p ys) where
  one_of : coset_of b p ≡ q
  one_of = number_one t.asks.direction t.coset

  two_of : coset_of b (bit_xor p b) ≡ q
  two_of = number_two t.asks.direction t.coset

  blocks : Blocks m b 1 q p (bit_xor p b)
  blocks = pair_blocks t.asks.direction t.coset

  -- ---- the vote of coset q, by the definition and as the code has it

  abbrev vote_of : ℕ → ℕ
  vote_of q = (bit (project m b (word_of (2 ^ suc m) xs)) q + nat_abs (at xs (4 * 2 ^ m + q))) % 2

  abbrev cast : ℕ
  cast = bit_xor (of_z w32 (at ys (4 * n + q))) (bit_xor (of_z w32 (at ys p)) (of_z w32 (at ys (bit_xor p b))))

  cast_is : cast ≡ of_z w32 (pos (vote_of q))
  cast_is =
      let here : at ys (4 * n + q) ≡ at xs (4 * 2 ^ m + q) = rw t.size (t.voted.above (4 * 2 ^ m + q) (omega arith)) in
      rw (here, pair_sum t.asks t.coset ys t.voted.below)
      (xor_stored (t.projection.decoded q t.coset.number) (is_bit _ ((word_project m b (word_of (2 ^ suc m) xs)).bits q))
      ∙ ap (λ (x : ℕ). of_z w32 (pos (x % 2))) (add_comm (nat_abs (at xs (4 * 2 ^ m + q))) _))

  -- it is added to the votes z of the place r
  abbrev added : ℤ → ℤ
  added z = stored (stored z +ℤ to_z w32 cast)

  module _ (r : ℕ) (l : r < 2 ^ suc m) (of : coset_of b r ≡ q) (z : ℤ) (e : z ≡ at xs (2 ^ suc m + r)) where
    few : Half z
    few = record { half = omega (arith, t.tally.few r l, direction_lt t.asks.direction, ap nat_abs e) }

    one : Half (pos (vote_of q))
    one = record { half = omega arith }

    added_fits : SFits w32 (stored z +ℤ to_z w32 cast)
    added_fits = rw cast_is (sum_fits few one)

    added_is : added z ≡ at xs (2 ^ suc m + r) +ℤ pos (cast_vote m b xs r)
    added_is = rw (cast_is, sum_stored few one, e) (ap (λ (x : ℕ). at xs (2 ^ suc m + r) +ℤ pos (vote_of x)) (sym of))

  -- ---- the area with the vote at the first member, and then at the second

  abbrev first : List ℤ
  first = set ys (2 * n + p) (added (at ys (2 * n + p)))

  abbrev second : List ℤ
  second = set first (2 * n + bit_xor p b) (added (at first (2 * n + bit_xor p b)))

  start : (r : ℕ) → 2 * n + r ≡ 2 ^ suc m + r
  start r = omega (arith, t.size)

  set_one : (x : ℕ) (v : ℤ) (us : List ℤ) → x < length us → Written (pos 0) x 1 (λ _. v) us (set us x v)
  set_one x v us l = written_more (written_none (pos 0) x (λ _. v) us) x v (omega arith) l refl

  first_set : Written (pos 0) (2 * n + p) 1 (λ _. added (at ys (2 * n + p))) ys first
  first_set = set_one _ _ ys (omega (arith, t.size, t.voted.long, t.asks.room, t.coset.place))

  second_set : Written (pos 0) (2 * n + bit_xor p b) 1 (λ _. added (at first (2 * n + bit_xor p b))) first second
  second_set = set_one _ _ first (omega (arith, t.size, first_set.long, t.voted.long, t.asks.room, t.coset.partner))

  votes_one : at ys (2 * n + p) ≡ at xs (2 ^ suc m + p)
  votes_one = rw (start p) (t.voted.ahead p t.coset.place (omega (arith, one_of)))

  votes_two : at first (2 * n + bit_xor p b) ≡ at xs (2 ^ suc m + bit_xor p b)
  votes_two =
      let kept : at first (2 * n + bit_xor p b) ≡ at ys (2 * n + bit_xor p b) =
      rw (add-zero (2 * n + bit_xor p b)) at (still (apart_after (2 * n) blocks.apart) first_set 0 (omega arith)) in
      kept ∙ rw (start (bit_xor p b)) (t.voted.ahead (bit_xor p b) t.coset.partner (omega (arith, two_of)))

  pub one_fits : SFits w32 (stored (at ys (2 * n + p)) +ℤ to_z w32 cast)
  one_fits = added_fits p t.coset.place one_of (at ys (2 * n + p)) votes_one

  pub two_fits : SFits w32 (stored (at first (2 * n + bit_xor p b)) +ℤ to_z w32 cast)
  two_fits = added_fits (bit_xor p b) t.coset.partner two_of (at first (2 * n + bit_xor p b)) votes_two

  pub voted_more : VotedBelow m b xs (q + 1) second
  voted_more =
      let f : ℕ → ℤ = λ r. at xs (2 ^ suc m + r) +ℤ pos (cast_vote m b xs r) in
      set_more blocks t.voted (two_runs (apart_after (2 * n) blocks.apart) first_set second_set) (start p) (start (bit_xor p b))
      (λ i hi. added_is p t.coset.place one_of (at ys (2 * n + p)) votes_one ∙ ap f (omega arith))
      (λ i hi. added_is (bit_xor p b) t.coset.partner two_of (at first (2 * n + bit_xor p b)) votes_two ∙ ap f (omega arith))

  pub two_within : (z : ℤ) → 2 * n + bit_xor p b < length (set ys (2 * n + p) z)
  two_within z = simp length-set (omega (arith, t.size, t.voted.long, t.asks.room, t.coset.partner))
