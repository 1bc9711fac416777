-- One turn of the loops over cosets: the bits of coset q's two members. Assumes nothing.
use Prim.Native.Nat.{ℕ, suc, ◌^◌, ◌<◌}
use mathlib.Core.Path.{◌≡◌, sym, ap, ◌∙◌}
use mathlib.Core.List.{List}
use lib.Bits.{bit_xor}
use lib.IntN.{ℤ, pos, nat_abs}
use mir.Syntax.{w32}
use mir.Val.{to_z, of_z}
use Rattle.words.specs.Word.{bit}
use Rattle.area.specs.Area.{at, IsBit, word_of}
use Rattle.area.proofs.AreaLaws.{bit-word_of, is_bit, bit_back, xor_stored}
use Rattle.direction.specs.Direction.{project}
use Rattle.direction.proofs.Members.{Members}
use Rattle.direction.proofs.Projected.{bit-project, word_project}
use Rattle.cosets.specs.Votes.{Projects}

module _ {m b : ℕ} {xs : List ℤ} (asks : Projects m b xs) {q p : ℕ} (t : Members m b q p) (ys : List ℤ) (same : (j : ℕ) → j < 2 ^ suc m → at ys j ≡ at xs j) where
  kept_bit : (j : ℕ) → j < 2 ^ suc m → IsBit (at ys j)
  kept_bit j l = rw (same j l) (asks.bits.bits j l)

  kept_word : (j : ℕ) → j < 2 ^ suc m → nat_abs (at ys j) ≡ bit (word_of (2 ^ suc m) xs) j
  kept_word j l = ap nat_abs (same j l) ∙ sym (bit-word_of (2 ^ suc m) xs j l)

  -- their sum is the projected bit
  pub pair_sum : bit_xor (of_z w32 (at ys p)) (of_z w32 (at ys (bit_xor p b))) ≡ of_z w32 (pos (bit (project m b (word_of (2 ^ suc m) xs)) q))
  pair_sum =
      xor_stored (kept_bit p t.place) (kept_bit (bit_xor p b) t.partner)
      ∙ rw (kept_word p t.place, kept_word (bit_xor p b) t.partner, bit-project m b (word_of (2 ^ suc m) xs) q t.number, t.inserted)

  pub pair_value : to_z w32 (bit_xor (of_z w32 (at ys p)) (of_z w32 (at ys (bit_xor p b)))) ≡ pos (bit (project m b (word_of (2 ^ suc m) xs)) q)
  pair_value = ap (to_z w32) pair_sum ∙ bit_back (is_bit _ ((word_project m b (word_of (2 ^ suc m) xs)).bits q))
