-- Four numbers added to a block of 4 entries, in the order i XOR l. Assumes nothing.
use Prim.Native.Nat.{ℕ, ◌+◌, ◌*◌, ◌≤◌, ◌<◌}
use mathlib.Core.Path.{◌≡◌, refl, ap, ◌∙◌}
use mathlib.Core.List.{List}
use mathlib.Core.Logic.{◌≢◌}
use native.Mathlib.Omega.{arith}
use lib.Bits.{bit_xor}
use lib.ListN.{length, set, length-set}
use lib.Seq.{get_or-set_same, get_or-set_other}
use lib.IntN.{ℤ, pos, ◌+ℤ◌}
use mir.Syntax.{w32, w64}
use mir.Val.{Fits, SFits}
use Rattle.words.specs.Written.{Written}
use Rattle.words.specs.Xor.{xor_twice}
use Rattle.area.specs.Area.{at, four_of}
use Rattle.area.proofs.AreaLaws.{by_four}
use Rattle.area.specs.Numbers.{stored, sum_fits, sum_stored}
use Rattle.four_votes.specs.FourVotes.{Addends}
use Rattle.projections.specs.FourLaws.{four_lt, four_apart}

module _ {l : ℕ} {a b c d : ℤ} {xs : List ℤ} (t : Addends l a b c d xs) where
  abbrev old : ℕ → ℤ
  old i = at xs (bit_xor i l)

  abbrev new : ℕ → ℤ
  new i = stored (stored (old i) +ℤ stored (four_of a b c d i))

  pub index_lt : (i : ℕ) → i < 4 → bit_xor i l < length xs
  index_lt i hi = omega (arith, four_lt hi t.low)

  pub index_fits : (i : ℕ) → i < 4 → Fits w64 (bit_xor i l * 4)
  index_fits i hi = record { fits = omega (arith, four_lt hi t.low) }

  pub new_fits : (i : ℕ) → i < 4 → SFits w32 (stored (old i) +ℤ stored (four_of a b c d i))
  new_fits i hi = sum_fits (t.few (bit_xor i l) (four_lt hi t.low)) (t.each i hi)

  new_is : (i : ℕ) → i < 4 → new i ≡ old i +ℤ four_of a b c d i
  new_is i hi = sum_stored (t.few (bit_xor i l) (four_lt hi t.low)) (t.each i hi)

  abbrev put : ℕ → List ℤ → List ℤ
  put i ys = set ys (bit_xor i l) (new i)

  abbrev added : List ℤ
  added = put 3 (put 2 (put 1 (put 0 xs)))

  pub room_1 : bit_xor 1 l < length (put 0 xs)
  room_1 = simp length-set (index_lt 1 (omega arith))

  pub room_2 : bit_xor 2 l < length (put 1 (put 0 xs))
  room_2 = simp length-set (index_lt 2 (omega arith))

  pub room_3 : bit_xor 3 l < length (put 2 (put 1 (put 0 xs)))
  room_3 = simp length-set (index_lt 3 (omega arith))

  -- an entry stays as it is where others are set
  stays : (ys : List ℤ) (i j : ℕ) → i ≢ j → at (put j ys) (bit_xor i l) ≡ at ys (bit_xor i l)
  stays ys i j k = get_or-set_other ys (bit_xor j l) (bit_xor i l) (new j) (pos 0) (four_apart l i j k)

  beyond : (ys : List ℤ) (i p : ℕ) → i < 4 → 4 ≤ p → at (put i ys) p ≡ at ys p
  beyond ys i p hi lp = get_or-set_other ys (bit_xor i l) p (new i) (pos 0) (λ e. omega (arith, four_lt hi t.low))

  set_at : (ys : List ℤ) (i : ℕ) → length ys ≡ length xs → i < 4 → at (put i ys) (bit_xor i l) ≡ new i
  set_at ys i e hi = get_or-set_same ys (bit_xor i l) (new i) (pos 0) (rw e (index_lt i hi))

  added-at : (i : ℕ) → i < 4 → at added (bit_xor i l) ≡ new i
  added-at =
      by_four (λ (i : ℕ). at added (bit_xor i l) ≡ new i)
      (stays (put 2 (put 1 (put 0 xs))) 0 3 (λ e. omega arith) ∙ stays (put 1 (put 0 xs)) 0 2 (λ e. omega arith) ∙ stays (put 0 xs) 0 1 (λ e. omega arith) ∙ set_at xs 0 refl (omega arith))
      (stays (put 2 (put 1 (put 0 xs))) 1 3 (λ e. omega arith) ∙ stays (put 1 (put 0 xs)) 1 2 (λ e. omega arith) ∙ set_at (put 0 xs) 1 (simp length-set) (omega arith))
      (stays (put 2 (put 1 (put 0 xs))) 2 3 (λ e. omega arith) ∙ set_at (put 1 (put 0 xs)) 2 (simp length-set) (omega arith))
      (set_at (put 2 (put 1 (put 0 xs))) 3 (simp length-set) (omega arith))

  pub four_added : Written (pos 0) 0 4 (λ j. at xs j +ℤ four_of a b c d (bit_xor j l)) xs added
  four_added = record {
    long = simp length-set;
    within = λ j hj.
        let e : bit_xor (bit_xor j l) l ≡ j = xor_twice j l in
        ap (at added) {x = 0 + j} {y = bit_xor (bit_xor j l) l} (omega arith) ∙ added-at (bit_xor j l) (four_lt hj t.low)
        ∙ new_is (bit_xor j l) (four_lt hj t.low) ∙ ap (λ (x : ℕ). at xs x +ℤ four_of a b c d (bit_xor j l)) e;
    below = λ p lp. absurd (omega arith);
    above = λ p lp. beyond (put 2 (put 1 (put 0 xs))) 3 p (omega arith) (omega arith) ∙ beyond (put 1 (put 0 xs)) 2 p (omega arith) (omega arith)
        ∙ beyond (put 0 xs) 1 p (omega arith) (omega arith) ∙ beyond xs 0 p (omega arith) (omega arith);
  }
