-- Projections by blocks of 4 cosets, and those of four directions together. Assumes nothing.
use Prim.Native.Nat.{ℕ, suc, ◌+◌, ◌-◌, ◌*◌, ◌/◌, ◌%◌, ◌^◌, ◌≤◌, ◌<◌}
use mathlib.Core.Path.{◌≡◌, refl, sym, ap, ap₂, ◌∙◌, subst}
use mathlib.Core.List.{List}
use native.Mathlib.Decide.{dec_lt}
use native.Mathlib.Nat.{add-zero, add-mul, div-lt_iff_lt-mul, mod-lt, mul-le-mul_right, suc-mul}
use native.Mathlib.Omega.{arith}
use lib.Bits.{bit_xor, xor_zero_l}
use lib.ListN.{length}
use lib.IntN.{ℤ, pos, nat_abs}
use lib.Pow.{pow_pos, split}
use mir.Syntax.{w64}
use mir.Val.{Fits}
use Rattle.words.specs.Written.{Written}
use Rattle.area.specs.Area.{at, four_of}
use Rattle.area.proofs.AreaLaws.{four_as}
use Rattle.area.specs.Numbers.{stored, stored-eq}
use Rattle.area.specs.Places.{index_fits}
use Rattle.confidences.specs.Confidences.{joint, project_values}
use Rattle.confidences.specs.Values.{ProjectsFour, front_of, four_projected}
use Rattle.projections.specs.FourLaws.{four_lt}
use Rattle.projections.proofs.FourTurns.{FourTurn, block_room}
use Rattle.value_steps.specs.Pairs.{ValuePair, ValueBlocks, pair_joint}
use Rattle.value_steps.proofs.Joints.{joint_small}
use Rattle.value_steps.proofs.ValueReads.{value_small, joint_kept}
use Rattle.direction.specs.Direction.{highest, insert_zero}
use Rattle.value_steps.proofs.FourTurns.{digits_ask, four_turn, value_blocks, four_joint}

-- ---- one pair

module _ {x y : ℕ} {xs : List ℤ} (t : ValuePair x y xs) where
  pub pair_asks : (nat_abs (stored (at xs x)) < 2 ^ 29) × (nat_abs (stored (at xs y)) < 2 ^ 29)
  pair_asks = (value_small (at xs x) t.one, value_small (at xs y) t.two)

  pub pair_kept : {r : ℤ} → r ≡ joint (stored (at xs x)) (stored (at xs y)) → stored r ≡ pair_joint xs x y
  pair_kept {r} e = joint_kept (at xs x) (at xs y) t.one t.two r e

  pub pair_stored : {r : ℤ} → r ≡ pair_joint xs x y → stored r ≡ pair_joint xs x y
  pair_stored {r} e = rw e (stored-eq (pair_joint xs x y) (omega (arith, joint_small (at xs x) (at xs y), t.one)))

-- ---- four pairs

module _ {c p z l : ℕ} {xs : List ℤ} (t : ValueBlocks c p z l xs) where
  pub pair_of : (i : ℕ) → i < 4 → ValuePair (p + i) (z + bit_xor i l) xs
  pair_of i hi =
      let hj : bit_xor i l < 4 = four_lt hi t.low in
      record {
        first = omega (arith, t.place);
        second = omega (arith, t.partner);
        one = t.one i hi;
        two = t.two (bit_xor i l) hj;
      }

  first_is : pair_joint xs p (z + l) ≡ pair_joint xs (p + 0) (z + bit_xor 0 l)
  first_is = ap₂ (pair_joint xs) (sym (add-zero p)) (ap (λ (x : ℕ). z + x) (sym (xor_zero_l l)))

  pub first_pair : ValuePair p (z + l) xs
  first_pair = record {
    first = omega (arith, t.place);
    second = omega (arith, t.partner, t.low);
    one = rw (add-zero p) at (t.one 0 (omega arith));
    two = t.two l t.low;
  }

  pub first_fits : length xs * 4 < 2 ^ 63 → Fits w64 (z + l)
  first_fits small = index_fits small (omega (arith, t.partner, t.low))

  pub partner_fits : length xs * 4 < 2 ^ 63 → (i : ℕ) → i < 4 → Fits w64 (z + bit_xor i l)
  partner_fits small i hi = index_fits small (omega (arith, t.partner, four_lt hi t.low))

  pub four_joined : {a b d e : ℤ} {ys : List ℤ} → a ≡ pair_joint xs p (z + l) → b ≡ pair_joint xs (p + 1) (z + bit_xor 1 l) → d ≡ pair_joint xs (p + 2) (z + bit_xor 2 l)
      → e ≡ pair_joint xs (p + 3) (z + bit_xor 3 l)
      → Written (pos 0) c 4 (four_of (stored a) (stored b) (stored d) (stored e)) xs ys → Written (pos 0) c 4 (λ i. pair_joint xs (p + i) (z + bit_xor i l)) xs ys
  four_joined ea eb ed ee w =
      four_as w
      (pair_stored first_pair ea ∙ first_is)
      (pair_stored (pair_of 1 (omega arith)) eb)
      (pair_stored (pair_of 2 (omega arith)) ed)
      (pair_stored (pair_of 3 (omega arith)) ee)

-- ---- four runs, made by blocks of 4 entries of each

-- entry j of run i, of direction 4 k + i
abbrev Made : (m k : ℕ) (xs ys : List ℤ) (i j : ℕ) → Type 0
Made m k xs ys i j = at ys (4 * 2 ^ m + (i * 2 ^ m + j)) ≡ at (project_values m (4 * k + i) (front_of (2 ^ suc m) xs)) j

-- a run ends where the next one starts
run_ends : (m : ℕ) {i l : ℕ} → i < l → i * 2 ^ m + 2 ^ m ≤ l * 2 ^ m
run_ends m {i} h = omega (arith, suc-mul i (2 ^ m), mul-le-mul_right (2 ^ m) h)

-- ys is xs with the entries below q of each run made, and of the first l runs the four from q on
pub record Joining (m k : ℕ) (xs : List ℤ) (q l : ℕ) (ys : List ℤ) : Type 0 where
  pub long : length ys ≡ length xs
  pub done : (i j : ℕ) → i < 4 → j < q → Made m k xs ys i j
  pub here : (i j : ℕ) → i < l → j < 4 → Made m k xs ys i (q + j)
  pub below : (j : ℕ) → j < 4 * 2 ^ m → at ys j ≡ at xs j
  pub above : (j : ℕ) → 8 * 2 ^ m ≤ j → at ys j ≡ at xs j

-- before the first turn
pub joining_none : (m k : ℕ) (xs : List ℤ) → Joining m k xs 0 0 xs
joining_none m k xs = record {
  long = refl;
  done = λ i j hi hj. absurd (omega arith);
  here = λ i j hi hj. absurd (omega arith);
  below = λ j l. refl;
  above = λ j l. refl;
}

module _ {m k q : ℕ} {xs ys : List ℤ} where
  -- after a turn
  pub joining_next : Joining m k xs q 4 ys → {e : ℕ} → e ≡ q + 4 → Joining m k xs e 0 ys
  joining_next t next = record {
    long = t.long;
    done = λ i j hi hj. elim (dec_lt j q) [
      | yes h ↦ t.done i j hi h
      | no h ↦ let e : q + (j - q) ≡ j = omega arith in subst (Made m k xs ys i) e (t.here i (j - q) hi (omega arith))
    ];
    here = λ i j hi hj. absurd (omega arith);
    below = t.below;
    above = t.above;
  }

  -- after the last
  pub joining_all : Joining m k xs q 0 ys → q ≡ 2 ^ m → Written (pos 0) (4 * 2 ^ m) (4 * 2 ^ m) (four_projected m k (front_of (2 ^ suc m) xs)) xs ys
  joining_all t e = record {
    long = t.long;
    within = λ j lj. ap (λ (x : ℕ). at ys (4 * 2 ^ m + x)) (sym (split j m))
        ∙ t.done (j / 2 ^ m) (j % 2 ^ m) ((div-lt_iff_lt-mul (pow_pos m)).1 lj) (rw e (mod-lt j (pow_pos m)));
    below = t.below;
    above = λ j lj. t.above j (omega arith);
  }

-- a turn: p is the representative of coset q
pub record FourJoin (m k : ℕ) (xs : List ℤ) (n h q p : ℕ) : Type 0 where
  pub asks : ProjectsFour m k xs
  pub size : n ≡ 2 ^ m
  pub turn : (l : ℕ) → l < 4 → FourTurn m h (4 * k) l q p

-- from what the code knows there
pub four_join : {m k n h q p : ℕ} {xs : List ℤ} → ProjectsFour m k xs → n ≡ 2 ^ m → h ≡ highest (4 * k) → q < 2 ^ m → q % 4 ≡ 0 → p ≡ insert_zero h q
    → FourJoin m k xs n h q p
four_join asks size top below whole inserted = record { asks = asks; size = size; turn = λ l hl. four_turn asks l hl top below whole inserted }

module _ {m k n h q p : ℕ} {xs : List ℤ} (t : FourJoin m k xs n h q p) where
  pub number : q + 4 ≤ 2 ^ m
  number = block_room (t.turn 0 (omega arith))

  -- ---- its block of run l

  module _ (l : ℕ) (hl : l < 4) {ys : List ℤ} (w : Joining m k xs q l ys) where
    place : (4 + l) * n + q ≡ 4 * 2 ^ m + (l * 2 ^ m + q)
    place = rw (t.size, add-mul 4 l (2 ^ m)) (omega arith)

    same : (j : ℕ) → j < 2 ^ suc m → at ys j ≡ at xs j
    same j lj = w.below j (omega arith)

    pub join_asks : ValueBlocks ((4 + l) * n + q) p (bit_xor p (4 * k)) l ys
    join_asks = value_blocks (t.turn l hl) (digits_ask t.asks l hl) ys w.long same ((4 + l) * n + q) (omega (arith, t.asks.room, place, number, run_ends m hl))

    pub joining_more : {zs : List ℤ} → Written (pos 0) ((4 + l) * n + q) 4 (λ i. pair_joint ys (p + i) (bit_xor p (4 * k) + bit_xor i l)) ys zs → Joining m k xs q (suc l) zs
    joining_more {zs} v = record {
      long = v.long ∙ w.long;
      done = λ i j hi hj. elim (dec_lt l i) [
        | yes a ↦ v.above (4 * 2 ^ m + (i * 2 ^ m + j)) (omega (arith, place, number, run_ends m a)) ∙ w.done i j hi hj
        | no a ↦ v.below (4 * 2 ^ m + (i * 2 ^ m + j)) (omega (arith, place, mul-le-mul_right {m = i} {n = l} (2 ^ m) (omega arith))) ∙ w.done i j hi hj
      ];
      here = λ i j hi hj. elim (dec_lt i l) [
        | yes a ↦ v.below (4 * 2 ^ m + (i * 2 ^ m + (q + j))) (omega (arith, place, number, run_ends m a)) ∙ w.here i j a hj
        | no a ↦
            let e : l ≡ i = omega arith in
            let there : 4 * 2 ^ m + (l * 2 ^ m + (q + j)) ≡ (4 + l) * n + q + j = omega (arith, place) in
            subst (λ (x : ℕ). Made m k xs zs x (q + j)) e (ap (at zs) there ∙ v.within j hj ∙ four_joint (t.turn l hl) (digits_ask t.asks l hl) ys same j hj)
      ];
      below = λ j lj. v.below j (omega (arith, place)) ∙ w.below j lj;
      above = λ j lj. v.above j (omega (arith, place, number, run_ends m hl)) ∙ w.above j lj;
    }
