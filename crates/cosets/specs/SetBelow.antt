-- Loops over the cosets of a direction that set a number of each place, a vote or a sum: both members of every coset so far have theirs. Assumes nothing.
use Rattle.std.specs.Prelude.{ℕ, suc, ◌+◌, ◌-◌, ◌*◌, ◌^◌, ◌≤◌, ◌<◌, ◌≡◌, refl, List, ◌≢◌, ◌⊎◌, length, ℤ, pos}
use Rattle.std.proofs.Common.{ap, ◌∙◌, inl, inr, ⊎_elim, arith}
use Rattle.std.proofs.Math.Decide.{dec_lt, dec_le}
use Rattle.std.specs.Int.Bits.{bit_xor}
use Rattle.words.specs.Written.{Written}
use Rattle.area.specs.Area.{at}
use Rattle.direction.specs.Direction.{coset_of}
use Rattle.direction.specs.IsDirection.{IsDirection}
use Rattle.direction.proofs.Members.{Members, partner_apart, number_lt, number_one, number_two, only_members}

-- ---- two runs of entries, written one after the other

-- the s places from x on and those from y on have none in common
pub record Apart (s x y : ℕ) : Type 0 where
  pub apart : (x + s ≤ y) ⊎ (y + s ≤ x)

-- nor have they after c numbers
pub apart_after : {s x y : ℕ} (c : ℕ) → Apart s x y → Apart s (c + x) (c + y)
apart_after {s} {x} {y} c a = record { apart = ⊎_elim (λ (l : x + s ≤ y). inl (omega arith)) (λ (l : y + s ≤ x). inr (omega arith)) a.apart }

-- ys is xs with the s entries from x on given by g, and those from y on by h
pub record TwoRuns (x y s : ℕ) (g h : ℕ → ℤ) (xs ys : List ℤ) : Type 0 where
  pub long : length ys ≡ length xs
  pub one : (i : ℕ) → i < s → at ys (x + i) ≡ g i
  pub two : (i : ℕ) → i < s → at ys (y + i) ≡ h i
  pub others : (j : ℕ) → ((i : ℕ) → i < s → (j ≢ x + i) × (j ≢ y + i)) → at ys j ≡ at xs j

-- entries outside a written run
outside : {a n : ℕ} {f : ℕ → ℤ} {xs ys : List ℤ} → Written (pos 0) a n f xs ys → (j : ℕ) → ((i : ℕ) → i < n → j ≢ a + i) → at ys j ≡ at xs j
outside {a} {n} w j k = elim (dec_lt j a) [
  | yes l ↦ w.below j l
  | no l ↦ elim (dec_le (a + n) j) [
    | yes g ↦ w.above j g
    | no g ↦ absurd (k (j - a) (omega arith) (omega arith))
  ]
]

module _ {x y s : ℕ} {g : ℕ → ℤ} {xs ys : List ℤ} (a : Apart s x y) (first : Written (pos 0) x s g xs ys) where
  -- the second run, before it is written
  pub still : (i : ℕ) → i < s → at ys (y + i) ≡ at xs (y + i)
  still i hi = ⊎_elim (λ (l : x + s ≤ y). first.above (y + i) (omega arith)) (λ (l : y + s ≤ x). first.below (y + i) (omega arith)) a.apart

  pub two_runs : {h : ℕ → ℤ} {zs : List ℤ} → Written (pos 0) y s h ys zs → TwoRuns x y s g h xs zs
  two_runs second = record {
    long = second.long ∙ first.long;
    one = λ i hi.
        ⊎_elim (λ (l : x + s ≤ y). second.below (x + i) (omega arith)) (λ (l : y + s ≤ x). second.above (x + i) (omega arith)) a.apart
        ∙ first.within i hi;
    two = second.within;
    others = λ j k. outside second j (λ i hi. (k i hi).1) ∙ outside first j (λ i hi. (k i hi).0);
  }

-- ---- the members of some cosets

-- x is one of the s numbers from a on
pub record Among (a s x : ℕ) : Type 0 where
  pub least : a ≤ x
  pub most : x < a + s

pub among : (a s i : ℕ) → i < s → Among a s (a + i)
among a s i l = record { least = omega arith; most = omega arith }

-- the members of the s cosets from q on are the places from p on and those from z on
pub record Blocks (m b s q p z : ℕ) : Type 0 where
  pub place : p + s ≤ 2 ^ suc m
  pub partner : z + s ≤ 2 ^ suc m
  pub apart : Apart s p z
  pub one : (r : ℕ) → Among p s r → Among q s (coset_of b r)
  pub two : (r : ℕ) → Among z s r → Among q s (coset_of b r)
  pub only : (r : ℕ) → Among q s (coset_of b r) → Among p s r ⊎ Among z s r

-- of one coset
module _ {m b q p : ℕ} (d : IsDirection m b) (t : Members m b q p) where
  coset_of_lem : (z : ℕ) → coset_of b z ≡ q → (r : ℕ) → Among z 1 r → Among q 1 (coset_of b r)
  coset_of_lem z e r l =
      let same : coset_of b r ≡ q = ap (coset_of b) (omega (arith, l.least, l.most)) ∙ e in
      record { least = omega arith; most = omega arith }

  is_member : (r : ℕ) → Among q 1 (coset_of b r) → Among p 1 r ⊎ Among (bit_xor p b) 1 r
  is_member r l =
      ⊎_elim (λ (e : r ≡ p). inl (record { least = omega arith; most = omega arith }))
      (λ (e : r ≡ bit_xor p b). inr (record { least = omega arith; most = omega arith }))
      (only_members d t r (omega (arith, l.least, l.most)))

  pub pair_blocks : Blocks m b 1 q p (bit_xor p b)
  pair_blocks = record {
    place = omega (arith, t.place);
    partner = omega (arith, t.partner);
    apart = record { apart = elim (dec_lt p (bit_xor p b)) [ yes k ↦ inl (omega arith) | no k ↦ inr (omega (arith, partner_apart p b d.some)) ] };
    one = coset_of_lem p (number_one d t);
    two = coset_of_lem (bit_xor p b) (number_two d t);
    only = is_member;
  }

-- ---- what is set

-- ys is xs with the entries of the places in cosets numbered below q, after 2 ^ (m + 1) numbers, given by f
pub record SetBelow (m b : ℕ) (f : ℕ → ℤ) (xs : List ℤ) (q : ℕ) (ys : List ℤ) : Type 0 where
  pub long : length ys ≡ length xs
  pub done : (p : ℕ) → p < 2 ^ suc m → coset_of b p < q → at ys (2 ^ suc m + p) ≡ f p
  pub ahead : (p : ℕ) → p < 2 ^ suc m → q ≤ coset_of b p → at ys (2 ^ suc m + p) ≡ at xs (2 ^ suc m + p)
  pub below : (p : ℕ) → p < 2 ^ suc m → at ys p ≡ at xs p
  pub above : (p : ℕ) → 4 * 2 ^ m ≤ p → at ys p ≡ at xs p

-- before the first turn
pub set_none : (m b : ℕ) (f : ℕ → ℤ) (xs : List ℤ) → SetBelow m b f xs 0 xs
set_none m b f xs = record {
  long = refl;
  done = λ p l k. absurd (omega arith);
  ahead = λ p l k. refl;
  below = λ p l. refl;
  above = λ p l. refl;
}

-- after the last
pub set_all : {m b q : ℕ} {f : ℕ → ℤ} {xs ys : List ℤ} → IsDirection m b → SetBelow m b f xs q ys → 2 ^ m ≤ q → Written (pos 0) (2 ^ suc m) (2 ^ suc m) f xs ys
set_all d w l = record {
  long = w.long;
  within = λ p lp. w.done p lp (omega (arith, number_lt d p lp));
  below = w.below;
  above = λ p lp. w.above p (omega arith);
}

-- a turn sets the entries of the members of s cosets, from q on
module _ {m b s q p z x y : ℕ} {f g h : ℕ → ℤ} {xs ys zs : List ℤ} (t : Blocks m b s q p z) (w : SetBelow m b f xs q ys) (v : TwoRuns x y s g h ys zs)
    (ex : x ≡ 2 ^ suc m + p) (ey : y ≡ 2 ^ suc m + z) where
  -- places of other cosets
  elsewhere : (r : ℕ) → (Among q s (coset_of b r) → ⊥) → at zs (2 ^ suc m + r) ≡ at ys (2 ^ suc m + r)
  elsewhere r far = v.others (2 ^ suc m + r) (λ i hi. (
    (λ e. far (t.one r (record { least = omega arith; most = omega arith }))),
    (λ e. far (t.two r (record { least = omega arith; most = omega arith }))),
  ))

  module _ (eg : (i : ℕ) → i < s → g i ≡ f (p + i)) (eh : (i : ℕ) → i < s → h i ≡ f (z + i)) where
    at_one : (r : ℕ) → Among p s r → at zs (2 ^ suc m + r) ≡ f r
    at_one r l =
        let e : p + (r - p) ≡ r = omega (arith, l.least) in
        let lt : r - p < s = omega (arith, l.least, l.most) in
        ap (at zs) {x = 2 ^ suc m + r} {y = x + (r - p)} (omega arith) ∙ v.one (r - p) lt ∙ eg (r - p) lt ∙ ap f e

    at_two : (r : ℕ) → Among z s r → at zs (2 ^ suc m + r) ≡ f r
    at_two r l =
        let e : z + (r - z) ≡ r = omega (arith, l.least) in
        let lt : r - z < s = omega (arith, l.least, l.most) in
        ap (at zs) {x = 2 ^ suc m + r} {y = y + (r - z)} (omega arith) ∙ v.two (r - z) lt ∙ eh (r - z) lt ∙ ap f e

    now_set : (r : ℕ) → r < 2 ^ suc m → coset_of b r < q + s → at zs (2 ^ suc m + r) ≡ f r
    now_set r l c = elim (dec_lt (coset_of b r) q) [
      | yes k ↦ elsewhere r (λ a. omega (arith, a.least)) ∙ w.done r l k
      | no k ↦ ⊎_elim (at_one r) (at_two r) (t.only r (record { least = omega arith; most = c }))
    ]

    pub set_more : SetBelow m b f xs (q + s) zs
    set_more = record {
      long = v.long ∙ w.long;
      done = now_set;
      ahead = λ r l c. elsewhere r (λ a. omega (arith, a.most)) ∙ w.ahead r l (omega arith);
      below = λ r l. v.others r (λ i hi. ((λ e. omega arith), (λ e. omega arith))) ∙ w.below r l;
      above = λ r l. v.others r (λ i hi. ((λ e. omega (arith, t.place)), (λ e. omega (arith, t.partner)))) ∙ w.above r l;
    }
