-- What four directions say of a block of 4 places, added to their sums. Assumes nothing.
use Prim.Native.Nat.{ℕ, suc, ◌+◌, ◌*◌, ◌^◌, ◌≤◌, ◌<◌}
use mathlib.Core.Path.{◌≡◌, refl, sym, ap, ap₂, ◌∙◌, subst}
use mathlib.Core.Bool.{Bool, true, false}
use mathlib.Core.List.{List}
use native.Mathlib.Nat.{add-zero}
use native.Mathlib.Omega.{arith}
use lib.Bits.{bit_xor, xor_zero_r}
use lib.ListN.{length}
use lib.IntN.{ℤ, pos, nat_abs, ◌+ℤ◌, +ℤ_idl}
use mir.Syntax.{w32}
use mir.Val.{SFits}
use Rattle.words.specs.Sum.{total, sum_below_ℤ}
use Rattle.words.specs.Written.{Written, written_as}
use Rattle.area.specs.Area.{at, four_of}
use Rattle.area.proofs.AreaLaws.{by_four, four_as}
use Rattle.area.specs.Numbers.{nat_abs-add, Half, stored, stored-eq, sum_fits, sum_stored}
use Rattle.area.specs.Places.{Places, places}
use Rattle.hadamard.specs.Correlation.{constant_of}
use Rattle.hadamard.specs.CorrelationLaws.{nat_abs-signed}
use Rattle.projections.specs.FourLaws.{four_lt}
use Rattle.value_steps.specs.Shares.{voiced, FourSays, FourHears, voices_of, four_said, signed_at, Addends}
use Rattle.value_steps.specs.declared.quads.Voices.{Voices}

-- ---- four numbers summed

pub sum_of_four : (f : ℕ → ℤ) → sum_below_ℤ 4 f ≡ f 0 +ℤ f 1 +ℤ f 2 +ℤ f 3
unfolding total
sum_of_four f = ap (λ (x : ℤ). x +ℤ f 1 +ℤ f 2 +ℤ f 3) (+ℤ_idl (f 0))

-- a number of at most k times the greatest confidence
pub record Within (k : ℕ) (z : ℤ) : Type 0 where
  pub within : nat_abs z ≤ k * 2047

within_more : {k : ℕ} {y z : ℤ} → Within k y → Within 1 z → Within (suc k) (y +ℤ z)
within_more {k} {y} {z} a b = record { within = omega (arith, a.within, b.within, nat_abs-add y z) }

pub within_half : {k : ℕ} {z : ℤ} → k ≤ 4 → Within k z → Half z
within_half {k} l w = record { half = omega (arith, w.within) }

back : {z : ℤ} → Half z → stored z ≡ z
back {z} h = stored-eq z (omega (arith, h.half))

-- a sum on the way
module _ {x y z : ℤ} (e : x ≡ y) (hy : Half y) (hz : Half z) where
  plus : stored x +ℤ stored z ≡ y +ℤ z
  plus = ap₂ ◌+ℤ◌ (ap stored e ∙ back hy) (back hz)

  plus_fits : SFits w32 (stored x +ℤ stored z)
  plus_fits = subst (λ (u : ℤ). SFits w32 (stored u +ℤ stored z)) (sym e) (sum_fits hy hz)

module _ {a b c d : ℤ} (ha : Within 1 a) (hb : Within 1 b) (hc : Within 1 c) (hd : Within 1 d) where
  half : {z : ℤ} → Within 1 z → Half z
  half = within_half (omega arith)

  two_half : Half (a +ℤ b)
  two_half = within_half {k = 2} (omega arith) (within_more ha hb)

  three_half : Half (a +ℤ b +ℤ c)
  three_half = within_half {k = 3} (omega arith) (within_more (within_more ha hb) hc)

  four_within : Within 4 (a +ℤ b +ℤ c +ℤ d)
  four_within = within_more (within_more (within_more ha hb) hc) hd

  two_is : stored a +ℤ stored b ≡ a +ℤ b
  two_is = plus refl (half ha) (half hb)

  three_is : stored (stored a +ℤ stored b) +ℤ stored c ≡ a +ℤ b +ℤ c
  three_is = plus two_is two_half (half hc)

  pub two_fits : SFits w32 (stored a +ℤ stored b)
  two_fits = plus_fits refl (half ha) (half hb)

  pub three_fits : SFits w32 (stored (stored a +ℤ stored b) +ℤ stored c)
  three_fits = plus_fits two_is two_half (half hc)

  pub four_fits : SFits w32 (stored (stored (stored a +ℤ stored b) +ℤ stored c) +ℤ stored d)
  four_fits = plus_fits three_is three_half (half hd)

  pub four_is : stored (stored (stored (stored a +ℤ stored b) +ℤ stored c) +ℤ stored d) ≡ a +ℤ b +ℤ c +ℤ d
  four_is = ap stored (plus three_is three_half (half hd)) ∙ back (within_half {k = 4} (omega arith) four_within)

-- ---- what the four say of one place

module _ {n c o : ℕ} {xs : List ℤ} (t : FourSays n c o xs) where
  voiced_within : {v : ℤ} (w : Bool) (y j : ℕ) → j < 4 → v ≡ voiced w (at xs y) (at xs (o + j)) → Within 1 v
  voiced_within true y j lj e = record { within = omega (arith, ap nat_abs e, nat_abs-signed (constant_of (at xs y)) (at xs (o + j)), t.small j lj) }
  voiced_within false y j lj e = record { within = omega (arith, ap nat_abs e) }

  pub all_within : (w : ℕ → Bool) (s : ℕ → ℕ) (i : ℕ) → i < 4 → Within 4 (four_said w s n c o xs i)
  all_within w s i hi =
      let f : ℕ → ℤ = λ l. voiced (w l) (at xs (c + l * n + s l)) (at xs (o + bit_xor i l)) in
      let each : (l : ℕ) → l < 4 → Within 1 (f l) = λ l hl. voiced_within (w l) (c + l * n + s l) (bit_xor i l) (four_lt hi hl) refl in
      subst (Within 4) (sym (sum_of_four f)) (four_within (each 0 (omega arith)) (each 1 (omega arith)) (each 2 (omega arith)) (each 3 (omega arith)))

  own : (others : Bool) (i : ℕ) → signed_at others i 0 ≡ i
  own true i = xor_zero_r i
  own false i = refl

  -- what the code has of each
  module _ (v : Voices) (others : Bool) {i s1 s2 s3 : ℕ} (low : i < 4) {a b d e : ℤ}
      (e1 : s1 ≡ signed_at others i 1) (e2 : s2 ≡ signed_at others i 2) (e3 : s3 ≡ signed_at others i 3)
      (ea : a ≡ voiced v.a (at xs (c + i)) (at xs (o + i))) (eb : b ≡ voiced v.b (at xs (c + n + s1)) (at xs (o + bit_xor i 1)))
      (ed : d ≡ voiced v.c (at xs (c + 2 * n + s2)) (at xs (o + bit_xor i 2))) (ee : e ≡ voiced v.d (at xs (c + 3 * n + s3)) (at xs (o + bit_xor i 3))) where
    wa : Within 1 a
    wa = voiced_within v.a (c + i) i low ea

    wb : Within 1 b
    wb = voiced_within v.b (c + n + s1) (bit_xor i 1) (four_lt low (omega arith)) eb

    wd : Within 1 d
    wd = voiced_within v.c (c + 2 * n + s2) (bit_xor i 2) (four_lt low (omega arith)) ed

    we : Within 1 e
    we = voiced_within v.d (c + 3 * n + s3) (bit_xor i 3) (four_lt low (omega arith)) ee

    pub heard_two : SFits w32 (stored a +ℤ stored b)
    heard_two = two_fits wa wb wd we

    pub heard_three : SFits w32 (stored (stored a +ℤ stored b) +ℤ stored d)
    heard_three = three_fits wa wb wd we

    pub heard_four : SFits w32 (stored (stored (stored a +ℤ stored b) +ℤ stored d) +ℤ stored e)
    heard_four = four_fits wa wb wd we

    pub heard_is : stored (stored (stored (stored a +ℤ stored b) +ℤ stored d) +ℤ stored e) ≡ four_said (voices_of v) (signed_at others i) n c o xs i
    heard_is =
        let f : ℕ → ℤ = λ l. voiced (voices_of v l) (at xs (c + l * n + signed_at others i l)) (at xs (o + bit_xor i l)) in
        let zeroth : c + i ≡ c + 0 * n + signed_at others i 0 = omega (arith, own others i) in
        let first : c + n + s1 ≡ c + 1 * n + signed_at others i 1 = omega (arith, e1) in
        let second : c + 2 * n + s2 ≡ c + 2 * n + signed_at others i 2 = omega (arith, e2) in
        let third : c + 3 * n + s3 ≡ c + 3 * n + signed_at others i 3 = omega (arith, e3) in
        four_is wa wb wd we
        ∙ ap₂ ◌+ℤ◌
        (ap₂ ◌+ℤ◌
        (ap₂ ◌+ℤ◌
        (ea ∙ ap₂ (λ (x y : ℕ). voiced v.a (at xs x) (at xs y)) zeroth (ap (λ (x : ℕ). o + x) (sym (xor_zero_r i))))
        (eb ∙ ap (λ (x : ℕ). voiced v.b (at xs x) (at xs (o + bit_xor i 1))) first))
        (ed ∙ ap (λ (x : ℕ). voiced v.c (at xs x) (at xs (o + bit_xor i 2))) second))
        (ee ∙ ap (λ (x : ℕ). voiced v.d (at xs x) (at xs (o + bit_xor i 3))) third)
        ∙ sym (sum_of_four f)

-- ---- four numbers added

module _ {r : ℕ} {a b c d : ℤ} {xs : List ℤ} (t : Addends r a b c d xs) where
  pub sum_places : length xs * 4 < 2 ^ 63 → Places r 4 (length xs)
  sum_places small = places small tt t.room

  abbrev new : ℕ → ℤ
  new i = stored (at xs (r + i)) +ℤ stored (four_of a b c d i)

  pub new_fits : (i : ℕ) → i < 4 → SFits w32 (new i)
  new_fits i hi = sum_fits (t.few i hi) (t.each i hi)

  -- the first as the code has it
  pub first_fits : SFits w32 (stored (at xs r) +ℤ stored a)
  first_fits = rw (add-zero r) at (new_fits 0 (omega arith))

  new_is : (i : ℕ) → i < 4 → stored (new i) ≡ at xs (r + i) +ℤ four_of a b c d i
  new_is i hi = sum_stored (t.few i hi) (t.each i hi)

  pub four_added : {ys : List ℤ} → Written (pos 0) r 4 (four_of (stored (stored (at xs r) +ℤ stored a)) (stored (new 1)) (stored (new 2)) (stored (new 3))) xs ys
      → Written (pos 0) r 4 (λ i. at xs (r + i) +ℤ four_of a b c d i) xs ys
  four_added w =
      four_as w
      (ap (λ (x : ℕ). stored (stored (at xs x) +ℤ stored a)) (sym (add-zero r)) ∙ new_is 0 (omega arith))
      (new_is 1 (omega arith))
      (new_is 2 (omega arith))
      (new_is 3 (omega arith))

-- ---- a block of places that hears four directions

-- v0 to v3 are what they say of its places
pub record Heard (w : ℕ → Bool) (others : Bool) (n c o r : ℕ) (xs : List ℤ) (v0 v1 v2 v3 : ℤ) : Type 0 where
  pub asks : FourHears n c o r xs
  pub zeroth : v0 ≡ four_said w (signed_at others 0) n c o xs 0
  pub first : v1 ≡ four_said w (signed_at others 1) n c o xs 1
  pub second : v2 ≡ four_said w (signed_at others 2) n c o xs 2
  pub third : v3 ≡ four_said w (signed_at others 3) n c o xs 3

module _ {w : ℕ → Bool} {others : Bool} {n c o r : ℕ} {xs : List ℤ} {v0 v1 v2 v3 : ℤ} (t : Heard w others n c o r xs v0 v1 v2 v3) where
  half_said : {v : ℤ} (i : ℕ) → i < 4 → v ≡ four_said w (signed_at others i) n c o xs i → Half v
  half_said i hi e = subst Half (sym e) (within_half {k = 4} (omega arith) (all_within t.asks.says w (signed_at others i) i hi))

  kept : {v : ℤ} (i : ℕ) → i < 4 → v ≡ four_said w (signed_at others i) n c o xs i → stored v ≡ four_said w (signed_at others i) n c o xs i
  kept i hi e = back (half_said i hi e) ∙ e

  all_kept : (i : ℕ) → i < 4 → four_of (stored v0) (stored v1) (stored v2) (stored v3) i ≡ four_said w (signed_at others i) n c o xs i
  all_kept = by_four (λ (i : ℕ). four_of (stored v0) (stored v1) (stored v2) (stored v3) i ≡ four_said w (signed_at others i) n c o xs i)
      (kept 0 (omega arith) t.zeroth) (kept 1 (omega arith) t.first) (kept 2 (omega arith) t.second) (kept 3 (omega arith) t.third)

  pub heard_adds : Addends r (stored v0) (stored v1) (stored v2) (stored v3) xs
  heard_adds = record {
    room = t.asks.room;
    few = λ i hi. record { half = omega (arith, t.asks.few i hi) };
    each = λ i hi. half_said i hi (all_kept i hi);
  }

  pub heard_written : {ys : List ℤ} → Written (pos 0) r 4 (λ i. at xs (r + i) +ℤ four_of (stored v0) (stored v1) (stored v2) (stored v3) i) xs ys
      → Written (pos 0) r 4 (λ i. at xs (r + i) +ℤ four_said w (signed_at others i) n c o xs i) xs ys
  heard_written new =
      written_as new (λ i. at xs (r + i) +ℤ four_said w (signed_at others i) n c o xs i) (λ i hi. ap (λ (x : ℤ). at xs (r + i) +ℤ x) (all_kept i hi))
