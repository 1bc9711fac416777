-- Laws of the values in the front of the area. Assumes nothing.
use Rattle.std.specs.Prelude.{ℕ, ◌^◌, ◌≤◌, ◌<◌, ◌≡◌, List, ℤ, pos, nat_abs, length}
use Rattle.std.proofs.Common.{sym, ap, ◌∙◌, arith, ext_get_or, get_or-take, length-take-le}
use Rattle.std.proofs.Math.Decide.{dec_lt}
use Rattle.std.proofs.Math.ListN.{get_or-eq_default}
use Rattle.area.specs.Area.{at, SameFront}
use Rattle.confidences.specs.InRange.{InRange}
use Rattle.confidences.specs.Blocks.{IsBlock}
use Rattle.confidences.proofs.Rounds.{block_ext}
use Rattle.confidences.specs.Values.{Values, front_of}

pub front_block : (m : ℕ) (xs : List ℤ) → 2 ^ m ≤ length xs → IsBlock m (front_of (2 ^ m) xs)
front_block m xs h = record { size = length-take-le (2 ^ m) xs h }

pub front_range : {n : ℕ} {xs : List ℤ} → Values n xs → InRange (front_of n xs)
front_range {n} {xs} v = record {
  small = λ p. elim (dec_lt p n) [
    | yes l ↦ omega (arith, ap nat_abs (get_or-take n xs p (pos 0) l), v.small p l)
    | no k ↦ omega (arith, ap nat_abs (get_or-eq_default (front_of n xs) (pos 0) {n = p} (omega (arith, length-take-le n xs v.room))))
  ];
}

-- a block that the area holds place by place
pub front_is : {m : ℕ} {x : List ℤ} (xs : List ℤ) → IsBlock m x → 2 ^ m ≤ length xs → ((p : ℕ) → p < 2 ^ m → at xs p ≡ at x p)
    → front_of (2 ^ m) xs ≡ x
front_is {m} {x} xs hx room same = block_ext (front_block m xs room) hx (λ p l. get_or-take (2 ^ m) xs p (pos 0) l ∙ same p l)

pub front_values : {n : ℕ} {x xs : List ℤ} → InRange x → n ≤ length xs → ((p : ℕ) → p < n → at xs p ≡ at x p) → Values n xs
front_values h room same = record { room = room; small = λ p l. omega (arith, ap nat_abs (same p l), h.small p) }

-- numbers that are the same in front
module _ {n : ℕ} {xs ys : List ℤ} (same : SameFront n xs ys) where
  pub same_front : n ≤ length xs → front_of n ys ≡ front_of n xs
  same_front room =
      let long : length (front_of n ys) ≡ n = length-take-le n ys (omega (arith, same.long)) in
      ext_get_or (pos 0) (front_of n ys) (front_of n xs) (long ∙ sym (length-take-le n xs room))
      (λ p h. let l : p < n = omega (arith, long) in get_or-take n ys p (pos 0) l ∙ same.same p l ∙ sym (get_or-take n xs p (pos 0) l))

  pub same_values : Values n xs → Values n ys
  same_values v = record { room = omega (arith, same.long, v.room); small = λ p l. omega (arith, ap nat_abs (same.same p l), v.small p l) }
