-- Confidences as the code reads them from the area. Assumes nothing.
use Prim.Native.Nat.{ℕ, ◌^◌, ◌≤◌, ◌<◌}
use mathlib.Core.Path.{◌≡◌, ap, ap₂, ◌∙◌}
use mathlib.Core.Bool.{Bool, true, false}
use mathlib.Core.List.{List}
use native.Mathlib.Omega.{arith}
use lib.Seq.{get_or-take}
use lib.IntN.{ℤ, pos, nat_abs, ◌+ℤ◌}
use lib.Signed.{mag}
use mir.Syntax.{w32}
use mir.Val.{SFits}
use mir.Facts.{to_z-of_z}
use Rattle.area.specs.Area.{at}
use Rattle.area.specs.Numbers.{Half, stored, stored-eq, sum_fits, sum_stored}
use Rattle.hadamard.specs.Correlation.{signed, constant_of}
use Rattle.hadamard.specs.CorrelationLaws.{nat_abs-signed}
use Rattle.confidences.specs.Confidences.{greatest, joint}
use Rattle.confidences.specs.Values.{front_of}
use Rattle.value_steps.specs.Shares.{said, voiced, Says, Hears}
use Rattle.value_steps.proofs.Joints.{joint_small}

-- the front as a list of its own
pub at_front : (n : ℕ) (xs : List ℤ) (p : ℕ) → p < n → at (front_of n xs) p ≡ at xs p
at_front n xs p l = get_or-take n xs p (pos 0) l

-- a confidence is read as it stands
module _ (x : ℤ) (h : nat_abs x ≤ greatest) where
  pub value_read : stored x ≡ x
  value_read = stored-eq x (omega arith)

  pub value_small : nat_abs (stored x) < 2 ^ 29
  value_small = rw value_read (omega arith)

  pub value_fits : nat_abs (stored x) < 2 ^ 31
  value_fits = rw value_read (omega arith)

-- what `joint` gave of two confidences
pub joint_kept : (x y : ℤ) → nat_abs x ≤ greatest → nat_abs y ≤ greatest → (r : ℤ) → r ≡ joint (stored x) (stored y) → stored r ≡ joint x y
joint_kept x y hx hy r e =
    let v : r ≡ joint x y = e ∙ ap₂ joint (value_read x hx) (value_read y hy) in
    rw v (stored-eq (joint x y) (omega (arith, joint_small x y)))

-- what stands at o, by the sign at c
pub said_small : {c o : ℕ} {xs : List ℤ} → Says c o xs → nat_abs (said (at xs c) (at xs o)) ≤ greatest
said_small {c} {o} {xs} t = omega (arith, nat_abs-signed (constant_of (at xs c)) (at xs o), t.small)

module _ {c o : ℕ} {xs : List ℤ} (t : Says c o xs) where
  pub turned_asks : nat_abs (stored (at xs o)) < 2 ^ 31
  turned_asks = value_fits (at xs o) t.small

  pub turned_is : mag (at xs c) < 2 ^ 31 → {r : ℤ} → r ≡ signed (constant_of (stored (at xs c))) (stored (at xs o)) → stored r ≡ said (at xs c) (at xs o)
  turned_is f {r} e =
      let k : SFits w32 (at xs c) = record { sfits = f } in
      let v : r ≡ said (at xs c) (at xs o) = e ∙ ap₂ said (to_z-of_z k) (value_read (at xs o) t.small) in
      rw v (stored-eq (said (at xs c) (at xs o)) (omega (arith, said_small t)))

-- it counts where there is a word
module _ {c o : ℕ} {xs : List ℤ} (t : Says c o xs) {v : ℤ} (e : v ≡ said (at xs c) (at xs o)) (w : Bool) where
  pub voiced_taken : w ≡ true → stored v ≡ voiced w (at xs c) (at xs o)
  voiced_taken is = rw (is, e) (stored-eq (said (at xs c) (at xs o)) (omega (arith, said_small t)))

  pub voiced_left : w ≡ false → pos 0 ≡ voiced w (at xs c) (at xs o)
  voiced_left is = rw is

-- it is added to the sum at r
module _ {c o r : ℕ} {xs : List ℤ} (t : Hears c o r xs) {v : ℤ} (e : v ≡ said (at xs c) (at xs o)) where
  half_sum : Half (at xs r)
  half_sum = record { half = omega (arith, t.few) }

  half_said : Half v
  half_said = record { half = omega (arith, ap nat_abs e, said_small t.says) }

  pub hear_fits : SFits w32 (stored (at xs r) +ℤ stored v)
  hear_fits = sum_fits half_sum half_said

  pub hear_is : stored (stored (at xs r) +ℤ stored v) ≡ at xs r +ℤ said (at xs c) (at xs o)
  hear_is = sum_stored half_sum half_said ∙ ap (λ (y : ℤ). at xs r +ℤ y) e
