-- The pair's numbers as the code reads them: its tests of their signs, and for 0.
use Rattle.std.specs.Prelude.{ℕ, ◌≡◌, ◌≢◌, refl, Bool, true, false, cond, ◌||◌, eqb, ℤ, pos, nat_abs}
use Rattle.std.proofs.Common.{sym, ap, ◌∙◌, SFits, of_z, to_z-of_z, eq-eqb, ne_eqb}
use Rattle.std.proofs.lemmas.Bool.{false≢true}
use Rattle.std.specs.Int.Signed.{lt_z}
use Rattle.std.specs.Int.{w32}
use mir.Val.{bool_byte}
use Rattle.area.specs.Numbers.{stored}
use Rattle.hadamard.specs.Correlation.{constant_of}
use Rattle.hadamard.specs.CorrelationLaws.{constant_of_negative, constant_of_other}
use Rattle.peaks.specs.Stored.{as_it_is, zero_read}
use Rattle.peaks.specs.Peaks.{alike}
use Rattle.peaks.proofs.peak_at.Goals as goal
use Rattle.peaks.proofs.peak_at.Goals.{then-constant-other, else-constant-other}

-- ---- the sign of one number, which the code has as r
module _ {x r : ℤ} (f : SFits w32 x) (e : r ≡ pos (bool_byte (lt_z (stored x) (pos 0)))) where
  sign_test : (t : Bool) → lt_z (stored x) (pos 0) ≡ t → bool_byte t ≡ constant_of x
  sign_test true q = sym (constant_of_negative x (rw (to_z-of_z f) at q))
  sign_test false q = sym (constant_of_other x (rw (to_z-of_z f) at q))

  sign_read : r ≡ pos (constant_of x)
  sign_read = e ∙ ap pos (sign_test (lt_z (stored x) (pos 0)) refl)

  sign_word : of_z w32 r ≡ constant_of x
  sign_word = ap (of_z w32) sign_read

both_false : (a b : Bool) → (a || b) ≡ false → (a ≡ false) × (b ≡ false)
both_false true b e = absurd (false≢true (sym e))
both_false false b e = (refl, e)

-- neither is 0
module _ {x y : ℤ} (f : SFits w32 x) (g : SFits w32 y) (e : (eqb (of_z w32 x) 0 || eqb (of_z w32 y) 0) ≡ false) where
  first_some : nat_abs x ≢ 0
  first_some z = false≢true (sym (both_false _ _ e).0 ∙ zero_read f ∙ eq-eqb (nat_abs x) 0 z)

  second_some : nat_abs y ≢ 0
  second_some z = false≢true (sym (both_false _ _ e).1 ∙ zero_read g ∙ eq-eqb (nat_abs y) 0 z)

-- the mask that the code takes, by the two constants that it reads
module _ {x y r s : ℤ} (f : SFits w32 x) (g : SFits w32 y) (e : r ≡ pos (bool_byte (lt_z (stored x) (pos 0)))) (h : s ≡ pos (bool_byte (lt_z (stored y) (pos 0)))) (a b : ℕ) where
  alike_mask : of_z w32 r ≡ of_z w32 s → a ≡ cond (alike x y) a b
  alike_mask same = rw (eq-eqb (constant_of x) (constant_of y) (sym (sign_word f e) ∙ same ∙ sign_word g h)) refl

  unlike_mask : of_z w32 r ≢ of_z w32 s → b ≡ cond (alike x y) a b
  unlike_mask other = rw (ne_eqb (constant_of x) (constant_of y) (λ q. other (sign_word f e ∙ q ∙ sym (sign_word g h)))) refl

-- ---- the needs
pub returns-then-tied : goal.returns-then-tied
returns-then-tied c =
    let a = c.args in
    let mask_is : c.if-constant-other.mask ≡ cond (alike a.x a.y) a.sum a.difference = elim c.if-constant-other.branch [
      | then-constant-other w ↦ w.mask-is ∙ alike_mask c.ranges.x c.ranges.y c.from-constant.ensures c.from-other.ensures a.sum a.difference w.if-constant-other.true
      | else-constant-other w ↦ w.mask-is ∙ unlike_mask c.ranges.x c.ranges.y c.from-constant.ensures c.from-other.ensures a.sum a.difference w.if-constant-other.false
    ] in
    record {
      alone = λ nx ny. rw (zero_read c.ranges.x ∙ ne_eqb (nat_abs c.args.x) 0 nx, zero_read c.ranges.y ∙ ne_eqb (nat_abs c.args.y) 0 ny) at c.if-tied.true;
      first = λ e. refl;
      second = λ e. refl;
      mask = mask_is;
      constant = as_it_is {z = c.from-constant.result} c.from-constant.type_inv ∙ sign_read c.ranges.x c.from-constant.ensures;
    }

pub returns : goal.returns
returns c =
    let a = c.args in
    let mask_is : c.if-constant-other.mask ≡ cond (alike a.x a.y) a.sum a.difference = elim c.if-constant-other.branch [
      | then-constant-other w ↦ w.mask-is ∙ alike_mask c.ranges.x c.ranges.y c.from-constant.ensures c.from-other.ensures a.sum a.difference w.if-constant-other.true
      | else-constant-other w ↦ w.mask-is ∙ unlike_mask c.ranges.x c.ranges.y c.from-constant.ensures c.from-other.ensures a.sum a.difference w.if-constant-other.false
    ] in
    record {
      alone = λ nx ny. refl;
      first = λ e. absurd (first_some c.ranges.x c.ranges.y c.if-tied.false e);
      second = λ e. absurd (second_some c.ranges.x c.ranges.y c.if-tied.false e);
      mask = mask_is;
      constant = as_it_is {z = c.from-constant.result} c.from-constant.type_inv ∙ sign_read c.ranges.x c.from-constant.ensures;
    }
