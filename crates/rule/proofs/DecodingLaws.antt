-- The decoder's answer under its limits: laws of the leaf limit and of the checks before a reading, and calls in buffers of the right sizes.
-- Assumes nothing.
use Rattle.std.specs.Prelude.{ℕ, ◌*◌, ◌^◌, ◌≤◌, ◌<◌, ◌≡◌, Bool, List, ◌++◌, ltb, length}
use Rattle.std.proofs.Math.Path.{refl}
use Rattle.std.proofs.Math.Bool.{true, false, cond}
use Rattle.std.proofs.Common.{arith}
use Rattle.std.proofs.Math.Dec.{eqb}
use borrow.Author.Tests.{eq-eqb, eqb-false, eqb-true, le-leb, le-ltb, lt-ltb, ltb-false, ltb-true}
use Rattle.rule.specs.Decoding.{answer_of, number_in, refusal_of, after, buffer_checks, decode_call, decode_of, decode_profile_call, decode_profile_of, limit_checks, limited, profile_checks}
use Rattle.rule.specs.Outcomes.{shift, leaves_shift}
use Rattle.rule.specs.Reading.{Outcome, accepted, leaves_of, refused}
use Rattle.profiles.specs.Profiles.{profile_of}
use Rattle.refusals.proofs.CheckLaws.{bits_tested, bits_pass, passed, passes, rest_passes}
use Rattle.refusals.specs.Refusals.{Check, code_checks, first_refusal}
use Rattle.words.specs.Word.{IsWord}
use Rattle.rule.specs.RightSizes.{RightSizes}

shift-cond : (c : List ℕ) (t : Bool) (x y : Outcome) → cond t (shift c x) (shift c y) ≡ shift c (cond t x y)
shift-cond c true x y = refl
shift-cond c false x y = refl

-- ---- the leaf limit

module _ (leaves : ℕ) (o : Outcome) where
  -- "for 12, rounds 0 and the leaf limit"
  pub limited_above : leaves < leaves_of o → limited leaves o ≡ refused 12 0 leaves
  limited_above h = rw (lt-ltb leaves (leaves_of o) h)

  pub limited_within : leaves_of o ≤ leaves → limited leaves o ≡ o
  limited_within h = rw (le-ltb leaves (leaves_of o) h)

  pub limited_cases : (P : Outcome → Type 0) → (leaves < leaves_of o → P (refused 12 0 leaves)) → (leaves_of o ≤ leaves → P o) → P (limited leaves o)
  limited_cases P a b = go (ltb leaves (leaves_of o)) refl
    where
      go : (t : Bool) → ltb leaves (leaves_of o) ≡ t → P (cond t (refused 12 0 leaves) o)
      go true e = a (ltb-true leaves (leaves_of o) e)
      go false e = b (ltb-false leaves (leaves_of o) e)

  pub limited-shift : (c : List ℕ) → limited leaves (shift c o) ≡ shift c (limited leaves o)
  limited-shift c = rw (leaves_shift c o) (shift-cond c (ltb leaves (leaves_of o)) (refused 12 0 leaves) o)

-- ---- checks

module _ (cs : List Check) where
  pub after_cases : (o : Outcome) (P : Outcome → Type 0) → (first_refusal cs ≡ 0 → P o) → (0 < first_refusal cs → P (refused (first_refusal cs) 0 0)) → P (after cs o)
  unfolding after
  after_cases o P a b = go (eqb (first_refusal cs) 0) refl
    where
      go : (t : Bool) → eqb (first_refusal cs) 0 ≡ t → P (cond t o (refused (first_refusal cs) 0 0))
      go true e = a (eqb-true (first_refusal cs) 0 e)
      go false e = let k : first_refusal cs ≡ 0 → ⊥ = eqb-false (first_refusal cs) 0 e in b (omega arith)

  pub after-shift : (c : List ℕ) (o o' : Outcome) → (first_refusal cs ≡ 0 → o' ≡ shift c o) → after cs o' ≡ shift c (after cs o)
  unfolding after
  after-shift c o o' h = go (eqb (first_refusal cs) 0) refl
    where
      go : (t : Bool) → eqb (first_refusal cs) 0 ≡ t → cond t o' (refused (first_refusal cs) 0 0) ≡ shift c (cond t o (refused (first_refusal cs) 0 0))
      go true e = h (eqb-true (first_refusal cs) 0 e)
      go false e = refl

  -- an answer depends on its checks' number alone
  pub after_same : (ds : List Check) (o : Outcome) → first_refusal cs ≡ first_refusal ds → after cs o ≡ after ds o
  unfolding after
  after_same ds o e = rw e

-- ---- calls in buffers of the right sizes

-- "5: input is not n long", "8: a byte of the input above 1"
pub buffers_passed : (m : ℕ) (word : List ℕ) (room area : ℕ) → first_refusal (buffer_checks m word room area) ≡ 0 → IsWord m word
buffers_passed m word room area e =
    let five = passed 4 _ _ e in
    let eight = passed 7 _ _ (passed 6 _ _ (passed 5 _ _ five.1).1).1 in
    record { size = eqb-true (length word) (2 ^ m) five.0; bits = bits_tested word eight.0 }

module _ {m : ℕ} {word : List ℕ} {room area : ℕ} (h : RightSizes m word room area) where
  buffers_pass : 0 ≡ first_refusal (buffer_checks m word room area)
  buffers_pass =
      passes _ _ _ (eq-eqb (length word) (2 ^ m) h.input.size)
      (passes _ _ _ (eq-eqb room (2 ^ m) h.output)
      (passes _ _ _ (le-leb (8 * 2 ^ m) area h.lent)
      (bits_pass word h.input.bits)))

  pub call_is : (r rounds leaves : ℕ) → decode_call m r rounds leaves word room area ≡ decode_of m r rounds leaves word
  unfolding decode_call decode_of
  call_is r rounds leaves =
      after_same (code_checks m r ++ limit_checks rounds leaves ++ buffer_checks m word room area) (code_checks m r ++ limit_checks rounds leaves) _
      (rest_passes (code_checks m r ++ limit_checks rounds leaves) (buffer_checks m word room area) buffers_pass)

pub profile_call_is : {word : List ℕ} {room area : ℕ} (number : ℕ) → RightSizes (profile_of number).m word room area
    → decode_profile_call number word room area ≡ decode_profile_of number word
unfolding decode_profile_call decode_profile_of
profile_call_is {word} {room} {area} number h =
    after_same (profile_checks number ++ buffer_checks (profile_of number).m word room area) (profile_checks number) _
    (rest_passes (profile_checks number) (buffer_checks (profile_of number).m word room area) (buffers_pass h))

-- a call's number among the values that it returns
pub number_is : (m : ℕ) (w : List ℕ) (o : Outcome) → number_in (answer_of m w o) ≡ refusal_of o
number_is m w (accepted d k l) = refl
number_is m w (refused e k l) = refl
