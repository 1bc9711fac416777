-- Two calls in buffers of the right sizes, on a block and the same block changed in fewer places than a quarter of the gap. Assumes nothing.
use Prim.Native.Nat.{ℕ, ◌≤◌, ◌<◌}
use mathlib.Core.Path.{◌≡◌, sym, ap, ◌∙◌}
use mathlib.Core.List.{List, ◌++◌}
use native.Mathlib.Decide.{dec_lt}
use native.Mathlib.Omega.{arith}
use lib.ListN.{length, get_or-eq_default}
use lib.IntN.{ℤ}
use Rattle.words.specs.Word.{IsWord}
use Rattle.refusals.specs.IsCode.{IsCode}
use Rattle.refusals.proofs.CheckLaws.{code_passes, passed}
use Rattle.refusals.specs.Refusals.{Check, code_checks, first_refusal, Decoded}
use Rattle.profiles.specs.Profiles.{profile_of, profiles, row}
use Rattle.profiles.specs.declared.Profile.{Profile}
use Rattle.rule.specs.Reading.{Outcome, accepted, reading}
use Rattle.rule.specs.Decoding.{after, decode_call, decode_of, decode_profile_call, decode_profile_of, limit_checks, limited, number_in, answer_of, output_of}
use Rattle.rule.specs.RightSizes.{RightSizes}
use Rattle.rule.proofs.DecodingLaws.{call_is, limited_within, profile_call_is}
use Rattle.rule.proofs.ProfileLaws.{profile_limited}
use Rattle.rule.specs.Calls.{Decodes}
use Rattle.alike.specs.Alike.{Fit}
use Rattle.gap.specs.Calls.{Measured, Measures}
use Rattle.gap.specs.CallLaws.{Passed, gap_given}
use Rattle.gap.specs.GapLaws.{SameCodeword, gap_same}
use Rattle.changed.specs.Changed.{Near, Same}
use borrow.Author.Tests.{le-leb, leb-true}

-- what follows where the gap's answer is great enough
module _ {m : ℕ} {w w' : List ℕ} {area area' : List ℤ} {g : Measured} (call : Measures m w area area' g) (near : Near m w w' g) where
  some_gap : Passed m w (length area)
  some_gap = (gap_given call (omega (arith, near.few))).0

  same : SameCodeword m w w'
  same =
      gap_same some_gap.some some_gap.input near.word
      (omega (arith, near.few, (gap_given call (omega (arith, near.few))).1))

sizes : {m : ℕ} {w out : List ℕ} {area : List ℤ} → IsWord m w → Fit m out area → RightSizes m w (length out) (length area)
sizes word fit = record { input = word; output = fit.output; lent = fit.lent }

-- a reading that is accepted, after checks that passed
answered : (cs : List Check) (leaves : ℕ) {o : Outcome} (d : List ℕ) → 0 ≡ first_refusal cs → 1 ≤ leaves → o ≡ accepted d 0 1 → after cs (limited leaves o) ≡ accepted d 0 1
unfolding after
answered cs leaves d e l h = rw (← e, h) (limited_within leaves (accepted d 0 1) l)

-- limits given
decoded : (m rounds leaves : ℕ) {w d : List ℕ} {room area : ℕ} → IsCode m 1 → first_refusal (limit_checks rounds leaves) ≡ 0 → RightSizes m w room area
    → reading 1 m rounds w ≡ accepted d 0 1 → decode_call m 1 rounds leaves w room area ≡ accepted d 0 1
unfolding decode_of
decoded m rounds leaves {d = d} code limits right e =
    let four = (passed 2 _ _ (passed 2 _ _ limits).1).1 in
    call_is right 1 rounds leaves
    ∙ answered (code_checks m 1 ++ limit_checks rounds leaves) leaves d (code_passes (limit_checks rounds leaves) code (sym limits)) (leb-true 1 leaves (passed 3 _ _ four).0) e

-- a number above 4 has no profile
pub no_profile : (number : ℕ) → 4 < number → (profile_of number).m ≡ 0
no_profile number l = ap (λ (p : Profile). p.m) (get_or-eq_default profiles (row 0 0 0 0) {n = number} l)

number_of : (number : ℕ) → 1 ≤ (profile_of number).m → number ≤ 4
number_of number h = elim (dec_lt 4 number) [
  | yes l ↦ absurd (omega (arith, no_profile number l))
  | no k ↦ omega arith
]

-- limits taken from a profile of order 1
decoded_profile : (number : ℕ) {w d : List ℕ} {room area : ℕ} → number ≤ 4 → (profile_of number).r ≡ 1 → RightSizes (profile_of number).m w room area
    → reading 1 (profile_of number).m (profile_of number).rounds w ≡ accepted d 0 1 → decode_profile_call number w room area ≡ accepted d 0 1
unfolding decode_profile_of after first_refusal
decoded_profile number {w} h one right e =
    let p = profile_of number in
    profile_call_is number right
    ∙ rw (le-leb number 4 h) (profile_limited number h w ∙ ap (λ (r : ℕ). reading r p.m p.rounds w) one ∙ e)

-- ---- two calls, by their outcomes x and y

module _ {m : ℕ} {w w' out out' v v' : List ℕ} {area area' xs xs' : List ℤ} {a a' : Decoded} where
  both : {x y : Outcome} (c : SameCodeword m w w') → Decodes m x w out v area xs a → Decodes m y w' out' v' area' xs' a'
      → x ≡ accepted c.codeword 0 1 → y ≡ accepted c.codeword 0 1 → Same m v v' a a'
  both c one two e f = record {
    first = ap number_in (one.answer ∙ ap (answer_of m w) e);
    second = ap number_in (two.answer ∙ ap (answer_of m w') f);
    codeword = rw (one.output ∙ ap (λ (o : Outcome). output_of o out) e) c.in_code;
    output = two.output ∙ ap (λ (o : Outcome). output_of o out') f ∙ sym (one.output ∙ ap (λ (o : Outcome). output_of o out) e);
  }

  module _ {lent lent' : List ℤ} {g : Measured} where
    pub calls_keep : (rounds leaves : ℕ) → Measures m w lent lent' g → Decodes m (decode_call m 1 rounds leaves w (length out) (length area)) w out v area xs a
        → Decodes m (decode_call m 1 rounds leaves w' (length out') (length area')) w' out' v' area' xs' a'
        → Near m w w' g → first_refusal (limit_checks rounds leaves) ≡ 0 → Fit m out area → Fit m out' area' → Same m v v' a a'
    calls_keep rounds leaves call one two near limits f f' =
        let c = same call near in
        let p = some_gap call near in
        let code : IsCode m 1 = record { some = p.some; most = p.most; order = p.some } in
        both c one two (decoded m rounds leaves code limits (sizes p.input f) (c.first rounds))
        (decoded m rounds leaves code limits (sizes near.word f') (c.second rounds))

module _ {w w' out out' v v' : List ℕ} {area area' xs xs' lent lent' : List ℤ} {a a' : Decoded} {g : Measured} where
  pub profiles_keep : (number : ℕ) → Measures (profile_of number).m w lent lent' g
      → Decodes (profile_of number).m (decode_profile_call number w (length out) (length area)) w out v area xs a
      → Decodes (profile_of number).m (decode_profile_call number w' (length out') (length area')) w' out' v' area' xs' a'
      → Near (profile_of number).m w w' g → (profile_of number).r ≡ 1 → Fit (profile_of number).m out area → Fit (profile_of number).m out' area'
      → Same (profile_of number).m v v' a a'
  profiles_keep number call one two near order f f' =
      let c = same call near in
      let p = some_gap call near in
      let h = number_of number p.some in
      both c one two (decoded_profile number h order (sizes p.input f) (c.first _)) (decoded_profile number h order (sizes near.word f') (c.second _))
