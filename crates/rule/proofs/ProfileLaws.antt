-- The five profiles: their limits pass the checks, their message lengths, and that none can meet 12. Assumes nothing.
use Rattle.std.specs.Prelude.{ℕ, zero, suc, ◌*◌, ◌^◌, ◌≤◌, ◌≡◌, refl, Bool, false, eqb, leb, length}
use Rattle.std.proofs.Math.Bool.{true}
use mathlib.Core.List.{List, [], ◌∷◌, ◌++◌, map}
use Rattle.std.proofs.Common.{arith, leb-true}
use Rattle.code.specs.Code.{dimension}
use Rattle.code.specs.Dimension.{choose}
use Rattle.code.proofs.Dimension.{dimension-choose}
use Rattle.rule.specs.Decoding.{buffer_checks, decode_profile_call, decode_profile_of, limit_checks, limited, profile_checks}
use Rattle.rule.specs.Counts.{ByNoise, most_leaves, Not12}
use Rattle.rule.proofs.Counts.{reading_most, reading_noise}
use Rattle.rule.proofs.DecodingLaws.{after_cases, limited_within}
use Rattle.rule.specs.Reading.{Outcome, accepted, leaves_of, reading, refused}
use Rattle.profiles.specs.Profiles.{profile_of, profiles}
use Rattle.refusals.specs.IsCode.{IsCode}
use Rattle.refusals.proofs.CheckLaws.{code_passed, passed}
use Rattle.refusals.specs.Refusals.{Check, all_bits, check, code_checks, first_refusal}
use Rattle.words.specs.Sum.{total}
use Rattle.profiles.specs.declared.Profile.{Profile}

-- "k": the number of message bits of each profile
pub profile_dimensions : map (λ (p : Profile). dimension p.m p.r) profiles ≡ 6 ∷ 22 ∷ 29 ∷ 37 ∷ 93 ∷ []
unfolding total choose
profile_dimensions = simp dimension-choose

each : (P : Profile → Type 0) → P (profile_of 0) → P (profile_of 1) → P (profile_of 2) → P (profile_of 3) → P (profile_of 4) → (number : ℕ) → number ≤ 4 → P (profile_of number)
each P a b c d e zero h = a
each P a b c d e (suc zero) h = b
each P a b c d e (suc (suc zero)) h = c
each P a b c d e (suc (suc (suc zero))) h = d
each P a b c d e (suc (suc (suc (suc zero)))) h = e
each P a b c d e (suc (suc (suc (suc (suc n))))) h = absurd (omega arith)

-- 14 "stands in for 1 to 4": a profile's code and limits pass them
pub profile_passes : (number : ℕ) → number ≤ 4
    → first_refusal (code_checks (profile_of number).m (profile_of number).r ++ limit_checks (profile_of number).rounds (profile_of number).leaves) ≡ 0
unfolding first_refusal
profile_passes = each (λ (p : Profile). first_refusal (code_checks p.m p.r ++ limit_checks p.rounds p.leaves) ≡ 0) refl refl refl refl refl

-- each leaf limit is the greatest leaf count that the profile's rounds allow
pub profile_most : (number : ℕ) → number ≤ 4 → most_leaves (profile_of number).r (profile_of number).m (profile_of number).rounds ≡ (profile_of number).leaves
unfolding most_leaves
profile_most = each (λ (p : Profile). most_leaves p.r p.m p.rounds ≡ p.leaves) refl refl refl refl refl

noise_not_12 : (o : Outcome) → ByNoise o → Not12 o
noise_not_12 (accepted d i j) h e = omega arith
noise_not_12 (refused n i j) h e = omega arith

-- the checks of a call by profile have other numbers
checks_not_12 : (a b c d e : Bool) → first_refusal (check 14 a ∷ check 5 b ∷ check 6 c ∷ check 7 d ∷ check 8 e ∷ []) ≡ 12 → ⊥
unfolding first_refusal
checks_not_12 false b c d e h = omega arith
checks_not_12 true false c d e h = omega arith
checks_not_12 true true false d e h = omega arith
checks_not_12 true true true false e h = omega arith
checks_not_12 true true true true false h = omega arith
checks_not_12 true true true true true h = omega arith

module _ (number : ℕ) where
  abbrev p : Profile
  p = profile_of number

  pub profile_code : number ≤ 4 → IsCode p.m p.r
  profile_code h = (code_passed p.m p.r (limit_checks p.rounds p.leaves) (profile_passes number h)).0

  abbrev plain : List ℕ → Outcome
  plain w = reading p.r p.m p.rounds w

  pub profile_leaves : number ≤ 4 → (w : List ℕ) → leaves_of (plain w) ≤ p.leaves
  profile_leaves h w = rw (profile_most number h) at (reading_most p.r p.m p.rounds w)

  -- "No profile can meet 12.": the leaf limit changes nothing
  pub profile_limited : number ≤ 4 → (w : List ℕ) → limited p.leaves (plain w) ≡ plain w
  profile_limited h w = limited_within p.leaves (plain w) (profile_leaves h w)

  read_not_12 : number ≤ 4 → (w : List ℕ) → Not12 (limited p.leaves (plain w))
  read_not_12 h w = rw (profile_limited h w) (noise_not_12 (plain w) (reading_noise p.r p.m p.rounds w))

  pub number_passed : (cs : List Check) → first_refusal (profile_checks number ++ cs) ≡ 0 → number ≤ 4
  number_passed cs e = leb-true number 4 (passed 13 _ cs e).0

  pub profile_not_12 : (w : List ℕ) → Not12 (decode_profile_of number w)
  unfolding decode_profile_of first_refusal
  profile_not_12 w =
      after_cases (profile_checks number) _ Not12 (λ e. read_not_12 (number_passed [] e) w)
      (λ e q. checks_not_12 (leb number 4) true true true true q)

  pub profile_call_not_12 : (w : List ℕ) (room area : ℕ) → Not12 (decode_profile_call number w room area)
  unfolding decode_profile_call
  profile_call_not_12 w room area =
      after_cases (profile_checks number ++ buffer_checks p.m w room area) _ Not12 (λ e. read_not_12 (number_passed (buffer_checks p.m w room area) e) w)
      (λ e q. checks_not_12 (leb number 4) (eqb (length w) (2 ^ p.m)) (eqb room (2 ^ p.m)) (leb (8 * 2 ^ p.m) area) (all_bits w) q)
