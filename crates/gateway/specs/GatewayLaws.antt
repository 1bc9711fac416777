-- A decoding by the layer is the core's. Assumes nothing.
use Rattle.std.specs.Prelude.{ℕ, zero, suc, ◌*◌, ◌^◌, ◌≤◌, ◌≡◌, refl, Bool, List, ◌++◌, leb, ℤ, length}
use Rattle.std.proofs.Common.{ap₂, ◌∙◌, arith}
use Rattle.std.proofs.Math.Bool.{true, false}
use borrow.Author.Tests.{le-leb, leb-true}
use Rattle.refusals.specs.Refusals.{first_refusal, Decoded}
use Rattle.profiles.specs.Profiles.{profile_of}
use Rattle.rule.specs.Decoding.{after, buffer_checks, decode_profile_call, profile_checks}
use Rattle.rule.specs.Calls.{Decodes, values_of, decoded_place}
use Rattle.packing.specs.Packing.{pack_values}
use Rattle.gateway.specs.Gateway.{Delivers, ReturnsOwn}

-- the profiles' numbers
pub record Small (profile : ℕ) : Type 0 where
  pub places : 2 ^ (profile_of profile).m ≤ 256
  pub rounds : (profile_of profile).rounds ≤ 4
  pub leaves : (profile_of profile).leaves ≤ 518160

pub profile_small : (profile : ℕ) → profile ≤ 4 → Small profile
profile_small zero h = record { places = omega arith; rounds = omega arith; leaves = omega arith }
profile_small (suc zero) h = record { places = omega arith; rounds = omega arith; leaves = omega arith }
profile_small (suc (suc zero)) h = record { places = omega arith; rounds = omega arith; leaves = omega arith }
profile_small (suc (suc (suc zero))) h = record { places = omega arith; rounds = omega arith; leaves = omega arith }
profile_small (suc (suc (suc (suc zero)))) h = record { places = omega arith; rounds = omega arith; leaves = omega arith }
profile_small (suc (suc (suc (suc (suc n))))) h = absurd (omega arith)

-- the working numbers are enough for every profile
pub longest : (profile : ℕ) → profile ≤ 4 → 8 * 2 ^ (profile_of profile).m ≤ 2048
longest profile h = omega (arith, (profile_small profile h).places)

-- how many there are beyond those that a profile needs changes nothing
module _ (profile : ℕ) (word : List ℕ) (room a b : ℕ) (ha : profile ≤ 4 → 8 * 2 ^ (profile_of profile).m ≤ a) (hb : profile ≤ 4 → 8 * 2 ^ (profile_of profile).m ≤ b) where
  same_checks : (t : Bool) → leb profile 4 ≡ t
      → first_refusal (profile_checks profile ++ buffer_checks (profile_of profile).m word room a) ≡ first_refusal (profile_checks profile ++ buffer_checks (profile_of profile).m word room b)
  unfolding first_refusal
  same_checks true e =
      let h = leb-true profile 4 e in
      rw (le-leb (8 * 2 ^ (profile_of profile).m) a (ha h), le-leb (8 * 2 ^ (profile_of profile).m) b (hb h))
  same_checks false e = rw e

  pub same_call : decode_profile_call profile word room a ≡ decode_profile_call profile word room b
  unfolding decode_profile_call after
  same_call = rw (same_checks (leb profile 4) refl)

pub delivered : {profile : ℕ} {word out out' : List ℕ} {area area' : List ℤ} {d : Decoded}
    → (profile ≤ 4 → 8 * 2 ^ (profile_of profile).m ≤ length area)
    → Decodes (profile_of profile).m (decode_profile_call profile word (length out) (length area)) word out out' area area' d → Delivers profile word out out' d
delivered {profile} {word} {out} {area = area} enough h =
    let e = same_call profile word (length out) (length area) 2048 enough (longest profile) in
    record { answer = rw e at h.answer; place = rw e at h.place; output = rw e at h.output }

pub own_returns : {profile : ℕ} {word out out' : List ℕ} {d : Decoded} {v : ℕ}
    → Delivers profile word out out' d → v ≡ pack_values (values_of d) (decoded_place d) → ReturnsOwn profile word out out' v
own_returns c e = record { packed = e ∙ ap₂ pack_values c.answer c.place; output = c.output }
