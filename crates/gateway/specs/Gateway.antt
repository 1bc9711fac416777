-- The layer for the gateway in C: document 02, request 14. Assumes nothing.
use Rattle.std.specs.Prelude.{ℕ, ◌/◌, ◌%◌, ◌^◌, ◌<◌, ◌≡◌, List, length}
use Rattle.refusals.specs.Refusals.{place_named, Decoded}
use Rattle.profiles.specs.Profiles.{profile_of}
use Rattle.rule.specs.Reading.{Outcome}
use Rattle.rule.specs.Decoding.{Values, values, decode_profile_call, refusal_of, answer_of, output_of}
use Rattle.rule.specs.Calls.{values_of, decoded_place}
use Rattle.packing.specs.Packing.{pack_values}

-- "The layer holds its own working numbers", 2,048 of them: "Its answers are the core's in everything else."
abbrev pub own_call : ℕ → List ℕ → ℕ → Outcome
own_call profile word room = decode_profile_call profile word room 2048

-- a decoding by the layer: the output before and after, the core's answer d
pub record Delivers (profile : ℕ) (word out out' : List ℕ) (d : Decoded) : Type 0 where
  pub answer : values_of d ≡ answer_of (profile_of profile).m word (own_call profile word (length out))
  pub place : decoded_place d ≡ place_named word (refusal_of (own_call profile word (length out)))
  pub output : out' ≡ output_of (own_call profile word (length out)) out

-- what gateway_decode returns
abbrev pub own_answer : ℕ → List ℕ → ℕ → ℕ
own_answer profile word room =
    pack_values (answer_of (profile_of profile).m word (own_call profile word room)) (place_named word (refusal_of (own_call profile word room)))

pub record ReturnsOwn (profile : ℕ) (word out out' : List ℕ) (returned : ℕ) : Type 0 where
  pub packed : returned ≡ own_answer profile word (length out)
  pub output : out' ≡ output_of (own_call profile word (length out)) out

-- ---- "Each call returns 64 bits, lowest first: refusal or 0 in 8, rounds in 8, leaf count in 24, mended places in 12, the place named by 8 in 12"

-- the first four of them, and the place
abbrev pub values_in : ℕ → Values
values_in x = values (x % 256) (x / 256 % 256) (x / 65536 % 16777216) (x / 1099511627776 % 4096)

abbrev pub place_in : ℕ → ℕ
place_in x = x / 4503599627370496

-- each fits its bits
pub record Fits (number rounds leaves mended place : ℕ) : Type 0 where
  pub refusal_bits : number < 2 ^ 8
  pub round_bits : rounds < 2 ^ 8
  pub leaf_bits : leaves < 2 ^ 24
  pub mended_bits : mended < 2 ^ 12
  pub place_bits : place < 2 ^ 12

abbrev pub AllFit : Values → ℕ → Type 0
AllFit (values e k l c) place = Fits e k l c place
