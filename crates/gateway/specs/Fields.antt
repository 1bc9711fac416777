-- The numbers of every answer fit their bits, and unpacking gives them back. Assumes nothing.
use Rattle.std.specs.Prelude.{ℕ, ◌+◌, ◌*◌, ◌/◌, ◌%◌, ◌^◌, ◌≤◌, ◌<◌, ◌≡◌, Bool, true, false, not, ◌&&◌, ◌≢◌, eqb, leb, ltb, length}
use Rattle.std.proofs.Math.Path.{refl}
use Rattle.std.proofs.Common.{◌∙◌, ⊎_elim, pow_mono, eqb-true, ltb-true, le-leb}
use mathlib.Core.List.{List, [], ◌∷◌, ◌++◌}
use native.Mathlib.Omega.{arith}
use Rattle.std.proofs.lemmas.Bool.{eqb-false, not-true}
use Rattle.words.specs.Search.{lowest_within}
use Rattle.words.specs.SumLaws.{both_true, sum_most, le_or_lt}
use Rattle.words.specs.Word.{differs, distance}
use Rattle.refusals.proofs.CheckLaws.{bad_place, code_passed, other_place, passed, passes}
use Rattle.refusals.specs.Refusals.{Check, byte_checks, check, code_checks, first_refusal, place_named}
use Rattle.code.specs.Code.{dimension}
use Rattle.code.proofs.Dimension.{dimension_most}
use Rattle.codec_checks.specs.Checks.{encode_checks, read_checks}
use Rattle.profiles.specs.declared.Profile.{Profile}
use Rattle.profiles.specs.Profiles.{profile_of}
use Rattle.rule.specs.Counts.{Leaf, ByNoise, Rounds}
use Rattle.rule.proofs.Counts.{reading_leaf, reading_noise, reading_rounds}
use Rattle.rule.specs.Decoding.{Values, values, answer_of, buffer_checks, decode_profile_call, limited, profile_checks, refusal_of}
use Rattle.rule.proofs.DecodingLaws.{after_cases}
use Rattle.rule.proofs.ProfileLaws.{number_passed, profile_leaves, profile_limited}
use Rattle.rule.specs.Reading.{Outcome, accepted, leaves_of, reading, refused}
use Rattle.packing.specs.Packing.{pack, pack_values}
use Rattle.gateway.specs.Gateway.{AllFit, Fits, own_answer, own_call, place_in, values_in}
use Rattle.gateway.specs.GatewayLaws.{longest, profile_small}

-- ---- unpacking

module _ {e k l c p : ℕ} (f : Fits e k l c p) where
  x : ℕ
  x = e + (k + (l + (c + p * 4096) * 16777216) * 256) * 256

  whole : pack e k l c p ≡ x
  unfolding x
  whole = omega (arith, f.refusal_bits, f.round_bits, f.leaf_bits, f.mended_bits, f.place_bits)

  number_back : x % 256 ≡ e
  unfolding x
  number_back = omega (arith, f.refusal_bits)

  rounds_back : x / 256 % 256 ≡ k
  unfolding x
  rounds_back = omega (arith, f.refusal_bits, f.round_bits)

  leaves_back : x / 65536 % 16777216 ≡ l
  unfolding x
  leaves_back = omega (arith, f.refusal_bits, f.round_bits, f.leaf_bits)

  mended_back : x / 1099511627776 % 4096 ≡ c
  unfolding x
  mended_back = omega (arith, f.refusal_bits, f.round_bits, f.leaf_bits, f.mended_bits)

  place_back : x / 4503599627370496 ≡ p
  unfolding x
  place_back = omega (arith, f.refusal_bits, f.round_bits, f.leaf_bits, f.mended_bits)

-- "Each call returns 64 bits": unpacking gives back what was packed
pub unpacked : (v : Values) (p : ℕ) → AllFit v p → (values_in (pack_values v p) ≡ v) × (place_in (pack_values v p) ≡ p)
unpacked (values e k l c) p f = (rw (whole f, number_back f, rounds_back f, leaves_back f, mended_back f), rw (whole f) (place_back f))

-- ---- checks by their numbers

-- no check has the number n
abbrev without : ℕ → List Check → Bool
without n [] = true
without n (check k ok ∷ cs) = not (eqb k n) && without n cs

-- every check's number is below 256
abbrev small : List Check → Bool
small [] = true
small (check k ok ∷ cs) = ltb k 256 && small cs

without_refusal : (n : ℕ) (cs : List Check) → 0 < n → without n cs ≡ true → first_refusal cs ≢ n
unfolding first_refusal
without_refusal n [] h w e = omega arith
without_refusal n (check k true ∷ cs) h w e = without_refusal n cs h (both_true (not (eqb k n)) (without n cs) w).1 e
without_refusal n (check k false ∷ cs) h w e = eqb-false k n (not-true (eqb k n) (both_true (not (eqb k n)) (without n cs) w).0) e

small_refusal : (cs : List Check) → small cs ≡ true → first_refusal cs < 256
unfolding first_refusal
small_refusal [] w = omega arith
small_refusal (check k true ∷ cs) w = small_refusal cs (both_true (ltb k 256) (small cs) w).1
small_refusal (check k false ∷ cs) w = ltb-true k 256 (both_true (ltb k 256) (small cs) w).0

-- where the first refusal is n, checks of other numbers before it passed
before : (n : ℕ) (cs ds : List Check) → 0 < n → without n cs ≡ true → first_refusal (cs ++ ds) ≡ n → (first_refusal cs ≡ 0) × (first_refusal ds ≡ n)
unfolding first_refusal
before n [] ds h w e = (refl, e)
before n (check k true ∷ cs) ds h w e = before n cs ds h (both_true (not (eqb k n)) (without n cs) w).1 e
before n (check k false ∷ cs) ds h w e = absurd (eqb-false k n (not-true (eqb k n) (both_true (not (eqb k n)) (without n cs) w).0) e)

-- the place that an answer names is within an input whose length was tested before its bytes
named : (s : List ℕ) (cs ds : List Check) (k : ℕ) → without 8 cs ≡ true → (first_refusal cs ≡ 0 → k < 4096)
    → place_named s (first_refusal (cs ++ (check 5 (eqb (length s) k) ∷ ds))) < 4096
named s cs ds k w bound = go (eqb n 8) refl
  where
    n : ℕ
    n = first_refusal (cs ++ (check 5 (eqb (length s) k) ∷ ds))

    go : (t : Bool) → eqb n 8 ≡ t → place_named s n < 4096
    go false e = rw (other_place s n (eqb-false n 8 e)) (omega arith)
    go true e =
        let at : n ≡ 8 = eqb-true n 8 e in
        let b = before 8 cs (check 5 (eqb (length s) k) ∷ ds) (omega arith) w at in
        let five = passed 4 (eqb (length s) k) [] (before 8 (check 5 (eqb (length s) k) ∷ []) ds (omega arith) refl b.1).0 in
        rw (at, bad_place s) (omega (arith, lowest_within s, eqb-true (length s) k five.0, bound b.0))

-- ---- encoder and message reader

-- the code's checks passed
code_most : (m r : ℕ) → first_refusal (code_checks m r) ≡ 0 → m ≤ 10
code_most m r e = (code_passed m r [] e).0.most

module _ (m r : ℕ) (s : List ℕ) (room : ℕ) where
  pub encode_fits : AllFit (values (first_refusal (encode_checks m r s room)) 0 0 0) (place_named s (first_refusal (encode_checks m r s room)))
  encode_fits = record {
    refusal_bits = small_refusal (encode_checks m r s room) refl;
    round_bits = omega arith;
    leaf_bits = omega arith;
    mended_bits = omega arith;
    place_bits = named s (code_checks m r) _ (dimension m r) refl (λ e. omega (arith, dimension_most m r (code_most m r e)));
  }

  pub read_fits : AllFit (values (first_refusal (read_checks m r s room)) 0 0 0) (place_named s (first_refusal (read_checks m r s room)))
  read_fits = record {
    refusal_bits = small_refusal (read_checks m r s room) refl;
    round_bits = omega arith;
    leaf_bits = omega arith;
    mended_bits = omega arith;
    place_bits = named s (code_checks m r) _ (2 ^ m) refl (λ e. omega (arith, pow_mono (code_most m r e)));
  }

  -- "so 7 cannot occur there"
  pub encode_never_7 : first_refusal (encode_checks m r s room) ≢ 7
  encode_never_7 = without_refusal 7 (encode_checks m r s room) (omega arith) refl

  pub read_never_7 : first_refusal (read_checks m r s room) ≢ 7
  read_never_7 = without_refusal 7 (read_checks m r s room) (omega arith) refl

-- ---- decoding

distance_most : (m : ℕ) (w v : List ℕ) → distance m w v ≤ 2 ^ m
unfolding distance
distance_most m w v = omega (arith, sum_most (2 ^ m) 1 (differs w v) (λ i l. omega arith))

-- the rounds of a reading are at most its limit
rounds_of : Outcome → ℕ
rounds_of (accepted d k l) = k
rounds_of (refused e k l) = k

leaf_rounds : (r : ℕ) (o : Outcome) → Leaf r o → rounds_of o ≡ 0
unfolding rounds_of
leaf_rounds r (accepted d k l) h = h.0
leaf_rounds r (refused e k l) h = h.1.0

rounds_rounds : (j i : ℕ) (o : Outcome) → Rounds j i o → rounds_of o ≤ i
unfolding rounds_of
rounds_rounds j i (accepted d k l) h = h.1
rounds_rounds j i (refused e k l) h = ⊎_elim (λ a. omega arith) (λ b. b.1.1) h

reading_limit : (r m limit : ℕ) (w : List ℕ) → rounds_of (reading r m limit w) ≤ limit
reading_limit r m limit w =
    ⊎_elim
    (λ (l : r ≤ 1). omega (arith, leaf_rounds r (reading r m limit w) (reading_leaf r m limit w l)))
    (λ (l : 1 < r). rounds_rounds 0 limit (reading r m limit w) (reading_rounds r m limit w l))
    (le_or_lt r 1)

-- what a reading of noise leaves
read_fits_all : (m : ℕ) (w : List ℕ) (o : Outcome) → 2 ^ m ≤ 256 → rounds_of o ≤ 4 → leaves_of o ≤ 518160 → ByNoise o → AllFit (answer_of m w o) (place_named w (refusal_of o))
unfolding rounds_of
read_fits_all m w (accepted d k l) a b c h = record {
  refusal_bits = omega arith;
  round_bits = omega arith;
  leaf_bits = omega arith;
  mended_bits = omega (arith, distance_most m w d);
  place_bits = rw (other_place w 0 (λ e. omega arith)) (omega arith);
}
read_fits_all m w (refused e k l) a b c h = record {
  refusal_bits = omega arith;
  round_bits = omega arith;
  leaf_bits = omega arith;
  mended_bits = omega arith;
  place_bits = rw (other_place w e (λ z. omega arith)) (omega arith);
}

module _ (profile : ℕ) (word : List ℕ) (room : ℕ) where
  abbrev p : Profile
  p = profile_of profile

  abbrev checks : List Check
  checks = buffer_checks p.m word room 2048

  abbrev read : Outcome
  read = reading p.r p.m p.rounds word

  noise : ByNoise read
  noise = reading_noise p.r p.m p.rounds word

  pub decode_fits : AllFit (answer_of p.m word (own_call profile word room)) (place_named word (refusal_of (own_call profile word room)))
  unfolding decode_profile_call
  decode_fits =
      after_cases (profile_checks profile ++ checks) (limited p.leaves read) (λ (o : Outcome). AllFit (answer_of p.m word o) (place_named word (refusal_of o)))
      (λ e.
      let h = number_passed profile checks e in
      let small = profile_small profile h in
      rw (profile_limited profile h word)
      (read_fits_all p.m word read small.places
      (omega (arith, reading_limit p.r p.m p.rounds word, small.rounds))
      (omega (arith, profile_leaves profile h word, small.leaves)) noise))
      (λ some. record {
        refusal_bits = small_refusal (profile_checks profile ++ checks) refl;
        round_bits = omega arith;
        leaf_bits = omega arith;
        mended_bits = omega arith;
        place_bits = named word (profile_checks profile) _ (2 ^ p.m) refl (λ e. omega (arith, (profile_small profile (number_passed profile [] e)).places));
      })

  -- "so 7 cannot occur there"
  pub decode_never_7 : refusal_of (own_call profile word room) ≢ 7
  unfolding decode_profile_call
  decode_never_7 =
      after_cases (profile_checks profile ++ checks) (limited p.leaves read) (λ (o : Outcome). refusal_of o ≢ 7)
      (λ e. rw (profile_limited profile (number_passed profile checks e) word) (noise_not_7 read noise))
      (λ some e.
      let b = before 7 (profile_checks profile) checks (omega arith) refl e in
      enough (number_passed profile [] b.0) (before 7 (check 5 _ ∷ check 6 _ ∷ []) _ (omega arith) refl b.1).1)
    where
      noise_not_7 : (o : Outcome) → ByNoise o → refusal_of o ≢ 7
      noise_not_7 (accepted d k l) h e = omega arith
      noise_not_7 (refused n k l) h e = omega arith

      enough : profile ≤ 4 → first_refusal (check 7 (leb (8 * 2 ^ p.m) 2048) ∷ byte_checks word) ≢ 7
      enough h e =
          without_refusal 7 (byte_checks word) (omega arith) refl (passes 7 _ (byte_checks word) (le-leb (8 * 2 ^ p.m) 2048 (longest profile h)) refl ∙ e)

-- unpacking what gateway_decode returns gives the core's answer
pub decode_unpacked : (profile : ℕ) (word : List ℕ) (room : ℕ)
    → (values_in (own_answer profile word room) ≡ answer_of (profile_of profile).m word (own_call profile word room))
    × (place_in (own_answer profile word room) ≡ place_named word (refusal_of (own_call profile word room)))
decode_unpacked profile word room = unpacked _ _ (decode_fits profile word room)

module _ (m r : ℕ) (s : List ℕ) (room : ℕ) where
  pub encode_unpacked : let n = first_refusal (encode_checks m r s room) in (values_in (pack n 0 0 0 (place_named s n)) ≡ values n 0 0 0) × (place_in (pack n 0 0 0 (place_named s n)) ≡ place_named s n)
  encode_unpacked = unpacked _ _ (encode_fits m r s room)

  pub read_unpacked : let n = first_refusal (read_checks m r s room) in (values_in (pack n 0 0 0 (place_named s n)) ≡ values n 0 0 0) × (place_in (pack n 0 0 0 (place_named s n)) ≡ place_named s n)
  read_unpacked = unpacked _ _ (read_fits m r s room)
