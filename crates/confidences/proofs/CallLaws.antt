-- Calls for confidences: an accepted word is a codeword, values that differ by a codeword are answered alike, no profile meets 12. Assumes nothing.
use Rattle.std.specs.Prelude.{ℕ, ◌*◌, ◌^◌, ◌≤◌, ◌<◌, ◌≡◌, refl, true, false, cond, List, [], ◌∷◌, ◌++◌, eqb, leb, ℤ, length}
use Rattle.std.proofs.Common.{sym, ap, ap₂, subst, ◌∙◌, arith, eq-eqb, le-leb, ne_eqb}
use Rattle.std.proofs.lemmas.Bool.{false≢true}
use Rattle.std.proofs.Math.Decide.{dec_le, ℕ_discrete}
use Rattle.code.specs.Code.{IsCodeword}
use Rattle.profiles.specs.Profiles.{profile_of}
use Rattle.profiles.specs.declared.Profile.{Profile}
use Rattle.tables.specs.declared.Table.{Table}
use Rattle.tables.specs.Tables.{entry_of, known}
use Rattle.tables.specs.Limits.{is_known}
use Rattle.refusals.specs.IsCode.{IsCode}
use Rattle.refusals.proofs.CheckLaws.{all_kept, code_passed, first_kept, passed, passes, rest_same}
use Rattle.refusals.specs.Refusals.{Check, area_kept, check, code_checks, first_refusal}
use Rattle.rule.specs.Counts.{Leaf, Not12}
use Rattle.rule.specs.Decoding.{after, limit_checks, limited, profile_checks, refusal_of}
use Rattle.rule.proofs.DecodingLaws.{after_cases, after_same, after-shift, limited_above, limited_cases, limited-shift, limited_within}
use Rattle.rule.specs.Demand3.{Agree, Sound}
use Rattle.rule.proofs.Demand3.{agree}
use Rattle.rule.specs.Outcomes.{shift, CodewordIn}
use Rattle.rule.proofs.ProfileLaws.{number_passed, profile_code, profile_most}
use Rattle.rule.specs.Reading.{Outcome, accepted, leaves_of, refused}
use Rattle.confidences.specs.Alike.{RightRoom}
use Rattle.confidences.specs.Answers.{confidence_call, confidence_profile_call, confidence_table_call, lowest_outside, value_checks, value_place}
use Rattle.confidences.specs.Confidences.{negated, reading, signs_of, zero_place}
use Rattle.confidences.specs.Counts.{ByNoise, full_leaves}
use Rattle.confidences.proofs.Counts.{noise_by, reading_erased, reading_leaf, reading_leaves, reading_most, reading_noise}
use Rattle.confidences.proofs.Likeness.{negated_block, outside_like, reading_in, reading_like, signs_like, zero_place_like}
use Rattle.confidences.specs.Blocks.{IsBlock, Nonzero}
use Rattle.confidences.proofs.Rounds.{signs_word}

-- ---- numbers

refusal_shift : (c : List ℕ) (o : Outcome) → refusal_of (shift c o) ≡ refusal_of o
refusal_shift c (accepted d k l) = refl
refusal_shift c (refused e k l) = refl

sound : (m r : ℕ) (o : Outcome) → CodewordIn m r o → ByNoise o → Sound m r o
sound m r (accepted d k l) h n = h
sound m r (refused e k l) h n = noise_by (λ (j : ℕ). 0 < j) (omega arith) (omega arith) (omega arith) e k l n

leaf_not_17 : (r : ℕ) (o : Outcome) → Leaf r o → refusal_of o ≡ 17 → ⊥
leaf_not_17 r (accepted d k l) h e = omega arith
leaf_not_17 r (refused n k l) h e = omega (arith, h.0)

noise_not_12 : (o : Outcome) → ByNoise o → Not12 o
noise_not_12 (accepted d k l) h e = omega arith
noise_not_12 (refused n k l) h e = noise_by (λ (j : ℕ). j ≡ 12 → ⊥) (λ z. omega arith) (λ z. omega arith) (λ z. omega arith) n k l h e

-- checks that leave the area as it is have no other number
kept_not : (cs : List Check) → all_kept cs ≡ true → (n : ℕ) → area_kept n ≡ false → 0 < first_refusal cs → first_refusal cs ≡ n → ⊥
kept_not cs h n k l e = false≢true (sym k ∙ ap area_kept (sym e) ∙ first_kept cs h l)

-- ---- the checks of the buffers

-- in buffers of the right sizes only 18 is left
pub sized : {m : ℕ} {x : List ℤ} → IsBlock m x → {room area : ℕ} → RightRoom m room area
    → first_refusal (check 18 (leb (length x) (lowest_outside x)) ∷ []) ≡ first_refusal (value_checks m x room area)
sized {m} {x} hx {room} {area} h =
    passes 5 _ _ (eq-eqb (length x) (2 ^ m) hx.size)
    (passes 6 _ _ (eq-eqb room (2 ^ m) h.output)
    (passes 7 _ _ (le-leb (8 * 2 ^ m) area h.lent) refl))

-- the checks of both calls refuse alike
checks_like : {m : ℕ} {x : List ℤ} (c : List ℕ) → IsBlock m x → {room area room' area' : ℕ} → RightRoom m room area → RightRoom m room' area'
    → first_refusal (value_checks m (negated x c) room' area') ≡ first_refusal (value_checks m x room area)
checks_like {m} {x} c hx h h' =
    sym (sized (negated_block hx c) h')
    ∙ ap₂ (λ (n p : ℕ). first_refusal (check 18 (leb n p) ∷ [])) ((negated_block hx c).size ∙ sym hx.size) (outside_like hx c)
    ∙ sized hx h

-- the place that both name, where 17's is the same
place_same : {m : ℕ} {x : List ℤ} (c : List ℕ) → IsBlock m x → (r rounds n : ℕ) → (n ≡ 17 → zero_place r m rounds (negated x c) ≡ zero_place r m rounds x)
    → value_place m r rounds (negated x c) n ≡ value_place m r rounds x n
unfolding value_place
place_same {m} {x} c hx r rounds n same = elim (ℕ_discrete n 17) [
  | yes e ↦ rw (eq-eqb n 17 e) (same e)
  | no k ↦ rw (ne_eqb n 17 k) (ap (λ (p : ℕ). cond (eqb n 18) p 0) (outside_like hx c))
]

-- ---- any call: checks cs of the code and the limits, those of the buffers, and a reading under a leaf limit

module _ (cs : List Check) (m r rounds leaves : ℕ)
    (kept : (x : List ℤ) (room area : ℕ) → all_kept (cs ++ value_checks m x room area) ≡ true)
    (code : (ds : List Check) → first_refusal (cs ++ ds) ≡ 0 → IsCode m r) where
  abbrev checks : List ℤ → ℕ → ℕ → List Check
  checks x room area = cs ++ value_checks m x room area

  abbrev call : List ℤ → ℕ → ℕ → Outcome
  call x room area = after (checks x room area) (limited leaves (reading r m rounds x))

  call_sound : (x : List ℤ) (room area : ℕ) → Sound m r (call x room area)
  call_sound x room area =
      after_cases (checks x room area) (limited leaves (reading r m rounds x)) (Sound m r)
      (λ e. limited_cases leaves (reading r m rounds x) (Sound m r) (λ h. omega arith)
      (λ h. sound m r (reading r m rounds x) (reading_in r m rounds x) (reading_noise r m rounds x)))
      (λ e. e)

  -- 17 comes from a reading at order 2 or above
  reading_17 : (x : List ℤ) → refusal_of (reading r m rounds x) ≡ 17 → 2 ≤ r
  reading_17 x z = elim (dec_le r 1) [
    | yes l ↦ absurd (leaf_not_17 r (reading r m rounds x) (reading_leaf r m rounds x l) z)
    | no k ↦ omega arith
  ]

  call_17 : (x : List ℤ) (room area : ℕ) → refusal_of (call x room area) ≡ 17 → IsCode m r × (2 ≤ r)
  call_17 x room area =
      after_cases (checks x room area) (limited leaves (reading r m rounds x)) (λ (o : Outcome). refusal_of o ≡ 17 → IsCode m r × (2 ≤ r))
      (λ e. limited_cases leaves (reading r m rounds x) (λ (o : Outcome). refusal_of o ≡ 17 → IsCode m r × (2 ≤ r)) (λ h z. absurd (omega arith))
      (λ h z. (code (value_checks m x room area) e, reading_17 x z)))
      (λ e z. absurd (kept_not (checks x room area) (kept x room area) 17 refl e z))

  call_erased : (x : List ℤ) (room area : ℕ) → refusal_of (call x room area) ≡ 17 → call x room area ≡ refused 17 rounds (full_leaves r m rounds)
  call_erased x room area =
      after_cases (checks x room area) (limited leaves (reading r m rounds x)) (λ (o : Outcome). refusal_of o ≡ 17 → o ≡ refused 17 rounds (full_leaves r m rounds))
      (λ e. limited_cases leaves (reading r m rounds x) (λ (o : Outcome). refusal_of o ≡ 17 → o ≡ refused 17 rounds (full_leaves r m rounds)) (λ h z. absurd (omega arith))
      (λ h z. reading_erased r m rounds x (reading_17 x z) (code (value_checks m x room area) e).order z))
      (λ e z. absurd (kept_not (checks x room area) (kept x room area) 17 refl e z))

  call_not_12 : (x : List ℤ) (room area : ℕ) → (first_refusal (checks x room area) ≡ 0 → leaves_of (reading r m rounds x) ≤ leaves) → Not12 (call x room area)
  call_not_12 x room area few =
      after_cases (checks x room area) (limited leaves (reading r m rounds x)) Not12
      (λ e. rw (limited_within leaves (reading r m rounds x) (few e)) (noise_not_12 (reading r m rounds x) (reading_noise r m rounds x)))
      (λ e z. kept_not (checks x room area) (kept x room area) 12 refl e z)

  module _ {x : List ℤ} {c : List ℕ} {room area room' area' : ℕ}
      (h : RightRoom m room area) (h' : RightRoom m room' area') (hx : IsBlock m x) (hc : IsCodeword m r c) where
    -- the same refusal, or words that differ by c; equal rounds and leaf counts
    call_like : call (negated x c) room' area' ≡ shift c (call x room area)
    call_like =
        after_same (checks (negated x c) room' area') (checks x room area) (limited leaves (reading r m rounds (negated x c)))
        (rest_same cs (value_checks m (negated x c) room' area') (value_checks m x room area) (checks_like c hx h h'))
        ∙ after-shift (checks x room area) c (limited leaves (reading r m rounds x)) (limited leaves (reading r m rounds (negated x c)))
        (λ e. let k = code (value_checks m x room area) e in
        ap (limited leaves) (reading_like r m rounds k.order k.most x c hx hc) ∙ limited-shift leaves (reading r m rounds x) c)

    -- the same place
    call_place : value_place m r rounds (negated x c) (refusal_of (call (negated x c) room' area')) ≡ value_place m r rounds x (refusal_of (call x room area))
    call_place =
        ap (value_place m r rounds (negated x c)) (ap refusal_of call_like ∙ refusal_shift c (call x room area))
        ∙ place_same c hx r rounds (refusal_of (call x room area))
        (λ e. let k = call_17 x room area e in zero_place_like r m rounds k.0.order k.0.most k.1 x c hx hc)

    -- document 02, request 3: "For confidences that holds where none is 0."
    call_agree : Nonzero m x → Agree m (signs_of m x) (signs_of m (negated x c)) c (call x room area) (call (negated x c) room' area')
    call_agree some =
        subst (λ (w : List ℕ). Agree m (signs_of m x) w c (call x room area) (call (negated x c) room' area')) (sym (signs_like m x c hx hc.word some))
        (agree m r (signs_of m x) c (call x room area) (call (negated x c) room' area') (signs_word m x) hc.word (call_sound x room area) call_like)

-- ---- limits given

module _ (m r rounds leaves : ℕ) where
  abbrev limits : List Check
  limits = code_checks m r ++ limit_checks rounds leaves

  code_of : (ds : List Check) → first_refusal (limits ++ ds) ≡ 0 → IsCode m r
  code_of ds e = (code_passed m r (limit_checks rounds leaves ++ ds) e).0

  -- an accepted word is a codeword
  pub confidence_sound : (x : List ℤ) (room area : ℕ) → Sound m r (confidence_call m r rounds leaves x room area)
  unfolding confidence_call
  confidence_sound = call_sound limits m r rounds leaves (λ x room area. refl) code_of

  -- "17, .. with the round limit and the full leaf count"
  pub confidence_erased : (x : List ℤ) (room area : ℕ) → refusal_of (confidence_call m r rounds leaves x room area) ≡ 17
      → confidence_call m r rounds leaves x room area ≡ refused 17 rounds (full_leaves r m rounds)
  unfolding confidence_call
  confidence_erased = call_erased limits m r rounds leaves (λ x room area. refl) code_of

  -- whether a call is refused 12 depends on the code and its limits alone
  pub confidence_not_12 : (x : List ℤ) (room area : ℕ) → full_leaves r m rounds ≤ leaves → Not12 (confidence_call m r rounds leaves x room area)
  unfolding confidence_call
  confidence_not_12 x room area h =
      call_not_12 limits m r rounds leaves (λ x room area. refl) code_of x room area
      (λ e. omega (arith, reading_leaves r m rounds x (code_of (value_checks m x room area) e).order))

  pub confidence_12 : (x : List ℤ) (room area : ℕ) → first_refusal (limits ++ value_checks m x room area) ≡ 0 → leaves < full_leaves r m rounds
      → confidence_call m r rounds leaves x room area ≡ refused 12 0 leaves
  unfolding confidence_call after
  confidence_12 x room area e h =
      rw e (limited_above leaves (reading r m rounds x) (omega (arith, reading_leaves r m rounds x (code_of (value_checks m x room area) e).order)))

  module _ {x : List ℤ} {c : List ℕ} {room area room' area' : ℕ}
      (h : RightRoom m room area) (h' : RightRoom m room' area') (hx : IsBlock m x) (hc : IsCodeword m r c) where
    pub confidence_like : confidence_call m r rounds leaves (negated x c) room' area' ≡ shift c (confidence_call m r rounds leaves x room area)
    unfolding confidence_call
    confidence_like = call_like limits m r rounds leaves (λ x room area. refl) code_of h h' hx hc

    pub confidence_place : value_place m r rounds (negated x c) (refusal_of (confidence_call m r rounds leaves (negated x c) room' area'))
        ≡ value_place m r rounds x (refusal_of (confidence_call m r rounds leaves x room area))
    unfolding confidence_call
    confidence_place = call_place limits m r rounds leaves (λ x room area. refl) code_of h h' hx hc

    pub confidence_agree : Nonzero m x
        → Agree m (signs_of m x) (signs_of m (negated x c)) c (confidence_call m r rounds leaves x room area) (confidence_call m r rounds leaves (negated x c) room' area')
    unfolding confidence_call
    confidence_agree = call_agree limits m r rounds leaves (λ x room area. refl) code_of h h' hx hc

-- ---- limits taken from a profile

module _ (number : ℕ) where
  abbrev f : Profile
  f = profile_of number

  profile_by : (ds : List Check) → first_refusal (profile_checks number ++ ds) ≡ 0 → IsCode f.m f.r
  profile_by ds e = profile_code number (number_passed number ds e)

  pub profile_sound : (x : List ℤ) (room area : ℕ) → Sound f.m f.r (confidence_profile_call number x room area)
  unfolding confidence_profile_call
  profile_sound = call_sound (profile_checks number) f.m f.r f.rounds f.leaves (λ x room area. refl) profile_by

  -- the leaf count of a profile's readings is its leaf limit
  pub profile_leaves : number ≤ 4 → (x : List ℤ) → leaves_of (reading f.r f.m f.rounds x) ≡ f.leaves
  profile_leaves h x = reading_most f.r f.m f.rounds x ∙ profile_most number h

  -- "No profile can meet 12."
  pub profile_not_12 : (x : List ℤ) (room area : ℕ) → Not12 (confidence_profile_call number x room area)
  unfolding confidence_profile_call
  profile_not_12 x room area =
      call_not_12 (profile_checks number) f.m f.r f.rounds f.leaves (λ x room area. refl) profile_by x room area
      (λ e. omega (arith, profile_leaves (number_passed number (value_checks f.m x room area) e) x))

  module _ {x : List ℤ} {c : List ℕ} {room area room' area' : ℕ}
      (h : RightRoom f.m room area) (h' : RightRoom f.m room' area') (hx : IsBlock f.m x) (hc : IsCodeword f.m f.r c) where
    pub profile_like : confidence_profile_call number (negated x c) room' area' ≡ shift c (confidence_profile_call number x room area)
    unfolding confidence_profile_call
    profile_like = call_like (profile_checks number) f.m f.r f.rounds f.leaves (λ x room area. refl) profile_by h h' hx hc

    pub profile_place : value_place f.m f.r f.rounds (negated x c) (refusal_of (confidence_profile_call number (negated x c) room' area'))
        ≡ value_place f.m f.r f.rounds x (refusal_of (confidence_profile_call number x room area))
    unfolding confidence_profile_call
    profile_place = call_place (profile_checks number) f.m f.r f.rounds f.leaves (λ x room area. refl) profile_by h h' hx hc

    pub profile_agree : Nonzero f.m x
        → Agree f.m (signs_of f.m x) (signs_of f.m (negated x c)) c (confidence_profile_call number x room area) (confidence_profile_call number (negated x c) room' area')
    unfolding confidence_profile_call
    profile_agree = call_agree (profile_checks number) f.m f.r f.rounds f.leaves (λ x room area. refl) profile_by h h' hx hc

-- ---- limits taken from an entry of a table

module _ (t : Table) (number : ℕ) where
  abbrev entry : Profile
  entry = entry_of t number

  abbrev only : List Check
  only = check 14 (known t number) ∷ []

  entry_by : (ds : List Check) → first_refusal (only ++ ds) ≡ 0 → IsCode entry.m entry.r
  entry_by ds e =
      let l = (is_known t number (passed 13 _ ds e).0).limits in
      record { some = omega (arith, l.some); most = l.small; order = l.order }

  pub table_sound : (x : List ℤ) (room area : ℕ) → Sound entry.m entry.r (confidence_table_call t number x room area)
  unfolding confidence_table_call
  table_sound = call_sound only entry.m entry.r entry.rounds entry.leaves (λ x room area. refl) entry_by

  -- "Blocks are likened only under the same table entry."
  module _ {x : List ℤ} {c : List ℕ} {room area room' area' : ℕ}
      (h : RightRoom entry.m room area) (h' : RightRoom entry.m room' area') (hx : IsBlock entry.m x) (hc : IsCodeword entry.m entry.r c) where
    pub table_like : confidence_table_call t number (negated x c) room' area' ≡ shift c (confidence_table_call t number x room area)
    unfolding confidence_table_call
    table_like = call_like only entry.m entry.r entry.rounds entry.leaves (λ x room area. refl) entry_by h h' hx hc

    pub table_place : value_place entry.m entry.r entry.rounds (negated x c) (refusal_of (confidence_table_call t number (negated x c) room' area'))
        ≡ value_place entry.m entry.r entry.rounds x (refusal_of (confidence_table_call t number x room area))
    unfolding confidence_table_call
    table_place = call_place only entry.m entry.r entry.rounds entry.leaves (λ x room area. refl) entry_by h h' hx hc

    pub table_agree : Nonzero entry.m x
        → Agree entry.m (signs_of entry.m x) (signs_of entry.m (negated x c)) c (confidence_table_call t number x room area) (confidence_table_call t number (negated x c) room' area')
    unfolding confidence_table_call
    table_agree = call_agree only entry.m entry.r entry.rounds entry.leaves (λ x room area. refl) entry_by h h' hx hc
