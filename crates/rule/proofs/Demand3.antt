-- Demand 3: two words that differ by a codeword are answered alike. And an accepted word is a codeword. Assumes nothing.
use Rattle.std.specs.Prelude.{ℕ, ◌≡◌, List, [], ◌++◌}
use Rattle.std.proofs.Common.{sym, ap, subst, ◌∙◌, arith}
use Rattle.code.specs.Code.{IsCodeword}
use Rattle.rule.specs.Decoding.{answer_of, output_of, values, after, buffer_checks, decode_call, decode_of, decode_profile_call, decode_profile_of, limit_checks, limited, profile_checks}
use Rattle.rule.specs.Counts.{ByNoise}
use Rattle.rule.proofs.Counts.{reading_noise}
use Rattle.rule.proofs.Covariance.{reading_add, reading_in}
use Rattle.rule.specs.RightSizes.{RightSizes}
use Rattle.rule.proofs.DecodingLaws.{after_cases, after-shift, buffers_passed, call_is, limited_cases, limited-shift, profile_call_is}
use Rattle.rule.specs.Outcomes.{shift, CodewordIn}
use Rattle.rule.proofs.ProfileLaws.{number_passed, profile_code}
use Rattle.rule.specs.Reading.{Outcome, accepted, reading, refused}
use Rattle.profiles.specs.Profiles.{profile_of}
use Rattle.refusals.specs.IsCode.{IsCode}
use Rattle.refusals.proofs.CheckLaws.{code_passed, rest_passed}
use Rattle.refusals.specs.Refusals.{Check, code_checks, first_refusal}
use Rattle.words.specs.Word.{IsWord, add_words}
use Rattle.words.proofs.WordLaws.{add_cancel, word_add, distance_add}
use Rattle.profiles.specs.declared.Profile.{Profile}
use Rattle.rule.specs.Demand3.{Sound, Agree}

-- by the word's own sum with c
pub agree : (m r : ℕ) (w c : List ℕ) (x y : Outcome) → IsWord m w → IsWord m c → Sound m r x → y ≡ shift c x → Agree m w (add_words w c) c x y
agree m r w c (accepted d k l) y hw hc h e = record {
  answer = ap (answer_of m (add_words w c)) e ∙ ap (values 0 k l) (distance_add hw h.word hc);
  output = λ z out out'. ap (λ (o : Outcome). output_of o out') e;
}
agree m r w c (refused n k l) y hw hc h e = record { answer = ap (answer_of m (add_words w c)) e; output = λ z out out'. absurd (omega arith) }

-- ---- a reading under a leaf limit, after checks that make sure of the code

abbrev answered : List Check → ℕ → ℕ → ℕ → ℕ → List ℕ → Outcome
answered cs m r rounds leaves w = after cs (limited leaves (reading r m rounds w))

pub sound : (m r : ℕ) (o : Outcome) → CodewordIn m r o → ByNoise o → Sound m r o
sound m r (accepted d k l) h n = h
sound m r (refused e k l) h n = omega arith

module _ (cs : List Check) (m r rounds leaves : ℕ) (code : first_refusal cs ≡ 0 → IsCode m r) where
  answered_sound : (w : List ℕ) → (first_refusal cs ≡ 0 → IsWord m w) → Sound m r (answered cs m r rounds leaves w)
  answered_sound w hw =
      after_cases cs (limited leaves (reading r m rounds w)) (Sound m r)
      (λ e. limited_cases leaves (reading r m rounds w) (Sound m r) (λ h. omega arith)
      (λ h. sound m r (reading r m rounds w) (reading_in r m rounds w (code e).order (hw e)) (reading_noise r m rounds w)))
      (λ e. e)

  answered_add : (w c : List ℕ) → IsWord m w → IsCodeword m r c → answered cs m r rounds leaves (add_words w c) ≡ shift c (answered cs m r rounds leaves w)
  answered_add w c hw hc =
      after-shift cs c (limited leaves (reading r m rounds w)) (limited leaves (reading r m rounds (add_words w c)))
      (λ e. ap (limited leaves) (reading_add r m rounds (code e).order (code e).most w c hw hc) ∙ limited-shift leaves (reading r m rounds w) c)

  answered_alike : (w w' : List ℕ) → IsWord m w → IsWord m w' → IsCodeword m r (add_words w w')
      → Agree m w w' (add_words w w') (answered cs m r rounds leaves w) (answered cs m r rounds leaves w')
  answered_alike w w' hw hw' hc =
      subst (λ (v : List ℕ). Agree m w v (add_words w w') (answered cs m r rounds leaves w) (answered cs m r rounds leaves v)) (sym (add_cancel hw hw'))
      (agree m r w (add_words w w') (answered cs m r rounds leaves w) (answered cs m r rounds leaves (add_words w (add_words w w'))) hw (word_add hw hw')
      (answered_sound w (λ e. hw)) (answered_add w (add_words w w') hw hc))

-- ---- limits given

module _ (m r rounds leaves : ℕ) where
  abbrev checks : List Check
  checks = code_checks m r ++ limit_checks rounds leaves

  code_of : (cs : List Check) → first_refusal (code_checks m r ++ cs) ≡ 0 → IsCode m r
  code_of cs e = (code_passed m r cs e).0

  pub decode_sound : (w : List ℕ) → IsWord m w → Sound m r (decode_of m r rounds leaves w)
  unfolding decode_of
  decode_sound w hw = answered_sound checks m r rounds leaves (code_of (limit_checks rounds leaves)) w (λ e. hw)

  -- of any call
  pub call_sound : (w : List ℕ) (room area : ℕ) → Sound m r (decode_call m r rounds leaves w room area)
  unfolding decode_call
  call_sound w room area =
      answered_sound (checks ++ buffer_checks m w room area) m r rounds leaves (code_of (limit_checks rounds leaves ++ buffer_checks m w room area)) w
      (λ e. buffers_passed m w room area (rest_passed checks (buffer_checks m w room area) tt e))

  module _ (w w' : List ℕ) (hc : IsCodeword m r (add_words w w')) where
    pub demand_3 : IsWord m w → IsWord m w' → Agree m w w' (add_words w w') (decode_of m r rounds leaves w) (decode_of m r rounds leaves w')
    unfolding decode_of
    demand_3 hw hw' = answered_alike checks m r rounds leaves (code_of (limit_checks rounds leaves)) w w' hw hw' hc

    -- two calls, in buffers of the right sizes
    pub demand_3_call : (room area room' area' : ℕ) → RightSizes m w room area → RightSizes m w' room' area'
        → Agree m w w' (add_words w w') (decode_call m r rounds leaves w room area) (decode_call m r rounds leaves w' room' area')
    demand_3_call room area room' area' h h' = rw (call_is h r rounds leaves, call_is h' r rounds leaves) (demand_3 h.input h'.input)

-- ---- limits taken from a profile

module _ (number : ℕ) where
  abbrev p : Profile
  p = profile_of number

  code_by : (cs : List Check) → first_refusal (profile_checks number ++ cs) ≡ 0 → IsCode p.m p.r
  code_by cs e = profile_code number (number_passed number cs e)

  pub profile_sound : (w : List ℕ) → IsWord p.m w → Sound p.m p.r (decode_profile_of number w)
  unfolding decode_profile_of
  profile_sound w hw = answered_sound (profile_checks number) p.m p.r p.rounds p.leaves (code_by []) w (λ e. hw)

  pub profile_call_sound : (w : List ℕ) (room area : ℕ) → Sound p.m p.r (decode_profile_call number w room area)
  unfolding decode_profile_call
  profile_call_sound w room area =
      answered_sound (profile_checks number ++ buffer_checks p.m w room area) p.m p.r p.rounds p.leaves (code_by (buffer_checks p.m w room area)) w
      (λ e. buffers_passed p.m w room area (rest_passed (profile_checks number) (buffer_checks p.m w room area) tt e))

  module _ (w w' : List ℕ) (hc : IsCodeword p.m p.r (add_words w w')) where
    pub demand_3_profile : IsWord p.m w → IsWord p.m w' → Agree p.m w w' (add_words w w') (decode_profile_of number w) (decode_profile_of number w')
    unfolding decode_profile_of
    demand_3_profile hw hw' = answered_alike (profile_checks number) p.m p.r p.rounds p.leaves (code_by []) w w' hw hw' hc

    pub demand_3_profile_call : (room area room' area' : ℕ) → RightSizes p.m w room area → RightSizes p.m w' room' area'
        → Agree p.m w w' (add_words w w') (decode_profile_call number w room area) (decode_profile_call number w' room' area')
    demand_3_profile_call room area room' area' h h' = rw (profile_call_is number h, profile_call_is number h') (demand_3_profile h.input h'.input)
