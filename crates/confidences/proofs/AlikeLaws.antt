-- What two calls promise makes them alike; and calls by profile and by an entry of a table are calls under its limits. Assumes nothing.
use Rattle.std.specs.Prelude.{ℕ, ◌≤◌, ◌<◌, ◌≡◌, refl, Bool, true, false, List, ◌∷◌, ◌++◌, leb, ℤ, length}
use Rattle.std.proofs.Common.{sym, ap, subst, ◌∙◌, arith, le-leb}
use Rattle.std.proofs.lemmas.Bool.{lt-leb}
use Rattle.words.specs.Word.{add_words}
use Rattle.profiles.specs.declared.Profile.{Profile}
use Rattle.profiles.specs.Profiles.{profile_of}
use Rattle.tables.specs.declared.Table.{Table}
use Rattle.tables.specs.Tables.{entry_of, known, ours}
use Rattle.tables.specs.Limits.{ours_entry, ours-known}
use Rattle.refusals.specs.Refusals.{Decoded, check, code_checks, first_refusal}
use Rattle.refusals.proofs.CheckLaws.{fails, passes, then}
use Rattle.rule.specs.Decoding.{after, answer_of, limit_checks, limited, number_in, output_of, refusal_of}
use Rattle.rule.proofs.DecodingLaws.{after_same, number_is}
use Rattle.rule.specs.Demand3.{Agree, Sound}
use Rattle.rule.specs.Outcomes.{shift}
use Rattle.rule.proofs.ProfileLaws.{profile_passes}
use Rattle.rule.specs.Reading.{Outcome, accepted, refused}
use Rattle.confidences.specs.Alike.{AlikeValues, DifferValues, RightRoom, unmended}
use Rattle.confidences.specs.Answers.{DecodesValues, confidence_call, confidence_profile_call, confidence_table_call, value_checks, value_place}
use Rattle.confidences.proofs.CallLaws.{confidence_agree, confidence_like, confidence_place, confidence_sound, profile_agree, profile_like, profile_place, profile_sound, table_agree, table_like, table_place, table_sound}
use Rattle.confidences.specs.Confidences.{negated, reading, signs_of}
use Rattle.confidences.specs.Blocks.{Nonzero}

-- ---- two calls

unmended-shift : (m : ℕ) (w w' c : List ℕ) (o : Outcome) → unmended (answer_of m w' (shift c o)) ≡ unmended (answer_of m w o)
unmended-shift m w w' c (accepted d k l) = refl
unmended-shift m w w' c (refused e k l) = refl

output_shift : (m r : ℕ) (c : List ℕ) (o : Outcome) → Sound m r o → refusal_of o ≡ 0 → (out out' : List ℕ) → output_of (shift c o) out' ≡ add_words (output_of o out) c
output_shift m r c (accepted d k l) h e out out' = refl
output_shift m r c (refused n k l) h e out out' = absurd (omega arith)

module _ (m r rounds : ℕ) {x : List ℤ} {c : List ℕ} {o o' : Outcome} {out v out' v' : List ℕ} {area a area' a' : List ℤ} {d d' : Decoded}
    (one : DecodesValues m r rounds o x out v area a d) (two : DecodesValues m r rounds o' (negated x c) out' v' area' a' d')
    (sound : Sound m r o) (same : o' ≡ shift c o)
    (place : value_place m r rounds (negated x c) (refusal_of o') ≡ value_place m r rounds x (refusal_of o))
    (agrees : Nonzero m x → Agree m (signs_of m x) (signs_of m (negated x c)) c o o') where
  answers_alike : AlikeValues m x c v v' d d'
  answers_alike = record {
    answer =
        ap unmended two.answer ∙ ap (λ (y : Outcome). unmended (answer_of m (signs_of m (negated x c)) y)) same
        ∙ unmended-shift m (signs_of m x) (signs_of m (negated x c)) c o ∙ sym (ap unmended one.answer);
    place = two.place ∙ place ∙ sym one.place;
    output = λ z.
        two.output ∙ ap (λ (y : Outcome). output_of y out') same
        ∙ output_shift m r c o sound (sym (number_is m (signs_of m x) o) ∙ ap number_in (sym one.answer) ∙ z) out out'
        ∙ ap (λ (w : List ℕ). add_words w c) (sym one.output);
    mended = λ n. two.answer ∙ (agrees n).answer ∙ sym one.answer;
  }

module _ {x x' : List ℤ} {c out v out' v' : List ℕ} {area a area' a' : List ℤ} {d d' : Decoded} where
  -- under the same limits
  pub calls_alike : (m r rounds leaves : ℕ) → DifferValues m r x x' c
      → RightRoom m (length out) (length area) → RightRoom m (length out') (length area')
      → DecodesValues m r rounds (confidence_call m r rounds leaves x (length out) (length area)) x out v area a d
      → DecodesValues m r rounds (confidence_call m r rounds leaves x' (length out') (length area')) x' out' v' area' a' d'
      → AlikeValues m x c v v' d d'
  calls_alike m r rounds leaves differ h h' one two =
      let hx = differ.block in
      let hc = differ.codeword in
      answers_alike m r rounds one
      (subst (λ (y : List ℤ). DecodesValues m r rounds (confidence_call m r rounds leaves y (length out') (length area')) y out' v' area' a' d') differ.other two)
      (confidence_sound m r rounds leaves x (length out) (length area)) (confidence_like m r rounds leaves h h' hx hc)
      (confidence_place m r rounds leaves h h' hx hc) (confidence_agree m r rounds leaves h h' hx hc)

  -- of the same profile
  pub profiles_alike : (number : ℕ) → let f : Profile = profile_of number in DifferValues f.m f.r x x' c
      → RightRoom f.m (length out) (length area) → RightRoom f.m (length out') (length area')
      → DecodesValues f.m f.r f.rounds (confidence_profile_call number x (length out) (length area)) x out v area a d
      → DecodesValues f.m f.r f.rounds (confidence_profile_call number x' (length out') (length area')) x' out' v' area' a' d'
      → AlikeValues f.m x c v v' d d'
  profiles_alike number differ h h' one two =
      let f : Profile = profile_of number in
      let hx = differ.block in
      let hc = differ.codeword in
      answers_alike f.m f.r f.rounds one
      (subst (λ (y : List ℤ). DecodesValues f.m f.r f.rounds (confidence_profile_call number y (length out') (length area')) y out' v' area' a' d') differ.other two)
      (profile_sound number x (length out) (length area)) (profile_like number h h' hx hc) (profile_place number h h' hx hc) (profile_agree number h h' hx hc)

  -- of the same entry
  pub entries_alike : (t : Table) (number : ℕ) → let f : Profile = entry_of t number in DifferValues f.m f.r x x' c
      → RightRoom f.m (length out) (length area) → RightRoom f.m (length out') (length area')
      → DecodesValues f.m f.r f.rounds (confidence_table_call t number x (length out) (length area)) x out v area a d
      → DecodesValues f.m f.r f.rounds (confidence_table_call t number x' (length out') (length area')) x' out' v' area' a' d'
      → AlikeValues f.m x c v v' d d'
  entries_alike t number differ h h' one two =
      let f : Profile = entry_of t number in
      let hx = differ.block in
      let hc = differ.codeword in
      answers_alike f.m f.r f.rounds one
      (subst (λ (y : List ℤ). DecodesValues f.m f.r f.rounds (confidence_table_call t number y (length out') (length area')) y out' v' area' a' d') differ.other two)
      (table_sound t number x (length out) (length area)) (table_like t number h h' hx hc) (table_place t number h h' hx hc) (table_agree t number h h' hx hc)

-- ---- by profile and by an entry: 14 "is tested first and stands in for 1 to 4"

module _ (ok : Bool) (p : Profile) (x : List ℤ) (room area : ℕ) where
  abbrev by : Outcome
  by = after (check 14 ok ∷ value_checks p.m x room area) (limited p.leaves (reading p.r p.m p.rounds x))

  by_limits : ok ≡ true → 0 ≡ first_refusal (code_checks p.m p.r ++ limit_checks p.rounds p.leaves)
      → by ≡ confidence_call p.m p.r p.rounds p.leaves x room area
  unfolding confidence_call
  by_limits e pass =
      after_same (check 14 ok ∷ value_checks p.m x room area)
      (code_checks p.m p.r ++ limit_checks p.rounds p.leaves ++ value_checks p.m x room area) _
      (sym (passes 14 ok (value_checks p.m x room area) e refl)
      ∙ then (code_checks p.m p.r ++ limit_checks p.rounds p.leaves) (value_checks p.m x room area) tt pass refl)

  by_none : ok ≡ false → by ≡ refused 14 0 0
  unfolding after
  by_none e = rw (← (fails 14 ok (value_checks p.m x room area) e))

module _ (number : ℕ) (x : List ℤ) (room area : ℕ) where
  abbrev f : Profile
  f = profile_of number

  pub profile_limits : number ≤ 4 → confidence_profile_call number x room area ≡ confidence_call f.m f.r f.rounds f.leaves x room area
  unfolding confidence_profile_call
  profile_limits h = by_limits (leb number 4) f x room area (le-leb number 4 h) (sym (profile_passes number h))

  pub profile_none : 4 < number → confidence_profile_call number x room area ≡ refused 14 0 0
  unfolding confidence_profile_call
  profile_none h = by_none (leb number 4) f x room area (lt-leb number 4 h)

  -- document 01's table has document 01's profiles
  pub ours_call : confidence_table_call ours number x room area ≡ confidence_profile_call number x room area
  unfolding confidence_table_call confidence_profile_call
  ours_call = rw (ours-known number, ours_entry number)

module _ (t : Table) (number : ℕ) (x : List ℤ) (room area : ℕ) where
  abbrev entry : Profile
  entry = entry_of t number

  -- an entry's code and limits pass the checks (`entry-passes` of the decoder by tables)
  pub table_limits : known t number ≡ true → 0 ≡ first_refusal (code_checks entry.m entry.r ++ limit_checks entry.rounds entry.leaves)
      → confidence_table_call t number x room area ≡ confidence_call entry.m entry.r entry.rounds entry.leaves x room area
  unfolding confidence_table_call
  table_limits = by_limits (known t number) entry x room area

  pub table_none : known t number ≡ false → confidence_table_call t number x room area ≡ refused 14 0 0
  unfolding confidence_table_call
  table_none = by_none (known t number) entry x room area
