-- A call by an entry of a table is the call under its limits; document 01's table gives the calls by profile; and demand 3. Assumes nothing.
use Rattle.std.specs.Prelude.{ℕ, ◌≡◌, refl, Bool, true, false, cond, List, ◌++◌, leb, length, ℤ, Err}
use Rattle.std.proofs.Common.{sym, ap, ◌∙◌, arith, le-leb, ne_eqb}
use Rattle.std.proofs.lemmas.Bool.{lt-leb}
use Rattle.words.specs.Word.{add_words}
use Rattle.code.specs.Code.{IsCodeword}
use Rattle.refusals.proofs.CheckLaws.{no_more, other_place, passes, fails, then}
use Rattle.refusals.specs.Refusals.{code_checks, first_refusal, Decoded}
use Rattle.refusals.specs.declared.Refusal.TheVariants as refusal
use Rattle.profiles.specs.declared.Profile.{Profile}
use Rattle.tables.specs.declared.Table.{Table}
use Rattle.tables.specs.Tables.{Slot, entry_of, held, is_there, known, none, ours, slot_of, some}
use Rattle.tables.specs.Limits.{InLimits, is_known, ours-known, ours_entry}
use Rattle.tables.specs.Slots.{slot_known}
use Rattle.rule.specs.Reading.{Outcome, accepted, reading, refused}
use Rattle.rule.specs.Counts.{ByNoise}
use Rattle.rule.proofs.Counts.{reading_noise}
use Rattle.rule.specs.Decoding.{after, area_of, buffer_checks, decode_call, decode_of, decode_profile_call, limit_checks, zeros}
use Rattle.rule.specs.RightSizes.{RightSizes}
use Rattle.rule.proofs.DecodingLaws.{after_same, limited_cases}
use Rattle.rule.specs.Calls.{Decodes}
use Rattle.rule.specs.Demand3.{Agree}
use Rattle.rule.proofs.Demand3.{demand_3_call}
use Rattle.table_decoder.specs.Table.{table_checks, decode_table_call}

-- the code and the limits of an entry pass the checks
pub entry_passes : {p : Profile} → InLimits p → 0 ≡ first_refusal (code_checks p.m p.r ++ limit_checks p.rounds p.leaves)
entry_passes {p} l =
    passes 1 (leb 1 p.m) _ (le-leb 1 p.m (omega (arith, l.some)))
    (passes 1 (leb p.m 10) _ (le-leb p.m 10 l.small)
    (passes 2 (leb p.r p.m) _ (le-leb p.r p.m l.order)
    (passes 3 (leb 1 p.rounds) _ (le-leb 1 p.rounds l.round)
    (passes 3 (leb p.rounds 16) _ (le-leb p.rounds 16 l.rounds)
    (passes 4 (leb 1 p.leaves) _ (le-leb 1 p.leaves l.leaf)
    (passes 4 (leb p.leaves 1000000) _ (le-leb p.leaves 1000000 l.leaves) no_more))))))

-- so that a block of it is read, and the area is zero after it
noise_area : (o : Outcome) (area : List ℤ) → ByNoise o → area_of o area ≡ zeros area
noise_area (accepted d k l) area h = refl
noise_area (refused e k l) area h = rw (lt-leb e 8 (omega arith), ne_eqb e 14 (λ z. omega arith), ne_eqb e 18 (λ z. omega arith), ne_eqb e 27 (λ z. omega arith))

pub entry_area : {p : Profile} → InLimits p → (word : List ℕ) (area : List ℤ) → area_of (decode_of p.m p.r p.rounds p.leaves word) area ≡ zeros area
unfolding decode_of after
entry_area {p} l word area =
    rw (← (entry_passes l))
    (limited_cases p.leaves (reading p.r p.m p.rounds word) (λ o. area_of o area ≡ zeros area) (λ k. refl)
    (λ k. noise_area (reading p.r p.m p.rounds word) area (reading_noise p.r p.m p.rounds word)))

module _ (t : Table) (number : ℕ) where
  abbrev p : Profile
  p = entry_of t number

  module _ (word : List ℕ) (room area : ℕ) where
    -- 14 stands in for 1 to 4
    pub known_call : known t number ≡ true → decode_table_call t number word room area ≡ decode_call p.m p.r p.rounds p.leaves word room area
    unfolding decode_table_call decode_call
    known_call e =
        after_same (table_checks t number ++ buffer_checks p.m word room area)
        (code_checks p.m p.r ++ limit_checks p.rounds p.leaves ++ buffer_checks p.m word room area) _
        (sym (passes 14 (known t number) (buffer_checks p.m word room area) e refl)
        ∙ then (code_checks p.m p.r ++ limit_checks p.rounds p.leaves) (buffer_checks p.m word room area) tt (entry_passes (is_known t number e).limits) refl)

    pub unknown_call : known t number ≡ false → decode_table_call t number word room area ≡ refused 14 0 0
    unfolding decode_table_call after
    unknown_call e = rw (← (fails 14 (known t number) (buffer_checks p.m word room area) e))

  -- "Blocks are likened only under the same table entry."
  module _ (w w' : List ℕ) (hc : IsCodeword p.m p.r (add_words w w')) where
    pub demand_3_table : (room area room' area' : ℕ) → RightSizes p.m w room area → RightSizes p.m w' room' area'
        → Agree p.m w w' (add_words w w') (decode_table_call t number w room area) (decode_table_call t number w' room' area')
    demand_3_table room area room' area' h h' = go (known t number) refl
      where
        go : (b : Bool) → known t number ≡ b → Agree p.m w w' (add_words w w') (decode_table_call t number w room area) (decode_table_call t number w' room' area')
        go true e =
            rw (known_call w room area e, known_call w' room' area' e)
            (demand_3_call p.m p.r p.rounds p.leaves w w' hc room area room' area' h h')
        go false e =
            rw (unknown_call w room area e, unknown_call w' room' area' e)
            (record { answer = refl; output = λ q out out'. absurd (omega arith) })

-- document 01's calls by profile are those of its table
pub ours_call : (number : ℕ) (word : List ℕ) (room area : ℕ) → decode_table_call ours number word room area ≡ decode_profile_call number word room area
unfolding decode_table_call decode_profile_call
ours_call number word room area = rw (ours-known number, ours_entry number)

-- ---- the code's returns, by what the table has at the number

one_of : (b : Bool) (p : Profile) → is_there (cond b (some p) none) ≡ b
one_of true p = refl
one_of false p = refl

pub slot_says : (t : Table) (number : ℕ) → is_there (slot_of t number) ≡ known t number
unfolding slot_of
slot_says t number = one_of (known t number) (entry_of t number)

module _ (t : Table) (number : ℕ) {word out : List ℕ} {area : List ℤ} {s : Slot} (q : s ≡ slot_of t number) where
  pub unknown_decodes : s ≡ none → Decodes (entry_of t number).m (decode_table_call t number word (length out) (length area)) word out out area area (Err record { why = refusal.Profile; rounds = 0; leaves = 0 })
  unknown_decodes e =
      rw (unknown_call t number word (length out) (length area) (sym (slot_says t number) ∙ ap is_there (sym q ∙ e)))
      (record { answer = refl; place = sym (other_place word 14 (λ z. omega arith)); output = refl; lent = refl })

  pub known_decodes : {p : Profile} {out' : List ℕ} {area' : List ℤ} {d : Decoded} → s ≡ some p
      → Decodes p.m (decode_call p.m p.r p.rounds p.leaves word (length out) (length area)) word out out' area area' d
      → Decodes (entry_of t number).m (decode_table_call t number word (length out) (length area)) word out out' area area' d
  known_decodes {p} e h =
      let k : known t number ≡ true = sym (slot_says t number) ∙ ap is_there (sym q ∙ e) in
      let is : p ≡ entry_of t number = ap held (sym e ∙ q ∙ slot_known t number k) in
      rw (known_call t number word (length out) (length area) k) (rw is at h)
