-- What a run comes to, from the bytes that its reader had to those that its writer got. Assumes nothing.
use Rattle.std.specs.Prelude.{ℕ, ◌^◌, ◌≤◌, ◌<◌, ◌≡◌, refl, Bool, true, false, cond, not, ◌||◌, List, [], ◌++◌, length, take, drop, Option, None, Some, IfSome}
use Rattle.std.proofs.Common.{arith, sym, ap, subst, ◌∙◌, append-nil, take_all, drop_at, take_at, lt-ltb}
use Rattle.std.proofs.Math.Decide.{dec_lt}
use Rattle.std.proofs.lemmas.Bool.{false≢true}
use Rattle.std.proofs.KnownBytes.{Appends-trans}
use Rattle.std.specs.Io.KnownBytes.{Appends, Consumes, IsAtEnd}
use Rattle.header.specs.Header.{agrees_from, header, header_test}
use Rattle.tables.specs.declared.Table.{Table}
use Rattle.lines.specs.Lines.{Lines, header_line, last_line}
use Rattle.pieces.specs.Listing.{listing_of}
use Rattle.listing.specs.Joins.{listing_refused}
use Rattle.turns.specs.declared.State.{State}
use Rattle.programs.specs.Program.{Ran}
use Rattle.programs.specs.ProgramLaws.{run_lists}

-- a right header has five bytes
right_long : (h : List ℕ) → header_test h ≡ true → 5 ≤ length h
right_long h e = elim (dec_lt (length h) 5) [
  | yes l ↦ absurd (false≢true (sym (ap (λ (b : Bool). cond b false (agrees_from header 0 h)) (lt-ltb (length h) 5 l)) ∙ e))
  | no k ↦ omega arith
]

-- the five bytes that were read are the first of the input
first_five : (h rest : List ℕ) → length h ≤ 5 → (length h < 5 → rest ≡ []) → take 5 (h ++ rest) ≡ h
first_five h rest n short = elim (dec_lt (length h) 5) [
  | yes l ↦
      let z : h ++ rest ≡ h = ap (λ (x : List ℕ). h ++ x) (short l) ∙ append-nil h in
      ap (take 5) z ∙ take_all 5 h n
  | no k ↦ take_at h rest 5 (omega arith)
]

module _ (table : Table) (reader : Lines) where
  -- what the writer got is the listing of what the reader had
  abbrev pub ListedWhole : Option (List ℕ) → Option (List ℕ) → Option (List ℕ) → Type 0
  ListedWhole had wrote wrote' = IfSome had (λ c. length c < 2 ^ 64 → Appends wrote wrote' (listing_of table reader c))

  -- a wrong header, read where the input has no more or to its fifth byte
  pub whole_refused : (had left wrote wrote' : Option (List ℕ)) (h : List ℕ) → length h ≤ 5 → header_test h ≡ false → Consumes had left h
      → (length h < 5 → IsAtEnd left) → Appends wrote wrote' header_line → ListedWhole had wrote wrote'
  whole_refused None left wrote wrote' h n wrong took short w = tt
  whole_refused (Some c) None wrote wrote' h n wrong took short w = absurd took
  whole_refused (Some c) (Some rest) wrote wrote' h n wrong took short w = λ _.
      let first : take 5 c ≡ h = ap (take 5) took ∙ first_five h rest n short in
      subst (Appends wrote wrote') (sym (listing_refused table reader c (ap header_test first ∙ wrong))) w

  -- a right one, and all turns
  pub whole_listed : {s : State} {buffer : List ℕ} (had after left wrote wrote' wrote'' : Option (List ℕ)) (h : List ℕ) → length h ≤ 5 → header_test h ≡ true
      → Consumes had after h → (r : Ran table reader s buffer) → Consumes after left r.input → (s.last ≡ true → IsAtEnd left) → r.sent ≡ true → s.more ≡ false
      → Appends wrote wrote' r.text → Appends wrote' wrote'' (last_line s.records s.accepted) → ListedWhole had wrote wrote''
  whole_listed None after left wrote wrote' wrote'' h n right took r came ends all over w l = tt
  whole_listed (Some c) None left wrote wrote' wrote'' h n right took r came ends all over w l = absurd took
  whole_listed (Some c) (Some rest) None wrote wrote' wrote'' h n right took r came ends all over w l = absurd came
  whole_listed {s} (Some c) (Some rest) (Some unread) wrote wrote' wrote'' h n right took r came ends all over w l = λ few.
      let five : length h ≡ 5 = omega (arith, right_long h right) in
      let first : take 5 c ≡ h = ap (take 5) took ∙ take_at h rest 5 five in
      let past : drop 5 c ≡ r.input ++ unread = ap (drop 5) took ∙ drop_at h rest 5 five ∙ came in
      subst (Appends wrote wrote'') (sym (run_lists c unread (ap header_test first ∙ right) few r.run past ends all over))
      (Appends-trans wrote wrote' wrote'' r.text (last_line s.records s.accepted) w l)

-- neither of two flags is up
pub neither : (a b : Bool) → not (a || b) ≡ true → (a ≡ false) × (b ≡ false)
neither false false e = (refl, refl)
neither false true e = absurd (false≢true e)
neither true b e = absurd (false≢true e)
