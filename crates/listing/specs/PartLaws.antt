-- The turns of the loop that lists a part. Assumes nothing.
use Rattle.std.specs.Prelude.{ℕ, zero, suc, ◌+◌, ◌-◌, ◌≤◌, ◌<◌, ◌≡◌, refl, Bool, true, false, ◌&&◌, cond, not, List, [], ◌∷◌, ◌++◌, length, take, drop, replicate, eqb, ltb, ℤ, pos}
use Rattle.std.proofs.Common.{arith, sym, ap, ap₂, ◌∙◌, subst, append-nil, drop_of_length-le, length-drop, take-append-drop, take_all, eq-eqb, lt-ltb}
use Rattle.std.proofs.lemmas.Bool.{false≢true, not-false}
use Rattle.std.proofs.Math.Decide.{dec_lt}
use borrow.Rule.Slice.PartMut.{put_mid}
use Rattle.rule.specs.Decoding.{zeros}
use Rattle.tables.specs.declared.Table.{Table}
use Rattle.tables.specs.Tables.{Slot}
use Rattle.lines.specs.Lines.{Lines}
use Rattle.capture.specs.Capture.{slot_at}
use Rattle.pieces.specs.declared.Listed.{Listed}
use Rattle.pieces.specs.Pieces.{Lists, Piece, Waits, area_after}
use Rattle.pieces.specs.Listing.{starts_record}
use Rattle.pieces.specs.Steps.{Cut, Ready, Stepped, Steps}
use Rattle.pieces.specs.PieceLaws.{empty, joined, piece_then}

-- nothing follows a part that is the last
abbrev pub Ends : Bool → List ℕ → Type 0
Ends last more = last ≡ true → more ≡ []

-- what is left of the part, as the code takes it
abbrev pub rest : List ℕ → ℕ → List ℕ
rest part n = take (length part - n) (drop n part)

rest_is : (part : List ℕ) (n : ℕ) → rest part n ≡ drop n part
rest_is part n = take_all (length part - n) (drop n part) (omega (arith, length-drop n part))

ready_cut : (t : Table) {slot : Slot} {s : List ℕ} (last : Bool) {room area : ℕ} → slot ≡ slot_at t s → Ready slot s last room area → (more : List ℕ) → Ends last more → Cut t s more
ready_cut t true q r more f = λ l. f refl
ready_cut t false q r more f = λ l. absurd (omega (arith, rw q at (r.there refl)))

module _ {t : Table} {reader : Lines} {slot : Slot} {part before mid after : List ℕ} {lent lent' : List ℤ} {last : Bool} {room area : ℕ} {d e : Listed} (p : Piece t reader (Ends last) part before 0 mid d) (on : d.ended ≡ false)
    (look : slot ≡ slot_at t (rest part d.consumed)) (r : Ready slot (rest part d.consumed) last room area) (q : Steps reader slot (rest part d.consumed) mid d.written after lent lent' e) where
  pub turn_piece : Piece t reader (Ends last) part before 0 after (joined d e)
  turn_piece =
      let z = rest_is part d.consumed in
      piece_then p on (subst (λ (s : List ℕ). Piece t reader (Cut t s) s mid d.written after e) z (q.under t look).piece) (λ more f. subst (λ (s : List ℕ). Cut t s more) z (ready_cut t last look r more f))

-- what is left to list, and 1 more where the listing has not ended
abbrev pub left : List ℕ → Listed → ℕ
left part d = (length part - d.consumed) + cond d.ended 0 1

left_less : (n c k : ℕ) (was now : Bool) → was ≡ false → (now ≡ false → 0 < k) → c + k ≤ n → (n - (c + k)) + cond now 0 1 < (n - c) + cond was 0 1
left_less n c k true now e h l = absurd (false≢true (sym e))
left_less n c k false true e h l = omega arith
left_less n c k false false e h l = omega (arith, h refl)

-- ---- the area

-- the area that was area₀, after the part was listed up to d: where it goes on after a record, one stands at the part's start
pub record Lent (t : Table) (part : List ℕ) (area₀ area : List ℤ) (d : Listed) : Type 0 where
  pub lent : area ≡ area_after (ltb 0 d.consumed && starts_record t part) area₀
  pub reads : d.ended ≡ false → 0 < d.consumed → starts_record t part ≡ true

pub lent_none : (t : Table) (part : List ℕ) (area : List ℤ) (at : ℕ) → Lent t part area area (empty at)
lent_none t part area at = record { lent = refl; reads = λ e h. absurd (omega arith) }

-- what is lent of an area of l numbers, where a record needs n
pub lent_fits : (first : Bool) (k l n : ℕ) → k ≡ cond first l n → n ≤ l → (k ≤ l) × (n ≤ k)
lent_fits true k l n e h = (omega arith, omega arith)
lent_fits false k l n e h = (omega arith, omega arith)

-- zeros that were lent come back as zeros
front_zeros : (k n : ℕ) → zeros (take k (replicate n (pos 0))) ≡ take k (replicate n (pos 0))
front_zeros zero n = refl
front_zeros (suc k) zero = refl
front_zeros (suc k) (suc n) = ap (λ (l : List ℤ). pos 0 ∷ l) (front_zeros k n)

back_zeros : (read : Bool) (k n : ℕ) → area_after read (take k (replicate n (pos 0))) ++ drop k (replicate n (pos 0)) ≡ replicate n (pos 0)
back_zeros true k n = ap (λ (l : List ℤ). l ++ drop k (replicate n (pos 0))) (front_zeros k n) ∙ take-append-drop k (replicate n (pos 0))
back_zeros false k n = take-append-drop k (replicate n (pos 0))

and_false : (x : Bool) → x && false ≡ false
and_false true = refl
and_false false = refl

module _ {t : Table} {reader : Lines} {part mid after : List ℕ} {area₀ area lent' : List ℤ} {at : ℕ} {d e : Listed} (p : Lent t part area₀ area d) (on : d.ended ≡ false) (k : ℕ)
    (q : Stepped t reader (rest part d.consumed) mid at after (take (k - 0) (drop 0 area)) lent' e) where
  abbrev came : List ℤ
  came = put_mid 0 (k - 0) area lent'

  -- the first is lent all of the area
  module _ (z : d.consumed ≡ 0) (all : k ≡ length area) where
    same_start : starts_record t (rest part d.consumed) ≡ starts_record t part
    same_start = ap (starts_record t) (rest_is part d.consumed ∙ ap (λ (i : ℕ). drop i part) z)

    came_all : came ≡ area_after (starts_record t part) area₀
    came_all =
        ap (λ (l : List ℤ). lent' ++ l) (drop_of_length-le area {i = k - 0} (omega arith)) ∙ append-nil lent' ∙ q.lent
        ∙ ap₂ area_after same_start (take_all (k - 0) area (omega arith) ∙ p.lent ∙ ap (λ (i : ℕ). area_after (ltb 0 i && starts_record t part) area₀) z)

    first_read : (b : Bool) → starts_record t part ≡ b → b ≡ (ltb 0 (d.consumed + e.consumed) && b)
    first_read true s = sym (ap (λ (x : Bool). x && true) (lt-ltb 0 (d.consumed + e.consumed) (omega (arith, q.moves (q.reads ∙ ap not (same_start ∙ s))))))
    first_read false s = sym (and_false (ltb 0 (d.consumed + e.consumed)))

    first_lent : Lent t part area₀ came (joined d e)
    first_lent = record {
      lent = came_all ∙ ap (λ (b : Bool). area_after b area₀) (first_read (starts_record t part) refl);
      reads = λ f h. sym same_start ∙ not-false _ (sym q.reads ∙ f);
    }

  -- the next ones 8 × n numbers, and the area is zero already
  module _ (h : 0 < d.consumed) where
    next_lent : Lent t part area₀ came (joined d e)
    next_lent =
        let s = p.reads on h in
        let y : area ≡ zeros area₀ = p.lent ∙ ap₂ (λ (a b : Bool). area_after (a && b) area₀) (lt-ltb 0 d.consumed h) s in
        record {
          lent =
              ap (λ (l : List ℤ). l ++ drop (k - 0) (drop 0 area)) q.lent
              ∙ ap (λ (l : List ℤ). area_after (starts_record t (rest part d.consumed)) (take (k - 0) l) ++ drop (k - 0) l) y
              ∙ back_zeros (starts_record t (rest part d.consumed)) (k - 0) (length area₀)
              ∙ sym (ap₂ (λ (a b : Bool). area_after (a && b) area₀) (lt-ltb 0 (d.consumed + e.consumed) (omega arith)) s);
          reads = λ f g. s;
        }

  pub turn_lent : (n : ℕ) → k ≡ cond (eqb d.consumed 0) (length area) n → Lent t part area₀ came (joined d e)
  turn_lent n hk = elim (dec_lt 0 d.consumed) [
    | yes h ↦ next_lent h
    | no g ↦ let z : d.consumed ≡ 0 = omega arith in first_lent z (hk ∙ ap (λ (b : Bool). cond b (length area) n) (eq-eqb d.consumed 0 z))
  ]

-- what stops the loop
module _ {t : Table} {reader : Lines} where
  pub stops_waiting : {slot : Slot} {part before after : List ℕ} {last : Bool} {area area' : List ℤ} {d : Listed} → Piece t reader (Ends last) part before 0 after d
      → Lent t part area area' d → slot ≡ slot_at t (rest part d.consumed) → Waits slot (rest part d.consumed) last (length after - d.written) (length area)
      → Lists t reader part last before after area area' d
  stops_waiting {part = part} {after = after} {last = last} {area} {d = d} p l look w = record {
    piece = p;
    stops = λ e. subst (λ (s : List ℕ). Waits (slot_at t s) s last (length after - d.written) (length area)) (rest_is part d.consumed) (subst (λ (x : Slot). Waits x (rest part d.consumed) last (length after - d.written) (length area)) look w);
    lent = l.lent;
  }

  pub stops_ended : {part before after : List ℕ} {last : Bool} {area area' : List ℤ} {d : Listed} → Piece t reader (Ends last) part before 0 after d → Lent t part area area' d → d.ended ≡ true
      → Lists t reader part last before after area area' d
  stops_ended p l e = record { piece = p; stops = λ f. absurd (false≢true (sym f ∙ e)); lent = l.lent }

  pub turn_less : {slot : Slot} {part before mid after : List ℕ} {lent lent' : List ℤ} {last : Bool} {at : ℕ} (d e : Listed) → d.ended ≡ false → Piece t reader (Ends last) part before 0 after (joined d e)
      → slot ≡ slot_at t (rest part d.consumed) → Steps reader slot (rest part d.consumed) mid at after lent lent' e → left part (joined d e) < left part d
  turn_less {part = part} d e on p look q = left_less (length part) d.consumed e.consumed d.ended e.ended on (q.under t look).moves p.within
