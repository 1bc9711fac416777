-- Pieces of a capture, listed one after the other. Assumes nothing.
use Rattle.std.specs.Prelude.{ℕ, ◌+◌, ◌≤◌, ◌≡◌, refl, false, List, [], ◌∷◌, ◌++◌, length, take, drop}
use Rattle.std.proofs.Common.{arith, sym, ap, ap₂, ◌∙◌, subst, append_assoc, append-nil, length-append, length-drop, take-append-drop, length-take-le, take-add}
use Rattle.std.proofs.lemmas.Bool.{false≢true}
use Rattle.text.specs.TextLaws.{past_further}
use Rattle.tables.specs.declared.Table.{Table}
use Rattle.lines.specs.Lines.{Lines, Entry, entry}
use Rattle.pieces.specs.declared.Listed.{Listed}
use Rattle.pieces.specs.Listing.{entries_of, lines_of, accepted_of}
use Rattle.pieces.specs.Pieces.{Piece, Whole, entries}
use Rattle.pieces.specs.Steps.{Cut}

-- ---- lines and counts of two lists of entries

pub lines_append : (es fs : List Entry) → lines_of (es ++ fs) ≡ lines_of es ++ lines_of fs
lines_append [] fs = refl
lines_append (entry line ok ∷ es) fs = ap (λ (l : List ℕ). line ++ l) (lines_append es fs) ∙ sym (append_assoc line (lines_of es) (lines_of fs))

pub accepted_append : (es fs : List Entry) → accepted_of (es ++ fs) ≡ accepted_of es + accepted_of fs
accepted_append [] fs = omega arith
accepted_append (entry line ok ∷ es) fs = omega (arith, accepted_append es fs)

-- ---- a piece, and the next one

abbrev pub empty : ℕ → Listed
empty at = record { consumed = 0; written = at; records = 0; accepted = 0; ended = false }

abbrev pub joined : Listed → Listed → Listed
joined d e = record {
  consumed = d.consumed + e.consumed;
  written = e.written;
  records = d.records + e.records;
  accepted = d.accepted + e.accepted;
  ended = e.ended;
}

pub entries-nil : (t : Table) (reader : Lines) → entries t reader [] ≡ []
unfolding entries_of
entries-nil t reader = refl

module _ {t : Table} {reader : Lines} where
  -- ---- whole records

  pub whole_nil : Whole t reader []
  whole_nil = record { joins = λ more. ap (λ (es : List Entry). es ++ entries t reader more) (sym (entries-nil t reader)) }

  module _ {x : List ℕ} (w : Whole t reader x) where
    -- whole records, and whatever has the same entries with y as before it
    pub whole_then : (y more : List ℕ) (es : List Entry) → entries t reader (y ++ more) ≡ es → entries t reader ((x ++ y) ++ more) ≡ entries t reader x ++ es
    whole_then y more es e = ap (entries t reader) (append_assoc x y more) ∙ w.joins (y ++ more) ∙ ap (λ (fs : List Entry). entries t reader x ++ fs) e

    pub whole_append : {y : List ℕ} → Whole t reader y → Whole t reader (x ++ y)
    whole_append {y} v = record {
      joins = λ more. whole_then y more _ (v.joins more)
          ∙ sym (append_assoc (entries t reader x) (entries t reader y) (entries t reader more))
          ∙ ap (λ (es : List Entry). es ++ entries t reader more) (sym (w.joins y));
    }

    pub whole_ends : (y more : List ℕ) → entries t reader (y ++ more) ≡ entries t reader y → entries t reader ((x ++ y) ++ more) ≡ entries t reader (x ++ y)
    whole_ends y more e = whole_then y more (entries t reader y) e ∙ sym (w.joins y)

  pub piece_none : {follows : List ℕ → Type 0} {part before : List ℕ} (at : ℕ) → at ≤ length before → Piece t reader follows part before at before (empty at)
  piece_none {part = part} {before} at h = record {
    within = omega arith;
    counted = h;
    past = refl;
    lines = sym (append-nil (take at before)) ∙ ap (λ (es : List Entry). take at before ++ lines_of es) (sym (entries-nil t reader));
    records = ap length (sym (entries-nil t reader));
    accepted = ap accepted_of (sym (entries-nil t reader));
    few = omega arith;
    fewer = omega arith;
    goes_on = λ e. whole_nil;
    all = λ e. absurd (false≢true e);
    alone = λ e. absurd (false≢true e);
  }

  module _ {follows : List ℕ → Type 0} {part before mid after : List ℕ} {at : ℕ} {d e : Listed}
      (p : Piece t reader follows part before at mid d) (on : d.ended ≡ false) (q : Piece t reader (Cut t (drop d.consumed part)) (drop d.consumed part) mid d.written after e)
      (cut : (more : List ℕ) → follows more → Cut t (drop d.consumed part) more) where
    abbrev x : List ℕ
    x = take d.consumed part

    abbrev y : List ℕ
    y = take e.consumed (drop d.consumed part)

    both : take (d.consumed + e.consumed) part ≡ x ++ y
    both = take-add d.consumed e.consumed part

    both_entries : entries t reader (take (d.consumed + e.consumed) part) ≡ entries t reader x ++ entries t reader y
    both_entries = ap (entries t reader) both ∙ (p.goes_on on).joins y

    consumed_within : d.consumed + e.consumed ≤ length part
    consumed_within = omega (arith, q.within, p.within, length-drop d.consumed part)

    written_further : e.written ≡ d.written + length (lines_of (entries t reader y))
    written_further =
        omega (arith, ap length q.lines, length-take-le e.written after q.counted, length-append (take d.written mid) (lines_of (entries t reader y)), length-take-le d.written mid p.counted)

    pub piece_then : Piece t reader follows part before at after (joined d e)
    piece_then = record {
      within = consumed_within;
      counted = q.counted;
      past = q.past ∙ past_further before mid d.written (length (lines_of (entries t reader y))) e.written written_further p.past;
      lines = q.lines
          ∙ ap (λ (l : List ℕ). l ++ lines_of (entries t reader y)) p.lines
          ∙ append_assoc (take at before) (lines_of (entries t reader x)) (lines_of (entries t reader y))
          ∙ ap (λ (l : List ℕ). take at before ++ l) (sym (lines_append (entries t reader x) (entries t reader y)) ∙ ap lines_of (sym both_entries));
      records = ap₂ ◌+◌ p.records q.records ∙ sym (length-append (entries t reader x) (entries t reader y)) ∙ ap length (sym both_entries);
      accepted = ap₂ ◌+◌ p.accepted q.accepted ∙ sym (accepted_append (entries t reader x) (entries t reader y)) ∙ ap accepted_of (sym both_entries);
      few = omega (arith, p.few, q.few);
      fewer = omega (arith, p.fewer, q.fewer);
      goes_on = λ z. subst (Whole t reader) (sym both) (whole_append (p.goes_on on) (q.goes_on z));
      all = λ z. omega (arith, q.all z, length-drop d.consumed part, p.within);
      alone = λ z more f. let split : x ++ drop d.consumed part ≡ part = take-append-drop d.consumed part in
          ap (λ (s : List ℕ). entries t reader (s ++ more)) (sym split)
          ∙ whole_ends (p.goes_on on) (drop d.consumed part) more (q.alone z more (cut more f))
          ∙ ap (entries t reader) split;
    }
