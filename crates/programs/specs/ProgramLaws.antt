-- What a run of the program has written: the listing of its input. Assumes nothing.
use Rattle.std.specs.Prelude.{ℕ, suc, ◌+◌, ◌-◌, ◌^◌, ◌≤◌, ◌<◌, ◌≡◌, Bool, true, false, not, ◌&&◌, List, [], ◌++◌, length, take, drop, Option, refl, ℤ}
use Rattle.std.proofs.Common.{arith, sym, ap, subst, ◌∙◌, append_assoc, length-drop, take-append-drop, drop_at, length-take-le, take_at}
use Rattle.std.proofs.lemmas.Bool.{false≢true, not-false, not-true}
use borrow.Rule.Slice.PartMut.{put_mid}
use Rattle.std.proofs.KnownBytes.{Appends-nil, Appends-trans, Consumes-nil, Consumes-trans}
use Rattle.std.specs.Io.KnownBytes.{Appends, Consumes}
use Rattle.words.specs.SumLaws.{both_true}
use Rattle.header.specs.Header.{header_test}
use Rattle.tables.specs.declared.Table.{Table}
use Rattle.lines.specs.Lines.{Lines, last_line}
use Rattle.pieces.specs.declared.Listed.{Listed}
use Rattle.pieces.specs.Listing.{listing_of}
use Rattle.pieces.specs.Pieces.{Turn}
use Rattle.listing.specs.Joins as joins
use Rattle.listing.specs.Joins.{Progress, counts_few, listing_joins}
use Rattle.turns.specs.declared.State.{State}
use Rattle.turns.specs.declared.Stream.{Stream}
use Rattle.turns.specs.Turns.{Filled, ReadOut, begun, came, capped}
use Rattle.turns.specs.TurnLaws.{capped_again, capped_within, counts_stay, held_then}
use Rattle.programs.specs.Program.{Moved, Printed, Ran, Run, Turned, after_listing, starts, then}

-- the state of the loop: `left` of the 2^64 − 1 turns are not made yet
pub record Running (table : Table) (reader : Lines) (left : ℕ) (s : State) (buffer : List ℕ) : Type 0 where
  pub turns : ℕ
  pub input : List ℕ
  pub text : List ℕ
  pub sent : Bool
  pub run : Run table reader turns input text sent s buffer
  pub count : turns + left ≡ 2 ^ 64 - 1

-- the program goes on: what it has handed out, counted and holds is as far as the input has come
record Kept (table : Table) (reader : Lines) (input text : List ℕ) (s : State) (buffer : List ℕ) : Type 0 where
  records : ℕ
  ok : ℕ
  going : (unread : List ℕ) → Progress table reader (input ++ unread) text records ok (take s.held buffer) unread
  counted : s.records ≡ capped records
  accepted : s.accepted ≡ capped ok

-- the state, count by count
pub stated : (s : State) (d : Listed) {records accepted : ℕ} {more : Bool} (sent : Bool) → records ≡ capped (s.records + d.records) → accepted ≡ capped (s.accepted + d.accepted)
    → more ≡ (sent && not d.ended) → record { held = s.held - d.consumed; last = s.last; records = records; accepted = accepted; more = more } ≡ after_listing s d sent
stated s d sent e f g = rw (e, f, g)

module _ {table : Table} {reader : Lines} where
  -- ---- the code's return

  -- the first bytes of the buffer were lent and have come back
  pub turned : {s t : State} {buffer back out out' : List ℕ} {area area' : List ℤ} {d : Listed} (sent : Bool) (k : ℕ) → k ≡ s.held → s.held ≤ length buffer
      → length back ≡ length (take k buffer) → Turn table reader (take k buffer) back s.last out out' area area' d
      → t ≡ after_listing s d sent → Turned table reader s t buffer (put_mid 0 k buffer back) out out' area area'
  turned {s} {buffer = buffer} {back} {out} {out'} {area} {area'} {d} sent k e h same turn state =
      let n : length back ≡ s.held = same ∙ length-take-le k buffer (omega arith) ∙ e in
      record {
        listed = d;
        sent = sent;
        turn = subst (λ (i : ℕ). Turn table reader (take i buffer) (take s.held (back ++ drop k buffer)) s.last out out' area area' d) e
            (subst (λ (b : List ℕ). Turn table reader (take k buffer) b s.last out out' area area' d) (sym (take_at back (drop k buffer) s.held n)) turn);
        past = drop_at back (drop k buffer) s.held n ∙ ap (λ (i : ℕ). drop i buffer) e;
        state = state;
      }

  -- the same, where so many bytes were lent as are held
  abbrev pub turned_back : {s t : State} {buffer back out out' : List ℕ} {area area' : List ℤ} {d : Listed} (sent : Bool) → s.held ≤ length buffer
      → length back ≡ length (take s.held buffer) → Turn table reader (take s.held buffer) back s.last out out' area area' d
      → t ≡ after_listing s d sent → Turned table reader s t buffer (back ++ drop s.held buffer) out out' area area'
  turned_back {s} {buffer = buffer} {back} {out} {out'} {area} {area'} {d} sent h same turn state =
      let n : length back ≡ s.held = same ∙ length-take-le s.held buffer h in
      record {
        listed = d;
        sent = sent;
        turn = subst (λ (b : List ℕ). Turn table reader (take s.held buffer) b s.last out out' area area' d) (sym (take_at back (drop s.held buffer) s.held n)) turn;
        past = drop_at back (drop s.held buffer) s.held n;
        state = state;
      }

  pub held_less : {s t : State} {buffer rest out out' : List ℕ} {area area' : List ℤ} → Turned table reader s t buffer rest out out' area area' → t.held ≤ s.held
  held_less l = omega (arith, ap (λ (x : State). x.held) l.state)

  -- turns one after the other
  abbrev pub run_starts : (buffer : List ℕ) → Running table reader (2 ^ 64 - 1) begun buffer
  run_starts buffer = record { turns = 0; input = []; text = []; sent = true; run = starts buffer; count = omega arith }

  abbrev pub run_on : {left : ℕ} {s u t : State} {buffer filled rest out out' : List ℕ} {area area' : List ℤ} → Running table reader left s buffer → s.more ≡ true → 0 < left
      → Filled s u buffer filled → Turned table reader u t filled rest out out' area area' → Running table reader (left - 1) t rest
  run_on r on h f l = record { turns = suc r.turns; input = _; text = _; sent = _; run = then r.run on f l; count = omega (arith, r.count) }

  abbrev pub run_ends : {left : ℕ} {s : State} {buffer : List ℕ} → Running table reader left s buffer → (s.more ≡ true → left ≡ 0) → Ran table reader s buffer
  run_ends r h = record { turns = r.turns; input = r.input; text = r.text; sent = r.sent; run = r.run; stops = λ e. omega (arith, r.count, h e) }

  -- ---- what is held

  module _ {s t : State} {buffer rest out out' : List ℕ} {area area' : List ℤ} (l : Turned table reader s t buffer rest out out' area area') (h : s.held ≤ length buffer) where
    -- the bytes that were not listed
    pub held_rest : take t.held rest ≡ drop l.listed.consumed (take s.held buffer)
    held_rest =
        let held : List ℕ = take s.held buffer in
        let k : ℕ = l.listed.consumed in
        let y : List ℕ = drop (length held - k) held in
        let n : length (drop k held) ≡ t.held = length-drop k held ∙ ap (λ (i : ℕ). i - k) (length-take-le s.held buffer h) ∙ sym (ap (λ (x : State). x.held) l.state) in
        ap (take t.held) (sym (take-append-drop s.held rest))
        ∙ ap (λ (u : List ℕ). take t.held (u ++ drop s.held rest)) l.turn.rest
        ∙ ap (take t.held) (append_assoc (drop k held) y (drop s.held rest))
        ∙ take_at (drop k held) (y ++ drop s.held rest) t.held n

  -- ---- from turn to turn

  fills : {input text : List ℕ} {s u : State} {buffer filled : List ℕ} → Kept table reader input text s buffer → Filled s u buffer filled → Kept table reader (input ++ came s u filled) text u filled
  fills {input} {text} {s} {u} {buffer} {filled} p f =
      let new : List ℕ = came s u filled in
      record {
        records = p.records;
        ok = p.ok;
        going = λ unread.
            subst (λ (i : List ℕ). Progress table reader i text p.records p.ok (take u.held filled) unread) (sym (append_assoc input new unread))
            (subst (λ (h : List ℕ). Progress table reader (input ++ (new ++ unread)) text p.records p.ok h unread) (sym (held_then f))
            (joins.reads new unread (p.going (new ++ unread))));
        counted = (counts_stay f).0 ∙ p.counted;
        accepted = (counts_stay f).1 ∙ p.accepted;
      }

  lists : {input text : List ℕ} {s t : State} {buffer rest out out' : List ℕ} {area area' : List ℤ} → Kept table reader input text s buffer → (l : Turned table reader s t buffer rest out out' area area')
      → s.held ≤ length buffer → t.more ≡ true → Kept table reader input (text ++ take l.listed.written out') t rest
  lists {input} {text} {t = t} {out' = out'} p l h e =
      let d : Listed = l.listed in
      let on : d.ended ≡ false = not-true d.ended (both_true l.sent (not d.ended) (sym (ap (λ (x : State). x.more) l.state) ∙ e)).1 in
      record {
        records = p.records + d.records;
        ok = p.ok + d.accepted;
        going = λ unread.
            subst (λ (x : List ℕ). Progress table reader (input ++ unread) (text ++ take d.written out') (p.records + d.records) (p.ok + d.accepted) x unread) (sym (held_rest l h))
            (joins.turns (p.going unread) l.turn.lists on);
        counted = ap (λ (x : State). x.records) l.state ∙ ap (λ (n : ℕ). capped (n + d.records)) p.counted ∙ capped_again p.records d.records;
        accepted = ap (λ (x : State). x.accepted) l.state ∙ ap (λ (n : ℕ). capped (n + d.accepted)) p.accepted ∙ capped_again p.ok d.accepted;
      }

  keeps : {k : ℕ} {input text : List ℕ} {sent : Bool} {s : State} {buffer : List ℕ} → Run table reader k input text sent s buffer → s.more ≡ true → Kept table reader input text s buffer
  keeps (starts buffer) e = record { records = 0; ok = 0; going = joins.starts; counted = omega arith; accepted = omega arith }
  keeps (then r on f l) e = lists (fills (keeps r on) f) l f.within e

  -- ---- the whole

  -- the turn in which the listing ends
  last_turn : {input text : List ℕ} {s t : State} {buffer rest out out' : List ℕ} {area area' : List ℤ} → Kept table reader input text s buffer
      → (l : Turned table reader s t buffer rest out out' area area') (c unread : List ℕ) → header_test (take 5 c) ≡ true → length c < 2 ^ 64
      → drop 5 c ≡ input ++ unread → (t.last ≡ true → unread ≡ []) → l.sent ≡ true → t.more ≡ false
      → listing_of table reader c ≡ (text ++ take l.listed.written out') ++ last_line t.records t.accepted
  last_turn {text = text} {s} {t} {buffer} p l c unread h few i f w e =
      let d : Listed = l.listed in
      let over : d.ended ≡ true = not-false d.ended (ap (λ (b : Bool). b && not d.ended) (sym w) ∙ sym (ap (λ (x : State). x.more) l.state) ∙ e) in
      let went : Progress table reader (drop 5 c) text p.records p.ok (take s.held buffer) unread =
      subst (λ (x : List ℕ). Progress table reader x text p.records p.ok (take s.held buffer) unread) (sym i) (p.going unread) in
      let read : s.last ≡ true → unread ≡ [] = λ z. f (ap (λ (x : State). x.last) l.state ∙ z) in
      let most = counts_few went l.turn.lists over read in
      let records : t.records ≡ p.records + d.records =
      ap (λ (x : State). x.records) l.state ∙ ap (λ (n : ℕ). capped (n + d.records)) p.counted ∙ capped_again p.records d.records
      ∙ capped_within (p.records + d.records) (omega (arith, most.0, length-drop 5 c)) in
      let ok : t.accepted ≡ p.ok + d.accepted =
      ap (λ (x : State). x.accepted) l.state ∙ ap (λ (n : ℕ). capped (n + d.accepted)) p.accepted ∙ capped_again p.ok d.accepted
      ∙ capped_within (p.ok + d.accepted) (omega (arith, most.1, length-drop 5 c)) in
      listing_joins table reader c h went l.turn.lists over read ∙ rw (records, ok)

  -- the input c has a right header, and is no longer than 2^64 bytes. What came are its bytes after the header, and where the program takes
  -- it to have ended none is unread. All that was handed out was written. Then, when there is no more to do, the text and the last line are
  -- the listing.
  pub run_lists : {k : ℕ} {input text : List ℕ} {sent : Bool} {s : State} {buffer : List ℕ} (c unread : List ℕ) → header_test (take 5 c) ≡ true → length c < 2 ^ 64
      → Run table reader k input text sent s buffer → drop 5 c ≡ input ++ unread → (s.last ≡ true → unread ≡ []) → sent ≡ true → s.more ≡ false
      → listing_of table reader c ≡ text ++ last_line s.records s.accepted
  run_lists c unread h few (starts buffer) i f w e = absurd (false≢true (sym e))
  run_lists c unread h few (then {sent = sent} r on g l) i f w e = last_turn (fills (keeps r on) g) l c unread h few i f (both_true sent l.sent w).1 e

  pub printed_listing : {c bytes : List ℕ} → Printed table reader c bytes → bytes ≡ listing_of table reader c
  printed_listing {c} p = p.are ∙ sym (run_lists c p.unread p.right p.short p.run p.came_all p.ends p.wrote p.over)

-- ---- what is read and written on the way

module _ {R W : Type 0} {remaining : R → Option (List ℕ)} {contents : W → Option (List ℕ)} where
  pub moves_none : (from : Stream R) (to : Stream W) → Moved remaining contents from from to to [] [] false true
  moves_none from to = record {
    took = Consumes-nil (remaining from.inner);
    ended = λ e. absurd (false≢true e);
    wrote = λ _. Appends-nil (contents to.inner);
    whole = λ _. refl;
  }

  -- one turn more
  pub moves_on : {from from' from'' : Stream R} {to to' to'' : Stream W} {input text : List ℕ} {last last' last'' sent sent' : Bool} (new lines : List ℕ)
      → Moved remaining contents from from' to to' input text last sent
      → Consumes (remaining from'.inner) (remaining from''.inner) new
      → (ReadOut last from'.failed (remaining from'.inner) → ReadOut last' from''.failed (remaining from''.inner))
      → (sent' ≡ true → Appends (contents to'.inner) (contents to''.inner) lines)
      → (to''.failed ≡ false → sent' ≡ true) → (to''.failed ≡ false → to'.failed ≡ false) → last'' ≡ last'
      → Moved remaining contents from from'' to to'' (input ++ new) (text ++ lines) last'' (sent && sent')
  moves_on {from} {from'} {from''} {to} {to'} {to''} {input} {text} {sent = sent} {sent'} new lines m took ended wrote whole failing same = record {
    took = Consumes-trans (remaining from.inner) (remaining from'.inner) (remaining from''.inner) input new m.took took;
    ended = λ e. ended m.ended (sym same ∙ e);
    wrote = λ e.
        let b = both_true sent sent' e in
        Appends-trans (contents to.inner) (contents to'.inner) (contents to''.inner) text lines (m.wrote b.0) (wrote b.1);
    whole = λ e. ap (λ (b : Bool). b && sent') (m.whole (failing e)) ∙ whole e;
  }
