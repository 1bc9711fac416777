-- `listing::list_in` meets its contract: each turn adds a piece. Assumes nothing.
use native.Mathlib.Omega.{arith}
use Prim.Native.Nat.{◌-◌, ◌*◌, ◌≤◌}
use mathlib.Core.Path.{◌≡◌, refl, sym, ap, subst, ◌∙◌}
use lib.Dec.{eqb}
use lib.ListN.{length}
use borrow.Author.Tests.{not-true, not-false}
use borrow.Rule.Slice.PartMut.{put_mid}
use Rattle.words.specs.Parts.{front_length}
use Rattle.tables.specs.Tables.{slot_of}
use Rattle.tables.specs.Slots.{Proper, slot_proper}
use Rattle.capture.specs.Capture.{body_length, slot_at}
use Rattle.readers.specs.Readers.{lines_for}
use Rattle.pieces.specs.Pieces.{Piece}
use Rattle.pieces.specs.PieceLaws.{joined, piece_none}
use Rattle.pieces.specs.Steps.{Ready}
use Rattle.listing.specs.PartLaws.{Ends, Lent, lent_fits, lent_none, rest, turn_piece, turn_lent, turn_less, stops_waiting, stops_ended}
use Rattle.listing.proofs.list_in.Goals as goal

pub loop-d-init : goal.loop-d-init
loop-d-init c =
    (refl, refl, refl, refl, piece_none 0 (omega arith), lent_none _ _ _ 0)

pub is_ready-requires : goal.is_ready-requires
is_ready-requires c =
    let looked : c.look-slot.result ≡ slot_at c.args.table (rest c.args.part.now c.loop-d.d.consumed) = let t = c.args.table in
    c.look-slot.ensures.0 ∙ ap (slot_of t) c.number_at-number.ensures in
    let proper : Proper c.look-slot.result = subst Proper (sym (looked)) (slot_proper c.args.table _) in
    proper

pub returns-then-not-is_ready : goal.returns-then-not-is_ready
returns-then-not-is_ready c =
    let looked : c.look-slot.result ≡ slot_at c.args.table (rest c.args.part.now c.loop-d.d.consumed) = let t = c.args.table in
    c.look-slot.ensures.0 ∙ ap (slot_of t) c.number_at-number.ensures in
    let l = c.loop-d in
    stops_waiting l.invariant.4 l.invariant.5 (looked) (rw (← l.invariant.3) (c.is_ready.ensures.cannot c.if-not-is_ready.true))

pub lent-lent-requires : goal.lent-lent-requires
lent-lent-requires c =
    let looked : c.look-slot.result ≡ slot_at c.args.table (rest c.args.part.now c.loop-d.d.consumed) = let t = c.args.table in
    c.look-slot.ensures.0 ∙ ap (slot_of t) c.number_at-number.ensures in
    let proper : Proper c.look-slot.result = subst Proper (sym (looked)) (slot_proper c.args.table _) in
    proper

pub slice_bounds-list_one-end-in-loop-d : goal.slice_bounds-list_one-end-in-loop-d
slice_bounds-list_one-end-in-loop-d c =
    let ready : Ready c.look-slot.result (rest c.args.part.now c.loop-d.d.consumed) c.args.last (length c.loop-d.out - c.loop-d.d.written) (length c.loop-d.area) = c.is_ready.ensures.can c.if-not-is_ready.false in
    let fits : (c.lent-lent.result ≤ length c.loop-d.area) × (64 * body_length c.look-slot.result (rest c.args.part.now c.loop-d.d.consumed) ≤ c.lent-lent.result) = lent_fits (eqb c.loop-d.d.consumed 0) _ _ _ c.lent-lent.ensures (ready).lent in
    (fits).0

pub list_one-requires : goal.list_one-requires
list_one-requires c =
    let ready : Ready c.look-slot.result (rest c.args.part.now c.loop-d.d.consumed) c.args.last (length c.loop-d.out - c.loop-d.d.written) (length c.loop-d.area) = c.is_ready.ensures.can c.if-not-is_ready.false in
    let fits : (c.lent-lent.result ≤ length c.loop-d.area) × (64 * body_length c.look-slot.result (rest c.args.part.now c.loop-d.d.consumed) ≤ c.lent-lent.result) = lent_fits (eqb c.loop-d.d.consumed 0) _ _ _ c.lent-lent.ensures (ready).lent in
    let looked : c.look-slot.result ≡ slot_at c.args.table (rest c.args.part.now c.loop-d.d.consumed) = let t = c.args.table in
    c.look-slot.ensures.0 ∙ ap (slot_of t) c.number_at-number.ensures in
    let proper : Proper c.look-slot.result = subst Proper (sym (looked)) (slot_proper c.args.table _) in
    let l = c.loop-d in
    let f = fits in
    let n = front_length c.lent-lent.result l.area f.0 in
    (proper, omega (arith, l.invariant.0, c.requires.0), omega (arith, l.invariant.1, c.requires.1), omega (arith, (ready).line, l.invariant.4.counted), omega (arith, n, f.1))

pub joined-d-requires : goal.joined-d-requires
joined-d-requires c =
    let looked : c.look-slot.result ≡ slot_at c.args.table (rest c.args.part.now c.loop-d.d.consumed) = let t = c.args.table in
    c.look-slot.ensures.0 ∙ ap (slot_of t) c.number_at-number.ensures in
    let ready : Ready c.look-slot.result (rest c.args.part.now c.loop-d.d.consumed) c.args.last (length c.loop-d.out - c.loop-d.d.written) (length c.loop-d.area) = c.is_ready.ensures.can c.if-not-is_ready.false in
    let next : Piece c.args.table (lines_for c.args.reader) (Ends c.args.last) c.args.part.now c.args.out.now 0 c.list_one.new.out (joined c.loop-d.d c.list_one.result) = turn_piece c.loop-d.invariant.4 (not-true _ c.loop-d-test.true) (looked) (ready) c.list_one.ensures in
    let p = next in
    omega (arith, p.within, p.few, p.fewer, c.well_formed)

pub loop-d-smaller : goal.loop-d-smaller
loop-d-smaller c =
    let looked : c.look-slot.result ≡ slot_at c.args.table (rest c.args.part.now c.loop-d.d.consumed) = let t = c.args.table in
    c.look-slot.ensures.0 ∙ ap (slot_of t) c.number_at-number.ensures in
    let ready : Ready c.look-slot.result (rest c.args.part.now c.loop-d.d.consumed) c.args.last (length c.loop-d.out - c.loop-d.d.written) (length c.loop-d.area) = c.is_ready.ensures.can c.if-not-is_ready.false in
    let next : Piece c.args.table (lines_for c.args.reader) (Ends c.args.last) c.args.part.now c.args.out.now 0 c.list_one.new.out (joined c.loop-d.d c.list_one.result) = turn_piece c.loop-d.invariant.4 (not-true _ c.loop-d-test.true) (looked) (ready) c.list_one.ensures in
    rw c.joined-d.ensures (turn_less c.loop-d.d _ (not-true _ c.loop-d-test.true) (next) (looked) c.list_one.ensures)

pub loop-d-preserved : goal.loop-d-preserved
loop-d-preserved c =
    let looked : c.look-slot.result ≡ slot_at c.args.table (rest c.args.part.now c.loop-d.d.consumed) = let t = c.args.table in
    c.look-slot.ensures.0 ∙ ap (slot_of t) c.number_at-number.ensures in
    let ready : Ready c.look-slot.result (rest c.args.part.now c.loop-d.d.consumed) c.args.last (length c.loop-d.out - c.loop-d.d.written) (length c.loop-d.area) = c.is_ready.ensures.can c.if-not-is_ready.false in
    let next : Piece c.args.table (lines_for c.args.reader) (Ends c.args.last) c.args.part.now c.args.out.now 0 c.list_one.new.out (joined c.loop-d.d c.list_one.result) = turn_piece c.loop-d.invariant.4 (not-true _ c.loop-d-test.true) (looked) (ready) c.list_one.ensures in
    let next-area : Lent c.args.table c.args.part.now c.args.area.now (put_mid 0 (c.lent-lent.result - 0) c.loop-d.area c.list_one.new.area) (joined c.loop-d.d c.list_one.result) = turn_lent c.loop-d.invariant.5 (not-true _ c.loop-d-test.true) c.lent-lent.result (c.list_one.ensures.under c.args.table (looked)) _ c.lent-lent.ensures in
    let k = c.list_one.auto in
    let i = c.loop-d.invariant in
    (omega (arith, i.0, k), omega (arith, i.1, k), omega (arith, i.2, k), omega (arith, i.3, k), rw c.joined-d.ensures (next), rw c.joined-d.ensures (next-area))

pub returns : goal.returns
returns c =
    stops_ended c.loop-d.invariant.4 c.loop-d.invariant.5 (not-false _ c.loop-d-test.false)
