-- `load::captures::capture_in` meets its contract: a refusal of the checks, 6, or the header and the records. Assumes nothing.
use Prim.Native.Nat.{ℕ, ◌+◌, ◌*◌, ◌/◌, ◌^◌}
use mathlib.Core.Path.{◌≡◌, refl, sym, ap, ◌∙◌}
use mathlib.Core.Bool.{Bool}
use native.Mathlib.Omega.{arith}
use lib.Dec.{eqb}
use borrow.Author.Tests.{eq-eqb, eqb-true}
use Rattle.profiles.specs.declared.Profile.{Profile}
use Rattle.tables.specs.Tables.{is_there, some}
use Rattle.capture.specs.Cases.{sized}
use Rattle.load.specs.Records.{capture_size}
use Rattle.load.specs.CallLaws.{length_stops, start_known, start_passes, start_stops}
use Rattle.load.specs.CaptureLaws.{capture_done, capture_refused}
use Rattle.load.specs.RecordLaws.{head_length, rest_length, stored_after}
use Rattle.load.proofs.captures.capture_in.Goals as goal

-- the test of the output's length is the definition's
tests : {t : Bool} (entry : Profile) (n blocks room : ℕ) → n ≡ 2 ^ entry.m → t ≡ eqb room (5 + blocks * (5 + n / 8)) → t ≡ eqb room (capture_size (some entry) blocks)
tests entry n blocks room e t = t ∙ ap (λ (k : ℕ). eqb room (5 + blocks * (5 + k / 8))) e

pub returns-in-Err : goal.returns-in-Err
returns-in-Err c =
    capture_refused _ _ _ _ _ (start_stops c.check_start.ensures _ c.in-Err.is)

pub size-requires : goal.size-requires
size-requires c =
    let e = start_known c.check_start.ensures c.in-Ok.is in
    (sized _ (rw e at c.requires.0) refl).exponent

pub returns-then-not-is_length : goal.returns-then-not-is_length
returns-then-not-is_length c =
    let a = c.args in
    let e = start_known c.check_start.ensures c.in-Ok.is in
    let start = rw e at c.check_start.ensures in
    let tested = tests c.in-Ok.entry _ a.blocks _ c.size.ensures c.is_length.ensures in
    rw e (capture_refused (some c.in-Ok.entry) _ _ _ _ (length_stops start c.in-Ok.is _ (sym tested ∙ c.if-not-is_length.true)))

pub slice_bounds-put_header-end : goal.slice_bounds-put_header-end
slice_bounds-put_header-end c =
    let tested = tests c.in-Ok.entry _ c.args.blocks _ c.size.ensures c.is_length.ensures in
    omega (arith, eqb-true _ _ (sym tested ∙ c.if-not-is_length.false))

pub slice_bounds-draw_records-count : goal.slice_bounds-draw_records-count
slice_bounds-draw_records-count c =
    let tested = tests c.in-Ok.entry _ c.args.blocks _ c.size.ensures c.is_length.ensures in
    let right = eqb-true _ _ (sym tested ∙ c.if-not-is_length.false) in
    omega (arith, right, head_length 5 c.args.out.now c.put_header.ensures refl (omega (arith, right)))

pub slice_bounds-draw_records-start : goal.slice_bounds-draw_records-start
slice_bounds-draw_records-start c =
    let tested = tests c.in-Ok.entry _ c.args.blocks _ c.size.ensures c.is_length.ensures in
    let right = eqb-true _ _ (sym tested ∙ c.if-not-is_length.false) in
    omega (arith, right, head_length 5 c.args.out.now c.put_header.ensures refl (omega (arith, right)))

pub draw_records-requires : goal.draw_records-requires
draw_records-requires c =
    let e = start_known c.check_start.ensures c.in-Ok.is in
    let tested = tests c.in-Ok.entry _ c.args.blocks _ c.size.ensures c.is_length.ensures in
    let right = eqb-true _ _ (sym tested ∙ c.if-not-is_length.false) in (
      record { proper = rw e at c.requires.0; known = refl; byte = c.requires.1 (ap is_there e) },
      ap (λ (n : ℕ). 5 + n / 8) c.size.ensures,
      rest_length 5 c.args.out.now c.put_header.ensures refl (omega (arith, right)) ∙ omega (arith, right),
    )

pub returns : goal.returns
returns c =
    let e = start_known c.check_start.ensures c.in-Ok.is in
    let start = rw e at c.check_start.ensures in
    let tested = tests c.in-Ok.entry _ c.args.blocks _ c.size.ensures c.is_length.ensures in
    let right = eqb-true _ _ (sym tested ∙ c.if-not-is_length.false) in
    rw e (capture_done (some c.in-Ok.entry) _ _ _ _ (start_passes start c.in-Ok.is _ (eq-eqb _ _ right)) c.draw_records.ensures (stored_after 5 c.args.out.now c.put_header.ensures refl refl))
