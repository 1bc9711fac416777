-- `load::next_in` meets its contract: a refusal of the checks, 6, or the block drawn. Assumes nothing.
use Prim.Native.Nat.{ℕ, ◌≤◌}
use mathlib.Core.Path.{refl, sym, ◌∙◌}
use native.Mathlib.Omega.{arith}
use lib.ListN.{length, replicate}
use borrow.Author.Tests.{eq-eqb, ne_eqb}
use Rattle.words.specs.Parts.{front_length}
use Rattle.tables.specs.Tables.{some}
use Rattle.capture.specs.Cases.{sized}
use Rattle.load.specs.CallLaws.{block_done, block_refused, entry_code, length_stops, start_known, start_passes, start_stops}
use Rattle.load.proofs.next_in.Goals as goal

pub returns-in-Err : goal.returns-in-Err
returns-in-Err c =
    block_refused _ _ _ (start_stops c.check_start.ensures _ c.in-Err.is) c.refuse.ensures

pub size-n-requires : goal.size-n-requires
size-n-requires c =
    let e = start_known c.check_start.ensures c.in-Ok.is in
    (sized _ (rw e at c.requires) refl).exponent

pub returns-then-word-n : goal.returns-then-word-n
returns-then-word-n c =
    let e = start_known c.check_start.ensures c.in-Ok.is in
    block_refused _ _ _
    (length_stops c.check_start.ensures c.in-Ok.is _ (rw e (ne_eqb _ _ (λ z. c.if-word-n.true (z ∙ sym c.size-n.ensures)))))
    c.refuse-then-word-n.ensures

pub slice_bounds-sent-end : goal.slice_bounds-sent-end
slice_bounds-sent-end c =
    let e = start_known c.check_start.ensures c.in-Ok.is in
    omega (arith, c.size-n.ensures, (sized _ (rw e at c.requires) refl).most)

pub draw_block-p-requires : goal.draw_block-p-requires
draw_block-p-requires c =
    let e = start_known c.check_start.ensures c.in-Ok.is in
    let proper = rw e at c.requires in
    let fits : c.size-n.result ≤ length {A = ℕ} (replicate 1024 0) = omega (arith, c.size-n.ensures, (sized _ proper refl).most) in
    (entry_code proper refl, front_length {A = ℕ} _ (replicate 1024 0) fits ∙ c.size-n.ensures, c.if-word-n.false ∙ c.size-n.ensures)

pub returns : goal.returns
returns c =
    let e = start_known c.check_start.ensures c.in-Ok.is in
    let start = rw e at c.check_start.ensures in
    rw e (block_done (some c.in-Ok.entry) _ _ (start_passes start c.in-Ok.is _ (eq-eqb _ _ (c.if-word-n.false ∙ c.size-n.ensures))) c.draw_block-p.ensures)
