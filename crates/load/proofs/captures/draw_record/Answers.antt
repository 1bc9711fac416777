-- `load::captures::draw_record` meets its contract. Assumes nothing.
use Prim.Native.Nat.{ℕ, ◌≤◌}
use mathlib.Core.Path.{◌∙◌}
use native.Mathlib.Omega.{arith}
use lib.ListN.{length, replicate}
use Rattle.words.specs.Parts.{front_length}
use Rattle.capture.specs.Cases.{sized}
use Rattle.load.proofs.captures.draw_record.Goals as goal

pub size-n-requires : goal.size-n-requires
size-n-requires c =
    let u = c.requires.0 in (sized _ u.proper u.known).exponent

pub slice_bounds-sent-end : goal.slice_bounds-sent-end
slice_bounds-sent-end c =
    let fits : c.size-n.result ≤ length {A = ℕ} (replicate 1024 0) = let u = c.requires.0 in omega (arith, c.size-n.ensures, (sized _ u.proper u.known).most) in
    fits

pub slice_bounds-block-end : goal.slice_bounds-block-end
slice_bounds-block-end c =
    let fits : c.size-n.result ≤ length {A = ℕ} (replicate 1024 0) = let u = c.requires.0 in omega (arith, c.size-n.ensures, (sized _ u.proper u.known).most) in
    fits

pub draw_record_in-requires : goal.draw_record_in-requires
draw_record_in-requires c =
    let fits : c.size-n.result ≤ length {A = ℕ} (replicate 1024 0) = let u = c.requires.0 in omega (arith, c.size-n.ensures, (sized _ u.proper u.known).most) in
    let q = c.requires in
    let n = front_length {A = ℕ} _ (replicate 1024 0) (fits) ∙ c.size-n.ensures in
    (q.0, n, n, q.1)

pub returns : goal.returns
returns c =
    c.draw_record_in.ensures
