-- `blocks::load` meets its contract: a turn writes eight quads and transforms them. Assumes nothing.
use Prim.Native.Nat.{◌+◌, ◌^◌, ◌≤◌}
use mathlib.Core.Path.{refl, ◌∙◌}
use native.Mathlib.Omega.{arith}
use Rattle.blocks.proofs.Loads.{load_none, load_all, load_fits, load_more}
use Rattle.blocks.proofs.load.Goals as goal

pub size-q-requires : goal.size-q-requires
size-q-requires c =
    omega (arith, c.requires.few)

pub loop-i-init : goal.loop-i-init
loop-i-init c =
    (refl, load_none _ _ _)

pub load_eight-requires : goal.load_eight-requires
load_eight-requires c =
    let fits : c.loop-i.i + 8 ≤ 2 ^ c.args.k = let b = c.requires in
    load_fits _ _ b.some b.few c.loop-i.invariant.1 (omega arith) in
    let b = c.requires in
    record { i_in_bounds = (omega (arith, fits, b.size), omega (arith, fits, b.room)); bytes = b.bytes }

pub overflow_add-i : goal.overflow_add-i
overflow_add-i c =
    let fits : c.loop-i.i + 8 ≤ 2 ^ c.args.k = let b = c.requires in
    load_fits _ _ b.some b.few c.loop-i.invariant.1 (omega arith) in
    record { fits = omega (arith, fits, c.requires.room, c.well_formed) }

pub loop-i-smaller : goal.loop-i-smaller
loop-i-smaller c =
    let fits : c.loop-i.i + 8 ≤ 2 ^ c.args.k = let b = c.requires in
    load_fits _ _ b.some b.few c.loop-i.invariant.1 (omega arith) in
    omega (arith, fits)

pub loop-i-preserved : goal.loop-i-preserved
loop-i-preserved c =
    let l = c.loop-i in
    let b = c.requires in
    let e = c.load_eight.ensures in (
      c.load_eight.auto.area ∙ l.invariant.0,
      load_more _ _ b.some b.few l.invariant.1 (omega arith) (omega (arith, b.room)) e,
    )

pub shape_of-area : goal.shape_of-area
shape_of-area c =
    c.loop-i.invariant.0

pub returns : goal.returns
returns c =
    load_all _ _ c.loop-i.invariant.1 (omega arith)
