-- `direct::first_order` meets its contract: a codeword is its own nearest, and of any other block the peak decides. Assumes nothing.
use Prim.Native.Nat.{◌^◌, ◌-◌}
use mathlib.Core.Path.{◌≡◌, sym, ◌∙◌}
use native.Mathlib.Omega.{arith}
use Rattle.std.specs.Prelude.{Some, None}
use lib.Pow.{pow_mono}
use Rattle.order_one.specs.OrderOne.{PeakOf}
use Rattle.direct.proofs.Answers.{as_block, quads_sought, quads_peak, peak_writes, codeword_gives, tie_gives, written_gives}
use Rattle.direct.proofs.first_order.Goals as goal

pub returns-then-is_affine : goal.returns-then-is_affine
returns-then-is_affine c =
    codeword_gives (omega (arith, c.requires.some)) c.requires.input (sym c.is_affine.ensures ∙ c.if-is_affine.true) c.copy.ensures

pub correlate-requires : goal.correlate-requires
correlate-requires c =
    as_block c.requires

pub overflow_add-q : goal.overflow_add-q
overflow_add-q c =
    let sizes : c.size-q.result ≡ 2 ^ (c.args.m - 2) = c.size-q.ensures in
    omega (arith, sizes, (as_block c.requires).few, pow_mono {j = 5} (as_block c.requires).few)

pub slice_bounds-find_peak-end : goal.slice_bounds-find_peak-end
slice_bounds-find_peak-end c =
    let sizes : c.size-q.result ≡ 2 ^ (c.args.m - 2) = c.size-q.ensures in
    omega (arith, sizes, (as_block c.requires).room, c.correlate.auto)

pub find_peak-requires : goal.find_peak-requires
find_peak-requires c =
    let sizes : c.size-q.result ≡ 2 ^ (c.args.m - 2) = c.size-q.ensures in
    quads_sought c.requires _ _ (sizes) c.correlate.ensures

pub returns-in_default : goal.returns-in_default
returns-in_default c =
    let sizes : c.size-q.result ≡ 2 ^ (c.args.m - 2) = c.size-q.ensures in
    let peaked : PeakOf c.args.m c.args.word.now None = rw c.in_default.is at (quads_peak c.requires _ _ (sizes) c.correlate.ensures c.find_peak.ensures) in
    tie_gives (peaked) c.refused.ensures

pub write_affine-requires : goal.write_affine-requires
write_affine-requires c =
    let sizes : c.size-q.result ≡ 2 ^ (c.args.m - 2) = c.size-q.ensures in
    let peaked : PeakOf c.args.m c.args.word.now (Some c.in-Some.peak) = rw c.in-Some.is at (quads_peak c.requires _ _ (sizes) c.correlate.ensures c.find_peak.ensures) in
    peak_writes c.requires (peaked)

pub returns : goal.returns
returns c =
    let sizes : c.size-q.result ≡ 2 ^ (c.args.m - 2) = c.size-q.ensures in
    let peaked : PeakOf c.args.m c.args.word.now (Some c.in-Some.peak) = rw c.in-Some.is at (quads_peak c.requires _ _ (sizes) c.correlate.ensures c.find_peak.ensures) in
    written_gives (peaked) c.changed.ensures _ c.requires.output c.write_affine.ensures
