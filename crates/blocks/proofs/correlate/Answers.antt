-- `blocks::correlate` meets its contract: the quads, each eight of them transformed, then the levels after. Assumes nothing.
use Prim.Native.Nat.{◌-◌}
use native.Mathlib.Omega.{arith}
use lib.ListN.{take}
use Rattle.correlations.specs.Begun.{Blockwise, blockwise_all, blockwise_length, end_at}
use Rattle.blocks.specs.Blocks.{quads_of}
use Rattle.blocks.proofs.Loads.{eights_done, correlated}
use Rattle.blocks.proofs.correlate.Goals as goal

pub levels-requires : goal.levels-requires
levels-requires c =
    let eights : let s = c.args in
    Blockwise 8 s.k (quads_of s.k s.word.now) (take (c.size-q.result - 0) c.load.new.area) = let b = c.requires in
    eights_done _ _ b.some b.few c.load.ensures c.size-q.ensures in
    let e = c.size-q.ensures in
    let b = c.requires in
    (record { exponent = _; from = _; done = eights }, end_at 3 _ e b.some (omega (arith, e, blockwise_length (eights))))

pub returns : goal.returns
returns c =
    let eights : let s = c.args in
    Blockwise 8 s.k (quads_of s.k s.word.now) (take (c.size-q.result - 0) c.load.new.area) = let b = c.requires in
    eights_done _ _ b.some b.few c.load.ensures c.size-q.ensures in
    let e = c.size-q.ensures in
    let b = c.requires in
    let w = c.levels.ensures _ _ (eights) in
    correlated _ _ b.some b.few c.load.ensures e (blockwise_all w (omega (arith, e, blockwise_length w)))
