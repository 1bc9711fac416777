-- `array_lines::columns::decode_columns` meets its contract. Assumes nothing.
use Prim.Native.Nat.{ℕ}
use mathlib.Core.Path.{◌∙◌}
use native.Mathlib.Omega.{arith}
use lib.ListN.{replicate}
use lib.Pow.{pow_mono}
use Rattle.words.specs.Parts.{front_length}
use Rattle.array_lines.proofs.columns.decode_columns.Goals as goal

pub slice_bounds-line-end : goal.slice_bounds-line-end
slice_bounds-line-end c =
    omega (arith, c.size-b.ensures, pow_mono {j = 6} c.requires.reads.side.most)

pub slice_bounds-left-end : goal.slice_bounds-left-end
slice_bounds-left-end c =
    omega (arith, c.size-b.ensures, pow_mono {j = 6} c.requires.reads.side.most)

pub decode_each-requires : goal.decode_each-requires
decode_each-requires c =
    let p = c.requires in
    let s = c.size-b in
    let own = front_length s.result (replicate {A = ℕ} 64 0) (omega (arith, s.ensures, pow_mono {j = 6} p.reads.side.most)) ∙ s.ensures in
    record { reads = p.reads; few = p.few; input = p.input; taken = own; space = own }
