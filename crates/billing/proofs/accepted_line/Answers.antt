-- `billing::accepted_line` meets its contract. Assumes nothing.
use native.Mathlib.Omega.{arith}
use Prim.Native.Nat.{◌≤◌}
use mathlib.Core.Path.{◌∙◌}
use lib.ListN.{length}
use Rattle.words.specs.Parts.{front_length}
use Rattle.code.proofs.Dimension.{dimension_most, dimension_size}
use Rattle.billing.proofs.accepted_line.Goals as goal

pub slice_bounds-message_line-end : goal.slice_bounds-message_line-end
slice_bounds-message_line-end c =
    omega (arith, c.dimension-k.ensures, dimension_size c.args.p.m c.args.p.r, c.requires.1, c.requires.0.codeword.word.size)

pub message_line-requires : goal.message_line-requires
message_line-requires c =
    let e = c.dimension-k.ensures in
    let most = dimension_most c.args.p.m c.args.p.r c.requires.0.code.most in
    let fits : c.dimension-k.result ≤ length c.args.buffer.now = omega (arith, e, dimension_size c.args.p.m c.args.p.r, c.requires.1, c.requires.0.codeword.word.size) in
    let size = front_length c.dimension-k.result c.args.buffer.now fits in
    (record { code = c.requires.0.code; codeword = c.requires.0.codeword; sized = size ∙ e; small = omega (arith, size, e, most) }, omega arith)
