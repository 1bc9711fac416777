-- `affine_test::added` meets its contract. Assumes nothing.
use Rattle.std.proofs.Common.{◌≡◌, ap, ap₂, ◌∙◌, w32}
use Rattle.std.specs.Int.Bits.{bit_xor}
use mir.Facts.{to_z-of_z}
use Rattle.area.specs.Area.{at}
use Rattle.words.specs.Xor.{xor_bits}
use Rattle.affine_test.proofs.added.Goals as goal

pub returns : goal.returns
returns g c =
    let B = g.M.Mark.bit_of in
    let i = c.requires.first.1 in
    let j = c.requires.second.1 in
    let low = g.met.M.Mark.low in
    let x : c.bit.result ≡ B (at c.args.area.now c.args.i) = c.bit.ensures ∙ ap B (to_z-of_z {w = w32} (g.met.M.Mark.fits _ i)) in
    let y : c.bit-2.result ≡ B (at c.args.area.now c.args.j) = c.bit-2.ensures ∙ ap B (to_z-of_z {w = w32} (g.met.M.Mark.fits _ j)) in
    ap₂ bit_xor x y ∙ xor_bits _ _ (low _ i) (low _ j)
