-- `entries::list_one` meets its contract. Assumes nothing.
use native.Mathlib.Omega.{arith}
use Prim.Native.Nat.{◌*◌}
use Rattle.words.specs.Parts.{front_length}
use Rattle.entries.proofs.list_one.Goals as goal

pub list_found-requires : goal.list_found-requires
list_found-requires c =
    let k = c.body_length-bits in
    let word = front_length (8 * k.result) c.args.word.now (omega (arith, k.ensures, c.requires.1)) in
    let decoded = front_length (8 * k.result) c.args.decoded.now (omega (arith, k.ensures, c.requires.2)) in
    (c.requires.0, omega (arith, word, k.ensures), omega (arith, word, decoded), omega arith, omega arith)
