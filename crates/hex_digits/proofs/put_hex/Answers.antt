-- `hex::put_hex` meets its contract: the loop writes a digit a turn. Assumes nothing.
use Prim.Native.Nat.{◌+◌}
use mathlib.Core.Path.{refl, ap, ◌∙◌}
use Rattle.words.specs.Written.{written_none, written_more, written_to}
use Rattle.text.specs.Numbers.{hex_digit, hex_of}
use Rattle.text.specs.TextLaws.{a_run}
use native.Mathlib.Omega.{arith}
use Rattle.hex_digits.proofs.put_hex.Goals as goal

pub loop-i-init : goal.loop-i-init
loop-i-init c =
    (refl, omega arith, refl, written_none 0 _ _ _)

pub nibble_at-requires : goal.nibble_at-requires
nibble_at-requires c =
    (c.requires.0, omega arith)

pub loop-i-preserved : goal.loop-i-preserved
loop-i-preserved c =
    let l = c.loop-i in
    let w = written_more l.invariant.3 (c.args.at + l.i) _ (omega arith) (omega arith) (c.hex_digit.ensures ∙ ap hex_digit c.nibble_at.ensures.0) in
    (refl, omega arith, w.long, w)

pub returns : goal.returns
unfolding hex_of
returns c =
    a_run (written_to c.loop-i.invariant.3 _ (omega arith)) (omega arith)
