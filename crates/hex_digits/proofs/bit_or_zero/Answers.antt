-- `hex::bit_or_zero` meets its contract. Assumes nothing.
use mathlib.Core.Path.{sym}
use lib.ListN.{get_or-eq_default}
use borrow.Author.Rules.{rules}
use native.Mathlib.Omega.{arith}
use Rattle.hex_digits.proofs.bit_or_zero.Goals as goal

pub returns-then-i-message : goal.returns-then-i-message
returns-then-i-message c =
    (search rules, c.requires _)

pub returns-else-i-message : goal.returns-else-i-message
returns-else-i-message c =
    (sym (get_or-eq_default c.args.message.now 0 c.if-i-message.false), omega arith)
