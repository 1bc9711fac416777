-- `octets::first_eight` meets its contract. Assumes nothing.
use mathlib.Core.Path.{◌≡◌, ◌∙◌}
use native.Mathlib.Omega.{arith}
use lib.IntN.{pos, nat_abs}
use Rattle.area.proofs.AreaLaws.{bit_is, bit_lt, bit_back}
use Rattle.area.specs.Numbers.{stored}
use Rattle.octets.specs.OctetLaws.{first_bits}
use Rattle.octets.proofs.first_eight.Goals as goal

pub overflow_cast-a : goal.overflow_cast-a
overflow_cast-a c =
    let constant : stored c.args.s ≡ pos (nat_abs c.args.s) = bit_back c.requires ∙ bit_is c.requires in
    rw (constant) (tt, record { fits = omega (arith, bit_lt c.requires) })

pub overflow_mul-a : goal.overflow_mul-a
overflow_mul-a c =
    let constant : stored c.args.s ≡ pos (nat_abs c.args.s) = bit_back c.requires ∙ bit_is c.requires in
    rw (constant) record { fits = omega (arith, bit_lt c.requires) }

pub returns : goal.returns
returns c =
    rw (bit_back c.requires, c.parity.ensures, c.parity-2.ensures, c.parity-3.ensures)
    (first_bits c.args.u (nat_abs c.args.s) (bit_lt c.requires))
