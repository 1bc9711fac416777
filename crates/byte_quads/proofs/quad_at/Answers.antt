-- `byte_quads::quad_at` meets its contract. Assumes nothing.
use native.Mathlib.Omega.{arith}
use Rattle.byte_quads.proofs.ByteCasts.{packed_double, packed-le, packed_rest, packed_signs}
use Rattle.byte_quads.proofs.quad_at.Goals as goal

pub overflow_cast-result : goal.overflow_cast-result
overflow_cast-result c = record { sfits = omega (arith, packed-le c.requires.bytes c.args.i) }

pub overflow_mul-result-2 : goal.overflow_mul-result-2
overflow_mul-result-2 c = rw (c.from.ensures, c.from-2.ensures, c.from-3.ensures, c.from-4.ensures) (packed_double c.requires.bytes _)

pub overflow_sub-result : goal.overflow_sub-result
overflow_sub-result c = rw (c.from.ensures, c.from-2.ensures, c.from-3.ensures, c.from-4.ensures) (packed_rest c.requires.bytes _)

pub returns : goal.returns
returns c = rw (c.from.ensures, c.from-2.ensures, c.from-3.ensures, c.from-4.ensures) (packed_signs c.requires.bytes _)
