-- `keys::pairs_of` meets its contract. Assumes nothing.
use native.Mathlib.Omega.{arith}
use Rattle.keys.proofs.Digits.{pairs_room, pairs_made}
use Rattle.keys.proofs.pairs_of.Goals as goal

pub overflow_add-result : goal.overflow_add-result
overflow_add-result c =
    record { fits = omega (arith, pairs_room c.requires) }

pub overflow_mul-result : goal.overflow_mul-result
overflow_mul-result c =
    record { fits = omega (arith, pairs_room c.requires) }

pub overflow_add-result-3 : goal.overflow_add-result-3
overflow_add-result-3 c =
    record { fits = pairs_room c.requires }

pub returns : goal.returns
returns c =
    pairs_made c.requires
