-- `words::size` meets its contract: the shift loses nothing. Assumes nothing.
use Prim.Native.Nat.{◌^◌}
use native.Mathlib.Nat.{one-mul, mod-eq_of_lt, lt_of_le_of_lt}
use lib.Pow.{pow_mono}
use lib.Dec.{lit<}
use native.Mathlib.Omega.{arith}
use Rattle.words.proofs.size.Goals as goal

pub returns : goal.returns
returns c =
    rw (one-mul (2 ^ c.args.m)) (mod-eq_of_lt (lt_of_le_of_lt (pow_mono {j = 10} (omega arith)) (lit< tt)))
