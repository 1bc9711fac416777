-- `octets::write_affine` meets its contract: each turn of the loop writes one block of 16. Assumes nothing.
use Prim.Native.Nat.{◌-◌, ◌%◌, ◌≤◌}
use mathlib.Core.Path.{◌≡◌}
use lib.ListN.{length}
use lib.IntN.{nat_abs}
use Rattle.words.specs.Ones.{affine_bit}
use Rattle.words.specs.Written.{Written}
use Rattle.octets.proofs.write_affine.Given as goal

abbrev pub invariant-loop-b : goal.invariant-loop-b
invariant-loop-b l =
    (l.b % 16 ≡ 0) × (l.b ≤ l.n) × (length l.out ≡ l.n) × Written 0 0 l.b (affine_bit l.u (nat_abs l.s)) l.initial.out l.out

abbrev pub decreases-loop-b : goal.decreases-loop-b
decreases-loop-b l =
    l.n - l.b
