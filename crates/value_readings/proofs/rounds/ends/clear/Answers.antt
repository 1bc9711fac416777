-- `value_readings::rounds::ends::clear` meets its contract. Assumes nothing.
use Prim.Native.Nat.{ℕ, suc, ◌+◌, ◌-◌, ◌*◌, ◌^◌, ◌≤◌}
use mathlib.Core.Path.{◌≡◌, ap, ◌∙◌}
use mathlib.Core.List.{List}
use native.Mathlib.Omega.{arith}
use lib.IntN.{ℤ, pos}
use lib.ListN.{length, take, drop, replicate, length-replicate, get_or-replicate}
use borrow.Rule.Slice.PartMut.{put_mid}
use Rattle.words.specs.Parts.{part_length, written_part}
use Rattle.words.specs.Written.{Written, written_none, written_to}
use Rattle.area.specs.Area.{at}
use Rattle.value_readings.proofs.rounds.ends.clear.Goals as goal

-- zeros where the sums stand
cleared : (m n k : ℕ) (xs zs : List ℤ) → n ≡ 2 ^ suc m → k ≡ 2 ^ suc m → 8 * 2 ^ m ≤ length xs → zs ≡ replicate (length (take k (drop n xs))) (pos 0)
    → Written (pos 0) (2 ^ suc m) (2 ^ suc m) (λ p. pos 0) xs (put_mid n k xs zs)
cleared m n k xs zs en ek room e =
    let fits : n + k ≤ length xs = omega arith in
    let long : length (take k (drop n xs)) ≡ k = part_length (pos 0) n k xs fits in
    written_to
    (written_part (written_none (pos 0) (2 ^ suc m) (λ p. pos 0) xs) n k zs (omega arith) fits (ap length e ∙ length-replicate _ _ ∙ long)
    (λ q l. ap (λ (y : List ℤ). at y q) e ∙ get_or-replicate (length (take k (drop n xs))) q (pos 0) (pos 0) (omega (arith, long))))
    (2 ^ suc m) (omega arith)

pub returns : goal.returns
returns c =
    let n = 2 * c.size-n.result in
    cleared c.args.m n (2 * n - n) c.args.area.now _
    (omega (arith, c.size-n.ensures)) (omega (arith, c.size-n.ensures)) c.requires.1 c.fill.ensures
