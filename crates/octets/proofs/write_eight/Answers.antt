-- `octets::write_eight` meets its contract. Assumes nothing.
use Prim.Native.Nat.{ℕ, zero, suc, ◌+◌, ◌/◌, ◌%◌, ◌^◌, ◌<◌, ◌≤◌}
use mathlib.Core.Path.{◌≡◌, refl, sym, ap, ◌∙◌}
use mathlib.Core.List.{List}
use native.Mathlib.Nat.{div-one}
use native.Mathlib.Omega.{arith}
use lib.ListN.{length, set, length-set}
use Rattle.words.specs.Written.{written_eight}
use Rattle.octets.proofs.write_eight.Goals as goal

-- the slice after the first byte and k more
abbrev after : List ℕ → ℕ → ℕ → ℕ → List ℕ
after xs b x zero = set xs b (x % 256)
after xs b x (suc k) = set (after xs b x k) (b + suc k) (x / 256 ^ suc k % 256)

after_long : (xs : List ℕ) (b x k : ℕ) → length (after xs b x k) ≡ length xs
after_long xs b x zero = length-set xs b (x % 256)
after_long xs b x (suc k) = length-set (after xs b x k) (b + suc k) (x / 256 ^ suc k % 256) ∙ after_long xs b x k

room : (xs : List ℕ) (b x k : ℕ) → k < 7 → b + 8 ≤ length xs → b + suc k < length (after xs b x k)
room xs b x k l h = rw (after_long xs b x k) (omega arith)

pub returns : goal.returns
returns c =
    let x = c.args.x in
    written_eight c.requires (ap (λ (y : ℕ). y % 256) (sym (div-one x))) refl refl refl refl refl refl refl

pub shape_of-out : goal.shape_of-out
shape_of-out c = (returns c).long
