-- `load::records::octet` meets its contract. Assumes nothing.
use Prim.Native.Nat.{ℕ, ◌*◌, ◌<◌, ◌≤◌, ◌^◌}
use mathlib.Core.Path.{◌≡◌, refl, ap, ◌∙◌}
use native.Mathlib.Omega.{arith}
use lib.Pow.{pow_mono}
use Rattle.words.specs.Word.{bit}
use Rattle.words.specs.Sum.{total}
use Rattle.load.specs.RecordLaws.{binary, binary-lt, binary_more}
use Rattle.load.proofs.records.octet.Goals as goal

-- what is read so far leaves room for one bit more
room : (f : ℕ → ℕ) → ((i : ℕ) → f i < 2) → (i b : ℕ) → i < 8 → b ≡ binary i f → b * 2 < 255
room f h i b l e = let q : 2 ^ i ≤ 2 ^ 7 = pow_mono (let l : i ≤ 7 = omega arith in l) in omega (arith, binary-lt f h i)

pub loop-x-init : goal.loop-x-init
unfolding total
loop-x-init c =
    refl

pub overflow_mul-b : goal.overflow_mul-b
overflow_mul-b c =
    omega (arith, room _ c.requires.1 c.loop-x.x-index c.loop-x.b (omega arith) c.loop-x.invariant)

pub overflow_add-b : goal.overflow_add-b
overflow_add-b c =
    omega (arith, room _ c.requires.1 c.loop-x.x-index c.loop-x.b (omega arith) c.loop-x.invariant, c.requires.1 c.loop-x.x-index)

pub loop-x-preserved : goal.loop-x-preserved
loop-x-preserved c =
    let f = bit c.args.bits.now in
    rw c.loop-x.invariant (binary_more f c.loop-x.x-index)

pub returns : goal.returns
returns c =
    c.loop-x.invariant ∙ ap (λ (n : ℕ). binary n (bit c.args.bits.now)) {x = c.loop-x.x-index} {y = 8} (omega arith)
