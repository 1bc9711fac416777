-- `unpacking::unpack` meets its contract: the loop writes eight places a turn from the front. Assumes nothing.
use Prim.Native.Nat.{ℕ, ◌+◌, ◌-◌, ◌*◌, ◌/◌, ◌%◌, ◌^◌, ◌<◌}
use mathlib.Core.Path.{◌≡◌, refl, ap, ap₂, ◌∙◌}
use mathlib.Core.List.{List}
use native.Mathlib.Omega.{arith}
use lib.ListN.{length, get_or}
use Rattle.words.specs.Sum.{tabulate}
use Rattle.words.specs.SumLaws.{length-tabulate, get_or-tabulate}
use Rattle.words.specs.Parts.{written_part}
use Rattle.words.specs.Written.{written_none, written_to, written_all}
use Rattle.unpacking.specs.Packed.{packed_bit}
use Rattle.unpacking.proofs.unpack.Goals as goal

-- the bits of byte k stand at the places from 8 * k on
byte_bits : {bits : List ℕ} (s : List ℕ) (k : ℕ) → bits ≡ tabulate 8 (λ i. get_or s (5 + k) 0 / 2 ^ (7 - i) % 2) → (q : ℕ) → q < 8 → get_or bits q 0 ≡ packed_bit s (8 * k + q)
byte_bits s k e q l =
    ap (λ (x : List ℕ). get_or x q 0) e ∙ get_or-tabulate 8 _ 0 q l
    ∙ ap₂ (λ (a b : ℕ). get_or s (5 + a) 0 / 2 ^ (7 - b) % 2) (omega arith) (omega arith)

pub loop-k-init : goal.loop-k-init
loop-k-init c =
    written_none 0 0 _ _

pub loop-k-preserved : goal.loop-k-preserved
loop-k-preserved c =
    let l = c.loop-k in
    let s = c.args.part.now in
    let bits = c.unpack_byte.new.bits in
    let e = c.unpack_byte.ensures in
    let size : length bits ≡ 8 = ap length e ∙ length-tabulate 8 _ in
    let w = written_part l.invariant (8 * l.k) (8 * l.k + 8 - 8 * l.k) bits (omega arith) (omega arith) (omega arith) (λ q h. byte_bits s l.k e q (omega arith)) in
    written_to w (8 * (l.k + 1)) (omega arith)

pub returns : goal.returns
returns c =
    written_all (written_to c.loop-k.invariant (length c.args.word.now) (omega arith)) refl
