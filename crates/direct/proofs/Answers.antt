-- A block's peak, and the answers that it gives. Assumes nothing.
use Prim.Native.Nat.{ℕ, suc, ◌+◌, ◌-◌, ◌*◌, ◌%◌, ◌^◌, ◌≤◌, ◌<◌}
use mathlib.Core.Path.{◌≡◌, refl, sym, ap, subst, ◌∙◌}
use mathlib.Core.Bool.{true, false}
use mathlib.Core.List.{List}
use native.Mathlib.Omega.{arith}
use Rattle.std.specs.Prelude.{Option, Some, None}
use lib.IntN.{ℤ, nat_abs}
use lib.ListN.{length, take}
use lib.Pow.{pow_mono}
use Rattle.words.specs.Ones.{affine_bit}
use Rattle.words.specs.Sum.{tabulate}
use Rattle.words.specs.Word.{IsWord}
use Rattle.area.specs.Area.{IsBit}
use Rattle.area.proofs.AreaLaws.{bit_back}
use Rattle.area.specs.Numbers.{stored}
use Rattle.hadamard.specs.Correlation.{values, correlation, affine}
use Rattle.peaks.specs.declared.Peak.{Peak}
use Rattle.peaks.specs.Peaks.{IsPeak}
use Rattle.peaks.specs.Found.{peak_below}
use Rattle.byte_quads.specs.ByteQuads.{quad_at}
use Rattle.blocks.specs.Blocks.{Block}
use Rattle.code.specs.Code.{codeword_test}
use Rattle.code.proofs.Codewords.{codeword_of_test}
use Rattle.rule.specs.Reading.{order1}
use Rattle.rule.proofs.Nearest.{order1_codeword}
use Rattle.told.specs.Told.{as_accepted, as_refused, numbers_in}
use Rattle.told.specs.ToldLaws.{changed_kept}
use Rattle.told.specs.declared.Told.{Told}
use Rattle.told.specs.declared.Noise.TheVariants.{Tie}
use Rattle.order_one.specs.OrderOne.{PeakOf, nearest, order1_tie, order1-nearest, constant_bit}
use Rattle.block_peak.specs.Sought.{value_at, Sought}
use Rattle.direct.specs.Direct.{Readable, Gives}
use Rattle.direct.specs.BlockPeak.{BlockQuads, block_sought, block_peak}

module _ {m : ℕ} {word out : List ℕ} {area : List ℤ} (r : Readable m word out area) where
  exponent : suc (suc (m - 2)) ≡ m
  exponent = omega (arith, r.some)

  places : 4 * 2 ^ (m - 2) ≡ 2 ^ m
  places = omega (arith, ap (λ (i : ℕ). 2 ^ i) exponent)

  pub as_block : Block (m - 2) word area
  as_block = record {
    some = omega (arith, r.some);
    few = omega (arith, r.few);
    size = r.input.size ∙ sym places;
    bytes = record { bits = r.input.bits };
    room = omega (arith, r.room, places);
  }

  -- the area's first q numbers, after the transform
  module _ (q : ℕ) (ys : List ℤ) (eq : q ≡ 2 ^ (m - 2)) (e : take (2 ^ (m - 2)) ys ≡ tabulate (2 ^ (m - 2)) (correlation (m - 2) (quad_at word))) where
    quads_are : BlockQuads (m - 2) word (take (q - 0) ys)
    quads_are =
        let all : q - 0 ≡ 2 ^ (m - 2) = omega arith in
        record {
          few = omega (arith, r.few);
          word = subst (λ (i : ℕ). IsWord i word) (sym exponent) r.input;
          quads = ap (λ (i : ℕ). take i ys) all ∙ e;
        }

    pub quads_sought : Sought (q + q) (take (q - 0) ys)
    quads_sought = block_sought quads_are (q + q) (omega arith)

    pub quads_peak : {o : Option Peak} → IsPeak (q + q + (q + q)) (value_at (take (q - 0) ys)) o → PeakOf m word o
    quads_peak {o} s = subst (λ (i : ℕ). PeakOf i word o) exponent (block_peak quads_are (q + q) (omega arith) s)

  sixteens : length out % 16 ≡ 0
  sixteens =
      let e : m ≡ suc (suc (suc (suc (m - 4)))) = omega (arith, r.some) in
      omega (arith, r.output, ap (λ (i : ℕ). 2 ^ i) e)

  -- what writing the codeword asks
  pub peak_writes : {p : Peak} → PeakOf m word (Some p) → IsBit (stored p.constant) × (p.mask < 1024) × (length out % 16 ≡ 0)
  peak_writes {p} k =
      let bit = constant_bit k in
      (rw (bit_back bit) bit, omega (arith, peak_below k.peak, pow_mono {i = m} {j = 10} (omega (arith, r.few))), sixteens)

-- a block that is a codeword already
pub codeword_gives :
    {m : ℕ} {w out out' : List ℕ} → 1 ≤ m → IsWord m w → codeword_test m 1 w ≡ true → out' ≡ w
    → Gives (order1 m (values w)) w out out' (record { answer = as_accepted 0 1; kept = true })
codeword_gives {m} {w} hm hw e o =
    rw (order1_codeword hm (codeword_of_test m 1 w hw e)) (record { answer = refl; output = o; kept = λ q. refl })

module _ {m : ℕ} {w : List ℕ} where
  pub tie_gives : PeakOf m w None → {out : List ℕ} {t : Told} → (t.answer ≡ as_refused Tie 0 1) × (t.kept ≡ false) → Gives (order1 m (values w)) w out out t
  tie_gives k c = rw (order1_tie k) (record { answer = ap numbers_in c.0; output = refl; kept = changed_kept c })

  module _ {p : Peak} (k : PeakOf m w (Some p)) where
    written_is : tabulate (2 ^ m) (affine_bit p.mask (nat_abs (stored p.constant))) ≡ nearest m w p
    unfolding affine
    written_is =
        ap (λ (z : ℤ). tabulate (2 ^ m) (affine_bit p.mask (nat_abs z))) (bit_back (constant_bit k) ∙ k.peak.constant)

    pub written_gives :
        {out out' : List ℕ} {t : Told} → (t.answer ≡ as_accepted 0 1) × (t.kept ≡ false) → (n : ℕ) → n ≡ 2 ^ m
        → out' ≡ tabulate n (affine_bit p.mask (nat_abs (stored p.constant))) → Gives (order1 m (values w)) w out out' t
    written_gives c n en o =
        rw (order1-nearest k)
        (record {
          answer = ap numbers_in c.0;
          kept = changed_kept c;
          output = o ∙ ap (λ (i : ℕ). tabulate i (affine_bit p.mask (nat_abs (stored p.constant)))) en ∙ written_is;
        })
