-- `value_orders::read_peak` meets its contract: the peak decides, and its codeword is left by its bits or by its signs. Assumes nothing.
use Prim.Native.Nat.{◌^◌}
use mathlib.Core.Path.{◌≡◌, ◌∙◌}
use native.Mathlib.Omega.{arith}
use lib.ListN.{length}
use lib.Pow.{pow_mono}
use Rattle.std.specs.Prelude.{Some}
use Rattle.area.specs.Area.{at}
use Rattle.area.proofs.AreaLaws.{bit_back}
use Rattle.hadamard.specs.Correlation.{correlation}
use Rattle.peaks.specs.Peaks.{IsPeak}
use Rattle.peaks.specs.Found.{peak_below}
use Rattle.order_one.specs.OrderOne.{peak_bit}
use Rattle.value_orders.specs.SignLaws.{bits_word, leaf_tie, leaf_word}
use Rattle.value_orders.proofs.read_peak.Goals as goal

pub returns-in_default : goal.returns-in_default
returns-in_default c =
    let a = c.args in
    leaf_tie a.m (at a.part.now) a.bits _ (rw c.in_default.is at c.find_peak.ensures)

pub write_affine-requires : goal.write_affine-requires
write_affine-requires c =
    let k : IsPeak (2 ^ c.args.m) (correlation c.args.m (at c.args.part.now)) (Some c.in-Some.peak) = rw c.in-Some.is at c.find_peak.ensures in
    let bit = peak_bit c.args.m (at c.args.part.now) k in
    (rw (bit_back bit) bit, omega (arith, peak_below k, pow_mono {j = 10} c.requires.1))

pub returns-then-bits : goal.returns-then-bits
returns-then-bits c =
    let k : IsPeak (2 ^ c.args.m) (correlation c.args.m (at c.args.part.now)) (Some c.in-Some.peak) = rw c.in-Some.is at c.find_peak.ensures in
    let long : length c.find_peak.new.part ≡ 2 ^ c.args.m = c.find_peak.auto.part ∙ c.requires.2 in
    rw c.if-bits.true (bits_word c.args.m (at c.args.part.now) k (long) c.write_affine.ensures)

pub write_signs-requires : goal.write_signs-requires
write_signs-requires c =
    let k : IsPeak (2 ^ c.args.m) (correlation c.args.m (at c.args.part.now)) (Some c.in-Some.peak) = rw c.in-Some.is at c.find_peak.ensures in
    let bit = peak_bit c.args.m (at c.args.part.now) k in
    let long : length c.find_peak.new.part ≡ 2 ^ c.args.m = c.find_peak.auto.part ∙ c.requires.2 in
    (rw (bit_back bit) bit, omega (arith, peak_below k, pow_mono {j = 10} c.requires.1), record { exponent = c.args.m; power = long })

pub returns : goal.returns
returns c =
    let k : IsPeak (2 ^ c.args.m) (correlation c.args.m (at c.args.part.now)) (Some c.in-Some.peak) = rw c.in-Some.is at c.find_peak.ensures in
    let long : length c.find_peak.new.part ≡ 2 ^ c.args.m = c.find_peak.auto.part ∙ c.requires.2 in
    rw c.if-bits.false (leaf_word c.args.m (at c.args.part.now) k (long) c.write_signs.ensures)
