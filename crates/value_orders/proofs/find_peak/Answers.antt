-- `value_orders::find_peak` meets its contract: the pairs that it searches are the correlations of the halves. Assumes nothing.
use Prim.Native.Nat.{ℕ, suc, ◌+◌, ◌-◌, ◌^◌}
use mathlib.Core.Path.{◌≡◌, ap, subst}
use native.Mathlib.Omega.{arith}
use lib.ListN.{length}
use Rattle.area.specs.Area.{at}
use Rattle.hadamard.specs.Correlation.{correlation}
use Rattle.peaks.specs.Peaks.{IsPeak}
use Rattle.value_orders.specs.PeakLaws.{Halves, values_summable, back_pairs, back_peak}
use Rattle.value_orders.proofs.find_peak.Goals as goal

pub correlate_halves-requires : goal.correlate_halves-requires
correlate_halves-requires c =
    let exponent : suc (c.args.m - 1) ≡ c.args.m = omega (arith, c.requires.0) in
    let long : length c.args.part.now ≡ c.size-h.result + c.size-h.result = omega (arith, c.size-h.ensures, c.requires.2, ap (λ (r : ℕ). 2 ^ r) (exponent)) in
    let halves : let a = c.args in Halves (a.m - 1) c.size-h.result a.part.now = record {
      few = omega (arith, c.requires.1);
      half = c.size-h.ensures;
      size = long;
      small = λ p l. c.requires.3.small p (omega (arith, long, c.requires.2));
    } in
    values_summable (halves)

pub search-requires : goal.search-requires
search-requires c =
    let exponent : suc (c.args.m - 1) ≡ c.args.m = omega (arith, c.requires.0) in
    let long : length c.args.part.now ≡ c.size-h.result + c.size-h.result = omega (arith, c.size-h.ensures, c.requires.2, ap (λ (r : ℕ). 2 ^ r) (exponent)) in
    let halves : let a = c.args in Halves (a.m - 1) c.size-h.result a.part.now = record {
      few = omega (arith, c.requires.1);
      half = c.size-h.ensures;
      size = long;
      small = λ p l. c.requires.3.small p (omega (arith, long, c.requires.2));
    } in
    back_pairs (halves) c.correlate_halves.ensures

pub returns : goal.returns
returns c =
    let exponent : suc (c.args.m - 1) ≡ c.args.m = omega (arith, c.requires.0) in
    let long : length c.args.part.now ≡ c.size-h.result + c.size-h.result = omega (arith, c.size-h.ensures, c.requires.2, ap (λ (r : ℕ). 2 ^ r) (exponent)) in
    let halves : let a = c.args in Halves (a.m - 1) c.size-h.result a.part.now = record {
      few = omega (arith, c.requires.1);
      half = c.size-h.ensures;
      size = long;
      small = λ p l. c.requires.3.small p (omega (arith, long, c.requires.2));
    } in
    subst (λ (r : ℕ). IsPeak (2 ^ r) (correlation r (at c.args.part.now)) c.search.result) (exponent)
    (back_peak (halves) c.correlate_halves.ensures c.search.ensures)
