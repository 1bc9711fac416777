-- The greatest key gives the size and the mask of a pair, whose numbers lead to the peak. Assumes nothing.
use Rattle.std.specs.Prelude.{ℕ, ◌<◌, ◌^◌, ◌/◌, ◌%◌, ◌≡◌, List, ℤ, pos, nat_abs, T}
use Rattle.std.proofs.Common.{sym, ap, ◌∙◌, arith, Fits}
use Rattle.std.specs.Int.{w32}
use Rattle.std.specs.Int.Signed.{mag, non_neg}
use Rattle.area.specs.Area.{at}
use Rattle.area.specs.Numbers.{stored, stored-eq}
use Rattle.keys.specs.Keys.{greatest_key}
use Rattle.quads.specs.Quads.{Bounded, Raisable}
use Rattle.peaks.specs.Stored.{as_it_is, number_read}
use Rattle.block_peak.specs.Sought.{Sought}
use Rattle.block_peak.specs.QuadPeaks.{firsts, lasts, quad_sizes_small, Top, top_found, top_peak, top_shared, top_first, top_last, top_quad_below}
use Rattle.block_peak.proofs.find_peak.Goals as goal

-- ---- the greatest key, as the code has it
module _ {h : ℕ} {quads : List ℤ} {g : ℤ} (s : Sought h quads) (fits : mag g < 2 ^ 31) (e : g ≡ pos (greatest_key quads)) where
  abbrev key : ℕ
  key = nat_abs (stored g)

  top_is : stored g ≡ pos (greatest_key quads)
  top_is = as_it_is fits ∙ e

  top_casts : T (non_neg (stored g)) × Fits w32 key
  top_casts = rw top_is (tt, record { fits = omega (arith, ap mag e, fits) })

  top_at : Top quads key
  top_at = rw top_is (top_found quads s.all.few s.some)

  -- the quad that has it
  quad_bounded : Bounded (at quads (key % 1024 / 4))
  quad_bounded = s.all.each _ (top_quad_below top_at)

  quad_read : stored (at quads (key % 1024 / 4)) ≡ at quads (key % 1024 / 4)
  quad_read = stored-eq _ (omega (arith, quad_bounded.raisable.small))

  quad_raisable : Raisable (stored (at quads (key % 1024 / 4)))
  quad_raisable = rw quad_read quad_bounded.raisable

-- ---- the needs
pub overflow_cast-top : goal.overflow_cast-top
overflow_cast-top c = top_casts c.requires c.greatest_key-top.type_inv c.greatest_key-top.ensures

pub bounds-quads-j : goal.bounds-quads-j
bounds-quads-j c = top_quad_below (top_at c.requires c.greatest_key-top.type_inv c.greatest_key-top.ensures)

pub pair_at-pair-requires : goal.pair_at-pair-requires
pair_at-pair-requires c = quad_raisable c.requires c.greatest_key-top.type_inv c.greatest_key-top.ensures

pub returns-then-not-is_alone : goal.returns-then-not-is_alone
returns-then-not-is_alone c =
    let xs : List ℤ = c.args.quads.now in
    let t = top_at c.requires c.greatest_key-top.type_inv c.greatest_key-top.ensures in
    let read = quad_read c.requires c.greatest_key-top.type_inv c.greatest_key-top.ensures in
    let first : stored c.pair_at-pair.result.x ≡ firsts xs t.pair = number_read (c.pair_at-pair.ensures.0 ∙ top_first t read) (omega (arith, quad_sizes_small xs t.pair)) in
    let last : stored c.pair_at-pair.result.y ≡ lasts xs t.pair = number_read (c.pair_at-pair.ensures.1 ∙ top_last t read) (omega (arith, quad_sizes_small xs t.pair)) in
    top_shared c.requires t first last (sym c.is_alone.ensures ∙ c.if-not-is_alone.true)

pub returns : goal.returns
returns c =
    let xs : List ℤ = c.args.quads.now in
    let t = top_at c.requires c.greatest_key-top.type_inv c.greatest_key-top.ensures in
    let read = quad_read c.requires c.greatest_key-top.type_inv c.greatest_key-top.ensures in
    let first : stored c.pair_at-pair.result.x ≡ firsts xs t.pair = number_read (c.pair_at-pair.ensures.0 ∙ top_first t read) (omega (arith, quad_sizes_small xs t.pair)) in
    let last : stored c.pair_at-pair.result.y ≡ lasts xs t.pair = number_read (c.pair_at-pair.ensures.1 ∙ top_last t read) (omega (arith, quad_sizes_small xs t.pair)) in
    rw c.ok.ensures.value (top_peak c.requires t first last (sym c.is_alone.ensures ∙ c.if-not-is_alone.false) c.peak_at.ensures)
