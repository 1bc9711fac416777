-- `value_orders::pairs::search` meets its contract: the last and the first place of the greatest size lead to the peak. Assumes nothing.
use Prim.Native.Nat.{ℕ, ◌+◌, ◌-◌, ◌<◌}
use mathlib.Core.Path.{sym, ap, ◌∙◌}
use native.Mathlib.Omega.{arith}
use lib.IntN.{nat_abs, pos}
use lib.Signed.{rem_z}
use Rattle.area.specs.Area.{at}
use Rattle.area.specs.Numbers.{stored}
use Rattle.peaks.specs.Stored.{peak_as}
use Rattle.peaks.specs.Peaks.{pair_sizes}
use Rattle.value_orders.specs.Places.{last_below, places_apart, places_meet}
use Rattle.peaks.specs.PairLaws.{first_read, second_read}
use Rattle.value_orders.specs.KeyLaws.{quotient_fits, rest_casts, rest_is}
use Rattle.value_orders.proofs.pairs.search.Goals as goal

pub nonzero_rem-j : goal.nonzero_rem-j
nonzero_rem-j c =
    (omega arith, quotient_fits c.ends-e.ensures.last_value (omega arith))

pub overflow_cast-j : goal.overflow_cast-j
overflow_cast-j c =
    rest_casts c.ends-e.ensures.last_value (omega arith)

pub nonzero_rem-i : goal.nonzero_rem-i
nonzero_rem-i c =
    (omega arith, quotient_fits c.ends-e.ensures.first_value (omega arith))

pub overflow_cast-i : goal.overflow_cast-i
overflow_cast-i c =
    rest_casts c.ends-e.ensures.first_value (omega arith)

pub overflow_sub-i : goal.overflow_sub-i
overflow_sub-i c =
    omega (arith, rest_is c.ends-e.ensures.first_value (omega arith))

pub returns-then-i-j : goal.returns-then-i-j
returns-then-i-j c =
    let i_is = ap (λ (n : ℕ). 511 - n) (rest_is c.ends-e.ensures.first_value (omega arith)) in
    let j_is = rest_is c.ends-e.ensures.last_value (omega arith) in
    let x = at c.args.part.now in
    places_apart x (λ i. x (c.args.h + i)) c.requires.some c.requires.few (λ e. c.if-i-j.true (i_is ∙ e ∙ sym j_is))

pub bounds-part-j : goal.bounds-part-j
bounds-part-j c =
    omega (arith, rest_is c.ends-e.ensures.last_value (omega arith), last_below c.args.h (pair_sizes c.args.h c.args.part.now) c.requires.some c.requires.few, c.requires.size)

pub bounds-part-h : goal.bounds-part-h
bounds-part-h c =
    omega (arith, rest_is c.ends-e.ensures.last_value (omega arith), last_below c.args.h (pair_sizes c.args.h c.args.part.now) c.requires.some c.requires.few, c.requires.size)

pub returns : goal.returns
returns c =
    let i_is = ap (λ (n : ℕ). 511 - n) (rest_is c.ends-e.ensures.first_value (omega arith)) in
    let j_is = rest_is c.ends-e.ensures.last_value (omega arith) in
    let j_of : ℕ = nat_abs (stored (rem_z (stored c.ends-e.result.last) (pos 512))) in
    let below : j_of < c.args.h = rw j_is (last_below c.args.h _ c.requires.some c.requires.few) in
    let x = at c.args.part.now in
    rw c.ok.ensures.value
    (places_meet x (λ i. x (c.args.h + i)) c.requires.some c.requires.few j_is (sym i_is ∙ c.if-i-j.false)
    (peak_as (first_read c.requires below) (second_read c.requires below) c.peak_at.ensures))
