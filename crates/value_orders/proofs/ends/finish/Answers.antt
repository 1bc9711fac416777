-- `value_orders::ends::finish` meets its contract. Assumes nothing.
use Prim.Native.Nat.{◌^◌, ◌≤◌}
use mathlib.Core.Path.{sym, ◌∙◌}
use native.Mathlib.Omega.{arith}
use lib.IntN.{pos}
use lib.ListN.{length}
use Rattle.words.specs.Written.{Written, written_to}
use Rattle.area.specs.Area.{at}
use Rattle.hadamard.specs.Correlation.{constant_of}
use Rattle.confidences.specs.Confidences.{lowest_zero}
use Rattle.confidences.specs.Values.{front_of}
use Rattle.value_orders.specs.EndLaws.{zero_some, zero_none, ends_erased, ends_accepted, ends_unsettled, signs_bits}
use Rattle.value_orders.proofs.ends.finish.Goals as goal

pub returns-in-Some : goal.returns-in-Some
returns-in-Some c =
    let a = c.args in
    let zero = zero_some a.m a.r a.k a.used a.area.now c.size-n.ensures (omega (arith, c.requires.1)) (sym c.lowest_zero.ensures ∙ c.in-Some.is) in
    let given = ends_erased a.m a.r a.k a.used a.area.now zero.0 zero.1 in record { read = given.0; place = given.1 }

pub holds_codeword-requires : goal.holds_codeword-requires
holds_codeword-requires c =
    let a = c.args in
    let room : 2 ^ a.m ≤ length a.area.now = omega (arith, c.requires.1) in
    let signs : Written (pos 0) 0 (2 ^ a.m) (λ p. pos (constant_of (at a.area.now p))) a.area.now c.to_bits.new.area = written_to c.to_bits.ensures _ c.size-n.ensures in
    let none : 2 ^ a.m ≤ lowest_zero a.m (front_of (2 ^ a.m) a.area.now) = zero_none a.m a.r a.k a.used a.area.now c.size-n.ensures room (λ p e. c.in_default.not-Some p (c.lowest_zero.ensures ∙ e)) in
    (c.requires.0, omega (arith, c.requires.1, signs.long), signs_bits a.m a.r a.k a.used a.area.now none room signs)

pub returns-then-holds_codeword : goal.returns-then-holds_codeword
returns-then-holds_codeword c =
    let a = c.args in
    let room : 2 ^ a.m ≤ length a.area.now = omega (arith, c.requires.1) in
    let signs : Written (pos 0) 0 (2 ^ a.m) (λ p. pos (constant_of (at a.area.now p))) a.area.now c.to_bits.new.area = written_to c.to_bits.ensures _ c.size-n.ensures in
    let none : 2 ^ a.m ≤ lowest_zero a.m (front_of (2 ^ a.m) a.area.now) = zero_none a.m a.r a.k a.used a.area.now c.size-n.ensures room (λ p e. c.in_default.not-Some p (c.lowest_zero.ensures ∙ e)) in
    let t = c.holds_codeword.ensures in
    let given = ends_accepted a.m a.r a.k a.used a.area.now none room signs t.kept (sym t.answer ∙ c.if-holds_codeword.true) in record { read = given.0; place = given.1 }

pub returns : goal.returns
returns c =
    let a = c.args in
    let room : 2 ^ a.m ≤ length a.area.now = omega (arith, c.requires.1) in
    let signs : Written (pos 0) 0 (2 ^ a.m) (λ p. pos (constant_of (at a.area.now p))) a.area.now c.to_bits.new.area = written_to c.to_bits.ensures _ c.size-n.ensures in
    let none : 2 ^ a.m ≤ lowest_zero a.m (front_of (2 ^ a.m) a.area.now) = zero_none a.m a.r a.k a.used a.area.now c.size-n.ensures room (λ p e. c.in_default.not-Some p (c.lowest_zero.ensures ∙ e)) in
    let t = c.holds_codeword.ensures in
    let given = ends_unsettled a.m a.r a.k a.used a.area.now none room signs t.kept (sym t.answer ∙ c.if-holds_codeword.false) in record { read = given.0; place = given.1 }
