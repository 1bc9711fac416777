-- `value_readings::rounds::answers::share_bits` meets its contract. Assumes nothing.
use Prim.Native.Nat.{ℕ, ◌+◌, ◌-◌, ◌*◌, ◌^◌}
use mathlib.Core.Path.{◌≡◌, sym, subst}
use native.Mathlib.Omega.{arith}
use Rattle.confidences.specs.Values.{Projects}
use Rattle.value_readings.specs.AnswerLaws.{bits_heard, share_asks, signs_asks}
use Rattle.value_readings.proofs.rounds.answers.share_bits.Goals as goal

pub to_signs-requires : goal.to_signs-requires
to_signs-requires c =
    let many : ℕ = 4 * c.size-n.result + c.size-n.result - 4 * c.size-n.result in
    let place : 4 * c.size-n.result ≡ 4 * 2 ^ c.args.m = omega (arith, c.size-n.ensures) in
    let projects : Projects c.args.m c.args.b (4 * c.size-n.result) c.args.area.now = subst (λ (j : ℕ). Projects c.args.m c.args.b j c.args.area.now) (sym (place)) c.requires.projects in
    let all : many ≡ 2 ^ c.args.m = omega (arith, c.size-n.ensures) in
    signs_asks {k = many} (projects) c.requires.sums c.requires.in_projection (place) (all)

pub share-requires : goal.share-requires
share-requires c =
    let many : ℕ = 4 * c.size-n.result + c.size-n.result - 4 * c.size-n.result in
    let place : 4 * c.size-n.result ≡ 4 * 2 ^ c.args.m = omega (arith, c.size-n.ensures) in
    let projects : Projects c.args.m c.args.b (4 * c.size-n.result) c.args.area.now = subst (λ (j : ℕ). Projects c.args.m c.args.b j c.args.area.now) (sym (place)) c.requires.projects in
    let all : many ≡ 2 ^ c.args.m = omega (arith, c.size-n.ensures) in
    let given = share_asks {k = many} (projects) c.requires.sums c.requires.in_projection (place) (all) c.to_signs.auto.part c.to_signs.ensures in record { projects = given.0; sums = given.1 }

pub returns : goal.returns
returns c =
    let many : ℕ = 4 * c.size-n.result + c.size-n.result - 4 * c.size-n.result in
    let place : 4 * c.size-n.result ≡ 4 * 2 ^ c.args.m = omega (arith, c.size-n.ensures) in
    let projects : Projects c.args.m c.args.b (4 * c.size-n.result) c.args.area.now = subst (λ (j : ℕ). Projects c.args.m c.args.b j c.args.area.now) (sym (place)) c.requires.projects in
    let all : many ≡ 2 ^ c.args.m = omega (arith, c.size-n.ensures) in
    bits_heard {k = many} (projects) c.requires.sums c.requires.in_projection (place) (all) c.to_signs.auto.part c.to_signs.ensures
    c.share.ensures
