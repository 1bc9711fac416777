-- `value_readings::rounds::hear_few` meets its contract. Assumes nothing.
use Prim.Native.Nat.{suc, ◌+◌, ◌-◌, ◌*◌, ◌/◌}
use mathlib.Core.Path.{◌≡◌}
use native.Mathlib.Omega.{arith}
use lib.Pow.{pow_mono}
use Rattle.value_readings.specs.LeafLaws.{together_four, together_one}
use Rattle.value_readings.proofs.rounds.hear_few.Goals as goal

pub hear-requires : goal.hear-requires
hear-requires c =
    record { poll = c.requires.poll; i_bound = c.requires.next.more }

pub returns-then-heard-lt3 : goal.returns-then-heard-lt3
returns-then-heard-lt3 c =
    rw (together_one _ c.if-heard-lt3.true) c.hear.ensures

pub overflow_add-heard : goal.overflow_add-heard
overflow_add-heard c =
    record { fits = omega (arith, c.requires.next.more, pow_mono {i = suc c.args.m} {j = 10} (omega (arith, c.requires.poll.round.few))) }

pub hear_four-requires : goal.hear_four-requires
hear_four-requires c =
    let four : 4 * ((c.args.heard + 1) / 4) ≡ c.args.heard + 1 = omega (arith, c.requires.next.whole c.if-heard-lt3.false) in
    let p = c.requires in
    let last : 4 * ((c.args.heard + 1) / 4) - 1 ≡ c.args.heard = omega (arith, four) in
    record { le_k = (omega (arith, four), omega (arith, four, p.next.more)); poll = rw last p.poll }

pub returns : goal.returns
returns c =
    let four : 4 * ((c.args.heard + 1) / 4) ≡ c.args.heard + 1 = omega (arith, c.requires.next.whole c.if-heard-lt3.false) in
    let last : 4 * ((c.args.heard + 1) / 4) - 1 ≡ c.args.heard = omega (arith, four) in
    let next : 4 * ((c.args.heard + 1) / 4) + 3 ≡ c.args.heard + 4 = omega (arith, four) in
    rw (together_four _ c.if-heard-lt3.false) (rw (last, next) at c.hear_four.ensures)
