-- `words::distance` meets its contract: words of at most 128 places are counted in a byte. Assumes nothing.
use Rattle.std.proofs.Common.{ℕ, ◌^◌, ◌≤◌, sym, ap, ◌∙◌, arith}
use Rattle.std.proofs.Math.Pow.{pow_mono}
use Rattle.words.specs.Sum.{sum_below}
use Rattle.words.specs.Word.{differs, distance}
use Rattle.words.proofs.distance.Goals as goal

pub distance_short-requires : goal.distance_short-requires
distance_short-requires c =
    let short : 2 ^ c.args.m ≤ 128 = pow_mono {j = 7} (omega (arith, c.if-m-lt8.true)) in
    (omega (arith, c.requires.1.size), c.requires.2.size ∙ sym c.requires.1.size, c.requires.1.bits, c.requires.2.bits)

pub returns-then-m-lt8 : goal.returns-then-m-lt8
unfolding distance
returns-then-m-lt8 c =
    c.from.ensures ∙ c.distance_short.ensures ∙ ap (λ (n : ℕ). sum_below n (differs c.args.u.now c.args.v.now)) c.requires.1.size

pub distance_long-requires : goal.distance_long-requires
distance_long-requires c =
    let long : 2 ^ c.args.m ≤ 1024 = pow_mono {j = 10} c.requires.0 in
    (omega (arith, c.requires.1.size), c.requires.2.size ∙ sym c.requires.1.size, c.requires.1.bits, c.requires.2.bits)

pub returns : goal.returns
unfolding distance
returns c =
    c.distance_long.ensures ∙ ap (λ (n : ℕ). sum_below n (differs c.args.u.now c.args.v.now)) c.requires.1.size
