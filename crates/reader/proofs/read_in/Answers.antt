-- `reader::read_in` meets its contract: what is gathered of the coefficients is the message. Assumes nothing.
use mathlib.Core.Path.{sym, ap, ◌∙◌}
use mathlib.Core.List.{List}
use Prim.Native.Nat.{ℕ, ◌≤◌}
use lib.ListN.{length}
use lib.Pow.{pow_mono}
use Rattle.words.specs.Word.{bit}
use Rattle.code.specs.Code.{gather}
use Rattle.reader.specs.Ranks.{rank_is}
use Rattle.coefficients.specs.Transformed.{coefficients-length, coefficients_message}
use Rattle.reader.proofs.read_in.Goals as goal

pub degrees-requires : goal.degrees-requires
degrees-requires c =
    let e = ap length c.test_in.ensures.1 ∙ coefficients-length c.args.m c.args.r c.args.word.now in
    let small : length c.test_in.new.t ≤ 1024 = rw e (pow_mono {j = 10} c.requires.0) in
    (small, small)

pub gather-requires : goal.gather-requires
gather-requires c =
    (c.degrees.ensures, rank_is c.args.m c.args.r c.requires.4 (ap length c.test_in.ensures.1 ∙ coefficients-length c.args.m c.args.r c.args.word.now))

pub returns-then-test_in : goal.returns-then-test_in
returns-then-test_in c =
    let t = c.test_in.ensures in (
      sym c.if-test_in.true ∙ t.0,
      c.gather.ensures ∙ ap (λ (x : List ℕ). gather c.args.r (bit x) (length x)) t.1
          ∙ coefficients_message c.args.m c.args.r c.args.word.now,
    )
