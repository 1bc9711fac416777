-- `reader::test_in` meets its contract. Assumes nothing.
use mathlib.Core.Path.{ap, ◌∙◌}
use mathlib.Core.List.{List}
use Prim.Native.Nat.{ℕ, ◌^◌}
use native.Mathlib.Omega.{arith}
use Rattle.words.specs.SumLaws.{length-tabulate}
use lib.ListN.{length}
use lib.Pow.{pow_mono}
use Rattle.words.specs.Word.{bit}
use Rattle.code.specs.Code.{low_test}
use Rattle.coefficients.specs.Transformed.{coefficients, coefficients_test}
use Rattle.reader.proofs.test_in.Goals as goal

pub is_low-requires : goal.is_low-requires
is_low-requires c =
    (c.requires.1, omega (arith, ap length c.transform.ensures ∙ length-tabulate (2 ^ c.args.m) _, pow_mono {j = 10} c.requires.0))

pub returns : goal.returns
returns c =
    let t = c.transform.ensures ∙ ap (coefficients c.args.m) c.copy.ensures in
    (c.is_low.ensures ∙ ap (λ (x : List ℕ). low_test c.args.r (bit x) (length x)) t ∙ coefficients_test c.args.m c.args.r c.args.word.now, t)
