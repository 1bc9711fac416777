-- The cycle of calls {passes}. Assumes nothing.
use Rattle.std.proofs.Common.{ℕ, not, List, ◌≤◌, ◌≡◌, ◌≢◌, ◌^◌, ◌-◌, arith, ap, ◌∙◌}
use Rattle.words.specs.Word.{IsWord}
use Rattle.words.specs.Butterflies.{butterflies}
use Rattle.coefficients.specs.TransformLaws.{parities}
use Rattle.halving_test.specs.InPlace.{Halving, ends_equal, ends_full, first_decides, first_word, halves_in, halves_long, sum_fails, sum_word}
use Rattle.halving_test.proofs.+passes.Goals as goal

pub returns-then-r-eq0 : goal.returns-then-r-eq0
returns-then-r-eq0 t c = c.all_equal.ensures ∙ ends_equal c.args.m c.args.t.now c.if-r-eq0.true c.requires.2.size

pub returns-then-r-m : goal.returns-then-r-m
returns-then-r-m t c = ends_full c.args.t.now c.if-r-m.true

pub butterfly-requires : goal.butterfly-requires
butterfly-requires t c = halves_in c.requires.2 (omega arith) c.size-h.ensures

-- the first half has been added to the second
halving : {m r h : ℕ} {t xs : List ℕ} → r ≤ m → IsWord m t → r ≢ 0 → r ≢ m → h ≡ 2 ^ (m - 1) → xs ≡ butterflies parities h t → Halving m r h t xs
halving o w z n s a = record { order = o; word = w; some = z; other = n; size = s; added = a }

pub slice_bounds-passes-end : goal.slice_bounds-passes-end
slice_bounds-passes-end t c = omega (arith, halves_long (halving c.requires.1 c.requires.2 c.if-r-eq0.false c.if-r-m.false c.size-h.ensures c.butterfly.ensures))

pub passes-requires : goal.passes-requires
passes-requires t c = (omega arith, (omega arith, omega arith, sum_word (halving c.requires.1 c.requires.2 c.if-r-eq0.false c.if-r-m.false c.size-h.ensures c.butterfly.ensures)))

-- the sum is no codeword
pub returns-then-not-passes : goal.returns-then-not-passes
returns-then-not-passes t c = sum_fails (halving c.requires.1 c.requires.2 c.if-r-eq0.false c.if-r-m.false c.size-h.ensures c.butterfly.ensures) _ c.passes.ensures (ap not c.if-not-passes.true)

-- the sum is a codeword
pub passes-requires-2 : goal.passes-requires-2
passes-requires-2 t c = (omega arith, (omega arith, omega arith, first_word (halving c.requires.1 c.requires.2 c.if-r-eq0.false c.if-r-m.false c.size-h.ensures c.butterfly.ensures) c.passes.new.t))

pub returns : goal.returns
returns t c = first_decides (halving c.requires.1 c.requires.2 c.if-r-eq0.false c.if-r-m.false c.size-h.ensures c.butterfly.ensures) c.passes.new.t _ c.passes.ensures (ap not c.if-not-passes.false) c.passes-2.ensures
