-- `nearest::search` meets its contract, by either packing. Assumes nothing.
use mathlib.Core.Path.{sym, subst}
use mathlib.Core.Bool.{Bool}
use Rattle.peaks.specs.Peaks.{IsPeak}
use Rattle.nearest.specs.Nearest.{Searchable, places_of, searched}
use Rattle.nearest.proofs.search.Goals as goal

pub search-requires : goal.search-requires
search-requires c =
    subst (λ (b : Bool). Searchable b c.args.q c.args.part.now) c.if-quarters.true c.requires

pub search-requires-else-quarters : goal.search-requires-else-quarters
search-requires-else-quarters c =
    subst (λ (b : Bool). Searchable b c.args.q c.args.part.now) c.if-quarters.false c.requires

pub returns-then-quarters : goal.returns-then-quarters
returns-then-quarters c =
    subst (λ (b : Bool). IsPeak (places_of b c.args.q) (searched b c.args.q c.args.part.now) c.search.result)
    (sym c.if-quarters.true)
    c.search.ensures

pub returns-else-quarters : goal.returns-else-quarters
returns-else-quarters c =
    subst (λ (b : Bool). IsPeak (places_of b c.args.q) (searched b c.args.q c.args.part.now) c.search-else-quarters.result)
    (sym c.if-quarters.false)
    c.search-else-quarters.ensures
