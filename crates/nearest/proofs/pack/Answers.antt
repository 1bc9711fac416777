-- `nearest::pack` meets its contract, by either packing. Assumes nothing.
use mathlib.Core.Path.{sym, subst}
use mathlib.Core.Bool.{Bool}
use Rattle.nearest.specs.Nearest.{Packable, PackedAfter}
use Rattle.nearest.proofs.pack.Goals as goal

pub pack-requires : goal.pack-requires
pack-requires c =
    subst (λ (b : Bool). Packable b c.args.q c.args.area.now) c.if-quarters.true c.requires

pub pack-requires-else-quarters : goal.pack-requires-else-quarters
pack-requires-else-quarters c =
    subst (λ (b : Bool). Packable b c.args.q c.args.area.now) c.if-quarters.false c.requires

pub returns-then-quarters : goal.returns-then-quarters
returns-then-quarters c =
    subst (λ (b : Bool). PackedAfter b c.args.q c.args.area.now c.pack.new.area) (sym c.if-quarters.true) c.pack.ensures

pub returns-else-quarters : goal.returns-else-quarters
returns-else-quarters c =
    subst (λ (b : Bool). PackedAfter b c.args.q c.args.area.now c.pack-else-quarters.new.area) (sym c.if-quarters.false) c.pack-else-quarters.ensures
