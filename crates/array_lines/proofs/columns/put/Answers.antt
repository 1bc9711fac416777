-- `array_lines::columns::put` meets its contract. Assumes nothing.
use Rattle.array_lines.specs.ScatteredLaws.{scattered_same}
use Rattle.array_lines.proofs.columns.put.Goals as goal

pub returns-then-mended-eq0 : goal.returns-then-mended-eq0
returns-then-mended-eq0 c =
    scattered_same (c.requires.same c.if-mended-eq0.true)

pub scatter-requires : goal.scatter-requires
scatter-requires c =
    let p = c.requires in
    (p.inside, p.some)

pub returns : goal.returns
returns c =
    c.scatter.ensures
