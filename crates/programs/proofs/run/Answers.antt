-- `programs::run` meets its contract: a refused header, or all turns and the last line. Assumes nothing.
use Rattle.std.proofs.Common.{ap, not, ◌||◌, ◌≤◌, arith, length, length-take-le, sym, subst, take, ◌∙◌}
use Rattle.std.specs.Io.KnownBytes.{Appends}
use Rattle.readers.specs.Readers.{lines_for}
use Rattle.tables.specs.Tables.{ours}
use Rattle.tables.specs.declared.Table.{Table}
use Rattle.programs.proofs.Whole.{ListedWhole, neither, whole_listed, whole_refused}
use Rattle.programs.proofs.run.Goals as goal

pub returns-then-not-header_is_right : goal.returns-then-not-header_is_right
returns-then-not-header_is_right g c = λ e.
    let ok = neither c.read_full-got.new.from.failed c.sent.new.to.failed e in
    let first = c.read_full-got.ensures in
    let size : length (take c.read_full-got.result c.read_full-got.new.buffer) ≤ 5 = omega (arith, length-take-le c.read_full-got.result c.read_full-got.new.buffer first.within) in
    whole_refused ours (lines_for c.args.reader) (g.R.Read.remaining c.args.from.now.inner) (g.R.Read.remaining c.read_full-got.new.from.inner)
    (g.W.Write.contents c.args.to.now.inner) (g.W.Write.contents c.sent.new.to.inner)
    (take c.read_full-got.result c.read_full-got.new.buffer) size
    (sym c.header_is_right.ensures ∙ c.if-not-header_is_right.true) first.taken
    (λ l. first.short (omega (arith, length-take-le c.read_full-got.result c.read_full-got.new.buffer first.within)) ok.0)
    (subst (Appends (g.W.Write.contents c.args.to.now.inner) (g.W.Write.contents c.sent.new.to.inner)) (c.header_line-n.ensures.holds (omega arith)) (c.sent.ensures.given (c.sent.ensures.whole ok.1)))

pub returns : goal.returns
returns g c = λ e.
    let ok = neither (c.list_all-s.result.more || c.list_all-s.new.from.failed) c.sent-2.new.to.failed e in
    let read = neither c.list_all-s.result.more c.list_all-s.new.from.failed (ap not ok.0) in
    let first = c.read_full-got.ensures in
    let all = c.list_all-s.ensures in
    let size : length (take c.read_full-got.result c.read_full-got.new.buffer) ≤ 5 = omega (arith, length-take-le c.read_full-got.result c.read_full-got.new.buffer first.within) in
    subst (λ (t : Table). ListedWhole t (lines_for c.args.reader) (g.R.Read.remaining c.args.from.now.inner) (g.W.Write.contents c.args.to.now.inner) (g.W.Write.contents c.sent-2.new.to.inner)) c.ours.ensures
    (whole_listed c.ours.result (lines_for c.args.reader) (g.R.Read.remaining c.args.from.now.inner) (g.R.Read.remaining c.read_full-got.new.from.inner)
    (g.R.Read.remaining c.list_all-s.new.from.inner) (g.W.Write.contents c.args.to.now.inner) (g.W.Write.contents c.list_all-s.new.to.inner)
    (g.W.Write.contents c.sent-2.new.to.inner) (take c.read_full-got.result c.read_full-got.new.buffer) size
    (sym c.header_is_right.ensures ∙ c.if-not-header_is_right.false) first.taken
    all.ran all.moved.took (λ l. all.moved.ended l read.1) (all.moved.whole (c.sent-2.ensures.failing ok.1)) read.0
    (all.moved.wrote (all.moved.whole (c.sent-2.ensures.failing ok.1)))
    (subst (Appends (g.W.Write.contents c.list_all-s.new.to.inner) (g.W.Write.contents c.sent-2.new.to.inner)) (c.last_line-n.ensures.holds (omega arith)) (c.sent-2.ensures.given (c.sent-2.ensures.whole ok.1))))
