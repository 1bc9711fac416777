-- `capture::word_size` meets its contract. Assumes nothing.
use mathlib.Core.Path.{◌≡◌, refl}
use Rattle.tables.specs.Tables.{some}
use Rattle.capture.specs.Capture.{word_size}
use Rattle.capture.specs.Cases.{in_table, sized}
use Rattle.capture.proofs.word_size.Goals as goal

pub returns : goal.returns
returns c =
    let p = c.args.p in
    let z = sized (some p) (in_table p c.requires) refl in
    let e : c.size.result ≡ word_size (some p) = c.size.ensures in
    (e, rw e z.most, rw e z.bytes)
