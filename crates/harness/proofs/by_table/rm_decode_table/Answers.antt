-- `harness::by_table::rm_decode_table` meets its contract. Assumes nothing.
use mathlib.Core.Path.{ap, ◌∙◌}
use native.Mathlib.Omega.{arith}
use Rattle.table_files.specs.File.{loaded}
use Rattle.packing.specs.ByTableLaws.{load_decodes, load_refused}
use Rattle.harness.proofs.by_table.rm_decode_table.Goals as goal

pub returns-then-pack_number-ne0 : goal.returns-then-pack_number-ne0
returns-then-pack_number-ne0 c =
    load_refused (c.load-l.ensures ∙ ap (loaded _) c.ours.ensures) c.pack_number.ensures _ (λ z. omega arith)
    c.pack_answer.ensures

pub returns : goal.returns
returns c =
    load_decodes (c.load-l.ensures ∙ ap (loaded _) c.ours.ensures) c.pack_number.ensures _ (omega arith)
    c.decode_table-decoded.ensures c.pack_decoded.ensures
