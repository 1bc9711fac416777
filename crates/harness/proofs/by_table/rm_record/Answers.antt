-- `harness::by_table::rm_record` meets its contract. Assumes nothing.
use Rattle.std.specs.Prelude.{ℕ, ◌≡◌, ◌≢◌, refl, List, length, Ok}
use Rattle.std.proofs.Common.{arith, ap, ◌∙◌, ne_eqb}
use Rattle.tables.specs.Tables.{ours}
use Rattle.table_files.specs.File.{loaded}
use Rattle.packing.specs.ByTable.{table_of}
use Rattle.packing.specs.ByTableLaws.{finds_record, no_table}
use Rattle.harness.proofs.by_table.rm_record.Goals as goal

-- a file of length 0 stands for document 01's table, and another is loaded
none_given : (file : List ℕ) → length file ≡ 0 → record { answer = Ok tt; table = ours } ≡ table_of file
none_given file h = rw h refl

one_given : (file : List ℕ) → length file ≢ 0 → loaded file ours ≡ table_of file
one_given file h = rw (ne_eqb (length file) 0 h) refl

pub returns-then-file-eq0 : goal.returns-then-file-eq0
returns-then-file-eq0 c = finds_record (none_given c.args.file.now (omega arith)) refl refl c.find_record.ensures c.pack_found.ensures

pub returns-then-refusal-ne0 : goal.returns-then-refusal-ne0
returns-then-refusal-ne0 c =
    no_table (c.load-l.ensures ∙ ap (loaded _) c.ours.ensures ∙ one_given c.args.file.now (λ z. omega arith)) c.pack_number-refusal.ensures c.if-refusal-ne0.true

pub returns : goal.returns
returns c =
    finds_record (c.load-l.ensures ∙ ap (loaded _) c.ours.ensures ∙ one_given c.args.file.now (λ z. omega arith)) c.pack_number-refusal.ensures c.if-refusal-ne0.false
    c.find_record-2.ensures c.pack_found-2.ensures
