-- `table_files::load` meets its contract. Assumes nothing.
use mathlib.Core.Path.{◌≡◌, sym, ap, ◌∙◌}
use mathlib.Core.Bool.{true}
use native.Mathlib.Omega.{arith}
use Rattle.tables.specs.declared.Table.{Table}
use Rattle.tables.specs.Tables.{in_limits}
use Rattle.std.specs.Prelude.{Ok}
use Rattle.table_files.specs.File.{file_test}
use Rattle.table_files.specs.Cases.{few, is_table, loading_starts, loading_more, loading_ends, not_table, outside, whole}
use Rattle.table_files.proofs.load.Goals as goal

pub returns-then-not-is_table : goal.returns-then-not-is_table
returns-then-not-is_table c =
    not_table _ _ (sym c.is_table.ensures ∙ c.if-not-is_table.true)

pub bounds-file-5 : goal.bounds-file-5
bounds-file-5 c =
    let ok : file_test c.args.file.now ≡ true = sym c.is_table.ensures ∙ c.if-not-is_table.false in
    omega (arith, (is_table _ (ok)).some)

pub loop-i-init : goal.loop-i-init
loop-i-init c =
    let ok : file_test c.args.file.now ≡ true = sym c.is_table.ensures ∙ c.if-not-is_table.false in
    rw c.no_entry-entries.ensures (loading_starts (ok) (omega arith))

pub entry_in-p-requires : goal.entry_in-p-requires
entry_in-p-requires c =
    let l = c.loop-i.invariant in omega (arith, (is_table _ l.ok).size, l.counted)

pub returns-then-not-in_limits : goal.returns-then-not-in_limits
returns-then-not-in_limits c =
    let l = c.loop-i.invariant in
    outside _ _ l.ok _ (omega (arith, l.counted)) l.passed
    (ap in_limits (sym c.entry_in-p.ensures) ∙ sym c.in_limits.ensures ∙ c.if-not-in_limits.true)

pub bounds-entries-i : goal.bounds-entries-i
bounds-entries-i c =
    omega (arith, few c.loop-i.invariant)

pub loop-i-preserved : goal.loop-i-preserved
loop-i-preserved c =
    loading_more c.loop-i.invariant (omega arith) c.entry_in-p.ensures (sym c.in_limits.ensures ∙ c.if-not-in_limits.false)

pub returns : goal.returns
returns c =
    let l = c.loop-i.invariant in
    ap (λ (t : Table). record { answer = (Ok tt); table = t }) (loading_ends l (omega arith)) ∙ whole _ _ l.ok (λ q h. l.passed q (omega (arith, l.counted)))
