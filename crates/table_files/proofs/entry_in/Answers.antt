-- `table_files::entry_in` meets its contract. Assumes nothing.
use Rattle.table_files.specs.File.{entry_in}
use Rattle.table_files.proofs.entry_in.Goals as goal

pub returns : goal.returns
unfolding entry_in
returns c =
    cc
