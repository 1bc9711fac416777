-- `alike::decode_table_both` meets its contract. Assumes nothing.
use Rattle.alike.proofs.Agreeing.{tables_alike}
use Rattle.alike.proofs.decode_table_both.Goals as goal

pub returns : goal.returns
returns g c =
    tables_alike _ _ c.decode_table-first.ensures c.decode_table-second.ensures
