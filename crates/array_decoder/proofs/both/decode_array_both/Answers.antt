-- `array_decoder::both::decode_array_both` meets its contract. Assumes nothing.
use Rattle.array_decoder.specs.AlikeLaws.{calls_alike}
use Rattle.array_decoder.proofs.both.decode_array_both.Goals as goal

pub returns : goal.returns
returns c =
    let a = c.args in
    calls_alike a.mr a.rr a.mc a.rc a.rounds a.leaves c.decode_array-first.ensures c.decode_array-second.ensures
