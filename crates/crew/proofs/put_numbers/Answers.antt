-- `crew::put_numbers` meets its contract: its texts stand one after the other. Assumes nothing.
use Rattle.text.specs.TextLaws.{added_also}
use Rattle.crew.proofs.put_numbers.Goals as goal

pub returns : goal.returns
returns c =
    let profile = c.put_spaced.ensures.text in
    let rounds = c.put_spaced-2.ensures.text in
    let leaves = c.put_spaced-3.ensures.text in
    let mended = c.put_spaced-4.ensures.text in
    let refusal = c.put_spaced-5.ensures.text in
    rw (← c.from.ensures) (added_also (added_also (added_also (added_also (added_also profile rounds) leaves) mended) refusal) c.put_byte.ensures)
