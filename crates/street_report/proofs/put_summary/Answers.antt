-- `street_report::put_summary` meets its contract: its texts stand one after the other. Assumes nothing.
use Rattle.text.specs.TextLaws.{added_also}
use Rattle.street_report.proofs.put_summary.Goals as goal

pub returns : goal.returns
returns c =
    let sent = c.put_count.ensures.text in
    let right = c.put_count-2.ensures.text in
    let other = c.put_count-3.ensures.text in
    let refused = c.put_count-4.ensures.text in
    let never = c.put_count-5.ensures.text in
    added_also (added_also (added_also (added_also (added_also sent right) other) refused) never) c.put_byte.ensures
