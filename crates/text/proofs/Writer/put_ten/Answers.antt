-- `text::Writer::put_ten` meets its contract: the loop writes a digit a turn. Assumes nothing.
use Rattle.std.proofs.Common.{◌+◌, arith, refl}
use Rattle.words.specs.Written.{written_none, written_more, written_to}
use Rattle.text.specs.Numbers.{ten_digits}
use Rattle.text.specs.TextLaws.{a_run}
use Rattle.text.proofs.Writer.put_ten.Goals as goal

pub loop-i-init : goal.loop-i-init
loop-i-init c = record { place = refl; long = refl; same = refl; digits = written_none 0 _ _ _ }

pub loop-i-preserved : goal.loop-i-preserved
loop-i-preserved c =
    let l = c.loop-i in
    let w = written_more l.invariant.digits (l.self.at + l.i) _ (omega arith) (omega arith) c.ten_digit.ensures in
    record { place = l.invariant.place; long = w.long; same = l.invariant.same; digits = w }

pub returns : goal.returns
unfolding ten_digits
returns c =
    let l = c.loop-i in
    record {
      appended = rw l.invariant.place (a_run (written_to l.invariant.digits 10 (omega arith)) (omega arith));
      long = l.invariant.long;
      same = l.invariant.same;
    }
