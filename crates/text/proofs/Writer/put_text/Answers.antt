-- `text::Writer::put_text` meets its contract: the text stands in the middle of the buffer. Assumes nothing.
use Rattle.std.proofs.Common.{◌+◌, ◌++◌, ◌∙◌, List, ap, arith, length, refl, take, ℕ}
use Rattle.std.proofs.lemmas.Grind.{common_steps}
use Rattle.std.proofs.lemmas.Slice.{drop-put_mid, take-put_mid}
use Rattle.text.proofs.Writer.put_text.Goals as goal

pub returns : goal.returns
returns c =
    let a = c.args in
    let e = c.copy_from_slice.ensures.after in
    record {
      appended = record {
        ends = refl;
        holds = take-put_mid a.self.now.at _ a.self.now.out.now c.copy_from_slice.new.self _ (omega (arith, ap length e)) (omega arith) ∙ ap (λ (l : List ℕ). take a.self.now.at a.self.now.out.now ++ l) e;
        past = drop-put_mid a.self.now.at _ a.self.now.out.now c.copy_from_slice.new.self (a.self.now.at + length a.text.now) (omega arith) (omega arith) (omega (arith, c.copy_from_slice.ensures.len));
      };
      long = grind (arith, common_steps);
      same = refl;
    }
