-- `decoder::answers::answered` meets its contract: a word that was kept is at distance 0. Assumes nothing.
use Rattle.std.proofs.Common.{sym, ap, subst, ◌∙◌}
use Rattle.words.specs.Word.{distance}
use Rattle.code.proofs.Distance.{distance_self}
use Rattle.rule.specs.Decoding.{values}
use Rattle.delivery.specs.Delivery.{values_in}
use Rattle.decoder.specs.Verdicts.{Delivered}
use Rattle.decoder.proofs.answers.answered.Goals as goal

pub returns-then-told-clause-values : goal.returns-then-told-clause-values
returns-then-told-clause-values c =
    let a = c.args in
    let delivered = subst (Delivered a.m a.word.now a.out.now a.told.kept) c.in-Ok.is c.requires.1.output in
    ap (values 0 c.in-Ok.read.rounds c.in-Ok.read.leaves)
    (sym (ap (distance a.m a.word.now) (delivered.1 c.if-told.true) ∙ distance_self a.m a.word.now))
    ∙ ap (values_in a.m a.word.now a.out.now) (sym c.in-Ok.is)
