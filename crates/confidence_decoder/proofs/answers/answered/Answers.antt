-- `confidence_decoder::answers::answered` meets its contract. Assumes nothing.
use Prim.Native.Nat.{ℕ}
use mathlib.Core.Path.{sym, ap, subst, ◌∙◌}
use Rattle.rule.specs.Decoding.{values}
use Rattle.delivery.specs.Delivery.{values_in}
use Rattle.confidences.specs.Confidences.{signs_of}
use Rattle.confidence_decoder.specs.Runs.{Accepts, place_told}
use Rattle.confidence_decoder.proofs.answers.answered.Goals as goal

pub mended-requires : goal.mended-requires
mended-requires c =
    (c.requires.0, c.requires.1, subst (Accepts c.args.m c.args.out.now) c.in-Ok.is c.requires.2)

pub returns-in-Ok : goal.returns-in-Ok
returns-in-Ok c =
    let w = signs_of c.args.m c.args.values.now in record { values = ap (values 0 c.in-Ok.read.rounds c.in-Ok.read.leaves) c.mended.ensures ∙ ap (values_in c.args.m w c.args.out.now) (sym c.in-Ok.is); place = ap (place_told c.args.ended.place) (sym c.in-Ok.is) }

pub returns-in-Err : goal.returns-in-Err
returns-in-Err c =
    let w = signs_of c.args.m c.args.values.now in record { values = ap (λ (n : ℕ). values n c.in-Err.unread.rounds c.in-Err.unread.leaves 0) c.refusal_of.ensures.0 ∙ ap (values_in c.args.m w c.args.out.now) (sym c.in-Err.is); place = c.refusal_of.ensures.1 ∙ ap (place_told c.args.ended.place) (sym c.in-Err.is) }
