-- `codec_checks::check_buffers` meets its contract. Assumes nothing.
use mathlib.Core.Path.{refl}
use borrow.Author.Tests.{eq-eqb, ne_eqb}
use Rattle.refusals.specs.declared.Refusal.TheVariants.{InputLength, OutputLength}
use Rattle.refusals.proofs.CheckLaws.{passes, fails, refuses, next}
use Rattle.codec_checks.proofs.check_buffers.Goals as goal

pub returns-then-s-n : goal.returns-then-s-n
returns-then-s-n c =
    refuses InputLength refl (fails 5 _ _ (ne_eqb _ _ c.if-s-n.true))

pub returns-then-room-k : goal.returns-then-room-k
returns-then-room-k c =
    refuses OutputLength refl (passes 5 _ _ (eq-eqb _ _ c.if-s-n.false) (fails 6 _ _ (ne_eqb _ _ c.if-room-k.true)))

pub returns : goal.returns
returns c =
    next 5 _ (eq-eqb _ _ c.if-s-n.false) (next 6 _ (eq-eqb _ _ c.if-room-k.false) c.check_bytes.ensures)
