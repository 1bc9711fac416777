-- `streets::street_checks::check_room` meets its contract: each return is a check that fails, or none. Assumes nothing.
use native.Mathlib.Omega.{arith}
use mathlib.Core.Path.{refl, sym, ◌∙◌}
use Rattle.tables.specs.Tables.{some}
use Rattle.capture.specs.Cases.{in_table, sized}
use Rattle.streets.specs.CheckLaws.{other_length, room_passes, small_area}
use Rattle.streets.proofs.street_checks.check_room.Goals as goal

pub size-n-requires : goal.size-n-requires
size-n-requires c =
    (sized (some c.args.entry) (in_table c.args.entry c.requires) refl).exponent

pub overflow_mul-least : goal.overflow_mul-least
overflow_mul-least c =
    omega (arith, c.size-n.ensures, (sized (some c.args.entry) (in_table c.args.entry c.requires) refl).most)

pub returns-then-room-n : goal.returns-then-room-n
returns-then-room-n c =
    other_length (some c.args.entry) _ _ (λ e. c.if-room-n.true (e ∙ sym c.size-n.ensures))

pub returns-then-area-least : goal.returns-then-area-least
returns-then-area-least c =
    small_area (some c.args.entry) _ _ (c.if-room-n.false ∙ c.size-n.ensures) (omega (arith, c.size-n.ensures))

pub returns : goal.returns
returns c =
    room_passes (some c.args.entry) _ _ (c.if-room-n.false ∙ c.size-n.ensures) (omega (arith, c.size-n.ensures))
