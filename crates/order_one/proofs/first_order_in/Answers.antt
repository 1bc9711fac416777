-- `order_one::first_order_in` meets its contract: a codeword is its own nearest, and of any other word the peak decides. Assumes nothing.
use Prim.Native.Nat.{◌-◌}
use mathlib.Core.Path.{refl, sym, ◌∙◌}
use native.Mathlib.Omega.{arith}
use lib.Pow.{pow_mono}
use Rattle.std.specs.Prelude.{Some, None}
use Rattle.area.proofs.AreaLaws.{bit_back}
use Rattle.peaks.specs.Found.{peak_below}
use Rattle.told.specs.ToldLaws.{changed_tells}
use Rattle.order_one.specs.OrderOne.{constant_bit}
use Rattle.order_one.proofs.OrderOne.{Peaked, codeword_read, peak_of, tie_read, written_read}
use Rattle.order_one.proofs.first_order_in.Goals as goal

pub returns-then-is_affine : goal.returns-then-is_affine
returns-then-is_affine c =
    record { read = codeword_read c.args.m c.requires.0 c.requires.3 (sym c.is_affine.ensures ∙ c.if-is_affine.true); kept = record { same = λ q. record { long = refl; same = λ p l. refl } } }

pub returns-in_default : goal.returns-in_default
returns-in_default c =
    let peaked : let a = c.args in Peaked a.m a.part.now None = record { bits = c.requires.3; peak = rw c.in_default.is at c.find_peak.ensures.found } in
    let given = changed_tells c.refused.ensures (tie_read (peaked)) in record { read = given.0; kept = given.1 }

pub write_affine-requires : goal.write_affine-requires
write_affine-requires c =
    let peaked : let a = c.args in Peaked a.m a.part.now (Some c.in-Some.peak) = record { bits = c.requires.3; peak = rw c.in-Some.is at c.find_peak.ensures.found } in
    let bit = constant_bit (peak_of (peaked)) in
    let few = pow_mono {j = 10} c.requires.1 in
    (rw (bit_back bit) bit, omega (arith, peak_below (peaked).peak))

pub returns : goal.returns
returns c =
    let peaked : let a = c.args in Peaked a.m a.part.now (Some c.in-Some.peak) = record { bits = c.requires.3; peak = rw c.in-Some.is at c.find_peak.ensures.found } in
    let n = c.size-n in
    let size = n.ensures in
    let room = c.requires.2 in
    let given = changed_tells c.changed.ensures
    (written_read (peaked) (n.result - 0) c.find_peak.new.area (omega arith)
    (omega (arith, c.find_peak.ensures.kept.long)) c.write_affine.ensures) in record { read = given.0; kept = given.1 }
