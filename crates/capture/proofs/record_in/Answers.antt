-- `capture::record_in` meets its contract: each return is a case of the definition. Assumes nothing.
use mathlib.Core.Path.{◌≡◌, refl, ap, ◌∙◌}
use mathlib.Core.List.{List}
use Prim.Native.Nat.{ℕ}
use native.Mathlib.Omega.{arith}
use lib.ListN.{length}
use Rattle.std.proofs.lemmas.Result.{err_from_is_err_and}
use Rattle.words.specs.Sum.{tabulate}
use Rattle.unpacking.specs.Packed.{packed_bit}
use Rattle.tables.specs.Slots.{given, not_given}
use Rattle.tables.specs.Tables.{Slot, is_there, some}
use Rattle.capture.specs.Capture.{refused, unpacked, word_size}
use Rattle.capture.specs.Cases.{none, no_head, unknown, no_body, no_room, whole, stands}
use Rattle.capture.proofs.record_in.Goals as goal

-- a word of the entry's size holds the record's bits
bits : (slot : Slot) (n : ℕ) (s : List ℕ) → n ≡ word_size slot → tabulate n (packed_bit s) ≡ unpacked slot s
unfolding unpacked
bits slot n s e = ap (λ (k : ℕ). tabulate k (packed_bit s)) e

pub returns-then-part-eq0 : goal.returns-then-part-eq0
returns-then-part-eq0 c =
    stands refl (none _ _ _ _ (omega arith)) refl

pub returns-then-part-lt5 : goal.returns-then-part-lt5
returns-then-part-lt5 c =
    stands refl (no_head _ _ _ _ (λ e. omega arith) (omega arith)) refl

pub returns-in_err-p : goal.returns-in_err-p
returns-in_err-p c =
    let p = err_from_is_err_and c.from_residual.result c.from_residual.ensures.1 in
    let q = not_given c.args.slot _ _ c.in_err-p.ensures.value in
    rw (p.1, p.2, q.1)
    (stands (ap (refused 14) c.serial_of-serial.ensures) (unknown _ _ _ _ (λ e. omega arith) (omega arith) (ap is_there q.0)) refl)

pub returns-then-part-end : goal.returns-then-part-end
returns-then-part-end c =
    let e = given c.args.slot _ c.in_ok-p.p c.in_ok-p.ensures.value in
    let size = c.word_size-n.ensures.0 in
    stands refl (no_body _ _ _ _ (λ z. omega arith) (omega arith) (ap is_there e) (rw e (omega arith))) refl

pub returns-then-word-n : goal.returns-then-word-n
returns-then-word-n c =
    let e = given c.args.slot _ c.in_ok-p.p c.in_ok-p.ensures.value in
    stands (ap (refused 6) c.serial_of-serial.ensures) (no_room _ _ _ _ (λ z. omega arith) (omega arith) (ap is_there e) (rw e (omega arith)) (rw e (λ z. omega arith))) refl

pub returns : goal.returns
returns c =
    let a = c.args in
    let e = given c.args.slot _ c.in_ok-p.p c.in_ok-p.ensures.value in
    let size = c.word_size-n.ensures.0 in
    let n : length a.word.now ≡ word_size (some c.in_ok-p.p) = omega arith in
    rw e
    (stands (rw (c.serial_of-serial.ensures, size, c.from-profile.ensures)) (whole _ _ _ _ (λ z. omega arith) (omega arith) refl (omega arith) n)
    (c.unpack.ensures ∙ bits (some c.in_ok-p.p) _ a.part.now n))
