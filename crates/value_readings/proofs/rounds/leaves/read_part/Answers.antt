-- `value_readings::rounds::leaves::read_part` meets its contract: the part is lent and comes back. Assumes nothing.
use Prim.Native.Nat.{ℕ, ◌+◌, ◌-◌, ◌^◌, ◌≤◌}
use mathlib.Core.Path.{◌≡◌, ap, sym, subst, ◌∙◌}
use mathlib.Core.Bool.{Bool}
use mathlib.Core.List.{List}
use native.Mathlib.Omega.{arith}
use lib.IntN.{ℤ, pos, nat_abs}
use lib.ListN.{length}
use borrow.Rule.Slice.PartMut.{put_mid}
use Rattle.words.specs.Parts.{part_length, at-part_of, back_part, back_within, written_part}
use Rattle.words.specs.Written.{written_none, written_to}
use Rattle.area.specs.Area.{at}
use Rattle.confidences.specs.Values.{Values}
use Rattle.value_orders.specs.Leaves.{Leaf}
use Rattle.value_readings.specs.Polls.{LeafAt, ReadAt, leaf, part_of}
use Rattle.value_readings.proofs.rounds.leaves.read_part.Goals as goal

module _ {m c k : ℕ} {xs : List ℤ} (asks : LeafAt m c xs) (e : k ≡ 2 ^ m) where
  fits : c + k ≤ length xs
  fits = omega (arith, asks.room)

  long : length (part_of c k xs) ≡ k
  long = part_length (pos 0) c k xs fits

  lends : (1 ≤ m) × (m ≤ 10) × (length (part_of c k xs) ≡ 2 ^ m) × Values (2 ^ m) (part_of c k xs)
  lends = (
    asks.some,
    omega (arith, asks.few),
    long ∙ e,
    record {
      room = omega (arith, long);
      small = λ q l. omega (arith, ap nat_abs (at-part_of (pos 0) c k xs fits q (omega arith)), asks.small q l);
    },
  )

  comes_back : {ys : List ℤ} {b : Bool} → length ys ≡ length (part_of c k xs) → Leaf (2 ^ m) (leaf m (part_of c k xs)) ys b → ReadAt m c xs (put_mid c k xs ys) b
  comes_back {ys} {b} same read =
      let size : length ys ≡ k = same ∙ long in
      record {
        leaf = subst (λ (j : ℕ). Leaf (2 ^ m) (leaf m (part_of c j xs)) (part_of c j (put_mid c k xs ys)) b) e
            (subst (λ (zs : List ℤ). Leaf (2 ^ m) (leaf m (part_of c k xs)) zs b) (sym (back_part (pos 0) c k xs fits ys size)) read);
        rest =
            written_to
            (written_part (written_none (pos 0) c (λ q. at (put_mid c k xs ys) (c + q)) xs) c k ys (omega arith) fits size
            (λ q l. sym (back_within (pos 0) c k xs fits ys size q l) ∙ ap (λ (j : ℕ). at (put_mid c k xs ys) (c + j)) {x = q} {y = 0 + q} (omega arith)))
            (2 ^ m) (omega arith);
      }

pub read_word-requires : goal.read_word-requires
read_word-requires c =
    let j = c.args.c in
    lends {k = j + c.size-n.result - j} c.requires (omega (arith, c.size-n.ensures))

pub returns : goal.returns
returns c =
    let j = c.args.c in
    comes_back {k = j + c.size-n.result - j} c.requires (omega (arith, c.size-n.ensures)) c.read_word.auto.part c.read_word.ensures
