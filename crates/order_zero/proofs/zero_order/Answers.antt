-- `order_zero::zero_order` meets its contract. Assumes nothing.
use Prim.Native.Nat.{ℕ, ◌^◌, ◌≤◌}
use mathlib.Core.Path.{◌≡◌, sym, ◌∙◌, subst}
use native.Mathlib.Omega.{arith}
use lib.ListN.{length}
use lib.Pow.{pow_mono}
use Rattle.words.specs.Sum.{sum_below}
use Rattle.words.specs.Word.{bit}
use Rattle.area.specs.Area.{Bits, word_of}
use Rattle.area.proofs.AreaLaws.{word_of_word}
use Rattle.told.specs.ToldLaws.{changed_tells}
use Rattle.told.specs.WordPart.{lent_size, read_back}
use Rattle.order_zero.proofs.OrderZero.{zero_tie, zero_zeros, zero_ones}
use Rattle.order_zero.proofs.zero_order.Goals as goal

pub count_ones-k-requires : goal.count_ones-k-requires
count_ones-k-requires c =
    let small : 2 ^ c.args.m ≤ 1024 = pow_mono c.requires.0 in
    (omega (arith, c.size-n.ensures), subst (λ (n : ℕ). Bits n c.args.area.now) (sym c.size-n.ensures) c.requires.1)

pub returns-then-k-n : goal.returns-then-k-n
returns-then-k-n c =
    let counted : let a = c.args in
    c.count_ones-k.result ≡ sum_below (2 ^ a.m) (bit (word_of (2 ^ a.m) a.area.now)) = rw c.size-n.ensures at c.count_ones-k.ensures.0 in
    let given = changed_tells c.refused.ensures
    (zero_tie (word_of_word {m = c.args.m} c.requires.1) (counted) (c.if-k-n.true ∙ c.size-n.ensures)) in record { read = given.0; kept = given.1 }

pub returns-then-k-n-2 : goal.returns-then-k-n-2
returns-then-k-n-2 c =
    let size_is = c.size-n.ensures in
    let within : 2 ^ c.args.m ≤ c.size-n.result = omega (arith, size_is) in
    let room : c.size-n.result ≤ length c.args.area.now = omega (arith, size_is, c.requires.1.room) in
    let counted : let a = c.args in
    c.count_ones-k.result ≡ sum_below (2 ^ a.m) (bit (word_of (2 ^ a.m) a.area.now)) = rw c.size-n.ensures at c.count_ones-k.ensures.0 in
    let long = lent_size c.args.area.now (within) (room) in
    let given = changed_tells c.changed.ensures
    (read_back c.args.area.now (within) (room) _ (c.fill.auto.area ∙ long)
    (zero_zeros (word_of_word {m = c.args.m} c.requires.1) (counted)
    (long ∙ size_is) (omega arith) c.fill.ensures)) in record { read = given.0; kept = given.1 }

pub returns : goal.returns
returns c =
    let size_is = c.size-n.ensures in
    let within : 2 ^ c.args.m ≤ c.size-n.result = omega (arith, size_is) in
    let room : c.size-n.result ≤ length c.args.area.now = omega (arith, size_is, c.requires.1.room) in
    let counted : let a = c.args in
    c.count_ones-k.result ≡ sum_below (2 ^ a.m) (bit (word_of (2 ^ a.m) a.area.now)) = rw c.size-n.ensures at c.count_ones-k.ensures.0 in
    let long = lent_size c.args.area.now (within) (room) in
    let given = changed_tells c.changed-2.ensures
    (read_back c.args.area.now (within) (room) _ (c.fill-2.auto.area ∙ long)
    (zero_ones (word_of_word {m = c.args.m} c.requires.1) (counted)
    (long ∙ size_is) (omega arith) c.fill-2.ensures)) in record { read = given.0; kept = given.1 }
