-- `header::header_is_right` meets its contract: each return follows from the tests on the way. Assumes nothing.
use Prim.Native.Nat.{ℕ, ◌≤◌}
use mathlib.Core.Path.{◌≡◌, refl}
use mathlib.Core.Bool.{Bool, true, false, cond}
use mathlib.Core.List.{List}
use lib.ListN.{length, get_or}
use lib.Dec.{eqb}
use borrow.Author.Tests.{lt-ltb, le-ltb, eq-eqb, ne_eqb}
use Rattle.header.specs.Header.{header_test}
use Rattle.header.proofs.header_is_right.Goals as goal

itself : (b : Bool) → b ≡ cond b true false
itself true = refl
itself false = refl

-- the bytes before byte i are right, and byte i is not
module _ (s : List ℕ) (h : 5 ≤ length s) where
  wrong0 : (get_or s 0 0 ≡ 0x57 → ⊥) → false ≡ header_test s
  wrong0 n = simp (le-ltb _ _ h, ne_eqb _ _ n)

  module _ (e0 : get_or s 0 0 ≡ 0x57) where
    wrong1 : (get_or s 1 0 ≡ 0x4d → ⊥) → false ≡ header_test s
    wrong1 n = simp (le-ltb _ _ h, eq-eqb _ _ e0, ne_eqb _ _ n)

    module _ (e1 : get_or s 1 0 ≡ 0x4d) where
      wrong2 : (get_or s 2 0 ≡ 0x52 → ⊥) → false ≡ header_test s
      wrong2 n = simp (le-ltb _ _ h, eq-eqb _ _ e0, eq-eqb _ _ e1, ne_eqb _ _ n)

      module _ (e2 : get_or s 2 0 ≡ 0x52) where
        wrong3 : (get_or s 3 0 ≡ 0 → ⊥) → false ≡ header_test s
        wrong3 n = simp (le-ltb _ _ h, eq-eqb _ _ e0, eq-eqb _ _ e1, eq-eqb _ _ e2, ne_eqb _ _ n)

        last : get_or s 3 0 ≡ 0 → eqb (get_or s 4 0) 1 ≡ header_test s
        last e3 = simp (le-ltb _ _ h, eq-eqb _ _ e0, eq-eqb _ _ e1, eq-eqb _ _ e2, eq-eqb _ _ e3) (itself _)

pub returns-then-capture-lt5 : goal.returns-then-capture-lt5
returns-then-capture-lt5 c =
    simp (lt-ltb _ _ c.if-capture-lt5.true)

pub returns-then-capture : goal.returns-then-capture
returns-then-capture c =
    wrong0 c.args.capture.now c.if-capture-lt5.false c.if-capture.true

pub returns-then-capture-2 : goal.returns-then-capture-2
returns-then-capture-2 c =
    wrong1 c.args.capture.now c.if-capture-lt5.false c.if-capture.false c.if-capture-2.true

pub returns-then-capture-3 : goal.returns-then-capture-3
returns-then-capture-3 c =
    wrong2 c.args.capture.now c.if-capture-lt5.false c.if-capture.false c.if-capture-2.false c.if-capture-3.true

pub returns-then-capture-ne0 : goal.returns-then-capture-ne0
returns-then-capture-ne0 c =
    wrong3 c.args.capture.now c.if-capture-lt5.false c.if-capture.false c.if-capture-2.false c.if-capture-3.false c.if-capture-ne0.true

pub returns : goal.returns
returns c =
    last c.args.capture.now c.if-capture-lt5.false c.if-capture.false c.if-capture-2.false c.if-capture-3.false c.if-capture-ne0.false
