-- `value_readings::rounds::ends::conclude` meets its contract. Assumes nothing.
use Prim.Native.Nat.{ℕ, suc, ◌+◌, ◌-◌, ◌*◌, ◌^◌, ◌≤◌}
use mathlib.Core.Path.{◌≡◌, refl, sym, ap, subst, ◌∙◌}
use mathlib.Core.Bool.{Bool, cond}
use mathlib.Core.List.{List}
use native.Mathlib.Omega.{arith}
use lib.IntN.{ℤ, pos}
use lib.ListN.{length}
use lib.Pow.{pow_pos}
use borrow.Author.Tests.{eq-eqb, ne_eqb}
use Rattle.words.specs.Written.{Written, written_as, written_to}
use Rattle.area.specs.Area.{at}
use Rattle.confidences.specs.Confidences.{cut}
use Rattle.confidences.specs.Values.{Sums}
use Rattle.value_readings.specs.Polls.{new_at}
use Rattle.value_readings.proofs.rounds.ends.conclude.Goals as goal

module _ (m a n : ℕ) (xs : List ℤ) (en : n ≡ 2 ^ suc m) where
  -- all abstained
  stays : a ≡ n - 1 → Written (pos 0) 0 (2 ^ suc m) (new_at m a xs) xs xs
  stays e = record {
    long = refl;
    within = λ p l.
        ap (at xs) {x = 0 + p} {y = p} (omega arith)
        ∙ ap (λ (t : Bool). cond t (at xs p) (cut (at xs (2 ^ suc m + p)))) (sym (eq-eqb a (2 ^ suc m - 1) (omega arith)));
    below = λ p l. refl;
    above = λ p l. refl;
  }

  -- some did not
  moves : {ys : List ℤ} → (a ≡ n - 1 → ⊥) → Written (pos 0) 0 n (λ p. cut (at xs (n + p))) xs ys → Written (pos 0) 0 (2 ^ suc m) (new_at m a xs) xs ys
  moves k w =
      written_as (written_to w (2 ^ suc m) en) (new_at m a xs)
      (λ p l.
      ap (λ (j : ℕ). cut (at xs (j + p))) en
      ∙ ap (λ (t : Bool). cond t (at xs p) (cut (at xs (2 ^ suc m + p)))) (sym (ne_eqb a (2 ^ suc m - 1) (λ e. k (omega arith)))))

  asks : 8 * 2 ^ m ≤ length xs → Sums (2 ^ suc m) xs → (2 * n ≤ length xs) × Sums n xs
  asks room sums = (omega arith, subst (λ (j : ℕ). Sums j xs) (sym en) sums)

pub overflow_sub-n : goal.overflow_sub-n
overflow_sub-n c =
    let places : 2 * c.size-n.result ≡ 2 ^ suc c.args.m = omega (arith, c.size-n.ensures) in
    omega (arith, places, pow_pos (suc c.args.m))

pub returns-then-abstained-n : goal.returns-then-abstained-n
returns-then-abstained-n c =
    let places : 2 * c.size-n.result ≡ 2 ^ suc c.args.m = omega (arith, c.size-n.ensures) in
    stays c.args.m c.args.abstained (2 * c.size-n.result) c.args.area.now (places) c.if-abstained-n.true

pub renew-requires : goal.renew-requires
renew-requires c =
    let places : 2 * c.size-n.result ≡ 2 ^ suc c.args.m = omega (arith, c.size-n.ensures) in
    let p = c.requires in
    asks c.args.m c.args.abstained (2 * c.size-n.result) c.args.area.now (places) p.1 p.2

pub returns : goal.returns
returns c =
    let places : 2 * c.size-n.result ≡ 2 ^ suc c.args.m = omega (arith, c.size-n.ensures) in
    moves c.args.m c.args.abstained (2 * c.size-n.result) c.args.area.now (places) c.if-abstained-n.false c.renew.ensures
