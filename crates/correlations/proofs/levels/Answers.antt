-- `correlations::levels` meets its contract: each level transforms blocks of twice the size. Assumes nothing.
use Prim.Native.Nat.{ℕ, ◌+◌, ◌≤◌, ◌<◌}
use mathlib.Core.Path.{◌≡◌, subst}
use mathlib.Core.List.{List}
use native.Mathlib.Omega.{arith}
use lib.IntN.{ℤ}
use lib.ListN.{length}
use Rattle.words.specs.Butterflies.{Blocked}
use Rattle.words.specs.Levels.{level_done, next_level}
use Rattle.hadamard.specs.Transform.{sums, summable_entries}
use Rattle.correlations.specs.Begun.{Blockwise, Begun, End, level_within}
use Rattle.correlations.proofs.levels.Goals as goal

-- what a turn meets: the blocks of h that the caller named are done
record Turn (first end h : ℕ) (a b : List ℤ) : Type 0 where
  exponent : ℕ
  from : List ℤ
  done : Blockwise h exponent from b
  more : h < length b
  within : h + h ≤ end

turn : {first end h : ℕ} {a b : List ℤ} → Begun first a × End first end a → ((m : ℕ) (x : List ℤ) → Blockwise first m x a → Blockwise h m x b)
    → length b ≡ length a → h < end → Turn first end h a b
turn (p, e) f s l =
    let d : Blockwise _ p.exponent p.from _ = f _ _ p.done in
    record { exponent = _; from = _; done = d; more = omega (arith, s, e.within); within = level_within d.transformed e l }

-- the next level is ready
ready : {first end h : ℕ} {a b : List ℤ} → Turn first end h a b → Blocked sums (h + h) 1 b
ready t = next_level sums (summable_entries t.done.summable) t.done.transformed t.more

pub level-requires : goal.level-requires
level-requires c = ready (turn c.requires c.loop-h.invariant.1 c.loop-h.auto.a c.loop-h-test.true)

pub overflow_add-h : goal.overflow_add-h
overflow_add-h c =
    let t = turn c.requires c.loop-h.invariant.1 c.loop-h.auto.a c.loop-h-test.true in
    omega (arith, t.within, c.requires.1.within, c.well_formed.0.0)

pub loop-h-smaller : goal.loop-h-smaller
loop-h-smaller c =
    let t = turn c.requires c.loop-h.invariant.1 c.loop-h.auto.a c.loop-h-test.true in
    omega (arith, (ready t).some, t.within)

pub loop-h-preserved : goal.loop-h-preserved
loop-h-preserved c =
    let t = turn c.requires c.loop-h.invariant.1 c.loop-h.auto.a c.loop-h-test.true in (
      t.within,
      λ m x b.
          let d = c.loop-h.invariant.1 m x b in
          record { summable = d.summable; transformed = level_done sums (summable_entries d.summable) d.transformed t.more c.level.ensures },
    )

pub returns : goal.returns
returns c m x b =
    subst (λ (h : ℕ). Blockwise h m x c.loop-h.a) (omega (arith, c.loop-h.invariant.0)) (c.loop-h.invariant.1 m x b)
