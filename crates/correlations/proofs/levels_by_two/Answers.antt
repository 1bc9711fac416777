-- `correlations::levels_by_two` meets its contract: two levels transform blocks of four times the size. Assumes nothing.
use Prim.Native.Nat.{ℕ, ◌*◌, ◌≤◌}
use mathlib.Core.Path.{◌≡◌, ◌∙◌}
use mathlib.Core.List.{List}
use native.Mathlib.Omega.{arith}
use lib.IntN.{ℤ}
use lib.ListN.{length}
use Rattle.words.specs.Butterflies.{Blocked, BlocksDone}
use Rattle.hadamard.specs.Transform.{sums, summable_entries}
use Rattle.correlations.specs.Begun.{Begun, Blockwise, End}
use Rattle.correlations.specs.Twice.{twice, next_two, two_done}
use Rattle.correlations.proofs.levels_by_two.Goals as goal

-- what is done of blocks of h numbers in a, is done of blocks of n in r
abbrev Leads : ℕ → ℕ → List ℤ → List ℤ → Type 0
Leads h n a r = (m : ℕ) (x : List ℤ) → Blockwise h m x a → Blockwise n m x r

begun : {h n : ℕ} {a r : List ℤ} → Leads h n a r → Begun h a → Begun n r
begun f p = record { exponent = _; from = _; done = f _ _ p.done }

module _ {h m : ℕ} {x a : List ℤ} (b : Blockwise h m x a) (l : 4 * h ≤ length a) where
  ready : Blocked sums (4 * h) 2 a
  ready = next_two sums (summable_entries b.summable) b.transformed l

  further : {r : List ℤ} → BlocksDone (twice sums h) (4 * h) (length a) a r → Blockwise (4 * h) m x r
  further d = record { summable = b.summable; transformed = two_done sums (summable_entries b.summable) b.transformed l d }

leads : (h : ℕ) {a r : List ℤ} → 4 * h ≤ length a → BlocksDone (twice sums h) (4 * h) (length a) a r → Leads h (4 * h) a r
leads h l d m x b = further b l d

-- the end from later blocks on
later : {first next end : ℕ} {a b : List ℤ} → End first end a → length b ≡ length a → next ≤ end → End next end b
later e n l = record { exponent = e.exponent; power = e.power; after = l; within = omega (arith, e.within) }

-- the blocks of 4 of a lead to those of 64 of c, and to those of 256 of d
module _ {a b c : List ℤ} (l : 64 ≤ length a) (m : length b ≡ length a) (p : BlocksDone (twice sums 4) 16 (length a) a b) (q : BlocksDone (twice sums 16) 64 (length b) b c) where
  to_64 : Leads 4 64 a c
  to_64 n x t = leads 16 (omega arith) q n x (leads 4 (omega arith) p n x t)

  to_256 : {d : List ℤ} → 256 ≤ length a → length c ≡ length b → BlocksDone (twice sums 64) 256 (length c) c d → Leads 4 256 a d
  to_256 u v r n x t = leads 64 (omega arith) r n x (to_64 n x t)

pub two_levels-requires : goal.two_levels-requires
two_levels-requires c = ready c.requires.0.done (omega arith)

pub levels-requires-then-end-lt64 : goal.levels-requires-then-end-lt64
levels-requires-then-end-lt64 c =
    (begun (leads 4 (omega arith) c.two_levels.ensures) c.requires.0, later c.requires.1 c.two_levels.auto.a (omega arith))

pub returns-then-end-lt64 : goal.returns-then-end-lt64
returns-then-end-lt64 c m x b = c.levels-then-end-lt64.ensures m x (leads 4 (omega arith) c.two_levels.ensures m x b)

pub two_levels-requires-2 : goal.two_levels-requires-2
two_levels-requires-2 c = ready (begun (leads 4 (omega arith) c.two_levels.ensures) c.requires.0).done (omega arith)

pub levels-requires-then-end-lt256 : goal.levels-requires-then-end-lt256
levels-requires-then-end-lt256 c = (
  begun (to_64 (omega arith) c.two_levels.auto.a c.two_levels.ensures c.two_levels-2.ensures) c.requires.0,
  later c.requires.1 (c.two_levels-2.auto.a ∙ c.two_levels.auto.a) (omega arith),
)

pub returns-then-end-lt256 : goal.returns-then-end-lt256
returns-then-end-lt256 c m x b =
    c.levels-then-end-lt256.ensures m x (to_64 (omega arith) c.two_levels.auto.a c.two_levels.ensures c.two_levels-2.ensures m x b)

pub two_levels-requires-3 : goal.two_levels-requires-3
two_levels-requires-3 c =
    ready (begun (to_64 (omega arith) c.two_levels.auto.a c.two_levels.ensures c.two_levels-2.ensures) c.requires.0).done (omega arith)

pub levels-requires-2 : goal.levels-requires-2
levels-requires-2 c = (
  begun
      (to_256 (omega arith) c.two_levels.auto.a c.two_levels.ensures c.two_levels-2.ensures (omega arith) c.two_levels-2.auto.a c.two_levels-3.ensures)
      c.requires.0,
  later c.requires.1 (c.two_levels-3.auto.a ∙ c.two_levels-2.auto.a ∙ c.two_levels.auto.a) (omega arith),
)

pub returns : goal.returns
returns c m x b =
    let t = to_256 (omega arith) c.two_levels.auto.a c.two_levels.ensures c.two_levels-2.ensures (omega arith) c.two_levels-2.auto.a c.two_levels-3.ensures in
    c.levels-2.ensures m x (t m x b)
