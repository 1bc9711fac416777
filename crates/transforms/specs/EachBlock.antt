-- A call that changes one block of a list after the other. Assumes nothing.
use Rattle.std.specs.Prelude.{ℕ, ◌*◌, ◌<◌, ◌≡◌, List}
use Rattle.std.specs.Borrow.{MutBor}
use Rattle.std.specs.Fn.{Shared}

-- whole blocks of s entries
pub record Whole (s n : ℕ) : Type 0 where
  pub some : 0 < s
  pub count : ℕ
  pub size : n ≡ count * s

module _ {F A : Type 0} (g : Shared F (MutBor (List A) × Unit {0}) (Unit {0} × (MutBor (List A) × Unit {0}))) (f : F) where
  -- f may be called at a list
  abbrev pub Takes : List A → Type 0
  Takes x = (p : MutBor (List A)) → p.now ≡ x → g.pre f (p, tt)

  -- what f leaves of a list is `change` of it
  abbrev pub Does : (List A → List A) → Type 0
  Does change = (p q : MutBor (List A)) → g.post f (p, tt) (tt, (q, tt)) → q.now ≡ change p.now
