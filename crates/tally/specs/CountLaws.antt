-- The tally after one more answer, case by case. Assumes nothing.
use Rattle.std.specs.Prelude.{ℕ, ◌+◌, ◌≤◌, ◌<◌, ◌≡◌, get_or, set}
use Rattle.std.proofs.lemmas.List.{set-get_or}
use borrow.Author.Tests.{lt-ltb, le-ltb}
use Rattle.tally.specs.declared.Tally.{Tally}
use Rattle.tally.specs.Counts.{tallied}

module _ (answer : ℕ) (t : Tally) where
  pub other : 32 ≤ answer → t ≡ tallied answer t
  unfolding tallied
  other h = rw (le-ltb answer 32 h)

  module _ (h : answer < 32) where
    pub one_more : get_or t.counts answer 0 < 4294967295 → record { counts = set t.counts answer (get_or t.counts answer 0 + 1) } ≡ tallied answer t
    unfolding tallied
    one_more l = rw (lt-ltb answer 32 h, lt-ltb _ 4294967295 l)

    pub full : 4294967295 ≤ get_or t.counts answer 0 → t ≡ tallied answer t
    unfolding tallied
    full l = rw (lt-ltb answer 32 h, le-ltb _ 4294967295 l, set-get_or)
