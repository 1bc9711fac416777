-- A tally of answers by number: document 02, request 11. Assumes nothing.
use Rattle.std.specs.Prelude.{ℕ, ◌+◌, cond, get_or, set, ltb}
use Rattle.tally.specs.declared.Tally.{Tally}

-- "Counts stop at 4,294,967,295."
abbrev pub more : ℕ → ℕ
more n = cond (ltb n 4294967295) (n + 1) n

-- "Answers 0 (accepted) to 31 are counted; any other number changes nothing.": the tally after one more answer
unfoldable pub tallied : ℕ → Tally → Tally
tallied answer t =
    record { counts = cond (ltb answer 32) (set t.counts answer (more (get_or t.counts answer 0))) t.counts }
