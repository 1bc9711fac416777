-- What the exported call for a street returns: document 02, request 10. Assumes nothing.
use Rattle.std.specs.Prelude.{ℕ, ◌+◌, ◌*◌, ◌%◌, ◌≡◌, Bool, List, ℤ, length}
use Rattle.words.specs.Word.{indicator}
use Rattle.tables.specs.Tables.{Slot}
use Rattle.streets.specs.Street.{Step, sent_in}
use Rattle.street_runs.specs.Run.{area_after, block_after, logged, is_none_left, run_refusal, steps_made}
use Rattle.streets.specs.declared.Plan.{Plan}

-- refusal or 0 in the lowest 8 bits, the blocks sent in 32, 1 in the next 8 where a step answered that none is left
abbrev pub pack_ran : ℕ → ℕ → Bool → ℕ
pack_ran number sent none = number + sent % 4294967296 * 256 + indicator none * 1099511627776

-- the log, the block's buffer and the area before and after, and what is returned
module _ (slot : Slot) (plan : Plan) (start budget : ℕ) (log log' block block' : List ℕ) (area area' : List ℤ) (returned : ℕ) where
  abbrev l : List Step
  l = steps_made slot plan start budget (length block) (length area)

  pub record ReturnsStreet : Type 0 where
    pub packed : returned ≡ pack_ran (run_refusal slot plan start (length block) (length area)) (sent_in l) (is_none_left slot plan start budget (length block) (length area))
    pub log_is : log' ≡ logged l log
    pub block_is : block' ≡ block_after slot plan start block l
    pub area_is : area' ≡ area_after area l
