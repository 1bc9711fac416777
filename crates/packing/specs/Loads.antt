-- What the exported call for a block of a load returns: document 02, request 9. Assumes nothing.
use Rattle.std.specs.Prelude.{ℕ, ◌+◌, ◌*◌, ◌≡◌, Bool, List}
use Rattle.words.specs.Word.{indicator}
use Rattle.tables.specs.Tables.{Slot}
use Rattle.load.specs.Load.{block_of, block_refusal, short_of, state_of}

-- refusal or 0 in the lowest 8 bits, 1 in the next 8 where the block was left short, 16 zero bits, the state after in 32
abbrev pub pack_next : ℕ → Bool → ℕ → ℕ
pack_next number short state = number + indicator short * 256 + state * 4294967296

-- the block's buffer before and after, and what is returned
pub record ReturnsBlock (slot : Slot) (x asked : ℕ) (word word' : List ℕ) (returned : ℕ) : Type 0 where
  pub packed : returned ≡ pack_next (block_refusal slot x asked word) (short_of slot x asked word) (state_of slot x asked word)
  pub block : word' ≡ block_of slot x asked word
