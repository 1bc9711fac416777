-- What the functions that draw promise. Assumes nothing.
use Rattle.std.specs.Prelude.{ℕ, ◌<◌, ◌≡◌, List, length}
use Rattle.words.specs.Word.{bit}
use Rattle.generator.specs.declared.Places.{Places}
use Rattle.generator.specs.Generator.{Drawn, message_from, steps, wrong_in}

-- a message drawn from a state into a buffer: the state after it
pub record MessageDrawn (x : ℕ) (before after : List ℕ) (y : ℕ) : Type 0 where
  pub state : y ≡ steps (length before) x
  pub message : after ≡ message_from (length before) x

-- the code's state and noise are d's, and it has counted the wrong places
pub record Placed (d : Drawn) (p : Places) (noise : List ℕ) : Type 0 where
  pub state : p.state ≡ d.state
  pub word : noise ≡ d.noise
  pub count : p.wrong ≡ wrong_in noise
  pub bits : (i : ℕ) → bit noise i < 2

-- what the code holds
abbrev pub held : Places → List ℕ → Drawn
held p noise = record { state = p.state; noise = noise }
