-- `confidence_decoder::answers::mended` meets its contract: the loop counts the places so far. Assumes nothing.
use Prim.Native.Nat.{◌≤◌}
use mathlib.Core.Path.{◌≡◌}
use Rattle.words.specs.Sum.{sum_below}
use Rattle.words.specs.Word.{differs}
use Rattle.confidences.specs.Confidences.{signs_of}
use Rattle.confidence_decoder.proofs.answers.mended.Given as goal

abbrev pub invariant-loop-p : goal.invariant-loop-p
invariant-loop-p l =
    (l.d ≤ l.p) × (l.d ≡ sum_below l.p (differs (signs_of l.m l.values) l.word))
