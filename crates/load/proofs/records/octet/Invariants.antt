-- `load::records::octet` meets its contract. Assumes nothing.
use mathlib.Core.Path.{◌≡◌}
use Rattle.words.specs.Word.{bit}
use Rattle.load.specs.RecordLaws.{binary}
use Rattle.load.proofs.records.octet.Given as goal

abbrev pub invariant-loop-x : goal.invariant-loop-x
invariant-loop-x l =
    l.b ≡ binary l.x-index (bit l.bits)
