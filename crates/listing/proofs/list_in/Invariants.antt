-- `listing::list_in` meets its contract: each turn adds a piece. Assumes nothing.
use mathlib.Core.Path.{◌≡◌}
use lib.ListN.{length}
use Rattle.readers.specs.Readers.{lines_for}
use Rattle.pieces.specs.Pieces.{Piece}
use Rattle.listing.specs.PartLaws.{Ends, Lent, left}
use Rattle.listing.proofs.list_in.Given as goal

abbrev pub invariant-loop-d : goal.invariant-loop-d
invariant-loop-d l =
    (length l.word ≡ length l.initial.word) × (length l.decoded ≡ length l.initial.decoded) × (length l.out ≡ length l.initial.out) × (length l.area ≡ length l.initial.area) × Piece l.table (lines_for l.reader) (Ends l.last) l.part l.initial.out 0 l.out l.d × Lent l.table l.part l.initial.area l.area l.d

abbrev pub decreases-loop-d : goal.decreases-loop-d
decreases-loop-d l =
    left l.part l.d
