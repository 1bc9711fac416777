-- Laws of a text put at the start of a buffer. Assumes nothing.
use Rattle.std.specs.Prelude.{ℕ, ◌≤◌, ◌<◌, refl, List, length}
use Rattle.std.proofs.Common.{arith, sym, length-take-le}
use Rattle.text.specs.Texts.{Appended}
use Rattle.text.specs.TextLaws.{appended_within}
use Rattle.pieces.specs.Pieces.{Puts}

pub puts : {room : ℕ} {text before after : List ℕ} {end : ℕ} → room ≤ length before → Appended before 0 text end after → Puts room text before end after
puts {room} {text} {before} {after} {end} h a =
    let l = appended_within a (omega arith) in
    record { within = l; counted = sym (length-take-le end after l); holds = λ z. a.holds; none = λ z. absurd (omega arith); past = a.past }

pub puts_none : {room : ℕ} {text before : List ℕ} → length before < room → Puts room text before 0 before
puts_none h = record { within = omega arith; counted = refl; holds = λ z. absurd (omega arith); none = λ z. refl; past = refl }
