-- The digits of `text::Writer::put_ten`: one is written a turn.
use Rattle.std.proofs.Common.{◌-◌, ◌+◌, ◌/◌, ◌%◌, ◌^◌, ◌≡◌, length}
use Rattle.words.specs.Written.{Written}
use Rattle.text.proofs.Writer.put_ten.Given as goal

abbrev pub invariant-loop-i : goal.invariant-loop-i
invariant-loop-i l = record {
  place : l.self.at ≡ l.initial.self.at;
  long : length l.self.out.now ≡ length l.initial.self.out.now;
  same : l.self.out.ghost_name ≡ l.initial.self.out.ghost_name;
  digits : Written 0 l.initial.self.at l.i (λ j. 48 + l.n / 10 ^ (9 - j) % 10) l.initial.self.out.now l.self.out.now;
}
