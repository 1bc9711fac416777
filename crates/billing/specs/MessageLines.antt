-- Laws of an accepted record's line: reading the message of an accepted word is never refused. Assumes nothing.
use Rattle.std.specs.Prelude.{ℕ, ◌≡◌, List, length, Ok}
use Rattle.refusals.specs.Refusals.{Answer, first_refusal}
use Rattle.code.specs.Code.{message_of}
use Rattle.codec_checks.specs.Checks.{read_checks}
use Rattle.codec_checks.specs.Passed.{read_passes}
use Rattle.codec.specs.Calls.{Reads}
use Rattle.codec.specs.CallLaws.{call_passed}
use Rattle.billing.specs.Accepted.{Readable}

-- no check refuses, 13 neither
pub codeword_passes : {m r : ℕ} {word : List ℕ} {room : ℕ} → Readable m r word room → 0 ≡ first_refusal (read_checks m r word room)
codeword_passes h = read_passes h.code h.codeword h.sized

pub reads_done : {m r : ℕ} {word before after : List ℕ} {a : Answer} → Readable m r word (length before) → Reads m r word before after a → a ≡ (Ok tt)
reads_done h c = (call_passed c (codeword_passes h)).0

pub reads_message : {m r : ℕ} {word before after : List ℕ} {a : Answer} → Readable m r word (length before) → Reads m r word before after a → after ≡ message_of m r word
reads_message h c = (call_passed c (codeword_passes h)).1
