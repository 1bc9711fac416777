-- How long each line is. Assumes nothing.
use Rattle.std.specs.Prelude.{ℕ, ◌+◌, ◌*◌, ◌/◌, ◌≡◌, List, length}
use Rattle.std.proofs.Common.{arith, length-append}
use Rattle.text.specs.Numbers.{decimal}
use Rattle.text.specs.TextLaws.{ten_length, hex_length}
use Rattle.lines.specs.Lines.{refusal_text, accepted_line, refused_line, cut_line, last_line, header_line}

pub refusal_length : (number : ℕ) → length (refusal_text number) ≡ 9 + length (decimal number)
refusal_length number = omega arith

pub accepted_length : (serial : ℕ) (message : List ℕ) → length (accepted_line serial message) ≡ 12 + (length message + 7) / 8 * 2
accepted_length serial message = simp (length-append, ten_length, hex_length) (omega arith)

pub refused_length : (serial number : ℕ) → length (refused_line serial number) ≡ 20 + length (decimal number)
refused_length serial number = simp (length-append, ten_length) (omega arith)

pub cut_length : length cut_line ≡ 20 + length (decimal 16)
cut_length = simp length-append (omega arith)

pub header_length : length header_line ≡ 14 + length (decimal 15)
header_length = simp length-append (omega arith)

pub last_length : (records ok : ℕ) → length (last_line records ok) ≡ 20 + length (decimal records) + length (decimal ok)
last_length records ok = simp length-append (omega arith)
