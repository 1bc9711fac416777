-- Two calls in buffers of the right sizes, the second given the first one's output. Assumes nothing.
use Prim.Native.Nat.{ℕ, ◌<◌}
use mathlib.Core.Path.{sym, ap, ◌∙◌, subst}
use mathlib.Core.List.{List}
use lib.ListN.{length}
use Rattle.words.specs.Word.{bit}
use Rattle.refusals.specs.Refusals.{Answer}
use Rattle.refusals.specs.IsCode.{IsCode}
use Rattle.code.specs.Code.{IsCodeword, codeword, message_of}
use Rattle.code.proofs.Inverse.{encoder_codeword}
use Rattle.code.proofs.MessageLaws.{codeword_message, message_bits, message_codeword, message_length}
use Rattle.codec_checks.specs.Passed.{encode_passes, read_passes}
use Rattle.codec.specs.Calls.{Encodes, Reads}
use Rattle.codec.specs.CallLaws.{call_passed}
use Rattle.round_trip.specs.RoundTrip.{Back, Fit, IsMessage}

code_of : {m r : ℕ} {word message : List ℕ} → Fit m r word message → IsCode m r
code_of f = record { some = f.some; most = f.most; order = f.order }

module _ {m r : ℕ} {before v before' v' : List ℕ} {a a' : Answer} where
  pub message_back :
      {message : List ℕ} → Encodes m r message before v a → Reads m r v before' v' a' → IsMessage m r message → Fit m r before before'
      → Back (codeword m r message) message v v' a a'
  message_back {message} one two h f =
      let (done, is) = call_passed one (encode_passes {message = message} record { code = code_of f; size = h.size; room_size = f.word_size; bits = h.bits }) in
      let word : IsCodeword m r v = subst (IsCodeword m r) (sym is) (encoder_codeword m r message) in
      let (done', is') = call_passed two (read_passes (code_of f) word f.message_size) in
      record { first = done; second = done'; between = is; back = is' ∙ ap (message_of m r) is ∙ message_codeword m r message h.size h.bits }

  pub word_back :
      {word : List ℕ} → Reads m r word before v a → Encodes m r v before' v' a' → IsCodeword m r word → Fit m r before' before
      → Back (message_of m r word) word v v' a a'
  word_back {word} one two h f =
      let (done, is) = call_passed one (read_passes (code_of f) h f.message_size) in
      let bits : (i : ℕ) → bit v i < 2 = λ i. rw is (message_bits m r word i) in
      let (done', is') = call_passed two (encode_passes {message = v} record { code = code_of f; size = ap length is ∙ message_length m r word; room_size = f.word_size; bits = bits }) in
      record { first = done; second = done'; between = is; back = is' ∙ ap (codeword m r) is ∙ codeword_message m r word h }
