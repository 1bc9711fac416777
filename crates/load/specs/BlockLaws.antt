-- Blocks as the code draws them. Assumes nothing.
use Rattle.std.specs.Prelude.{ℕ, ◌^◌, ◌<◌, ◌≡◌, List, length}
use Rattle.std.proofs.Common.{sym, ap, ◌∙◌}
use Rattle.std.specs.Int.Bits.{bit_xor}
use Rattle.words.specs.Sum.{tabulate}
use Rattle.words.specs.SumLaws.{tabulate_ext, tabulate-get_or}
use Rattle.words.specs.Word.{IsWord, add_words, bit}
use Rattle.words.proofs.WordLaws.{word_add, word_bit}
use Rattle.words.specs.Xor.{xor_bits}
use Rattle.code.specs.Code.{dimension}
use Rattle.refusals.specs.IsCode.{IsCode}
use Rattle.refusals.specs.Refusals.{Answer}
use Rattle.codec_checks.specs.Passed.{encode_passes}
use Rattle.codec.specs.Calls.{Encodes}
use Rattle.codec.specs.CallLaws.{call_passed}
use Rattle.generator.specs.Generator.{message_from, places_from, steps}
use Rattle.generator.specs.Drawing.{MessageDrawn, Placed}
use Rattle.generator.specs.MessageLaws.{message_bits, message_length}
use Rattle.generator.specs.PlaceLaws.{places_noise}
use Rattle.generator.specs.declared.Places.{Places}
use Rattle.load.specs.Load.{block_from, places_after, sent_from, state_after}
use Rattle.load.specs.LoadLaws.{sent_codeword}
use Rattle.load.specs.Steps.{BlockDrawn, SentDrawn}

-- the sum of two words is their exclusive or
pub xor_words : {m : ℕ} {u v : List ℕ} → IsWord m u → IsWord m v → tabulate (2 ^ m) (λ p. bit_xor (bit u p) (bit v p)) ≡ add_words u v
xor_words {m} {u} {v} hu hv =
    tabulate_ext (2 ^ m) _ _ (λ p l. xor_bits (bit u p) (bit v p) (hu.bits p) (hv.bits p) ∙ sym (word_bit hu hv p))
    ∙ tabulate-get_or (2 ^ m) (add_words u v) 0 (word_add hu hv).size

-- the encoder refuses no drawn message
pub sent_drawn :
    {m r x y : ℕ} {buffer message before sent : List ℕ} {a : Answer} → IsCode m r → x < 2 ^ 32 → length buffer ≡ dimension m r → length before ≡ 2 ^ m
    → MessageDrawn x buffer message y → Encodes m r message before sent a → SentDrawn m r x sent y
unfolding sent_from
sent_drawn {m} {r} {x} code small long size d e =
    let is : _ ≡ message_from (dimension m r) x = d.message ∙ ap (λ (k : ℕ). message_from k x) long in
    record {
      sent_is = (call_passed (rw is at e) (encode_passes {message = message_from (dimension m r) x} record { code = code; size = message_length (dimension m r) x; room_size = size; bits = message_bits (dimension m r) x small })).1;
      state = d.state ∙ ap (λ (k : ℕ). steps k x) long;
    }

-- a codeword drawn, then the places, then both added
module _ (asked : ℕ) {m r x y : ℕ} {sent noise : List ℕ} {p : Places} (s : SentDrawn m r x sent y) (d : Placed (places_from (2 ^ m) asked y) p noise) where
  pub sent_word : IsWord m sent
  sent_word = rw s.sent_is (sent_codeword m r 0 x).word

  pub noise_word : IsWord m noise
  noise_word = rw d.word (places_noise m asked y).word

  pub block_drawn : {block : List ℕ} → block ≡ add_words sent noise → BlockDrawn m r asked x sent block p
  unfolding block_from state_after places_after
  block_drawn e = record {
    sent_is = s.sent_is;
    block_is = e ∙ rw (s.sent_is, d.word, s.state);
    state = d.state ∙ rw s.state;
    wrong = d.count ∙ rw (d.word, s.state);
  }
