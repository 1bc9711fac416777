-- A block drawn, decoded and compared with what was sent. Assumes nothing.
use Rattle.std.specs.Prelude.{ℕ, ◌-◌, ◌^◌, ◌≤◌, ◌≡◌, ◌≢◌, List, ℤ, drop, length, replicate, take, Ok, Err}
use Rattle.std.proofs.Math.Decide.{dec_lt}
use Rattle.std.proofs.Common.{arith, ap, ◌∙◌, pow_mono, get_or-take, ne_eqb}
use Rattle.std.proofs.lemmas.List.{get_or-replicate, length-replicate}
use Rattle.std.proofs.Math.ListN.{get_or-eq_default}
use Rattle.words.specs.Parts.{front_length}
use Rattle.words.specs.Word.{IsWord, bit, distance}
use Rattle.refusals.specs.Refusals.{number_of, Decoded}
use Rattle.refusals.proofs.CheckLaws.{number_pos}
use Rattle.refusals.specs.declared.Accepted.{Accepted}
use Rattle.refusals.specs.declared.Refused.{Refused}
use Rattle.profiles.specs.declared.Profile.{Profile}
use Rattle.rule.specs.Reading.{Outcome, accepted, refused}
use Rattle.rule.specs.Calls.{Decodes, values_of}
use Rattle.rule.specs.Decoding.{answer_of, decode_call, decode_of, number_in, output_of}
use Rattle.rule.proofs.DecodingLaws.{call_is}
use Rattle.rule.specs.Demand3.{Sound}
use Rattle.rule.proofs.Demand3.{decode_sound}
use Rattle.table_decoder.specs.TableLaws.{entry_area}
use Rattle.generator.specs.declared.Places.{Places}
use Rattle.load.specs.LoadLaws.{block_word, sent_codeword}
use Rattle.load.specs.Steps.{BlockDrawn}
use Rattle.streets.specs.Street.{answer_to, judged, other, refusal, right}
use Rattle.streets.specs.State.{answered}
use Rattle.streets.specs.Sends.{Sendable, SendableIn, Sends, judged_by}
use Rattle.streets.specs.declared.Fate.{Fate}

-- ---- the code's returns

module _ (m : ℕ) (sent got : List ℕ) {d : Decoded} where
  module _ {x : Accepted} {n : ℕ} (e : d ≡ Ok x) (s : n ≡ distance m sent got) where
    pub right_is : n ≡ 0 → right ≡ judged_by m sent got d
    right_is h = rw (e, ← s, h)

    pub other_is : n ≢ 0 → other ≡ judged_by m sent got d
    other_is h = rw (e, ← s, ne_eqb n 0 h)

  pub refused_is : {x : Refused} → d ≡ Err x → refusal (number_of x.why) ≡ judged_by m sent got d
  refused_is e = rw e

-- ---- buffers of its own

module _ (p : Profile) {block : List ℕ} {area : List ℤ} (h : Sendable p block area) where
  pub fits : length block ≤ length {A = ℕ} (replicate 1024 0)
  fits = omega (arith, h.size, pow_mono h.limits.small, length-replicate {A = ℕ} 1024 0)

  zero_at : (q : ℕ) → bit (take (length block - 0) (drop 0 (replicate 1024 0))) q ≡ 0
  zero_at q = elim (dec_lt q (length block)) [
    | yes l ↦ get_or-take (length block - 0) (replicate 1024 0) q 0 (omega arith) ∙ get_or-replicate 1024 q 0 0 (omega (arith, fits, length-replicate {A = ℕ} 1024 0))
    | no k ↦ get_or-eq_default (take (length block - 0) (drop 0 (replicate 1024 0))) 0 {n = q} (omega (arith, front_length {A = ℕ} (length block) (replicate 1024 0) fits))
  ]

  -- both are zeros at first
  pub own_buffers : SendableIn p (take (length block - 0) (drop 0 (replicate 1024 0))) (take (length block - 0) (drop 0 (replicate 1024 0))) block area
  own_buffers =
      let size : length {A = ℕ} (take (length block - 0) (drop 0 (replicate 1024 0))) ≡ 2 ^ p.m = front_length {A = ℕ} (length block) (replicate 1024 0) fits ∙ h.size in
      record { sendable = h; sent_size = size; got_word = record { size = size; bits = λ q. omega (arith, zero_at q) } }

-- ---- the decoder's answer is the definition's

answer_of_lem : (m r : ℕ) (sent word got got' : List ℕ) (d : Decoded) (o : Outcome) → Sound m r o → values_of d ≡ answer_of m word o → got' ≡ output_of o got
    → judged_by m sent got' d ≡ judged m sent o
answer_of_lem m r sent word got got' (Ok x) (accepted w i j) h s g = rw g
answer_of_lem m r sent word got got' (Ok x) (refused e i j) h s g = absurd (omega (arith, ap number_in s))
answer_of_lem m r sent word got got' (Err x) (accepted w i j) h s g = absurd (omega (arith, ap number_in s, number_pos x.why))
answer_of_lem m r sent word got got' (Err x) (refused e i j) h s g = ap refusal (ap number_in s)

word_of : (m r : ℕ) (got : List ℕ) (o : Outcome) → IsWord m got → Sound m r o → IsWord m (output_of o got)
word_of m r got (accepted d k l) h s = s.word
word_of m r got (refused e k l) h s = h

module _ (p : Profile) (wrong x : ℕ) {sent₀ sent got got' block₀ block : List ℕ} {area area' : List ℤ} {places : Places} {d : Decoded}
    (h : SendableIn p sent₀ got block₀ area) (drew : BlockDrawn p.m p.r wrong x sent block places)
    (c : Decodes p.m (decode_call p.m p.r p.rounds p.leaves block (length got) (length area)) block got got' area area' d) where
  abbrev o : Outcome
  o = decode_of p.m p.r p.rounds p.leaves block

  is_word : IsWord p.m block
  is_word = rw drew.block_is (block_word p.m p.r wrong x)

  is : decode_call p.m p.r p.rounds p.leaves block (length got) (length area) ≡ o
  is = call_is (record { input = is_word; output = h.got_word.size; lent = h.sendable.room }) p.r p.rounds p.leaves

  decodes : Decodes p.m o block got got' area area' d
  decodes = rw is at c

  is_sound : Sound p.m p.r o
  is_sound = decode_sound p.m p.r p.rounds p.leaves block is_word

  pub sent_is_word : IsWord p.m sent
  sent_is_word = rw drew.sent_is (sent_codeword p.m p.r wrong x).word

  pub got_is_word : IsWord p.m got'
  got_is_word = rw decodes.output (word_of p.m p.r got o h.got_word is_sound)

  pub block_sent : {f : Fate} → answered f ≡ judged_by p.m sent got' d → Sends p wrong x block area area' (record { fate = f; state = places.state })
  unfolding answer_to
  block_sent {f} j = record {
    block_is = drew.block_is;
    answer = j ∙ answer_of_lem p.m p.r sent block got got' d o is_sound decodes.answer decodes.output ∙ rw (drew.sent_is, drew.block_is);
    state = drew.state;
    area_is = decodes.lent ∙ entry_area h.sendable.limits block area;
  }
