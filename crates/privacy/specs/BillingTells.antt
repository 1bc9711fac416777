-- Billing's line of an accepted record tells the block's codeword: of blocks that differ by a codeword it is the same only where they are.
-- Assumes nothing.
use Rattle.std.specs.Prelude.{ℕ, zero, suc, ◌+◌, ◌*◌, ◌/◌, ◌%◌, ◌<◌, ◌≡◌, refl, length}
use Rattle.std.proofs.Math.Decide.{dec_lt}
use Rattle.std.proofs.Common.{arith, sym, ◌∙◌, ext_get_or, lt-ltb, le-ltb}
use Rattle.std.proofs.Math.Path.{ap}
use mathlib.Core.List.{List, [], ◌∷◌, ◌++◌, append_cancel_left, append_cancel_right}
use Rattle.std.proofs.Math.ListN.{get_or}
use Rattle.words.specs.SumLaws.{get_or-tabulate}
use Rattle.words.specs.Word.{IsWord, add_words, bit}
use Rattle.words.proofs.WordLaws.{word_add, word_bit, word_ext}
use Rattle.code.specs.Code.{IsCodeword, codeword, message_of}
use Rattle.code.proofs.MessageLaws.{codeword_message, message_bits, message_length}
use Rattle.profiles.specs.declared.Profile.{Profile}
use Rattle.rule.specs.Reading.{Outcome, accepted, refused}
use Rattle.rule.specs.Decoding.{refusal_of}
use Rattle.rule.specs.Demand3.{Agree, Sound}
use Rattle.rule.proofs.Demand3.{decode_sound, demand_3}
use Rattle.alike.specs.Alike.{Differ}
use Rattle.text.specs.Numbers.{hex_digit, hex_of, nibble, ten_digits}
use Rattle.text.specs.Texts.{Bits}
use Rattle.lines.specs.Lines.{accepted_line, billing_line, decoded_by, newline}

-- ---- hexadecimal digits tell the bits

digit_tells : (x y : ℕ) → x < 16 → y < 16 → hex_digit x ≡ hex_digit y → x ≡ y
digit_tells x y hx hy e = elim (dec_lt x 10) [
  | yes a ↦ elim (dec_lt y 10) [
    | yes b ↦ let z = rw (lt-ltb x 10 a, lt-ltb y 10 b) at e in omega arith
    | no b ↦ let z = rw (lt-ltb x 10 a, le-ltb y 10 (omega arith)) at e in absurd (omega arith)
  ]
  | no a ↦ elim (dec_lt y 10) [
    | yes b ↦ let z = rw (le-ltb x 10 (omega arith), lt-ltb y 10 b) at e in absurd (omega arith)
    | no b ↦ let z = rw (le-ltb x 10 (omega arith), le-ltb y 10 (omega arith)) at e in omega arith
  ]
]

module _ (a b : List ℕ) (ha : Bits a) (hb : Bits b) (same : length a ≡ length b) (e : hex_of a ≡ hex_of b) where
  nibble_same : (q : ℕ) → 4 * q < length a → nibble a q ≡ nibble b q
  unfolding hex_of
  nibble_same q l =
      let x = get_or-tabulate ((length a + 7) / 8 * 2) (λ i. hex_digit (nibble a i)) 0 q (omega arith) in
      let y = get_or-tabulate ((length b + 7) / 8 * 2) (λ i. hex_digit (nibble b i)) 0 q (omega arith) in
      digit_tells (nibble a q) (nibble b q)
      (omega (arith, ha (4 * q), ha (4 * q + 1), ha (4 * q + 2), ha (4 * q + 3)))
      (omega (arith, hb (4 * q), hb (4 * q + 1), hb (4 * q + 2), hb (4 * q + 3)))
      (sym x ∙ ap (λ (t : List ℕ). get_or t q 0) e ∙ y)

  record Four (q : ℕ) : Type 0 where
    first : bit a (4 * q) ≡ bit b (4 * q)
    second : bit a (4 * q + 1) ≡ bit b (4 * q + 1)
    third : bit a (4 * q + 2) ≡ bit b (4 * q + 2)
    fourth : bit a (4 * q + 3) ≡ bit b (4 * q + 3)

  four : (q : ℕ) → 4 * q < length a → Four q
  four q l =
      let n = nibble_same q l in
      let a0 = ha (4 * q) in
      let a1 = ha (4 * q + 1) in
      let a2 = ha (4 * q + 2) in
      let a3 = ha (4 * q + 3) in
      let b0 = hb (4 * q) in
      let b1 = hb (4 * q + 1) in
      let b2 = hb (4 * q + 2) in
      let b3 = hb (4 * q + 3) in
      record { first = omega arith; second = omega arith; third = omega arith; fourth = omega arith }

  at : (i r : ℕ) → i % 4 ≡ r → Four (i / 4) → bit a i ≡ bit b i
  at i zero e f = let z : 4 * (i / 4) ≡ i = omega arith in rw z at f.first
  at i (suc zero) e f = let z : 4 * (i / 4) + 1 ≡ i = omega arith in rw z at f.second
  at i (suc (suc zero)) e f = let z : 4 * (i / 4) + 2 ≡ i = omega arith in rw z at f.third
  at i (suc (suc (suc zero))) e f = let z : 4 * (i / 4) + 3 ≡ i = omega arith in rw z at f.fourth
  at i (suc (suc (suc (suc r)))) e f = absurd (omega arith)

  hex_tells : a ≡ b
  hex_tells = ext_get_or 0 a b same (λ i l. at i (i % 4) refl (four (i / 4) (omega arith)))

-- ---- the line tells the codeword

line_tells : (m r serial : ℕ) (d d' : List ℕ) → IsCodeword m r d → IsCodeword m r d' → accepted_line serial (message_of m r d) ≡ accepted_line serial (message_of m r d') → d ≡ d'
line_tells m r serial d d' h h' e =
    let x : List ℕ = message_of m r d in
    let y : List ℕ = message_of m r d' in
    let hex : hex_of x ≡ hex_of y =
    append_cancel_left (ten_digits serial ++ (32 ∷ [])) (hex_of x) (hex_of y)
    (append_cancel_right (ten_digits serial ++ (32 ∷ []) ++ hex_of x) (ten_digits serial ++ (32 ∷ []) ++ hex_of y) newline e) in
    let z : x ≡ y = hex_tells x y (message_bits m r d) (message_bits m r d') (message_length m r d ∙ sym (message_length m r d')) hex in
    sym (codeword_message m r d h) ∙ ap (codeword m r) z ∙ codeword_message m r d' h'

-- where a word plus c is itself, c is zeros, and adding it changes nothing
zeros_add : {m : ℕ} {w w' d : List ℕ} → IsWord m w → IsWord m w' → IsWord m d → d ≡ add_words d (add_words w w') → w ≡ w'
zeros_add {w = w} {w'} {d} hw hw' hd e =
    word_ext hw hw' (λ p l.
    let f = ap (λ (v : List ℕ). bit v p) e ∙ word_bit hd (word_add hw hw') p in
    let g = word_bit hw hw' p in
    omega (arith, f, g, hw.bits p, hw'.bits p, hd.bits p))

module _ (serial number : ℕ) (p : Profile) (w w' : List ℕ) (h : Differ p.m p.r w w') where
  alike : Agree p.m w w' (add_words w w') (decoded_by p w) (decoded_by p w')
  alike = demand_3 p.m p.r p.rounds p.leaves w w' h.codeword h.first h.second

  tells : (x y : Outcome) → Sound p.m p.r x → Sound p.m p.r y → Agree p.m w w' (add_words w w') x y → refusal_of x ≡ 0
      → billing_line serial number p w x ≡ billing_line serial number p w' y → w ≡ w'
  tells (accepted d k l) (accepted d' k' l') hx hy a z e =
      zeros_add h.first h.second hx.word (line_tells p.m p.r serial d d' hx hy e ∙ a.output refl [] [])
  tells (accepted d k l) (refused n k' l') hx hy a z e = let y : n ≡ 0 = let q = a.answer in cc in absurd (omega arith)
  tells (refused n k l) y hx hy a z e = absurd (omega arith)

  -- of an accepted record
  pub billing_tells : refusal_of (decoded_by p w) ≡ 0
      → billing_line serial number p w (decoded_by p w) ≡ billing_line serial number p w' (decoded_by p w') → w ≡ w'
  billing_tells =
      tells (decoded_by p w) (decoded_by p w') (decode_sound p.m p.r p.rounds p.leaves w h.first)
      (decode_sound p.m p.r p.rounds p.leaves w' h.second) alike
