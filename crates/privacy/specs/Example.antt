-- Listings as text, for billing and for the crew: document 01's example, the same with codewords added to its blocks, 14, 16 and 15. The two
-- examples are captures that the crew cannot tell apart and billing can. Assumes nothing.
use Rattle.std.specs.Prelude.{ℕ, ◌≡◌, refl, true, List, [], ◌∷◌, ◌++◌, drop, get_or}
use Prim.Native.Char.{code}
use Prim.Native.String.{String, [] as []ˢ, ◌∷◌ as ◌∷ˢ◌}
use Rattle.std.proofs.Common.{arith, sym, ap, ◌∙◌}
use Rattle.std.specs.Int.Count.{ones, ones_in}
use Rattle.words.specs.Sum.{first_where, tabulate, total}
use Rattle.words.specs.Word.{add_words, distance}
use Rattle.words.proofs.WordLaws.{word_add, word_tabulate}
use Rattle.code.specs.Code.{codeword_test, coefficient, gather, low_test, message_of}
use Rattle.code.proofs.Codewords.{codeword_of_test}
use Rattle.hadamard.specs.Correlation.{affine, correlation, count_below}
use Rattle.refusals.specs.Refusals.{first_refusal}
use Rattle.rule.specs.Reading.{order1, reading}
use Rattle.rule.specs.Decoding.{after, decode_of}
use Rattle.alike.specs.Alike.{Differ}
use Rattle.tables.specs.Tables.{in_limits, known, ours, slot_of}
use Rattle.unpacking.specs.Packed.{packed_bit}
use Rattle.capture.specs.Capture.{record_in, unpacked}
use Rattle.text.specs.Numbers.{decimal, digits_of, hex_of, ten_digits}
use Rattle.lines.specs.Lines.{billing, record_entry}
use Rattle.crew.specs.Crew.{crew}
use Rattle.pieces.specs.Listing.{entries_of, listing_of}
use Rattle.privacy.specs.Same.{SameCaptures, no_more, one_more}

-- the bytes of a text
unfoldable pub bytes : String → List ℕ
bytes []ˢ = []
bytes (c ∷ˢ s) = code c ∷ bytes s

-- what billing and the crew read of a capture
pub record Reads (c : List ℕ) (for_billing for_crew : String) : Type 0 where
  pub bills : listing_of ours billing c ≡ bytes for_billing
  pub crews : listing_of ours crew c ≡ bytes for_crew

abbrev pub right : List ℕ
right = 0x57 ∷ 0x4D ∷ 0x52 ∷ 0x00 ∷ 0x01 ∷ []

-- "57 4D 52 00 01, 00 3D 09 11 00 7F FF 00 00, 00 3D 09 12 00 FF 00 00 00"
abbrev pub example : List ℕ
example =
    right ++ (0x00 ∷ 0x3D ∷ 0x09 ∷ 0x11 ∷ 0x00 ∷ 0x7F ∷ 0xFF ∷ 0x00 ∷ 0x00 ∷ [])
    ++ (0x00 ∷ 0x3D ∷ 0x09 ∷ 0x12 ∷ 0x00 ∷ 0xFF ∷ 0x00 ∷ 0x00 ∷ 0x00 ∷ [])

-- the codeword FF FF FF FF added to the first block, 00 00 FF FF to the second
abbrev pub other : List ℕ
other =
    right ++ (0x00 ∷ 0x3D ∷ 0x09 ∷ 0x11 ∷ 0x00 ∷ 0x80 ∷ 0x00 ∷ 0xFF ∷ 0xFF ∷ [])
    ++ (0x00 ∷ 0x3D ∷ 0x09 ∷ 0x12 ∷ 0x00 ∷ 0xFF ∷ 0x00 ∷ 0xFF ∷ 0xFF ∷ [])

-- "On 14 and 16 the four numbers after the serial are printed as 0"; "the last line, and 15's only line, stay in both"
pub record Worked : Type 0 where
  pub paper : Reads example "0004000017 84\n0004000018 refused 9\n2 records, 1 accepted\n" "0004000017 0 0 1 1 0\n0004000018 0 0 1 0 9\n2 records, 1 accepted\n"
  pub added : Reads other "0004000017 04\n0004000018 refused 9\n2 records, 1 accepted\n" "0004000017 0 0 1 1 0\n0004000018 0 0 1 0 9\n2 records, 1 accepted\n"
  pub unknown : Reads (right ++ (0 ∷ 0 ∷ 0 ∷ 11 ∷ 5 ∷ [])) "0000000011 refused 14\n1 records, 0 accepted\n" "0000000011 0 0 0 0 14\n1 records, 0 accepted\n"
  pub cut : Reads (right ++ (0 ∷ 0 ∷ 0 ∷ 11 ∷ 4 ∷ 255 ∷ [])) "---------- refused 16\n1 records, 0 accepted\n" "---------- 0 0 0 0 16\n1 records, 0 accepted\n"
  pub wrong : Reads [] "file refused 15\n" "file refused 15\n"

pub worked_listings : Worked
unfolding bytes listing_of entries_of record_in unpacked record_entry slot_of known in_limits decode_of after first_refusal reading order1 count_below first_where correlation affine total tabulate ones ones_in distance message_of gather coefficient hex_of ten_digits decimal digits_of
worked_listings = record {
  paper = record { bills = refl; crews = refl };
  added = record { bills = refl; crews = refl };
  unknown = record { bills = refl; crews = refl };
  cut = record { bills = refl; crews = refl };
  wrong = record { bills = refl; crews = refl };
}

-- ---- the two examples

differ : (s s' : List ℕ) → codeword_test 5 1 (add_words (tabulate 32 (packed_bit s)) (tabulate 32 (packed_bit s'))) ≡ true
    → Differ 5 1 (tabulate 32 (packed_bit s)) (tabulate 32 (packed_bit s'))
differ s s' h =
    let a = word_tabulate 5 (packed_bit s) (λ p l. omega arith) in
    let b = word_tabulate 5 (packed_bit s') (λ p l. omega arith) in
    record { first = a; second = b; codeword = codeword_of_test 5 1 _ (word_add a b) h }

pub examples_same : SameCaptures ours example other
unfolding record_in unpacked slot_of known in_limits codeword_test low_test coefficient add_words tabulate total ones ones_in
examples_same = record {
  first = refl;
  second = refl;
  records =
      one_more (record { first = refl; second = refl; serial = refl; profile = refl; blocks = differ (drop 5 example) (drop 5 other) refl })
      (one_more (record { first = refl; second = refl; serial = refl; profile = refl; blocks = differ (drop 14 example) (drop 14 other) refl }) no_more);
}

-- billing's listing of the two is not the same
pub examples_differ : listing_of ours billing other ≡ listing_of ours billing example → ⊥
unfolding bytes
examples_differ e =
    let z : ◌≡◌ {A = ℕ} 0x30 0x38 = ap (λ (l : List ℕ). get_or l 11 0) (sym worked_listings.added.bills ∙ e ∙ worked_listings.paper.bills) in
    absurd (omega arith)
