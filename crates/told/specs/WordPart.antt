-- The part of the area that holds a word and its working room, as a leaf reading is lent it and gives it back. Assumes nothing.
use Rattle.std.specs.Prelude.{ℕ, ◌+◌, ◌≤◌, ◌<◌, ◌≡◌, List, length, take, ℤ, pos}
use Rattle.std.proofs.Common.{ap, ◌∙◌, arith}
use borrow.Rule.Slice.PartMut.{put_mid}
use Rattle.words.specs.Parts.{part_length, at-part_of, back_length, back_within}
use Rattle.area.specs.Area.{at, Bits, SameFront, word_of}
use Rattle.area.proofs.AreaLaws.{word_of_same}
use Rattle.rule.specs.Reading.{Outcome, accepted, refused}
use Rattle.told.specs.Told.{Verdict, Holds, Read, Kept}
use Rattle.told.specs.declared.Told.{Told}

-- the first k numbers, of which the first n are the word
module _ {n k : ℕ} (xs : List ℤ) (within : n ≤ k) (room : k ≤ length xs) where
  fits : 0 + k ≤ length xs
  fits = omega arith

  pub lent_size : length (take k xs) ≡ k
  lent_size = part_length (pos 0) 0 k xs fits

  lent_at : (p : ℕ) → p < n → at (take k xs) p ≡ at xs p
  lent_at p l = at-part_of (pos 0) 0 k xs fits p (omega arith) ∙ ap (at xs) (omega arith)

  pub lent_bits : Bits n xs → Bits n (take k xs)
  lent_bits b = record { room = omega (arith, lent_size); bits = λ p l. rw (lent_at p l) (b.bits p l) }

  pub lent_word : word_of n (take k xs) ≡ word_of n xs
  lent_word = word_of_same n xs (take k xs) (omega arith) (omega (arith, lent_size)) lent_at

  -- they have come back as ys
  module _ (ys : List ℤ) (same : length ys ≡ k) where
    back_at : (p : ℕ) → p < n → at (put_mid 0 k xs ys) p ≡ at ys p
    back_at p l = ap (at (put_mid 0 k xs ys)) (omega arith) ∙ back_within (pos 0) 0 k xs fits ys same p (omega arith)

    holds_back : (o : Outcome) → Holds n o ys → Holds n o (put_mid 0 k xs ys)
    holds_back (accepted d r l) f = record { size = f.size; each = λ p h. back_at p h ∙ f.each p h; bits = f.bits }
    holds_back (refused w r l) u = u

    pub read_back : {o : Outcome} {a : Verdict} → Read n o ys a → Read n o (put_mid 0 k xs ys) a
    read_back {o} r = record { said = r.said; word = holds_back o r.word }

    same_back : SameFront n (take k xs) ys → SameFront n xs (put_mid 0 k xs ys)
    same_back f = record {
      long = back_length (pos 0) 0 k xs fits ys same;
      same = λ p l. back_at p l ∙ f.same p l ∙ lent_at p l;
    }

    pub kept_back : {t : Told} → Kept n (take k xs) ys t → Kept n xs (put_mid 0 k xs ys) t
    kept_back h = record { same = λ q. same_back (h.same q) }
