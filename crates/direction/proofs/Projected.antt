-- The projection of words as lists: it is a word, keeps sums, and takes a codeword to a codeword one order lower. Assumes nothing.
use Rattle.std.specs.Prelude.{ℕ, suc, ◌+◌, ◌%◌, ◌^◌, ◌<◌, ◌≡◌, List, length}
use Rattle.std.proofs.Common.{sym, ap₂, ◌∙◌, arith, pow_mono}
use Rattle.std.specs.Int.Bits.{bit_xor}
use Rattle.code.specs.Code.{IsCodeword}
use Rattle.code.proofs.Codewords.{codeword_of_low, low_of_codeword}
use Rattle.code.specs.Degree.{low_parity}
use Rattle.direction.specs.Direction.{highest, insert_zero, project}
use Rattle.direction.proofs.Insert.{highest_top, top_le}
use Rattle.direction.proofs.Projection.{low_projected, projected}
use Rattle.words.specs.SumLaws.{bit_tabulate}
use Rattle.words.specs.Word.{IsWord, add_words, bit}
use Rattle.words.proofs.WordLaws.{bit-add, sorted, unmod, word_add, word_bit, word_ext, word_tabulate}

pub bit-project : (m b : ℕ) (w : List ℕ) (q : ℕ) → q < 2 ^ m → bit (project m b w) q ≡ projected (highest b) b (bit w) q % 2
unfolding project
bit-project m b w q l = bit_tabulate (2 ^ m) _ q l

pub word_project : (m b : ℕ) (w : List ℕ) → IsWord m (project m b w)
unfolding project
word_project m b w = word_tabulate m _ (λ q l. omega arith)

-- four bits are added by rows or by columns
parity_swap : (a b c d : ℕ) → ((a + b) % 2 + (c + d) % 2) % 2 ≡ ((a + c) % 2 + (b + d) % 2) % 2
parity_swap a b c d = simp unmod (simp sorted)

pub project_add : (m b : ℕ) (u v : List ℕ) → length u ≡ length v → project m b (add_words u v) ≡ add_words (project m b u) (project m b v)
project_add m b u v e =
    let wu = word_project m b u in
    let wv = word_project m b v in
    word_ext (word_project m b (add_words u v)) (word_add wu wv)
    (λ q l.
    let p : ℕ = insert_zero (highest b) q in
    let p' : ℕ = bit_xor p b in
    bit-project m b (add_words u v) q l
    ∙ ap₂ (λ (x y : ℕ). (x + y) % 2) (bit-add u v e p) (bit-add u v e p')
    ∙ parity_swap (bit u p) (bit v p) (bit u p') (bit v p')
    ∙ ap₂ (λ (x y : ℕ). (x + y) % 2) (sym (bit-project m b u q l)) (sym (bit-project m b v q l))
    ∙ sym (word_bit wu wv q))

pub project_codeword : (m r b : ℕ) (w : List ℕ) → m < 32 → 0 < b → b < 2 ^ suc m → IsCodeword (suc m) (suc r) w → IsCodeword m r (project m b w)
project_codeword m r b w hm p l c =
    let t = highest_top b p (omega (arith, pow_mono hm)) in
    codeword_of_low (word_project m b w)
    (low_parity (low_projected m (suc (suc r)) (highest b) b (bit w) t (top_le t m l) (low_of_codeword c)) (bit (project m b w))
    (λ q lq. omega (arith, bit-project m b w q lq)))
