-- A block's answer is the decoder's, and it is right exactly where the codeword sent was accepted. Assumes nothing.
use Rattle.std.specs.Prelude.{ℕ, ◌*◌, ◌^◌, ◌≤◌, ◌≡◌, refl, Bool, true, false, cond, List, eqb}
use Rattle.std.proofs.Common.{sym, ap, ◌∙◌, eq-eqb, eqb-true}
use Rattle.std.proofs.lemmas.Bool.{false≢true}
use Rattle.words.specs.Word.{IsWord, distance}
use Rattle.words.proofs.WordLaws.{distance_none}
use Rattle.code.proofs.Distance.{distance_self}
use Rattle.profiles.specs.declared.Profile.{Profile}
use Rattle.tables.specs.declared.Table.{Table}
use Rattle.tables.specs.Tables.{entry_of, known}
use Rattle.rule.specs.Reading.{accepted}
use Rattle.rule.specs.Decoding.{decode_of}
use Rattle.rule.specs.RightSizes.{RightSizes}
use Rattle.rule.proofs.DecodingLaws.{call_is}
use Rattle.rule.proofs.Demand3.{decode_sound}
use Rattle.table_decoder.specs.Table.{decode_table_call}
use Rattle.table_decoder.specs.TableLaws.{known_call}
use Rattle.load.specs.Load.{sent_from}
use Rattle.load.specs.LoadLaws.{block_word, sent_codeword}
use Rattle.streets.specs.Street.{answer_to, block_of, is_right, judged, other, right}

-- a block's answer is that of every call of the decoder under the table, in buffers of the right sizes
pub decoder_says :
    (t : Table) (number : ℕ) → known t number ≡ true → (wrong x room area : ℕ) → room ≡ 2 ^ (entry_of t number).m → 8 * 2 ^ (entry_of t number).m ≤ area
    → answer_to (entry_of t number) wrong x
    ≡ judged (entry_of t number).m (sent_from (entry_of t number).m (entry_of t number).r x) (decode_table_call t number (block_of (entry_of t number) wrong x) room area)
unfolding answer_to
decoder_says t number e wrong x room area size lent =
    let p : Profile = entry_of t number in
    let sizes : RightSizes p.m (block_of p wrong x) room area = record { input = block_word p.m p.r wrong x; output = size; lent = lent } in
    sym (ap (judged p.m (sent_from p.m p.r x)) (known_call t number (block_of p wrong x) room area e ∙ call_is sizes p.r p.rounds p.leaves))

-- and it is right exactly where the accepted word is the codeword sent
module _ (p : Profile) (wrong x : ℕ) {d : List ℕ} {k l : ℕ} (e : decode_of p.m p.r p.rounds p.leaves (block_of p wrong x) ≡ accepted d k l) where
  abbrev sent : List ℕ
  sent = sent_from p.m p.r x

  is : answer_to p wrong x ≡ cond (eqb (distance p.m sent d) 0) right other
  unfolding answer_to
  is = rw e

  word : IsWord p.m d
  word = (rw e at (decode_sound p.m p.r p.rounds p.leaves (block_of p wrong x) (block_word p.m p.r wrong x))).word

  pub right_where : d ≡ sent → answer_to p wrong x ≡ right
  right_where z = is ∙ rw (z, eq-eqb (distance p.m sent sent) 0 (distance_self p.m sent))

  either : (b : Bool) → cond b right other ≡ right → b ≡ true
  either true z = refl
  either false z = absurd (false≢true (ap is_right z))

  pub right-sent : answer_to p wrong x ≡ right → sent ≡ d
  right-sent z =
      distance_none (sent_codeword p.m p.r wrong x).word word (eqb-true (distance p.m sent d) 0 (either (eqb (distance p.m sent d) 0) (sym is ∙ z)))
