-- Laws of a record's entry: what a call of the decoder says of it, and that the message of an accepted word can be read. Assumes nothing.
use Rattle.std.specs.Prelude.{ℕ, ◌≡◌, List, length, ℤ, Ok, Err}
use Rattle.std.proofs.Common.{arith, sym, ap, ◌∙◌, subst}
use Rattle.std.proofs.Math.Path.{refl}
use Rattle.words.specs.Word.{IsWord}
use Rattle.refusals.specs.Refusals.{Decoded, first_refusal}
use Rattle.refusals.specs.IsCode.{IsCode}
use Rattle.code.specs.Code.{dimension}
use Rattle.codec_checks.specs.Checks.{read_checks}
use Rattle.profiles.specs.declared.Profile.{Profile}
use Rattle.tables.specs.Limits.{InLimits}
use Rattle.rule.specs.Reading.{Outcome, accepted, refused}
use Rattle.rule.specs.Decoding.{answer_of, area_of, decode_call, output_of, zeros}
use Rattle.rule.proofs.DecodingLaws.{call_is}
use Rattle.rule.specs.Demand3.{Sound}
use Rattle.rule.proofs.Demand3.{decode_sound}
use Rattle.rule.specs.Calls.{Decodes}
use Rattle.lines.specs.Lines.{Lines, accepted_by, accepted_in, decoded_by, record_entry}
use Rattle.code.proofs.Dimension.{dimension_most}
use Rattle.billing.specs.MessageLines.{codeword_passes}
use Rattle.table_decoder.specs.TableLaws.{entry_area}
use Rattle.billing.specs.Accepted.{Answered}
use Rattle.billing.specs.AnswerLaws.{answered_accepted, answered_refused}
use Rattle.text.specs.Texts.{Appended}
use Rattle.entries.specs.declared.records.Line.{Line}
use Rattle.entries.specs.Decodable.{Decodable, Lined}

pub entry_code : {p : Profile} → InLimits p → IsCode p.m p.r
entry_code l = record { some = omega (arith, l.some); most = l.small; order = l.order }

-- ---- the decoder's answers

-- what was put out is put out again
output_again : (o : Outcome) (out : List ℕ) → output_of o out ≡ output_of o (output_of o out)
output_again (accepted d k l) out = refl
output_again (refused e k l) out = refl

-- a call of the decoder on a record's word
module _ (p : Profile) {word out out' : List ℕ} {area area' : List ℤ} {d : Decoded} (h : Decodable p word (length out) (length area))
    (c : Decodes p.m (decode_call p.m p.r p.rounds p.leaves word (length out) (length area)) word out out' area area' d) where
  is : decode_call p.m p.r p.rounds p.leaves word (length out) (length area) ≡ decoded_by p word
  is = call_is h.sizes p.r p.rounds p.leaves

  pub decodes_answered : Answered p word out' d
  decodes_answered =
      let e : out' ≡ output_of (decoded_by p word) out = c.output ∙ ap (λ (o : Outcome). output_of o out) is in
      record {
        code = entry_code h.limits;
        received = h.sizes.input;
        answer = c.answer ∙ ap (answer_of p.m word) is;
        output = e ∙ output_again (decoded_by p word) out ∙ ap (output_of (decoded_by p word)) (sym e);
      }

  pub decodes_area : area' ≡ zeros area
  decodes_area = c.lent ∙ ap (λ (x : Outcome). area_of x area) is ∙ entry_area h.limits word area

-- the entry of a record: its line, and whether the decoder accepted
module _ {p : Profile} {word decoded : List ℕ} {d : Decoded} (h : Answered p word decoded d) where
  accepted_same : (a : Decoded) → d ≡ a → accepted_by a ≡ accepted_in (decoded_by p word)
  accepted_same (Ok x) e = ap accepted_in (sym (answered_accepted h e))
  accepted_same (Err x) e = ap accepted_in (sym (answered_refused h e))

  pub answered_lined : (reader : Lines) (serial number : ℕ) {before after : List ℕ} {at : ℕ} (line : Line)
      → Appended before at (reader.of_record serial number p word (decoded_by p word)) line.end after → line.accepted ≡ accepted_by d
      → Lined (record_entry reader serial number p word) before at after line
  unfolding record_entry
  answered_lined reader serial number line text e = record { text = text; counted = e ∙ accepted_same d refl }

-- the word that the decoder gives under an entry is a codeword, so a message reader after it refuses nothing: not 13, and in a buffer of k
-- bytes none of 1 to 8
pub accepted_reads : {p : Profile} {word d : List ℕ} {k l : ℕ} → InLimits p → IsWord p.m word → decoded_by p word ≡ accepted d k l
    → 0 ≡ first_refusal (read_checks p.m p.r d (dimension p.m p.r))
accepted_reads {p} {word} {d} h hw e =
    codeword_passes (record {
      code = entry_code h;
      codeword = subst (Sound p.m p.r) e (decode_sound p.m p.r p.rounds p.leaves word hw);
      sized = refl;
      small = dimension_most p.m p.r h.small;
    })
