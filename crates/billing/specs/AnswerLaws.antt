-- What the decoder's answer says of the outcome that it is the answer of. Assumes nothing.
use Rattle.std.specs.Prelude.{ℕ, ◌≡◌, List, Ok, Err}
use Rattle.std.proofs.Common.{arith, sym, ap, subst, ◌∙◌}
use Rattle.refusals.specs.declared.Refusal.{Refusal}
use Rattle.refusals.specs.Refusals.{Decoded, number_of}
use Rattle.refusals.specs.declared.Accepted.{Accepted}
use Rattle.refusals.specs.declared.Refused.{Refused}
use Rattle.refusals.proofs.CheckLaws.{number_pos}
use Rattle.profiles.specs.declared.Profile.{Profile}
use Rattle.rule.specs.Reading.{Outcome, accepted, refused}
use Rattle.rule.specs.Decoding.{values, answer_of, output_of}
use Rattle.rule.specs.Demand3.{Sound}
use Rattle.rule.proofs.Demand3.{decode_sound}
use Rattle.rule.specs.Calls.{values_of}
use Rattle.lines.specs.Lines.{decoded_by}
use Rattle.billing.specs.Accepted.{AcceptedWord, Answered}

accepted_outcome : (m r : ℕ) (w out : List ℕ) {k l c : ℕ} (o : Outcome) → Sound m r o → values 0 k l c ≡ answer_of m w o → o ≡ accepted (output_of o out) k l
accepted_outcome m r w out (accepted d i j) h e = cc
accepted_outcome m r w out (refused n i j) h e = let z : 0 ≡ n = cc in absurd (omega arith)

refused_outcome : (m : ℕ) (w : List ℕ) {k l : ℕ} (why : Refusal) (o : Outcome) → values (number_of why) k l 0 ≡ answer_of m w o → o ≡ refused (number_of why) k l
refused_outcome m w why (accepted d i j) e = let z : number_of why ≡ 0 = cc in absurd (omega (arith, number_pos why))
refused_outcome m w why (refused n i j) e = cc

module _ {p : Profile} {word decoded : List ℕ} {a : Decoded} (h : Answered p word decoded a) where
  sound : Sound p.m p.r (decoded_by p word)
  sound = decode_sound p.m p.r p.rounds p.leaves word h.received

  pub answered_accepted : {x : Accepted} → a ≡ Ok x → decoded_by p word ≡ accepted decoded x.rounds x.leaves
  answered_accepted {x} e =
      accepted_outcome p.m p.r word decoded (decoded_by p word) sound (ap values_of (sym e) ∙ h.answer) ∙ ap (λ (d : List ℕ). accepted d x.rounds x.leaves) (sym h.output)

  pub answered_refused : {x : Refused} → a ≡ Err x → decoded_by p word ≡ refused (number_of x.why) x.rounds x.leaves
  answered_refused {x} e = refused_outcome p.m word x.why (decoded_by p word) (ap values_of (sym e) ∙ h.answer)

  -- an accepted word is a codeword
  pub answered_codeword : {x : Accepted} → a ≡ Ok x → AcceptedWord p decoded
  answered_codeword e = record { code = h.code; codeword = subst (Sound p.m p.r) (answered_accepted e) sound }
