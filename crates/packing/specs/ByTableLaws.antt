-- What is returned under a table, from the core's contracts. Assumes nothing.
use Rattle.std.specs.Prelude.{ℕ, ◌≡◌, refl, List, ℤ, length, Ok, Err}
use Rattle.std.proofs.Common.{sym, ap, ◌∙◌}
use Rattle.refusals.specs.Refusals.{answer_number, answer_place, Answer, Decoded}
use Rattle.refusals.proofs.CheckLaws.{done_of}
use Rattle.tables.specs.Tables.{entry_of}
use Rattle.table_files.specs.declared.Loaded.{Loaded}
use Rattle.table_decoder.specs.Table.{decode_table_call}
use Rattle.rule.specs.Calls.{Decodes, decoded_place, values_of}
use Rattle.capture.specs.Capture.{Found, Finds, answer_of}
use Rattle.packing.specs.Packing.{pack, pack_values}
use Rattle.packing.specs.PackingLaws.{decoding_returns}
use Rattle.packing.specs.ByTable.{ReturnsLoaded, ReturnsRecord, pack_found, when_loaded}

done : {A : Type 0} (a : Answer) (x y : A) → answer_number a ≡ 0 → x ≡ when_loaded a x y
done a x y e = rw (done_of a e)

refused : {A : Type 0} (a : Answer) (x y : A) → (answer_number a ≡ 0 → ⊥) → y ≡ when_loaded a x y
refused (Ok tt) x y h = absurd (h refl)
refused (Err why) x y h = refl

-- s is what the code loaded, and n its refusal's number or 0
module _ {s l : Loaded} (q : s ≡ l) {n : ℕ} (k : n ≡ answer_number s.answer) where
  number_is : n ≡ answer_number l.answer
  number_is = k ∙ ap (λ (x : Loaded). answer_number x.answer) q

  module _ (number : ℕ) {word out : List ℕ} {area : List ℤ} {v : ℕ} where
    -- 19 and 20
    pub load_refused : (n ≡ 0 → ⊥) → v ≡ pack (answer_number s.answer) 0 0 0 (answer_place s.answer) → ReturnsLoaded l number word out area out area v
    load_refused h e =
        let g : answer_number l.answer ≡ 0 → ⊥ = λ z. h (number_is ∙ z) in
        record {
          packed = e ∙ ap (λ (x : Loaded). pack (answer_number x.answer) 0 0 0 (answer_place x.answer)) q ∙ refused l.answer _ _ g;
          output = refused l.answer _ _ g;
          lent = refused l.answer _ _ g;
        }

    pub load_decodes : {out' : List ℕ} {area' : List ℤ} {d : Decoded} → n ≡ 0
        → Decodes (entry_of s.table number).m (decode_table_call s.table number word (length out) (length area)) word out out' area area' d
        → v ≡ pack_values (values_of d) (decoded_place d) → ReturnsLoaded l number word out area out' area' v
    load_decodes h c e =
        let g : answer_number l.answer ≡ 0 = sym number_is ∙ h in
        let r = decoding_returns (rw q at c) e in
        record { packed = r.packed ∙ done l.answer _ _ g; output = r.output ∙ done l.answer _ _ g; lent = r.lent ∙ done l.answer _ _ g }

  module _ {rest word : List ℕ} where
    pub no_table : (n ≡ 0 → ⊥) → ReturnsRecord l rest word word n
    no_table h =
        let g : answer_number l.answer ≡ 0 → ⊥ = λ z. h (number_is ∙ z) in
        record { packed = number_is ∙ refused l.answer _ _ g; buffer = refused l.answer _ _ g }

    pub finds_record : {word' : List ℕ} {f : Found} {v : ℕ} → n ≡ 0 → Finds s.table rest 0 word word' f → v ≡ pack_found (answer_of f)
        → ReturnsRecord l rest word word' v
    finds_record h c e =
        let g : answer_number l.answer ≡ 0 = sym number_is ∙ h in
        let b : Finds l.table rest 0 word _ _ = rw q at c in
        record { packed = e ∙ ap pack_found b.answer ∙ done l.answer _ _ g; buffer = b.buffer ∙ done l.answer _ _ g }
