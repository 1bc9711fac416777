-- Two calls in buffers of the right sizes, on words that differ by a codeword. Assumes nothing.
use Prim.Native.Nat.{ℕ}
use mathlib.Core.Path.{sym, ap, ◌∙◌}
use mathlib.Core.List.{List}
use lib.ListN.{length}
use lib.IntN.{ℤ}
use Rattle.words.specs.Word.{add_words}
use Rattle.refusals.specs.Refusals.{Decoded}
use Rattle.profiles.specs.Profiles.{profile_of}
use Rattle.rule.specs.Reading.{Outcome}
use Rattle.rule.specs.Decoding.{number_in, decode_call, decode_profile_call}
use Rattle.rule.proofs.DecodingLaws.{number_is}
use Rattle.rule.specs.Calls.{Decodes}
use Rattle.rule.specs.Demand3.{Agree}
use Rattle.rule.proofs.Demand3.{demand_3_call, demand_3_profile_call}
use Rattle.alike.specs.Alike.{Differ, Fit, Alike}
use Rattle.alike.specs.AlikeLaws.{sizes}
use Rattle.tables.specs.declared.Table.{Table}
use Rattle.tables.specs.Tables.{entry_of}
use Rattle.table_decoder.specs.Table.{decode_table_call}
use Rattle.table_decoder.specs.TableLaws.{demand_3_table}

module _ {w w' out out' v v' : List ℕ} {area area' xs xs' : List ℤ} {a a' : Decoded} where
  -- by their outcomes x and y
  agreeing : {m : ℕ} {x y : Outcome} → Decodes m x w out v area xs a → Decodes m y w' out' v' area' xs' a' → Agree m w w' (add_words w w') x y
      → Alike w w' v v' a a'
  agreeing {m} {x} {y} one two agree = record {
    answer = two.answer ∙ agree.answer ∙ sym one.answer;
    output = λ e. two.output ∙ agree.output (sym (number_is m w x) ∙ ap number_in (sym one.answer) ∙ e) out out'
        ∙ ap (λ (u : List ℕ). add_words u (add_words w w')) (sym one.output);
  }

  pub calls_alike : {m r : ℕ} (rounds leaves : ℕ) → Decodes m (decode_call m r rounds leaves w (length out) (length area)) w out v area xs a
      → Decodes m (decode_call m r rounds leaves w' (length out') (length area')) w' out' v' area' xs' a'
      → Differ m r w w' → Fit m out area → Fit m out' area' → Alike w w' v v' a a'
  calls_alike {m} {r} rounds leaves one two d f f' =
      agreeing one two (demand_3_call m r rounds leaves w w' d.codeword _ _ _ _ (sizes d.first f) (sizes d.second f'))

  pub profiles_alike : (number : ℕ) → Decodes (profile_of number).m (decode_profile_call number w (length out) (length area)) w out v area xs a
      → Decodes (profile_of number).m (decode_profile_call number w' (length out') (length area')) w' out' v' area' xs' a'
      → Differ (profile_of number).m (profile_of number).r w w' → Fit (profile_of number).m out area → Fit (profile_of number).m out' area'
      → Alike w w' v v' a a'
  profiles_alike number one two d f f' =
      agreeing one two (demand_3_profile_call number w w' d.codeword _ _ _ _ (sizes d.first f) (sizes d.second f'))

  pub tables_alike : (t : Table) (number : ℕ) → Decodes (entry_of t number).m (decode_table_call t number w (length out) (length area)) w out v area xs a
      → Decodes (entry_of t number).m (decode_table_call t number w' (length out') (length area')) w' out' v' area' xs' a'
      → Differ (entry_of t number).m (entry_of t number).r w w' → Fit (entry_of t number).m out area → Fit (entry_of t number).m out' area'
      → Alike w w' v v' a a'
  tables_alike t number one two d f f' =
      agreeing one two (demand_3_table t number w w' d.codeword _ _ _ _ (sizes d.first f) (sizes d.second f'))
