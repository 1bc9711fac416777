-- The decoder's answer by an entry of a table: document 02, request 4. Assumes nothing.
use Rattle.std.specs.Prelude.{ℕ, List, [], ◌∷◌, ◌++◌}
use Rattle.refusals.specs.Refusals.{Check, check}
use Rattle.tables.specs.declared.Table.{Table}
use Rattle.tables.specs.Tables.{entry_of, known}
use Rattle.rule.specs.Reading.{Outcome, reading}
use Rattle.rule.specs.Decoding.{after, buffer_checks, limited}

-- 14 under a table; as by profile, it "is tested first and stands in for 1 to 4"
abbrev pub table_checks : Table → ℕ → List Check
table_checks t number = check 14 (known t number) ∷ []

-- the answer of any call: "A loaded table replaces the constant one whole in calls given it"
unfoldable pub decode_table_call : Table → ℕ → List ℕ → ℕ → ℕ → Outcome
decode_table_call t number word room area =
    after (table_checks t number ++ buffer_checks (entry_of t number).m word room area)
    (limited (entry_of t number).leaves (reading (entry_of t number).r (entry_of t number).m (entry_of t number).rounds word))
