-- Loading a file, case by case. Assumes nothing.
use Rattle.std.specs.Prelude.{ℕ, zero, suc, ◌+◌, ◌*◌, ◌≤◌, ◌<◌, ◌≡◌, refl, true, false, List, length, set, replicate, leb, ltb, eqb, Ok, Err}
use Rattle.std.proofs.Math.Path.{sym, ap}
use Rattle.std.proofs.Common.{◌∙◌, arith}
use Rattle.std.proofs.Math.Bool.{cond, not}
use Rattle.std.proofs.Math.Decide.{dec_lt}
use Rattle.std.proofs.Math.ListN.{get_or, length-replicate}
use Rattle.std.proofs.Math.Seq.{ext_get_or}
use borrow.Author.Tests.{le-leb, lt-leb, lt-ltb, le-ltb, leb-true, eq-eqb, ne_eqb, eqb-true, not-false}
use Rattle.words.specs.SumLaws.{both_true, length-tabulate, get_or-tabulate}
use Rattle.words.specs.Sum.{tabulate}
use Rattle.words.specs.Search.{first_where_lem, where_first}
use Rattle.header.specs.Header.{agrees_from}
use Rattle.words.specs.Written.{Written, written_none, written_more}
use Rattle.profiles.specs.declared.Profile.{Profile}
use Rattle.refusals.specs.declared.Refusal.TheVariants.{TableFile, TableEntry}
use Rattle.tables.specs.declared.Table.{Table}
use Rattle.tables.specs.Tables.{entry_of, in_limits, known, no_entry}
use Rattle.table_files.specs.File.{byte, count_in, entry_in, file_test, first_outside, loaded, mark, table_in}

-- ---- the mark, the version, the count and the length

module _ (f : List ℕ) where
  pub short : length f < 6 → false ≡ file_test f
  unfolding file_test
  short h = rw (lt-leb 6 (length f) h)

  module _ (a : 6 ≤ length f) where
    pub first : (byte f 0 ≡ 0x57 → ⊥) → false ≡ file_test f
    unfolding file_test
    first h = rw (le-leb 6 (length f) a, ne_eqb (byte f 0) 0x57 h)

    module _ (b : byte f 0 ≡ 0x57) where
      pub second : (byte f 1 ≡ 0x4d → ⊥) → false ≡ file_test f
      unfolding file_test
      second h = rw (le-leb 6 (length f) a, eq-eqb (byte f 0) 0x57 b, ne_eqb (byte f 1) 0x4d h)

      module _ (c : byte f 1 ≡ 0x4d) where
        pub third : (byte f 2 ≡ 0x54 → ⊥) → false ≡ file_test f
        unfolding file_test
        third h = rw (le-leb 6 (length f) a, eq-eqb (byte f 0) 0x57 b, eq-eqb (byte f 1) 0x4d c, ne_eqb (byte f 2) 0x54 h)

        module _ (d : byte f 2 ≡ 0x54) where
          pub senior : (byte f 3 ≡ 0 → ⊥) → false ≡ file_test f
          unfolding file_test
          senior h = rw (le-leb 6 (length f) a, eq-eqb (byte f 0) 0x57 b, eq-eqb (byte f 1) 0x4d c, eq-eqb (byte f 2) 0x54 d, ne_eqb (byte f 3) 0 h)

          module _ (e : byte f 3 ≡ 0) where
            pub junior : (byte f 4 ≡ 1 → ⊥) → false ≡ file_test f
            unfolding file_test
            junior h = rw (le-leb 6 (length f) a, eq-eqb (byte f 0) 0x57 b, eq-eqb (byte f 1) 0x4d c, eq-eqb (byte f 2) 0x54 d, eq-eqb (byte f 3) 0 e, ne_eqb (byte f 4) 1 h)

            module _ (j : byte f 4 ≡ 1) where
              pub none : count_in f < 1 → false ≡ file_test f
              unfolding file_test
              none h = rw (le-leb 6 (length f) a, eq-eqb (byte f 0) 0x57 b, eq-eqb (byte f 1) 0x4d c, eq-eqb (byte f 2) 0x54 d, eq-eqb (byte f 3) 0 e, eq-eqb (byte f 4) 1 j, lt-leb 1 (count_in f) h)

              module _ (g : 1 ≤ count_in f) where
                pub many : 32 < count_in f → false ≡ file_test f
                unfolding file_test
                many h = rw (le-leb 6 (length f) a, eq-eqb (byte f 0) 0x57 b, eq-eqb (byte f 1) 0x4d c, eq-eqb (byte f 2) 0x54 d, eq-eqb (byte f 3) 0 e, eq-eqb (byte f 4) 1 j, le-leb 1 (count_in f) g, lt-leb (count_in f) 32 h)

                module _ (i : count_in f ≤ 32) where
                  pub long : eqb (length f) (6 + 7 * count_in f) ≡ file_test f
                  unfolding file_test
                  long = rw (le-leb 6 (length f) a, eq-eqb (byte f 0) 0x57 b, eq-eqb (byte f 1) 0x4d c, eq-eqb (byte f 2) 0x54 d, eq-eqb (byte f 3) 0 e, eq-eqb (byte f 4) 1 j, le-leb 1 (count_in f) g, le-leb (count_in f) 32 i)

pub record IsTable (f : List ℕ) : Type 0 where
  pub some : 6 ≤ length f
  pub count : count_in f ≤ 32
  pub size : length f ≡ 6 + 7 * count_in f

pub is_table : (f : List ℕ) → file_test f ≡ true → IsTable f
unfolding file_test
is_table f e =
    let (a, e0) = both_true (leb 6 (length f)) _ e in
    let (b, e1) = both_true (agrees_from mark 0 f) _ e0 in
    let (c, e2) = both_true (leb 1 (count_in f)) _ e1 in
    let (d, g) = both_true (leb (count_in f) 32) _ e2 in
    record { some = leb-true 6 (length f) a; count = leb-true (count_in f) 32 d; size = eqb-true (length f) (6 + 7 * count_in f) g }

-- ---- loading

module _ (f : List ℕ) (t : Table) where
  pub not_table : file_test f ≡ false → record { answer = Err TableFile; table = t } ≡ loaded f t
  unfolding loaded
  not_table e = rw e

  module _ (ok : file_test f ≡ true) where
    -- entry i is the first outside the limits
    pub outside : (i : ℕ) → i < count_in f → ((q : ℕ) → q < i → in_limits (entry_in f q) ≡ true) → in_limits (entry_in f i) ≡ false
        → record { answer = Err (TableEntry i); table = t } ≡ loaded f t
    unfolding loaded first_outside
    outside i l h k =
        let e : i ≡ first_outside f = first_where_lem (record { within = omega arith; before = λ q m. ap not (h q m); found = λ m. ap not k }) in
        rw (ok, ← e, lt-ltb i (count_in f) l)

    -- none is
    pub whole : ((q : ℕ) → q < count_in f → in_limits (entry_in f q) ≡ true) → record { answer = (Ok tt); table = table_in f } ≡ loaded f t
    unfolding loaded first_outside
    whole h =
        let e : count_in f ≡ first_outside f = first_where_lem (record { within = omega arith; before = λ q m. ap not (h q m); found = λ m. absurd (omega arith) }) in
        rw (ok, ← e, le-ltb (count_in f) (count_in f) (omega arith))

get_or_nothing : (n q : ℕ) → get_or (replicate n no_entry) q no_entry ≡ no_entry
get_or_nothing zero q = refl
get_or_nothing (suc n) zero = refl
get_or_nothing (suc n) (suc q) = get_or_nothing n q

-- ---- the loop: the first i entries are read, and are within the limits

pub record Loading (f : List ℕ) (count : ℕ) (entries : List Profile) (i : ℕ) : Type 0 where
  pub ok : file_test f ≡ true
  pub counted : count ≡ count_in f
  pub within : i ≤ count
  pub written : Written no_entry 0 i (entry_in f) (replicate 32 no_entry) entries
  pub passed : (q : ℕ) → q < i → in_limits (entry_in f q) ≡ true

pub loading_starts : {f : List ℕ} {count : ℕ} → file_test f ≡ true → count ≡ count_in f → Loading f count (replicate 32 no_entry) 0
loading_starts {f} e h = record { ok = e; counted = h; within = omega arith; written = written_none no_entry 0 (entry_in f) (replicate 32 no_entry); passed = λ q l. absurd (omega arith) }

module _ {f : List ℕ} {count : ℕ} {entries : List Profile} {i : ℕ} (l : Loading f count entries i) where
  pub few : count ≤ 32
  few = omega (arith, (is_table f l.ok).count, l.counted)

  pub loading_more : {p : Profile} → i < count → p ≡ entry_in f i → in_limits p ≡ true → Loading f count (set entries i p) (i + 1)
  loading_more {p} h e b = record {
    ok = l.ok;
    counted = l.counted;
    within = omega arith;
    written = written_more l.written i p (omega arith) (omega (arith, few, length-replicate 32 no_entry)) e;
    passed = λ q k. elim (dec_lt q i) [
      | yes a ↦ l.passed q a
      | no a ↦ let z : q ≡ i = omega arith in rw (z, ← e) b
    ];
  }

  -- all are read
  pub loading_ends : count ≤ i → record { count = count; entries = entries } ≡ table_in f
  unfolding table_in
  loading_ends h =
      let same : entries ≡ tabulate 32 (λ j. cond (ltb j (count_in f)) (entry_in f j) no_entry) =
      ext_get_or no_entry entries (tabulate 32 (λ j. cond (ltb j (count_in f)) (entry_in f j) no_entry))
      (l.written.long ∙ length-replicate 32 no_entry ∙ sym (length-tabulate 32 (λ j. cond (ltb j (count_in f)) (entry_in f j) no_entry)))
      (λ q k. each q (omega (arith, l.written.long, length-replicate 32 no_entry)) ∙ sym (get_or-tabulate 32 (λ j. cond (ltb j (count_in f)) (entry_in f j) no_entry) no_entry q (omega (arith, l.written.long, length-replicate 32 no_entry)))) in
      rw (same, l.counted)
    where
      each : (q : ℕ) → q < 32 → get_or entries q no_entry ≡ cond (ltb q (count_in f)) (entry_in f q) no_entry
      each q k = elim (dec_lt q count) [
        | yes a ↦ rw (lt-ltb q (count_in f) (omega (arith, l.counted))) (ap (λ (j : ℕ). get_or entries j no_entry) {x = q} {y = 0 + q} (omega arith) ∙ l.written.within q (omega (arith, l.within)))
        | no a ↦ rw (le-ltb q (count_in f) (omega (arith, l.counted))) (l.written.above q (omega (arith, l.within)) ∙ get_or_nothing 32 q)
      ]

-- ---- in a table that a load made, 14 is a number not below the count

entry_loaded : (f : List ℕ) (n : ℕ) → n < count_in f → n < 32 → entry_of (table_in f) n ≡ entry_in f n
unfolding table_in
entry_loaded f n l k = get_or-tabulate 32 (λ j. cond (ltb j (count_in f)) (entry_in f j) no_entry) no_entry n k ∙ rw (lt-ltb n (count_in f) l)

none_outside : (f : List ℕ) → count_in f ≤ first_outside f → (n : ℕ) → n < count_in f → in_limits (entry_in f n) ≡ true
unfolding first_outside
none_outside f h n l = not-false (in_limits (entry_in f n)) ((where_first (count_in f) (λ i. not (in_limits (entry_in f i)))).before n (omega arith))

count_loaded : (f : List ℕ) → (table_in f).count ≡ count_in f
unfolding table_in
count_loaded f = refl

pub loaded_known : (f : List ℕ) → file_test f ≡ true → count_in f ≤ first_outside f → (n : ℕ) → known (table_in f) n ≡ ltb n (count_in f)
unfolding known
loaded_known f ok h n = rw (count_loaded f) (elim (dec_lt n (count_in f)) [
  | yes l ↦
      let k : n < 32 = omega (arith, (is_table f ok).count) in
      rw (lt-ltb n (count_in f) l, le-leb n 31 (omega arith), entry_loaded f n l k, none_outside f h n l)
  | no g ↦ rw (le-ltb n (count_in f) (omega arith))
])
