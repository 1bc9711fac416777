-- Runs of scripts, step by step. Assumes nothing.
use Rattle.std.specs.Prelude.{ℕ, suc, ◌+◌, ◌≤◌, ◌<◌, ◌≡◌, Bool, List, eqb, ltb, get_or, set, Ok}
use Rattle.std.proofs.Math.Path.{refl, sym, ap}
use Rattle.std.proofs.Common.{◌∙◌, ⊎_elim, zero-add, add-one, arith, below_more}
use Rattle.std.proofs.Math.Bool.{true, false, cond}
use Rattle.std.proofs.Math.Decide.{dec_lt}
use Rattle.std.proofs.Math.Dec.{leb}
use Rattle.std.proofs.Math.ListN.{length, get_or-eq_default}
use Rattle.std.proofs.Math.Seq.{ext_get_or}
use borrow.Author.Tests.{eq-eqb, ne_eqb, le-leb, lt-leb, leb-true, lt-ltb, le-ltb}
use Rattle.words.specs.Search.{first_where_lem}
use Rattle.words.specs.SumLaws.{le_or_lt, length-tabulate, get_or-tabulate}
use Rattle.words.specs.Written.{Written, written_none, written_more}
use Rattle.refusals.specs.Refusals.{answer_number}
use Rattle.tally.specs.declared.Tally.{Tally}
use Rattle.tally.specs.Counts.{tallied}
use Rattle.tallies.specs.declared.Kept.{Kept}
use Rattle.tallies.specs.declared.scripts.Ran.{Ran}
use Rattle.tallies.specs.Store.{empty_store, kept, saved, returned, dropped}
use Rattle.tallies.specs.History.{operated, after}
use Rattle.tallies.specs.Script.{Runs, RunsLent, answers_after, answer_to, byte, history, made, name_at, operation_at, position, size_at, size_of}

-- ---- the operation at a position

pub size_counting : (code : ℕ) → code ≡ 0 → 2 ≡ size_of code
unfolding size_of
size_counting code e = rw (eq-eqb code 0 e)

pub size_named : (code : ℕ) → (code ≡ 0 → ⊥) → code ≤ 3 → 9 ≡ size_of code
unfolding size_of
size_named code ne l = rw (ne_eqb code 0 ne, le-leb code 3 l)

pub size_none : (code : ℕ) → 3 < code → 0 ≡ size_of code
unfolding size_of
size_none code l = rw (ne_eqb code 0 (λ e. omega arith), lt-leb code 3 l)

module _ (s : List ℕ) (a : ℕ) where
  pub size_end : a ≡ length s → 0 ≡ size_at s a
  unfolding size_at size_of
  size_end e = rw (get_or-eq_default s 0 {n = a} (omega arith), lt-leb (a + 2) (length s) (omega arith))

  module _ {n : ℕ} (e : n ≡ size_of (byte s a)) where
    pub size_cut : length s < a + n → 0 ≡ size_at s a
    unfolding size_at
    size_cut l = rw (← e, lt-leb (a + n) (length s) l)

    pub size_whole : a + n ≤ length s → n ≡ size_at s a
    unfolding size_at
    size_whole l = rw (← e, le-leb (a + n) (length s) l)

  -- the operation stands there whole, and is one of the four
  pub record Whole : Type 0 where
    pub fits : a + size_at s a ≤ length s
    pub size : size_at s a ≡ size_of (byte s a)

  pub is_whole : 0 < size_at s a → Whole
  unfolding size_at
  is_whole h = go (leb (a + size_of (byte s a)) (length s)) refl h
    where
      go : (t : Bool) → leb (a + size_of (byte s a)) (length s) ≡ t → 0 < cond t (size_of (byte s a)) 0 → Whole
      go true e l = record { fits = rw e (leb-true _ _ e); size = rw e }
      go false e l = absurd (omega arith)

module _ (s : List ℕ) (a : ℕ) (h : 0 < size_at s a) where
  pub whole_counting : byte s a ≡ 0 → a + 2 ≤ length s
  whole_counting e = omega (arith, (is_whole s a h).fits, (is_whole s a h).size, size_counting (byte s a) e)

  pub whole_named : (byte s a ≡ 0 → ⊥) → a + 9 ≤ length s
  whole_named ne = ⊎_elim
      (λ (l : byte s a ≤ 3). omega (arith, (is_whole s a h).fits, (is_whole s a h).size, size_named (byte s a) ne l))
      (λ (l : 3 < byte s a). absurd (omega (arith, (is_whole s a h).size, size_none (byte s a) l)))
      (le_or_lt (byte s a) 3)

module _ (s : List ℕ) (a : ℕ) (x : Kept) where
  pub counts : byte s a ≡ 0 → kept (Ok tt) (tallied (byte s (a + 1)) x.tally) x.store ≡ operated (operation_at s a) x
  unfolding operation_at
  counts e = rw (eq-eqb (byte s a) 0 e)

  module _ (z : byte s a ≡ 0 → ⊥) where
    pub saves : byte s a ≡ 1 → saved x.store (name_at s (a + 1)) x.tally ≡ operated (operation_at s a) x
    unfolding operation_at
    saves e = rw (ne_eqb (byte s a) 0 z, eq-eqb (byte s a) 1 e)

    module _ (y : byte s a ≡ 1 → ⊥) where
      pub returns : byte s a ≡ 2 → returned x.store (name_at s (a + 1)) x.tally ≡ operated (operation_at s a) x
      unfolding operation_at
      returns e = rw (ne_eqb (byte s a) 0 z, ne_eqb (byte s a) 1 y, eq-eqb (byte s a) 2 e)

      pub drops : (byte s a ≡ 2 → ⊥) → dropped x.store (name_at s (a + 1)) x.tally ≡ operated (operation_at s a) x
      unfolding operation_at
      drops w = rw (ne_eqb (byte s a) 0 z, ne_eqb (byte s a) 1 y, ne_eqb (byte s a) 2 w)

-- ---- a run

-- after i operations: where the next one starts, what they left, and the answers that were written
pub record Running (s : List ℕ) (t : Tally) (before now : List ℕ) (at i : ℕ) (last : Kept) : Type 0 where
  pub room : i ≤ length before
  pub place : at ≡ position s i
  pub inside : at ≤ length s
  pub left : last ≡ after t (history s i)
  pub passed : (q : ℕ) → q < i → eqb (size_at s (position s q)) 0 ≡ false
  pub written : Written 0 0 i (answer_to s t) before now

pub running_starts : (s : List ℕ) (t : Tally) (before : List ℕ) → Running s t before before 0 0 (kept (Ok tt) t empty_store)
unfolding position history after
running_starts s t before = record {
  room = omega arith;
  place = refl;
  inside = omega arith;
  left = refl;
  passed = λ q l. absurd (omega arith);
  written = written_none 0 0 (answer_to s t) before;
}

module _ {s : List ℕ} {t : Tally} {before now : List ℕ} {at i : ℕ} {last : Kept} (r : Running s t before now at i last) where
  position_next : position s (suc i) ≡ at + size_at s at
  unfolding position
  position_next = rw r.place

  left_next : {next : Kept} → next ≡ operated (operation_at s at) last → next ≡ after t (history s (suc i))
  unfolding history after
  left_next e = rw (← r.place, ← r.left) e

  answer_next : {next : Kept} {v : ℕ} → next ≡ operated (operation_at s at) last → v ≡ answer_number next.answer → v ≡ answer_to s t i
  unfolding answer_to
  answer_next e f = f ∙ ap (λ (x : Kept). answer_number x.answer) (left_next e)

  pub running_fits : {n : ℕ} → n ≡ size_at s at → 0 < n → at + n ≤ length s
  running_fits size some = rw size (is_whole s at (omega arith)).fits

  pub running_more :
      {n v : ℕ} {next : Kept} → i < length before → n ≡ size_at s at → 0 < n → next ≡ operated (operation_at s at) last → v ≡ answer_number next.answer
      → Running s t before (set now i v) (at + n) (i + 1) next
  running_more {n} {v} {next} l size some e f = record {
    room = omega arith;
    place = rw (add-one, size) (sym position_next);
    inside = running_fits size some;
    left = rw add-one (left_next e);
    passed = below_more _ i r.passed (ne_eqb (size_at s (position s i)) 0 (λ z. omega (arith, ap (size_at s) r.place)));
    written = written_more r.written i v (omega arith) l (answer_next e f);
  }

  pub running_ends :
      {ran : Ran} → ran.made ≡ i → ran.tally ≡ last.tally → (i < length before → size_at s at ≡ 0) → Runs s t before now ran
  unfolding made answers_after
  running_ends {ran} em et end = record {
    count = em ∙ all;
    tally = et ∙ ap (λ (x : Kept). x.tally) r.left ∙ ap (λ (k : ℕ). (after t (history s k)).tally) all;
    answers =
        ext_get_or 0 now _ (r.written.long ∙ sym (length-tabulate (length before) _)) (λ p l.
        let k : p < length before = omega (arith, r.written.long) in
        given p (dec_lt p i) ∙ ap (λ (m : ℕ). cond (ltb p m) (answer_to s t p) (get_or before p 0)) all ∙ sym (get_or-tabulate (length before) _ 0 p k));
  }
    where
      all : i ≡ made s (length before)
      all = first_where_lem (record { within = r.room; before = r.passed; found = λ l. eq-eqb (size_at s (position s i)) 0 (rw r.place at (end l)) })

      given : (p : ℕ) → Dec (p < i) → get_or now p 0 ≡ cond (ltb p i) (answer_to s t p) (get_or before p 0)
      given p (yes l) = rw (lt-ltb p i l) (rw zero-add at (r.written.within p l))
      given p (no k) = rw (le-ltb p i (omega arith)) (r.written.above p (omega arith))

-- ---- a run on lent counts

module _ (s before : List ℕ) where
  pub not_32 : (counts : List ℕ) → (length counts ≡ 32 → ⊥) → RunsLent s before before counts counts 18446744073709551615
  not_32 counts ne =
      let z = ne_eqb (length counts) 32 ne in
      record { returned = rw z; answers = rw z; tally = rw z }

  pub lent_runs :
      {now counts' : List ℕ} {x : ℕ} {ran : Ran} (start : Tally) (counts : List ℕ) → start.counts ≡ counts → length counts ≡ 32
      → Runs s start before now ran → counts' ≡ ran.tally.counts → x ≡ ran.made → RunsLent s before now counts counts' x
  lent_runs start counts e l r p m =
      let z = eq-eqb (length counts) 32 l in
      record {
        returned = m ∙ r.count ∙ rw z;
        answers = r.answers ∙ rw (z, ← e);
        tally = p ∙ ap (λ (t : Tally). t.counts) r.tally ∙ rw (z, ← e);
      }
