-- Every history: what is held is what was last saved, in at most sixteen places. Assumes nothing.
use Rattle.std.specs.Prelude.{ℕ, ◌≤◌, ◌<◌, Bool, true, false, cond, ◌&&◌, List, [], ◌∷◌, eqb, Ok, Err}
use Rattle.std.proofs.Math.Path.{◌≡◌, refl}
use Rattle.std.proofs.Common.{sym, ap, ◌∙◌, arith}
use Rattle.std.proofs.lemmas.Bool.{false≢true}
use Rattle.std.proofs.Math.Bool.{and-true, and-false}
use Rattle.std.proofs.Math.Logic.{⊎_elim}
use Rattle.std.proofs.Math.Option.{Option, none, some}
use Rattle.std.proofs.lemmas.List.{get_or-replicate}
use borrow.Author.Tests.{not-false}
use Rattle.words.specs.SumLaws.{le_or_lt}
use Rattle.refusals.specs.Refusals.{answer_number}
use Rattle.refusals.specs.declared.Refusal.TheVariants.{NamesFull}
use Rattle.tally.specs.declared.Tally.{Tally}
use Rattle.tallies.specs.declared.Name.{Name}
use Rattle.tallies.specs.declared.Kept.{Kept}
use Rattle.tallies.specs.declared.Store.{Store}
use Rattle.tallies.specs.Store.{used_in, name_in, same_name, held_under, place_at, freed, empty_store, holds, where_held, room_for, kept, saved, returned, dropped}
use Rattle.tallies.specs.StoreLaws.{free_first, held_first, room_own, room_free, saves, full, saved_cases, returned_cases, dropped_cases}
use Rattle.tallies.specs.History.{Operation, counting, saving, returning, dropping, operated, after, last_saved, given, is_held, is_some, HeldNames, Sixteen, Untouched}
use Rattle.tallies.specs.Held.{Good, never, fails, both, holds_as, same_refl, same_sym, holds_one, held_here, held_nowhere, held_none, held_cases, held_some, room_held, room_for_lem, put_good, put_held}
use Rattle.tallies.specs.Distinct.{Distinct, distinct_most, distinct_fewer}

-- ---- one operation

module _ (s : Store) (good : Good s) (k : Name) (t : Tally) where
  saved_good : Good (saved s k t).store
  saved_good = saved_cases s k t (λ (x : Kept). Good x.store) (λ l. good) (λ l. put_good s good k _ (room_for_lem s good k l) _ (λ e. same_refl k))

  saved_held : (n : Name) → held_under (saved s k t).store n ≡ cond (same_name k n && eqb (answer_number (saved s k t).answer) 0) (some t) (held_under s n)
  saved_held n =
      saved_cases s k t (λ (x : Kept). held_under x.store n ≡ cond (same_name k n && eqb (answer_number x.answer) 0) (some t) (held_under s n))
      (λ l. rw (and-false (same_name k n)))
      (λ l. rw (and-true (same_name k n)) (put_held s good k _ (room_for_lem s good k l) _ (λ e. same_refl k) n))

  returned_store : (returned s k t).store ≡ s
  returned_store = returned_cases s k t (λ (x : Kept). x.store ≡ s) (λ l. refl) (λ l. refl)

  returned-given : returned s k t ≡ given (held_under s k) (kept (Ok tt) t s)
  returned-given =
      returned_cases s k t (λ (x : Kept). x ≡ given (held_under s k) (kept (Ok tt) t s)) (λ l. rw (held_nowhere s k l)) (λ l. rw (held_here s k l))

  dropped_good : Good (dropped s k t).store
  dropped_good =
      dropped_cases s k t (λ (x : Kept). Good x.store) (λ l. good) (λ l. put_good s good k _ (room_held s good k l) freed (λ e. absurd (false≢true e)))

  dropped_held : (n : Name) → held_under (dropped s k t).store n ≡ cond (same_name k n) none (held_under s n)
  dropped_held n =
      dropped_cases s k t (λ (x : Kept). held_under x.store n ≡ cond (same_name k n) none (held_under s n))
      (λ l. not_there l (same_name k n) refl)
      (λ l. put_held s good k _ (room_held s good k l) freed (λ e. absurd (false≢true e)) n)
    where
      not_there : 16 ≤ where_held s k → (b : Bool) → same_name k n ≡ b → held_under s n ≡ cond b none (held_under s n)
      not_there l true e = held_none s n (λ i li. fails _ (λ h. never (holds_as s i n k (same_sym k n e) h) ((held_first s k).before i (omega arith))))
      not_there l false e = refl

  dropped_answer : (dropped s k t).answer ≡ (given (held_under s k) (kept (Ok tt) t s)).answer
  dropped_answer =
      dropped_cases s k t (λ (x : Kept). x.answer ≡ (given (held_under s k) (kept (Ok tt) t s)).answer) (λ l. rw (held_nowhere s k l)) (λ l. rw (held_here s k l))

-- ---- every history

empty_used : (i : ℕ) → i < 16 → (used_in (place_at empty_store i)) ≡ false
empty_used i l = rw (get_or-replicate 16 i freed _ l)

empty_holds : (n : Name) (i : ℕ) → i < 16 → holds empty_store n i ≡ false
empty_holds n i l = rw (empty_used i l)

empty_good : Good empty_store
empty_good = record { size = refl; alone = λ n i j li lj hi hj. never hi (empty_holds n i li) }

pub after_good : (t : Tally) (h : List Operation) → Good (after t h).store
unfolding after
after_good t [] = empty_good
after_good t (counting number ∷ h) = after_good t h
after_good t (saving k ∷ h) = saved_good (after t h).store (after_good t h) k (after t h).tally
after_good t (returning k ∷ h) = rw (returned_store (after t h).store (after_good t h) k (after t h).tally) (after_good t h)
after_good t (dropping k ∷ h) = dropped_good (after t h).store (after_good t h) k (after t h).tally

-- a name is held exactly where the history saved it, and did not drop it since, with the tally of that time
pub held_saved : (t : Tally) (h : List Operation) (n : Name) → held_under (after t h).store n ≡ last_saved t n h
unfolding after last_saved
held_saved t [] n = held_none empty_store n (empty_holds n)
held_saved t (counting number ∷ h) n = held_saved t h n
held_saved t (saving k ∷ h) n =
    saved_held (after t h).store (after_good t h) k (after t h).tally n
    ∙ ap (cond (same_name k n && eqb (answer_number (saved (after t h).store k (after t h).tally).answer) 0) (some (after t h).tally)) (held_saved t h n)
held_saved t (returning k ∷ h) n = rw (returned_store (after t h).store (after_good t h) k (after t h).tally) (held_saved t h n)
held_saved t (dropping k ∷ h) n =
    dropped_held (after t h).store (after_good t h) k (after t h).tally n ∙ ap (cond (same_name k n) none) (held_saved t h n)

-- "the tally after returning equals what the history gave when that name was last saved", and the store is as it was; 25 where there is none,
-- and "all as it was"
pub returning_gives : (t : Tally) (h : List Operation) (n : Name) → after t (returning n ∷ h) ≡ given (last_saved t n h) (after t h)
unfolding after
returning_gives t h n =
    returned-given (after t h).store (after_good t h) n (after t h).tally
    ∙ ap (λ (o : Option Tally). given o (kept (Ok tt) (after t h).tally (after t h).store)) (held_saved t h n)
    ∙ as_given (last_saved t n h) (after t h)
  where
    as_given : (o : Option Tally) (x : Kept) → given o (kept (Ok tt) x.tally x.store) ≡ given o x
    as_given (some u) x = refl
    as_given none x = refl

-- "25, no tally has that name, when returning or dropping"
pub dropping_answers : (t : Tally) (h : List Operation) (n : Name) → (after t (dropping n ∷ h)).answer ≡ (given (last_saved t n h) (after t h)).answer
unfolding after
dropping_answers t h n = go (after t h) (last_saved t n h) (after_good t h) (held_saved t h n)
  where
    go : (x : Kept) (o : Option Tally) → Good x.store → held_under x.store n ≡ o → (dropped x.store n x.tally).answer ≡ (given o x).answer
    go x none good e = dropped_answer x.store good n x.tally ∙ rw e
    go x (some u) good e = dropped_answer x.store good n x.tally ∙ rw e

-- ---- sixteen places

module _ (t : Tally) (h : List Operation) where
  abbrev s : Store
  s = (after t h).store

  placed : (n : Name) → is_held t h n ≡ true → where_held s n < 16
  placed n e = held_cases s n (where_held s n < 16) (λ l x. l) (λ l x. never e (ap is_some (sym (held_saved t h n) ∙ held_nowhere s n l)))

  held_at_place : (n : Name) (i : ℕ) → i < 16 → holds s n i ≡ true → is_held t h n ≡ true
  held_at_place n i l e = ap is_some (sym (held_saved t h n) ∙ held_some s n (after_good t h) i l e)

  places : {count : ℕ} {names : ℕ → Name} → HeldNames t h count names → Distinct count 16 (λ i. where_held s (names i))
  places {count} {names} x = record {
    below = λ i l. placed (names i) (x.held i l);
    differ = λ i j li lj e. x.different i j li lj (holds_one s (where_held s (names j)) (names i) (names j) (rw e at (at i li)) (at j lj));
  }
    where
      at : (i : ℕ) → i < count → holds s (names i) (where_held s (names i)) ≡ true
      at i l = (held_first s (names i)).found (placed (names i) (x.held i l))

  -- "in 16 places": never more
  pub held_most : {count : ℕ} {names : ℕ → Name} → HeldNames t h count names → count ≤ 16
  held_most x = distinct_most (places x)

  module _ (n : Name) where
    -- "26, sixteen other names are held, when saving"
    pub sixteen_refused : Sixteen t h n → (after t (saving n ∷ h)).answer ≡ Err NamesFull
    unfolding after
    sixteen_refused x = ⊎_elim
        (λ (l : 16 ≤ room_for s n). rw (← full s n (after t h).tally refl l))
        (λ (l : room_for s n < 16).
        let room = room_for_lem s (after_good t h) n l in
        let more : 16 < 16 =
        distinct_fewer (places x.held) (room_for s n) l
        (λ i li e. never (same_sym n _ (room.own (x.names i) (rw e at ((held_first s (x.names i)).found (placed (x.names i) (x.held.held i li)))))) (x.other i li)) in
        absurd (omega arith))
        (le_or_lt 16 (room_for s n))

    -- and only then
    pub refused_sixteen : (after t (saving n ∷ h)).answer ≡ Err NamesFull → Sixteen t h n
    unfolding after
    refused_sixteen e = ⊎_elim
        (λ (l : 16 ≤ room_for s n). held_cases s n (Sixteen t h n)
        (λ k x. absurd (omega (arith, room_own s n refl k)))
        (λ k away. whole (λ i li. not-false _ ((free_first s).before i (omega (arith, room_free s n refl k refl)))) away))
        (λ (l : room_for s n < 16). let z : ◌≡◌ {A = ℕ} 0 1 = cc (ap (λ (x : Kept). x.answer) (saves s n (after t h).tally refl l)) in absurd (omega arith))
        (le_or_lt 16 (room_for s n))
      where
        whole : ((i : ℕ) → i < 16 → (used_in (place_at s i)) ≡ true) → ((i : ℕ) → i < 16 → holds s n i ≡ false) → Sixteen t h n
        whole used away = record {
          names = λ i. (name_in (place_at s i));
          held = record {
            held = λ i l. held_at_place (name_in (place_at s i)) i l (both (used i l) (same_refl (name_in (place_at s i))));
            different = λ i j li lj same. (after_good t h).alone (name_in (place_at s j)) i j li lj (both (used i li) same) (both (used j lj) (same_refl (name_in (place_at s j))));
          };
          other = λ i l. fails _ (λ same. never (both (used i l) same) (away i l));
        }

-- "Both leave all as it was."
pub refused_keeps : (t : Tally) (h : List Operation) (o : Operation) → Untouched (after t h) (after t (o ∷ h))
unfolding after
refused_keeps t h o = go o (after t h)
  where
    go : (o : Operation) (x : Kept) → Untouched x (operated o x)
    go (counting number) x = λ ne. absurd (ne refl)
    go (saving n) x = saved_cases x.store n x.tally (Untouched x) (λ l e. (refl, refl)) (λ l e. absurd (e refl))
    go (returning n) x = returned_cases x.store n x.tally (Untouched x) (λ l e. (refl, refl)) (λ l e. absurd (e refl))
    go (dropping n) x = dropped_cases x.store n x.tally (Untouched x) (λ l e. (refl, refl)) (λ l e. absurd (e refl))
