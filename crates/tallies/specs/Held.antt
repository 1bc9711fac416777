-- What a store holds under a name, and what a place that is written changes. Assumes nothing.
use Rattle.std.specs.Prelude as std
use Rattle.std.specs.Prelude.{ℕ, ◌≤◌, ◌<◌, ◌≡◌, refl, Bool, true, false, cond, ◌&&◌, ◌≢◌, get_or, length}
use Rattle.std.proofs.Common.{sym, ap, ◌∙◌, ⊎_elim, arith, length-set, get_or-set_same, get_or-set_other, lt-ltb, le-ltb, eqb-true, eq-eqb}
use Rattle.std.proofs.lemmas.Bool.{false≢true, not-true}
use Rattle.std.proofs.Math.Option.{none, some}
use Rattle.std.proofs.Math.Decide.{ℕ_discrete}
use Rattle.words.specs.SumLaws.{le_or_lt, both_true, all_true, true_all}
use Rattle.tallies.specs.declared.Name.{Name}
use Rattle.tallies.specs.declared.Place.{Place}
use Rattle.tallies.specs.declared.Store.{Store}
use Rattle.tallies.specs.Store.{used_in, name_in, tally_in, same_name, place_at, holds, where_held, free_place, held_under, room_for, put}
use Rattle.tallies.specs.StoreLaws.{held_first, free_first, room_own, room_free}

pub never : {A : Type 0} {b : Bool} → b ≡ true → b ≡ false → A
never e f = absurd (false≢true (sym f ∙ e))

-- a test that cannot hold
pub fails : (b : Bool) → (b ≡ true → ⊥) → b ≡ false
fails true h = absurd (h refl)
fails false h = refl

pub both : {a b : Bool} → a ≡ true → b ≡ true → a && b ≡ true
both e f = rw (e, f)

-- ---- names

bytes_same : (a b : Name) → same_name a b ≡ true → (i : ℕ) → i < 8 → get_or a.bytes i 0 ≡ get_or b.bytes i 0
unfolding same_name
bytes_same a b e i l = eqb-true _ _ (all_true 8 _ e i l)

same_bytes : (a b : Name) → ((i : ℕ) → i < 8 → get_or a.bytes i 0 ≡ get_or b.bytes i 0) → same_name a b ≡ true
unfolding same_name
same_bytes a b h = true_all 8 _ (λ i l. eq-eqb _ _ (h i l))

pub same_refl : (a : Name) → same_name a a ≡ true
same_refl a = same_bytes a a (λ i l. refl)

pub same_sym : (a b : Name) → same_name a b ≡ true → same_name b a ≡ true
same_sym a b e = same_bytes b a (λ i l. sym (bytes_same a b e i l))

pub same_trans : (a b c : Name) → same_name a b ≡ true → same_name b c ≡ true → same_name a c ≡ true
same_trans a b c e f = same_bytes a c (λ i l. bytes_same a b e i l ∙ bytes_same b c f i l)

-- ---- places

module _ (s : Store) (i : ℕ) where
  pub holds_used : (n : Name) → holds s n i ≡ true → (used_in (place_at s i)) ≡ true
  holds_used n h = (both_true (used_in (place_at s i)) _ h).0

  pub holds_name : (n : Name) → holds s n i ≡ true → same_name (name_in (place_at s i)) n ≡ true
  holds_name n h = (both_true (used_in (place_at s i)) _ h).1

  -- a place holds one name
  pub holds_one : (a b : Name) → holds s a i ≡ true → holds s b i ≡ true → same_name a b ≡ true
  holds_one a b ha hb = same_trans a (name_in (place_at s i)) b (same_sym (name_in (place_at s i)) a (holds_name a ha)) (holds_name b hb)

  pub holds_as : (a b : Name) → same_name a b ≡ true → holds s a i ≡ true → holds s b i ≡ true
  holds_as a b e ha = both (holds_used a ha) (same_trans (name_in (place_at s i)) a b (holds_name a ha) e)

-- sixteen places, no two of them of one name
pub record Good (s : Store) : Type 0 where
  pub size : length s.places ≡ 16
  pub alone : (n : Name) (i j : ℕ) → i < 16 → j < 16 → holds s n i ≡ true → holds s n j ≡ true → i ≡ j

module _ (s : Store) (n : Name) where
  pub held_here : where_held s n < 16 → held_under s n ≡ some (tally_in (place_at s (where_held s n)))
  unfolding held_under
  held_here l = rw (lt-ltb (where_held s n) 16 l)

  pub held_nowhere : 16 ≤ where_held s n → held_under s n ≡ none
  unfolding held_under
  held_nowhere l = rw (le-ltb (where_held s n) 16 l)

  pub held_some : Good s → (i : ℕ) → i < 16 → holds s n i ≡ true → held_under s n ≡ some (tally_in (place_at s i))
  held_some good i l h =
      let at : where_held s n < 16 = ⊎_elim (λ (k : 16 ≤ where_held s n). never h ((held_first s n).before i (omega arith))) (λ k. k) (le_or_lt 16 (where_held s n)) in
      held_here at ∙ ap (λ (j : ℕ). some (tally_in (place_at s j))) (good.alone n (where_held s n) i at l ((held_first s n).found at) h)

  pub held_none : ((i : ℕ) → i < 16 → holds s n i ≡ false) → held_under s n ≡ none
  held_none h = ⊎_elim held_nowhere (λ k. never ((held_first s n).found k) (h (where_held s n) k)) (le_or_lt 16 (where_held s n))

  -- n stands somewhere or nowhere
  pub held_cases : (P : Type 0) → (where_held s n < 16 → holds s n (where_held s n) ≡ true → P) → (16 ≤ where_held s n → ((i : ℕ) → i < 16 → holds s n i ≡ false) → P) → P
  held_cases P a b =
      ⊎_elim (λ (k : 16 ≤ where_held s n). b k (λ i l. (held_first s n).before i (omega arith))) (λ k. a k ((held_first s n).found k)) (le_or_lt 16 (where_held s n))

-- ---- a place for the name n: it holds no other name, and n stands nowhere else
pub record Room (s : Store) (n : Name) (p : ℕ) : Type 0 where
  pub within : p < 16
  pub own : (m : Name) → holds s m p ≡ true → same_name n m ≡ true
  pub only : (i : ℕ) → i < 16 → i ≢ p → holds s n i ≡ false

module _ (s : Store) (good : Good s) (n : Name) where
  pub room_held : where_held s n < 16 → Room s n (where_held s n)
  room_held l =
      let h = (held_first s n).found l in
      record {
        within = l;
        own = λ m e. holds_one s (where_held s n) n m h e;
        only = λ i k ne. fails _ (λ e. ne (good.alone n i (where_held s n) k l e h));
      }

  pub room_for_lem : room_for s n < 16 → Room s n (room_for s n)
  room_for_lem = held_cases s n (room_for s n < 16 → Room s n (room_for s n))
      (λ l h. rw (← room_own s n refl l) (λ k. room_held l))
      (λ l none-holds. rw (← room_free s n refl l refl) (λ k. record {
        within = k;
        own = λ m e. never (holds_used s (free_place s) m e) (not-true _ ((free_first s).found k));
        only = λ i j ne. none-holds i j;
      }))

-- ---- a place written

module _ (s : Store) (good : Good s) (n : Name) (p : ℕ) (room : Room s n p) (q : std.Option Place) (mine : (used_in q) ≡ true → same_name (name_in q) n ≡ true) where
  here : place_at (put s p q) p ≡ q
  here = get_or-set_same s.places p q _ (omega (arith, good.size, room.within))

  holds_here : (m : Name) → holds (put s p q) m p ≡ ((used_in q) && same_name (name_in q) m)
  holds_here m = rw here

  holds_there : (m : Name) (i : ℕ) → i ≢ p → holds (put s p q) m i ≡ holds s m i
  holds_there m i ne = rw (get_or-set_other s.places p i q _ ne)

  -- the place holds n or nothing
  is_n : (m : Name) → holds (put s p q) m p ≡ true → same_name n m ≡ true
  is_n m h =
      let b = both_true (used_in q) _ (sym (holds_here m) ∙ h) in
      same_trans n (name_in q) m (same_sym (name_in q) n (mine b.0)) b.1

  -- a name at another place was there before, and is not n
  was_there : (m : Name) (i : ℕ) → i < 16 → i ≢ p → holds (put s p q) m i ≡ true → same_name n m ≡ true → ⊥
  was_there m i l ne h e = never (holds_as s i m n (same_sym n m e) (sym (holds_there m i ne) ∙ h)) (room.only i l ne)

  pub put_good : Good (put s p q)
  put_good = record {
    size = length-set s.places p q ∙ good.size;
    alone = λ m i j li lj hi hj. elim (ℕ_discrete i p) [
      | yes a ↦ elim (ℕ_discrete j p) [ yes b ↦ a ∙ sym b | no b ↦ absurd (was_there m j lj b hj (is_n m (rw a at hi))) ]
      | no a ↦ elim (ℕ_discrete j p) [
        | yes b ↦ absurd (was_there m i li a hi (is_n m (rw b at hj)))
        | no b ↦ good.alone m i j li lj (sym (holds_there m i a) ∙ hi) (sym (holds_there m j b) ∙ hj)
      ]
    ];
  }

  now_n : (m : Name) → same_name n m ≡ true → (u : Bool) → (used_in q) ≡ u → held_under (put s p q) m ≡ cond u (some (tally_in q)) none
  now_n m e true f =
      held_some (put s p q) m put_good p room.within (holds_here m ∙ both f (same_trans (name_in q) n m (mine f) e)) ∙ ap (λ (x : std.Option Place). some (tally_in x)) here
  now_n m e false f = held_none (put s p q) m (λ i l. elim (ℕ_discrete i p) [
    | yes a ↦ rw (a, holds_here m, f)
    | no a ↦ fails _ (λ h. was_there m i l a h e)
  ])

  still : (m : Name) → same_name n m ≡ false → held_under (put s p q) m ≡ held_under s m
  still m e = held_cases s m (held_under (put s p q) m ≡ held_under s m)
      (λ l h.
      let ne : where_held s m ≢ p = λ a. never (room.own m (rw a at h)) e in
      held_some (put s p q) m put_good (where_held s m) l (holds_there m (where_held s m) ne ∙ h)
      ∙ ap (λ (x : std.Option Place). some (tally_in x)) (get_or-set_other s.places p (where_held s m) q _ ne) ∙ sym (held_here s m l))
      (λ l away. held_none (put s p q) m (λ i k. elim (ℕ_discrete i p) [
        | yes a ↦ fails _ (λ h. never (is_n m (rw a at h)) e)
        | no a ↦ holds_there m i a ∙ away i k
      ]) ∙ sym (held_nowhere s m l))

  pub put_held : (m : Name) → held_under (put s p q) m ≡ cond (same_name n m) (cond (used_in q) (some (tally_in q)) none) (held_under s m)
  put_held m = go (same_name n m) refl
    where
      go : (b : Bool) → same_name n m ≡ b → held_under (put s p q) m ≡ cond b (cond (used_in q) (some (tally_in q)) none) (held_under s m)
      go true e = now_n m e (used_in q) refl
      go false e = still m e
