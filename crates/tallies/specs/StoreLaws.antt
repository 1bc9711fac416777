-- The places of a store, and each call case by case. Assumes nothing.
use Rattle.std.specs.Prelude as std
use Rattle.std.specs.Prelude.{Bool, false, List, bytes_eq, is_some, length, get_or, Some, None, ℕ, ◌≤◌, ◌<◌, ◌≡◌, refl, true, Ok, Err}
use Rattle.std.proofs.Math.Bool.{not}
use Rattle.std.proofs.Common.{⊎_elim, arith, sym, subst, ap, ◌∙◌}
use borrow.Author.Tests.{eq-eqb, eqb-true, lt-ltb, le-ltb}
use Rattle.std.proofs.lemmas.List.{ext_get_or}
use Rattle.std.proofs.lemmas.Slice.Eq.{bytes_eq-Decides}
use Rattle.std.specs.List.{position}
use Rattle.std.proofs.lemmas.List.Sums.{position_or_len_is}
use Rattle.words.specs.Sum.{first_where}
use Rattle.words.specs.Search.{First, where_first, first_where_lem}
use Rattle.std.proofs.lemmas.Bool.{false≢true}
use Rattle.words.specs.SumLaws.{all_true, le_or_lt, true_all}
use Rattle.refusals.specs.declared.Refusal.TheVariants.{UnknownName, NamesFull}
use Rattle.tally.specs.declared.Tally.{Tally}
use Rattle.tallies.specs.declared.Name.{Name}
use Rattle.tallies.specs.declared.Place.{Place}
use Rattle.tallies.specs.declared.Store.{Store}
use Rattle.tallies.specs.declared.Kept.{Kept}
use Rattle.tallies.specs.Store.{used_in, tally_in, holding, found, held_tally, same_name, place_at, holds, where_held, free_place, room_for, put, freed, kept, saved, returned, dropped}

-- ---- names

same_self : (a b : Name) → a.bytes ≡ b.bytes → same_name a b ≡ true
unfolding same_name
same_self a b e = true_all 8 _ (λ i l. eq-eqb _ _ (ap (λ (bytes : List ℕ). get_or bytes i 0) e))

one_test : (x y : Bool) → (x ≡ true → y ≡ true) → (y ≡ true → x ≡ true) → x ≡ y
one_test true y f g = sym (f refl)
one_test false true f g = g refl
one_test false false f g = refl

-- the derived test of eight bytes
pub bytes_name : (a b : Name) → length a.bytes ≡ 8 → length b.bytes ≡ 8 → bytes_eq a.bytes b.bytes ≡ same_name a b
unfolding same_name
bytes_name a b h k =
    let d = bytes_eq-Decides a.bytes b.bytes in
    one_test _ _ (λ e. same_self a b (d.0 e))
    (λ e. d.1 (ext_get_or 0 a.bytes b.bytes (omega arith) (λ i l. eqb-true _ _ (all_true 8 _ e i (omega arith)))))

-- ---- searches

-- the library's search over the sixteen places
module _ (s : Store) (size : length s.places ≡ 16) where
  searched : (q : std.Option Place → Bool) → position q s.places ≡ found (first_where 16 (λ i. q (place_at s i)))
  searched q =
      let f = where_first 16 (λ i. q (place_at s i)) in
      let e = position_or_len_is q s.places (first_where 16 (λ i. q (place_at s i))) None (omega (arith, f.within)) f.before (λ l. f.found (omega arith)) in
      rw (e, size)

  pub held_found : (n : Name) → position (holding n) s.places ≡ found (where_held s n)
  unfolding where_held
  held_found n = searched (holding n)

  pub free_found : position (λ p. not (used_in p)) s.places ≡ found (free_place s)
  unfolding free_place
  free_found = searched (λ p. not (used_in p))

none_some : {A : Type 0} {x : A} → ◌≡◌ {A = std.Option A} None (Some x) → ⊥
none_some e = false≢true (ap is_some e)

-- a place found, or none
pub found_some : (i : ℕ) {at : ℕ} → found i ≡ Some at → (at ≡ i) × (at < 16)
found_some i {at} e = ⊎_elim (λ (l : 16 ≤ i). absurd (none_some (rw (le-ltb i 16 l) at e)))
    (λ (l : i < 16). let h : i ≡ at = cc (rw (lt-ltb i 16 l) at e) in (sym h, subst (λ (k : ℕ). k < 16) h l)) (le_or_lt 16 i)

pub found_none : (i : ℕ) → found i ≡ None → 16 ≤ i
found_none i e = ⊎_elim (λ l. l) (λ (l : i < 16). absurd (none_some (sym (rw (lt-ltb i 16 l) at e)))) (le_or_lt 16 i)

pub found_is : (i : ℕ) {at : ℕ} → at ≡ i → at < 16 → Some at ≡ found i
found_is i {at} e l = rw (← e, lt-ltb at 16 l)

module _ (s : Store) (n : Name) where
  pub tally_none : 16 ≤ where_held s n → None ≡ held_tally s n
  unfolding held_tally
  tally_none l = rw (le-ltb (where_held s n) 16 l)

  pub tally_some : {at : ℕ} → at ≡ where_held s n → at < 16 → {p : Place} → place_at s at ≡ Some p → Some p.tally ≡ held_tally s n
  unfolding held_tally
  tally_some {at} e l {p} h = rw (← e, lt-ltb at 16 l, h)

module _ (s : Store) where
  pub held_at : (n : Name) {i : ℕ} → First 16 (holds s n) i → i ≡ where_held s n
  unfolding where_held
  held_at n h = first_where_lem h

  pub free_at : {i : ℕ} → First 16 (λ j. not (used_in (place_at s j))) i → i ≡ free_place s
  unfolding free_place
  free_at h = first_where_lem h

  pub held_first : (n : Name) → First 16 (holds s n) (where_held s n)
  unfolding where_held
  held_first n = where_first 16 (holds s n)

  pub free_first : First 16 (λ j. not (used_in (place_at s j))) (free_place s)
  unfolding free_place
  free_first = where_first 16 (λ j. not (used_in (place_at s j)))

-- the place found is not free
pub never_free : (s : Store) (n : Name) {at : ℕ} → at ≡ where_held s n → at < 16 → place_at s at ≡ None → ⊥
never_free s n {at} e l h =
    let t = (held_first s n).found (omega arith) in false≢true (sym (ap (holding n) (ap (place_at s) (sym e) ∙ h)) ∙ t)

module _ (s : Store) (n : Name) where
  pub room_own : {i : ℕ} → i ≡ where_held s n → i < 16 → i ≡ room_for s n
  unfolding room_for
  room_own {i} e l = rw (← e, lt-ltb i 16 l)

  pub room_free : {i f : ℕ} → i ≡ where_held s n → 16 ≤ i → f ≡ free_place s → f ≡ room_for s n
  unfolding room_for
  room_free {i} e l g = rw (← e, le-ltb i 16 l) g

-- ---- calls

module _ (s : Store) (n : Name) (t : Tally) {i : ℕ} where
  pub saves : i ≡ room_for s n → i < 16 → kept (Ok tt) t (put s i (Some (record { name = n; tally = t }))) ≡ saved s n t
  unfolding saved
  saves e l = rw (← e, lt-ltb i 16 l)

  pub full : i ≡ room_for s n → 16 ≤ i → kept (Err NamesFull) t s ≡ saved s n t
  unfolding saved
  full e l = rw (← e, le-ltb i 16 l)

  module _ (e : i ≡ where_held s n) where
    pub returns_held : i < 16 → kept (Ok tt) (tally_in (place_at s i)) s ≡ returned s n t
    unfolding returned
    returns_held l = rw (← e, lt-ltb i 16 l)

    pub drops : i < 16 → kept (Ok tt) t (put s i freed) ≡ dropped s n t
    unfolding dropped
    drops l = rw (← e, lt-ltb i 16 l)

    pub not_returned : 16 ≤ i → kept (Err UnknownName) t s ≡ returned s n t
    unfolding returned
    not_returned l = rw (← e, le-ltb i 16 l)

    pub not_dropped : 16 ≤ i → kept (Err UnknownName) t s ≡ dropped s n t
    unfolding dropped
    not_dropped l = rw (← e, le-ltb i 16 l)

-- by the tally that the code finds
module _ (s : Store) (n : Name) (t : Tally) where
  pub returns_some : {u : Tally} → held_tally s n ≡ Some u → kept (Ok tt) u s ≡ returned s n t
  unfolding held_tally
  returns_some {u} e = ⊎_elim (λ (l : 16 ≤ where_held s n). absurd (none_some (rw (le-ltb (where_held s n) 16 l) at e)))
      (λ (l : where_held s n < 16). let h : u ≡ tally_in (place_at s (where_held s n)) = cc (rw (lt-ltb (where_held s n) 16 l) at e) in rw h (returns_held s n t refl l)) (le_or_lt 16 (where_held s n))

  pub returns_none : held_tally s n ≡ None → kept (Err UnknownName) t s ≡ returned s n t
  unfolding held_tally
  returns_none e = ⊎_elim (λ l. not_returned s n t refl l)
      (λ (l : where_held s n < 16). absurd (none_some (sym (rw (lt-ltb (where_held s n) 16 l) at e)))) (le_or_lt 16 (where_held s n))

-- by what a call answers
module _ (s : Store) (n : Name) (t : Tally) (P : Kept → Type 0) where
  pub saved_cases : (16 ≤ room_for s n → P (kept (Err NamesFull) t s)) → (room_for s n < 16 → P (kept (Ok tt) t (put s (room_for s n) (Some (record { name = n; tally = t }))))) → P (saved s n t)
  saved_cases a b = ⊎_elim (λ l. rw (← full s n t refl l) (a l)) (λ l. rw (← saves s n t refl l) (b l)) (le_or_lt 16 (room_for s n))

  pub returned_cases : (16 ≤ where_held s n → P (kept (Err UnknownName) t s)) → (where_held s n < 16 → P (kept (Ok tt) (tally_in (place_at s (where_held s n))) s)) → P (returned s n t)
  returned_cases a b = ⊎_elim (λ l. rw (← not_returned s n t refl l) (a l)) (λ l. rw (← returns_held s n t refl l) (b l)) (le_or_lt 16 (where_held s n))

  pub dropped_cases : (16 ≤ where_held s n → P (kept (Err UnknownName) t s)) → (where_held s n < 16 → P (kept (Ok tt) t (put s (where_held s n) freed))) → P (dropped s n t)
  dropped_cases a b = ⊎_elim (λ l. rw (← not_dropped s n t refl l) (a l)) (λ l. rw (← drops s n t refl l) (b l)) (le_or_lt 16 (where_held s n))
