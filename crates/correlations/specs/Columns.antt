-- Two levels at once, column by column: the loop over the entries that stand at one place of each of four parts. Assumes nothing.
use Rattle.std.specs.Prelude.{ℕ, zero, suc, ◌+◌, ◌-◌, ◌*◌, ◌≤◌, ◌<◌, ◌≡◌, ◌≢◌, List, [], ◌∷◌, ◌++◌, ℤ, pos, length, get_or, take, drop, set}
use Rattle.std.proofs.Math.Path.{refl, ap₂}
use Rattle.std.proofs.Common.{sym, ap, subst, ◌∙◌, ⊎_elim, below_more, length-set, get_or-append-add, get_or-take, get_or-drop, get_or-set_same, get_or-set_other, ext_get_or}
use native.Mathlib.Omega.{arith}
use Rattle.std.proofs.Math.ListN.{get_or-append}
use Rattle.area.specs.Area.{at}
use Rattle.area.specs.Numbers.{stored}
use Rattle.words.specs.Butterflies.{Entries, Roomy, Rule, butterflies, entry, halved}
use Rattle.words.specs.ButterflyLaws.{butterflies_high, butterflies_low, length-butterflies, set_four}
use Rattle.words.specs.SumLaws.{le_or_lt}
use Rattle.hadamard.specs.Transform.{sums}
use Rattle.correlations.specs.Fours.{four_summed, minus, plus}
use Rattle.correlations.specs.Twice.{length-twice, twice}

-- every place is in one of four parts
by_quarters :
    (h j : ℕ) (P : ℕ → Type 0) → ((k : ℕ) → k < h → P k) → ((k : ℕ) → k < h → P (h + k)) → ((k : ℕ) → k < h → P (2 * h + k))
    → ((k : ℕ) → k < h → P (3 * h + k)) → j < 4 * h → P j
by_quarters h j P first second third fourth l =
    ⊎_elim
    (λ (g : 2 * h ≤ j). ⊎_elim
    (λ (f : 3 * h ≤ j). subst P (omega arith) (fourth (j - 3 * h) (omega arith)))
    (λ (f : j < 3 * h). subst P (omega arith) (third (j - 2 * h) (omega arith)))
    (le_or_lt (3 * h) j))
    (λ (g : j < 2 * h). ⊎_elim (λ (f : h ≤ j). subst P (omega arith) (second (j - h) (omega arith))) (first j) (le_or_lt h j))
    (le_or_lt (2 * h) j)

four_eq : {A : Type 0} {x x' y y' z z' w w' : A} → x ≡ x' → y ≡ y' → z ≡ z' → w ≡ w' → x ∷ y ∷ z ∷ w ∷ [] ≡ x' ∷ y' ∷ z' ∷ w' ∷ []
four_eq ex ey ez ew = rw (ex, ey, ez, ew)

-- ---- columns

module _ {A : Type 0} (d : A) (h : ℕ) where
  -- the entries at place k of the four parts of h entries
  abbrev pub column : ℕ → List A → List A
  column k a = get_or a k d ∷ get_or a (h + k) d ∷ get_or a (2 * h + k) d ∷ get_or a (3 * h + k) d ∷ []

  -- lists of the same columns are the same
  columns_eq : (a b : List A) → length a ≡ 4 * h → length b ≡ 4 * h → ((k : ℕ) → k < h → column k a ≡ column k b) → a ≡ b
  columns_eq a b ea eb c =
      ext_get_or d a b (ea ∙ sym eb)
      (λ j l. by_quarters h j (λ (i : ℕ). get_or a i d ≡ get_or b i d)
      (λ k g. ap (λ (r : List A). get_or r 0 d) (c k g))
      (λ k g. ap (λ (r : List A). get_or r 1 d) (c k g))
      (λ k g. ap (λ (r : List A). get_or r 2 d) (c k g))
      (λ k g. ap (λ (r : List A). get_or r 3 d) (c k g))
      (omega arith))

  -- a turn stores one column
  module _ (i : ℕ) (l : i < h) (a : List A) (p q r s : A) where
    abbrev one : List A
    one = set a i p

    abbrev two : List A
    two = set one (h + i) q

    abbrev three : List A
    three = set two (2 * h + i) r

    abbrev new : List A
    new = set three (3 * h + i) s

    column_same : length a ≡ 4 * h → column i new ≡ p ∷ q ∷ r ∷ s ∷ []
    column_same e = four_eq
        (get_or-set_other three (3 * h + i) i s d (λ g. omega arith) ∙ get_or-set_other two (2 * h + i) i r d (λ g. omega arith)
        ∙ get_or-set_other one (h + i) i q d (λ g. omega arith) ∙ get_or-set_same a i p d (omega arith))
        (get_or-set_other three (3 * h + i) (h + i) s d (λ g. omega arith) ∙ get_or-set_other two (2 * h + i) (h + i) r d (λ g. omega arith)
        ∙ get_or-set_same one (h + i) q d (simp length-set (omega arith)))
        (get_or-set_other three (3 * h + i) (2 * h + i) s d (λ g. omega arith) ∙ get_or-set_same two (2 * h + i) r d (simp length-set (omega arith)))
        (get_or-set_same three (3 * h + i) s d (simp length-set (omega arith)))

    other : (j : ℕ) → j ≢ i → j ≢ h + i → j ≢ 2 * h + i → j ≢ 3 * h + i → get_or new j d ≡ get_or a j d
    other j n₀ n₁ n₂ n₃ =
        get_or-set_other three (3 * h + i) j s d n₃ ∙ get_or-set_other two (2 * h + i) j r d n₂ ∙ get_or-set_other one (h + i) j q d n₁
        ∙ get_or-set_other a i j p d n₀

    column_other : (k : ℕ) → k < h → k ≢ i → column k new ≡ column k a
    column_other k g n = four_eq
        (other k n (λ e. omega arith) (λ e. omega arith) (λ e. omega arith))
        (other (h + k) (λ e. omega arith) (λ e. n (omega arith)) (λ e. omega arith) (λ e. omega arith))
        (other (2 * h + k) (λ e. omega arith) (λ e. omega arith) (λ e. n (omega arith)) (λ e. omega arith))
        (other (3 * h + k) (λ e. omega arith) (λ e. omega arith) (λ e. omega arith) (λ e. n (omega arith)))

module _ {A : Type 0} (R : Rule A) where
  column_room : (h k : ℕ) {j : ℕ} {a : List A} → Roomy R j a → Roomy R j (column R.none h k a)
  column_room h k {j} {a} room = record { each = each }
    where
      each : (i : ℕ) → R.Room j (entry R (column R.none h k a) i)
      each zero = room.each k
      each (suc zero) = room.each (h + k)
      each (suc (suc zero)) = room.each (2 * h + k)
      each (suc (suc (suc zero))) = room.each (3 * h + k)
      each (suc (suc (suc (suc i)))) = R.room_none j

  -- ---- two levels transform every column

  module _ (h : ℕ) (a : List A) (k : ℕ) (l : k < h) where
    lower : List A
    lower = butterflies R h (take (h + h) a)

    upper : List A
    upper = butterflies R h (drop (h + h) a)

    abbrev between : ℕ → A
    between i = entry R (lower ++ upper) i

    length-lower : length lower ≡ h + h
    unfolding lower
    length-lower = length-butterflies R h (take (h + h) a)

    in_lower : (i : ℕ) → i < h + h → between i ≡ entry R lower i
    in_lower i g = get_or-append lower upper R.none i (rw length-lower g)

    in_upper : (i : ℕ) → between (h + h + i) ≡ entry R upper i
    in_upper i = subst (λ (n : ℕ). between (n + i) ≡ entry R upper i) length-lower (get_or-append-add lower upper i R.none)

    taken_at : (i : ℕ) → i < h + h → entry R (take (h + h) a) i ≡ entry R a i
    taken_at i g = get_or-take (h + h) a i R.none g

    dropped_at : (i j : ℕ) → h + h + i ≡ j → entry R (drop (h + h) a) i ≡ entry R a j
    dropped_at i j e = get_or-drop (h + h) a i R.none ∙ ap (entry R a) e

    lower_low : between k ≡ R.low (entry R a k) (entry R a (h + k))
    unfolding lower
    lower_low = in_lower k (omega arith) ∙ butterflies_low R h _ k l ∙ ap₂ R.low (taken_at k (omega arith)) (taken_at (h + k) (omega arith))

    lower_high : between (h + k) ≡ R.high (entry R a k) (entry R a (h + k))
    unfolding lower
    lower_high = in_lower (h + k) (omega arith) ∙ butterflies_high R h _ k l ∙ ap₂ R.high (taken_at k (omega arith)) (taken_at (h + k) (omega arith))

    upper_low : between (h + h + k) ≡ R.low (entry R a (2 * h + k)) (entry R a (3 * h + k))
    unfolding upper
    upper_low = in_upper k ∙ butterflies_low R h _ k l ∙ ap₂ R.low (dropped_at k _ (omega arith)) (dropped_at (h + k) _ (omega arith))

    upper_high : between (h + h + (h + k)) ≡ R.high (entry R a (2 * h + k)) (entry R a (3 * h + k))
    unfolding upper
    upper_high = in_upper (h + k) ∙ butterflies_high R h _ k l ∙ ap₂ R.high (dropped_at k _ (omega arith)) (dropped_at (h + k) _ (omega arith))

    twice-column : column R.none h k (twice R h a) ≡ halved R 2 (column R.none h k a)
    unfolding twice lower upper
    twice-column =
        four_eq
        (butterflies_low R (h + h) _ k (omega arith) ∙ ap₂ R.low lower_low upper_low)
        (butterflies_low R (h + h) _ (h + k) (omega arith) ∙ ap₂ R.low lower_high upper_high)
        (ap (entry R (twice R h a)) third ∙ butterflies_high R (h + h) _ k (omega arith) ∙ ap₂ R.high lower_low upper_low)
        (ap (entry R (twice R h a)) fourth ∙ butterflies_high R (h + h) _ (h + k) (omega arith) ∙ ap₂ R.high lower_high upper_high)
        ∙ set_four R (column R.none h k a) refl refl refl refl refl
      where
        third : 2 * h + k ≡ h + h + k
        third = omega arith

        fourth : 3 * h + k ≡ h + h + (h + k)
        fourth = omega arith

  -- ---- the loop over the columns

  -- the first i columns of a₀ are transformed in a, and the others are as they were
  pub record ColumnsDone (h i : ℕ) (a₀ a : List A) : Type 0 where
    pub size : length a ≡ length a₀
    pub done : (k : ℕ) → k < i → column R.none h k a ≡ halved R 2 (column R.none h k a₀)
    pub left : (k : ℕ) → i ≤ k → k < h → column R.none h k a ≡ column R.none h k a₀

  pub columns_none : (h : ℕ) (a : List A) → ColumnsDone h 0 a a
  columns_none h a = record { size = refl; done = λ k l. absurd (omega arith); left = λ k l g. refl }

  module _ {h i : ℕ} {a₀ a : List A} (c : ColumnsDone h i a₀ a) (l : i < h) where
    -- the column that the next turn reads
    pub column_next : {j : ℕ} → Roomy R j a₀ → Entries R 4 j (column R.none h i a)
    column_next room = rw (c.left i (omega arith) l) record { size = refl; room = column_room h i room }

    pub columns_more :
        {p q r s : A} → length a₀ ≡ 4 * h → p ∷ q ∷ r ∷ s ∷ [] ≡ halved R 2 (column R.none h i a)
        → ColumnsDone h (i + 1) a₀ (set (set (set (set a i p) (h + i) q) (2 * h + i) r) (3 * h + i) s)
    columns_more {p} {q} {r} {s} e v =
        let b : List A = new R.none h i l a p q r s in
        record {
          size = simp length-set c.size;
          done = below_more (λ (k : ℕ). column R.none h k b ≡ halved R 2 (column R.none h k a₀)) i
              (λ k m. column_other R.none h i l a p q r s k (omega arith) (λ g. omega arith) ∙ c.done k m)
              (column_same R.none h i l a p q r s (c.size ∙ e) ∙ v ∙ ap (halved R 2) (c.left i (omega arith) l));
          left = λ k m g. column_other R.none h i l a p q r s k g (λ n. omega arith) ∙ c.left k (omega arith) g;
        }

  pub columns_all : {h i : ℕ} {a₀ a : List A} → ColumnsDone h i a₀ a → h ≤ i → length a₀ ≡ 4 * h → a ≡ twice R h a₀
  columns_all {h} {i} {a₀} {a} c g e =
      columns_eq R.none h a (twice R h a₀) (c.size ∙ e) (length-twice R h a₀)
      (λ k l. c.done k (omega arith) ∙ sym (twice-column h a₀ k l))

-- ---- a turn as the code computes it

module _ {h i : ℕ} {a₀ a : List ℤ} (c : ColumnsDone sums h i a₀ a) (l : i < h) (e : Entries sums (4 * h) 2 a₀) where
  pub column_entries : Entries sums 4 2 (column (pos 0) h i a)
  unfolding sums
  column_entries = column_next sums c l e.room

  pub column_summed :
      let s = plus (at a i) (at a (h + i)) in
      let d = minus (at a i) (at a (h + i)) in
      let t = plus (at a (2 * h + i)) (at a (3 * h + i)) in
      let f = minus (at a (2 * h + i)) (at a (3 * h + i)) in
      ColumnsDone sums h (i + 1) a₀
      (set (set (set (set a i (stored (plus s t))) (h + i) (stored (plus d f))) (2 * h + i) (stored (minus s t))) (3 * h + i) (stored (minus d f)))
  unfolding sums
  column_summed = columns_more sums c l e.size (four_summed column_entries)
