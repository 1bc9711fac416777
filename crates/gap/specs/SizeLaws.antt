-- The gap of the sums and differences of pairs: by the pairs' sizes, and as the search finds it. Assumes nothing.
use Rattle.std.specs.Prelude.{ℕ, zero, suc, ◌+◌, ◌-◌, ◌≤◌, ◌<◌, max, ◌≡◌, true, false, cond, List, ◌≢◌, T, eqb, ℤ, pos, nat_abs, ◌-ℤ◌, length, drop, take}
use Rattle.std.proofs.Common.{sym, ap, ap₂, ◌∙◌, subst, arith, Fits, SFits, of_z, eq-eqb, le-ltb, ne_eqb}
use Rattle.std.proofs.Math.Decide.{ℕ_discrete}
use Rattle.std.specs.Int.Signed.{lt_z, non_neg}
use Rattle.std.specs.Int.{w32, w64}
use Rattle.area.specs.Area.{at, size_at}
use Rattle.area.specs.Numbers.{Half, difference_fits, difference_stored, stored, stored-eq}
use Rattle.hadamard.specs.Correlation.{count_below, first_below}
use Rattle.hadamard.specs.Peak.{Alone, Shared, alone_greatest, alone_most, else_shared, greatest_bound, one_alone}
use Rattle.hadamard.specs.PeakExt.{count_ext}
use Rattle.peaks.specs.Casts.{size_above, size_below}
use Rattle.peaks.specs.Found.{Holds, holds_same, holds_sizes}
use Rattle.peaks.specs.Pairs.{Layout, by_place, greater_below, greater_is, greater_place, greaters_apart, joined_layout, lesser_apart, lesser_below, lesser_is}
use Rattle.peaks.specs.Pairs.{lesser_place, lessers, pairs_most, pairs_share, sizes}
use Rattle.peaks.specs.Peaks.{Sizes, lesser_sizes, pair_sizes, pairs_joined}
use Rattle.words.specs.Parts.{front_length, at-part_of}
use Rattle.words.specs.Sum.{greatest_below}
use Rattle.words.specs.SumLaws.{total_ext}
use Rattle.words.specs.Written.{Written}
use Rattle.gap.specs.Gap.{gap_below, others}
use Rattle.gap.specs.Measuring.{Heights, Size, Small, unlike}
use Rattle.gap.specs.Seconds.{Most, bounded, gap_at, gap_tie, others_at, others_else, others_most}

-- ---- the difference of two sizes, as the code takes it

pub record Difference (y z : ℤ) (d : ℕ) : Type 0 where
  pub fits : SFits w32 (stored y -ℤ stored z)
  pub casts : T (non_neg (stored (stored y -ℤ stored z))) × Fits w64 (nat_abs (stored (stored y -ℤ stored z)))
  pub is : nat_abs (stored (stored y -ℤ stored z)) ≡ d

less : (a b : ℕ) → b ≤ a → pos a -ℤ pos b ≡ pos (a - b)
less a zero l = ap pos (omega arith)
less a (suc b) l = rw (le-ltb a (suc b) l)

difference : {y z : ℤ} {a b : ℕ} → y ≡ pos a → z ≡ pos b → b ≤ a → a ≤ 1024 → Difference y z (a - b)
difference {y} {z} {a} {b} ey ez l small = record {
  fits = difference_fits first second;
  casts = rw same (tt, record { fits = omega arith });
  is = ap nat_abs same;
}
  where
    first : Half y
    first = record { half = omega (arith, ap nat_abs ey) }

    second : Half z
    second = record { half = omega (arith, ap nat_abs ez) }

    same : stored (stored y -ℤ stored z) ≡ pos (a - b)
    same = difference_stored first second ∙ ap₂ ◌-ℤ◌ ey ez ∙ less a b l

-- ---- sizes as the code reads them

module _ {x : ℤ} (s : Size x) where
  pub size_read : stored x ≡ x
  size_read = stored-eq x (omega (arith, s.small))

  pub size_word : of_z w32 x ≡ nat_abs x
  size_word = ap (of_z w32) s.whole

-- a size less the greater of two
module _ {x a b : ℤ} (t : Heights x a b) where
  abbrev left : ℕ
  left = nat_abs x - max (nat_abs a) (nat_abs b)

  pub less_second : lt_z (stored a) (stored b) ≡ true → Difference x b left
  less_second e = go (size_below (of_z w32 a) b (omega (arith, size_word t.first, t.first.small)) (omega (arith, t.second.small)) t.second.whole e)
    where
      go : of_z w32 a < nat_abs b → Difference x b left
      go l = subst (Difference x b) (omega (arith, size_word t.first)) (difference t.top.whole t.second.whole (omega (arith, t.most)) t.top.small)

  pub less_first : lt_z (stored a) (stored b) ≡ false → Difference x a left
  less_first e = go (size_above (of_z w32 a) b (omega (arith, size_word t.first, t.first.small)) (omega (arith, t.second.small)) t.second.whole e)
    where
      go : nat_abs b ≤ of_z w32 a → Difference x a left
      go l = subst (Difference x a) (omega (arith, size_word t.first)) (difference t.top.whole t.first.whole (omega (arith, t.most)) t.top.small)

-- ---- the sizes of pairs

module _ (f : ℕ → ℕ) (x : ℕ) where
  unlike_at : {v : ℕ} → f v ≡ x → unlike x f v ≡ 0
  unlike_at {v} e = rw (eq-eqb (f v) x e)

  unlike_else : {v : ℕ} → f v ≢ x → unlike x f v ≡ f v
  unlike_else {v} k = rw (ne_eqb (f v) x k)

  pub unlike_most : (v : ℕ) → unlike x f v ≤ f v
  unlike_most v = elim (ℕ_discrete (f v) x) [ yes e ↦ omega (arith, unlike_at e) | no k ↦ omega (arith, unlike_else k) ]

module _ {h n : ℕ} {x y c : ℕ → ℤ} (k : Layout h n x y c) where
  abbrev f : ℕ → ℕ
  f u = nat_abs (c u)

  abbrev s : ℕ → ℕ
  s = sizes x y

  pairs_tie : Shared h s → gap_below n f ≡ 0
  pairs_tie d = gap_tie (pairs_share k d)

  -- one pair has the greatest size: the greatest of the others', and of the other sizes
  module _ {u : ℕ} (a : Alone h s u) where
    abbrev top : ℕ
    top = greater_place k u

    abbrev second : ℕ
    second = max (greatest_below h (unlike (s u) s)) (greatest_below h (lessers x y))

    top_is : f top ≡ s u
    top_is = greater_is k u a.below

    top_most : Most n f top
    top_most = record { below = greater_below k u a.below; most = λ v l. omega (arith, top_is, pairs_most k (s u) (alone_most a) v l) }

    differs : (i : ℕ) → i < h → i ≢ u → s i ≢ s u
    differs i l d e = omega (arith, a.others i l d)

    within : greatest_below n (others f top) ≤ second
    within =
        bounded n (others f top) second
        (by_place k (λ (v : ℕ). others f top v ≤ second)
        (λ i l. elim (ℕ_discrete i u) [
          | yes e ↦ omega (arith, ap (λ (v : ℕ). others f top (greater_place k v)) e, others_at f top)
          | no d ↦
              omega (
                arith,
                others_most f top (greater_place k i),
                greater_is k i l,
                unlike_else s (s u) (differs i l d),
                greatest_bound (unlike (s u) s) h i l,
              )
        ])
        (λ i l. omega (arith, others_most f top (lesser_place k i), lesser_is k i l, greatest_bound (lessers x y) h i l)))

    sizes_met : greatest_below h (unlike (s u) s) ≤ greatest_below n (others f top)
    sizes_met =
        bounded h (unlike (s u) s) _
        (λ i l. elim (ℕ_discrete i u) [
          | yes e ↦ omega (arith, unlike_at s (s u) (ap s e))
          | no d ↦
              omega (
                arith,
                unlike_else s (s u) (differs i l d),
                greater_is k i l,
                others_else f top (greaters_apart k l a.below d),
                greatest_bound (others f top) n (greater_place k i) (greater_below k i l),
              )
        ])

    lessers_met : greatest_below h (lessers x y) ≤ greatest_below n (others f top)
    lessers_met =
        bounded h (lessers x y) _
        (λ i l.
        omega (
          arith,
          lesser_is k i l,
          others_else f top (lesser_apart k l a.below),
          greatest_bound (others f top) n (lesser_place k i) (lesser_below k i l),
        ))

    second_most : second ≤ s u
    second_most =
        omega (
          arith,
          sizes_met,
          lessers_met,
          bounded n (others f top) (s u) (λ v l. omega (arith, others_most f top v, top_most.most v l, top_is)),
        )

    pairs_gap : gap_below n f ≡ s u - second
    pairs_gap = omega (arith, gap_at top_most, top_is, within, sizes_met, lessers_met)

-- ---- the search

module _ {h : ℕ} {xs : List ℤ} (d : Small h xs) where
  small : (i : ℕ) → pair_sizes h xs i ≤ 1024
  small i = omega (arith, d.each i, d.each (h + i))

  pub most_size : {g : ℤ} → g ≡ pos (greatest_below h (pair_sizes h xs)) → Size g
  most_size e = record {
    whole = e ∙ ap (λ (y : ℤ). pos (nat_abs y)) (sym e);
    small = omega (arith, ap nat_abs e, bounded h (pair_sizes h xs) 1024 (λ i l. small i));
  }

-- xs, then ys, with the sizes in its first half, of which zs are lent
module _ {h : ℕ} {xs ys : List ℤ} (d : Small h xs) (w : Written (pos 0) 0 h (λ i. pos (pair_sizes h xs i)) xs ys) where
  abbrev zs : List ℤ
  zs = take (h - 0) (drop 0 ys)

  abbrev p : ℕ → ℕ
  p = pair_sizes h xs

  abbrev q : ℕ → ℕ
  q u = nat_abs (pairs_joined h xs u)

  places : Layout h (h + h) (at xs) (λ i. at xs (h + i)) (pairs_joined h xs)
  places = joined_layout h (at xs) (λ i. at xs (h + i))

  room : h ≤ length ys
  room = omega (arith, w.long, d.pairs.size)

  all : Holds h p zs
  all = record {
    long = front_length h ys room;
    each = λ i l. at-part_of (pos 0) 0 (h - 0) ys (omega (arith, room)) i (omega arith) ∙ w.within i l;
  }

  pub all_sizes : Sizes zs
  all_sizes = holds_sizes all d.pairs.few (λ i l. small d i)

  -- the greatest, and how often it occurs
  module _ {g : ℤ} {count : ℕ} (eg : g ≡ pos (greatest_below h p)) (ec : count ≡ count_below (length zs) (size_at zs) (nat_abs g)) where
    count_is : count ≡ count_below h p (greatest_below h p)
    count_is =
        ec ∙ ap (λ (n : ℕ). count_below n (size_at zs) (nat_abs g)) all.long ∙ count_ext h _ _ _ (holds_same all)
        ∙ ap (count_below h p) (ap nat_abs eg)

    pub tie_found : count ≢ 1 → gap_below (h + h) q ≡ 0
    tie_found k = pairs_tie places (else_shared h p d.pairs.some (λ e. k (count_is ∙ e)))

    -- the second
    module _ (one : count ≡ 1) {second lower : ℤ} (es : second ≡ pos (greatest_below (length zs) (unlike (nat_abs g) (size_at zs))))
        (el : lower ≡ pos (greatest_below h (lesser_sizes h xs))) where
      abbrev u : ℕ
      u = first_below h p (greatest_below h p)

      alone : Alone h p u
      alone = one_alone h p (sym count_is ∙ one)

      top_size : nat_abs g ≡ p u
      top_size = ap nat_abs eg ∙ alone_greatest alone

      second_size : nat_abs second ≡ greatest_below h (unlike (p u) p)
      second_size =
          ap nat_abs es
          ∙ ap₂ (λ (n b : ℕ). greatest_below n (unlike b (size_at zs))) all.long top_size
          ∙ total_ext max 0 h _ _ (λ i l. ap (λ (b : ℕ). cond (eqb b (p u)) 0 b) (holds_same all i l))

      lower_size : nat_abs lower ≡ greatest_below h (lesser_sizes h xs)
      lower_size = ap nat_abs el

      size_is : {z : ℤ} {b : ℕ} → z ≡ pos b → nat_abs z ≤ nat_abs g → Size z
      size_is e l = record { whole = e ∙ ap (λ (y : ℤ). pos (nat_abs y)) (sym e); small = omega (arith, top_size, small d u) }

      below : max (nat_abs second) (nat_abs lower) ≤ nat_abs g
      below = omega (arith, top_size, second_size, lower_size, second_most places alone)

      pub heights : Heights g second lower
      heights = record { top = size_is eg (omega arith); first = size_is es (omega (arith, below)); second = size_is el (omega (arith, below)); most = below }

      pub gap_found : {b : ℕ} → b ≡ nat_abs g - max (nat_abs second) (nat_abs lower) → b ≡ gap_below (h + h) q
      gap_found e = omega (arith, e, top_size, second_size, lower_size, pairs_gap places alone)
