-- A turn of `share_four`: of the cosets q to q + 3 of four directions, the members hear each other. Assumes nothing.
use Prim.Native.Nat.{ℕ, suc, ◌+◌, ◌*◌, ◌/◌, ◌%◌, ◌^◌, ◌≤◌, ◌<◌}
use mathlib.Core.Path.{◌≡◌, sym, ap, ap₂, ◌∙◌, subst}
use mathlib.Core.Bool.{Bool}
use mathlib.Core.List.{List}
use native.Mathlib.Omega.{arith}
use lib.Bits.{bit_xor}
use lib.IntN.{ℤ, pos, nat_abs, ◌+ℤ◌}
use Rattle.words.specs.SumLaws.{sum_ℤ_ext}
use Rattle.words.specs.Written.{Written}
use Rattle.area.specs.Area.{at}
use Rattle.direction.specs.Direction.{highest, insert_zero, coset_of}
use Rattle.cosets.specs.SetBelow.{Blocks, SetBelow, among, apart_after, still, two_runs, set_none, set_all, set_more}
use Rattle.projections.specs.FourLaws.{four_lt, pow_whole}
use Rattle.projections.proofs.FourTurns.{FourTurn, block_room, four_members, four_partner, partner_place, coset_one, coset_two, back_two, four_blocks}
use Rattle.confidences.specs.Confidences.{greatest}
use Rattle.confidences.specs.Values.{ProjectsFour, Sums}
use Rattle.value_steps.specs.Shares.{voiced, word_at, FourHears, four_said, words_at}
use Rattle.value_steps.proofs.FourTurns.{four_turn}

-- what stands in the area where the sums of the cosets below q are set, by the directions that have words
pub record Sharing (m k : ℕ) (w : ℕ → Bool) (xs : List ℤ) (q : ℕ) (ys : List ℤ) : Type 0 where
  pub many : q ≤ 2 ^ m
  pub whole : q % 4 ≡ 0
  pub so_far : SetBelow m (4 * k) (λ p. at xs (2 ^ suc m + p) +ℤ words_at m k w xs p) xs q ys

pub share_none : (m k : ℕ) (w : ℕ → Bool) (xs : List ℤ) → Sharing m k w xs 0 xs
share_none m k w xs = record { many = omega arith; whole = omega arith; so_far = set_none m (4 * k) _ xs }

pub share_all : {m k n q : ℕ} {w : ℕ → Bool} {xs ys : List ℤ} → ProjectsFour m k xs → Sharing m k w xs q ys → n ≡ 2 ^ m → q ≡ 4 * (n / 4)
    → {u : ℕ → Bool} → w ≡ u → Written (pos 0) (2 ^ suc m) (2 ^ suc m) (λ p. at xs (2 ^ suc m + p) +ℤ words_at m k u xs p) xs ys
share_all {m} {k} {xs = xs} {ys} asks s size all e =
    subst (λ (u : ℕ → Bool). Written (pos 0) (2 ^ suc m) (2 ^ suc m) (λ p. at xs (2 ^ suc m + p) +ℤ words_at m k u xs p) xs ys) e
    (set_all asks.direction s.so_far (omega (arith, size, all, pow_whole m asks.blocks)))

-- p is the representative of coset q, and ys the area before the turn
pub record FourShare (m k : ℕ) (w : ℕ → Bool) (xs : List ℤ) (n h q p : ℕ) (ys : List ℤ) : Type 0 where
  pub asks : ProjectsFour m k xs
  pub sums : Sums (2 ^ suc m) xs
  pub size : n ≡ 2 ^ m
  pub top : h ≡ highest (4 * k)
  pub below : q < 2 ^ m
  pub inserted : p ≡ insert_zero h q
  pub before : Sharing m k w xs q ys

-- from what the code knows there
pub four_share : {m k n h q p : ℕ} {w : ℕ → Bool} {xs ys : List ℤ} → ProjectsFour m k xs → Sums (2 ^ suc m) xs → n ≡ 2 ^ m → h ≡ highest (4 * k) → q < 2 ^ m
    → p ≡ insert_zero h q → Sharing m k w xs q ys → FourShare m k w xs n h q p ys
four_share asks sums size top below inserted before =
    record { asks = asks; sums = sums; size = size; top = top; below = below; inserted = inserted; before = before }

module _ {m k n h q p : ℕ} {w : ℕ → Bool} {xs ys : List ℤ} (t : FourShare m k w xs n h q p ys) where
  abbrev z : ℕ
  z = bit_xor p (4 * k)

  open t.before use {so_far}

  turn : (l : ℕ) → l < 4 → FourTurn m h (4 * k) l q p
  turn l hl = four_turn t.asks l hl t.top t.below t.before.whole t.inserted

  plain : FourTurn m h (4 * k) 0 q p
  plain = turn 0 (omega arith)

  blocks : Blocks m (4 * k) 4 q p z
  blocks = subst (λ (b : ℕ). Blocks m b 4 q p z) (omega arith) (four_blocks plain)

  pub number : q + 4 ≤ 2 ^ m
  number = block_room plain

  abbrev f : ℕ → ℤ
  f r = at xs (2 ^ suc m + r) +ℤ words_at m k w xs r

  -- ---- an area whose front and signs are those of xs

  module _ (zs : List ℤ) (front : (j : ℕ) → j < 2 ^ suc m → at zs j ≡ at xs j) (signs : (j : ℕ) → 4 * 2 ^ m ≤ j → at zs j ≡ at xs j) where
    value : (j : ℕ) → j < 2 ^ suc m → nat_abs (at zs j) ≤ greatest
    value j l = rw (front j l) (t.asks.values.small j l)

    -- the sign of direction 4 k + l at coset q + s
    sign_at : (l s x : ℕ) → x ≡ q + s → at zs (4 * n + q + l * n + s) ≡ at xs (4 * 2 ^ m + l * 2 ^ m + x)
    sign_at l s x e =
        signs (4 * n + q + l * n + s) (omega (arith, t.size)) ∙ ap (at xs) (omega (arith, t.size, ap (λ (y : ℕ). l * y) t.size))

    heard_one : (i : ℕ) → i < 4 → four_said w (λ _. i) n (4 * n + q) z zs i ≡ words_at m k w xs (p + i)
    heard_one i hi =
        sum_ℤ_ext 4 (λ l. voiced (w l) (at zs (4 * n + q + l * n + i)) (at zs (z + bit_xor i l))) (λ l. word_at (w l) (4 * k + l) (4 * 2 ^ m + l * 2 ^ m) xs (p + i))
        (λ l hl. ap₂ (voiced (w l)) (sign_at l i (coset_of (4 * k + l) (p + i)) (coset_one (turn l hl) i hi))
        (front (z + bit_xor i l) (partner_place plain (bit_xor i l) (four_lt hi hl)) ∙ ap (at xs) (sym (four_partner (turn l hl) i hi))))

    heard_two : (i : ℕ) → i < 4 → four_said w (bit_xor i) n (4 * n + q) p zs i ≡ words_at m k w xs (z + i)
    heard_two i hi =
        sum_ℤ_ext 4 (λ l. voiced (w l) (at zs (4 * n + q + l * n + bit_xor i l)) (at zs (p + bit_xor i l))) (λ l. word_at (w l) (4 * k + l) (4 * 2 ^ m + l * 2 ^ m) xs (z + i))
        (λ l hl. ap₂ (voiced (w l)) (sign_at l (bit_xor i l) (coset_of (4 * k + l) (z + i)) (coset_two (turn l hl) i hi))
        (front (p + bit_xor i l) (four_members plain (bit_xor i l) (four_lt hi hl)).place ∙ ap (at xs) (sym (back_two (turn l hl) i hi))))

  -- ---- the representatives, and then the other members

  ahead_one : (i : ℕ) → i < 4 → q ≤ coset_of (4 * k) (p + i)
  ahead_one i hi = (blocks.one (p + i) (among p 4 i hi)).least

  ahead_two : (i : ℕ) → i < 4 → q ≤ coset_of (4 * k) (z + i)
  ahead_two i hi = (blocks.two (z + i) (among z 4 i hi)).least

  -- the sum of a member, before it hears
  sum_ahead : (r i : ℕ) → r + 4 ≤ 2 ^ suc m → i < 4 → q ≤ coset_of (4 * k) (r + i) → at ys (2 * n + r + i) ≡ at xs (2 ^ suc m + (r + i))
  sum_ahead r i l hi e = ap (at ys) {x = 2 * n + r + i} {y = 2 ^ suc m + (r + i)} (omega (arith, t.size)) ∙ so_far.ahead (r + i) (omega arith) e

  few : (r i : ℕ) → r + 4 ≤ 2 ^ suc m → i < 4 → q ≤ coset_of (4 * k) (r + i) → nat_abs (at ys (2 * n + r + i)) < 2 ^ 29
  few r i l hi e = rw (sum_ahead r i l hi e) (t.sums.small (r + i) (omega arith))

  pub first_asks : FourHears n (4 * n + q) z (2 * n + p) ys
  first_asks = record {
    says = record {
      signs = omega (arith, t.asks.room, so_far.long, t.size, number);
      values = omega (arith, t.asks.room, so_far.long, blocks.partner);
      small = λ i hi. value ys so_far.below so_far.above (z + i) (omega (arith, blocks.partner));
    };
    room = omega (arith, t.asks.room, so_far.long, t.size, blocks.place);
    few = λ i hi. few p i blocks.place hi (ahead_one i hi);
  }

  module _ {us : List ℤ} (first : Written (pos 0) (2 * n + p) 4 (λ i. at ys (2 * n + p + i) +ℤ four_said w (λ _. i) n (4 * n + q) z ys i) ys us) where
    front_kept : (j : ℕ) → j < 2 ^ suc m → at us j ≡ at xs j
    front_kept j l = first.below j (omega (arith, t.size)) ∙ so_far.below j l

    signs_kept : (j : ℕ) → 4 * 2 ^ m ≤ j → at us j ≡ at xs j
    signs_kept j l = first.above j (omega (arith, t.size, blocks.place)) ∙ so_far.above j l

    sum_kept : (i : ℕ) → i < 4 → at us (2 * n + z + i) ≡ at ys (2 * n + z + i)
    sum_kept = still (apart_after (2 * n) blocks.apart) first

    pub second_asks : FourHears n (4 * n + q) p (2 * n + z) us
    second_asks = record {
      says = record {
        signs = omega (arith, t.asks.room, first.long, so_far.long, t.size, number);
        values = omega (arith, t.asks.room, first.long, so_far.long, blocks.place);
        small = λ i hi. value us front_kept signs_kept (p + i) (omega (arith, blocks.place));
      };
      room = omega (arith, t.asks.room, first.long, so_far.long, t.size, blocks.partner);
      few = λ i hi. rw (sum_kept i hi) (few z i blocks.partner hi (ahead_two i hi));
    }

    pub share_more : {vs : List ℤ} → Written (pos 0) (2 * n + z) 4 (λ i. at us (2 * n + z + i) +ℤ four_said w (bit_xor i) n (4 * n + q) p us i) us vs
        → {e : ℕ} → e ≡ q + 4 → Sharing m k w xs e vs
    share_more second e = record {
      many = omega (arith, number, e);
      whole = omega (arith, t.before.whole, e);
      so_far = rw e (set_more blocks so_far (two_runs (apart_after (2 * n) blocks.apart) first second) (omega (arith, t.size)) (omega (arith, t.size))
          (λ i hi. ap₂ ◌+ℤ◌ (sum_ahead p i blocks.place hi (ahead_one i hi)) (heard_one ys so_far.below so_far.above i hi))
          (λ i hi. ap₂ ◌+ℤ◌ (sum_kept i hi ∙ sum_ahead z i blocks.partner hi (ahead_two i hi)) (heard_two us front_kept signs_kept i hi)));
    }
