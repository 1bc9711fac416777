-- Sums over the places: seen from one place, and by the cosets of a direction. Assumes nothing.
use Rattle.std.specs.Prelude.{ℕ, zero, suc, ◌+◌, ◌%◌, ◌^◌, ◌≤◌, ◌<◌, ◌≡◌, refl, List}
use Rattle.std.proofs.Common.{sym, ap, ap₂, ◌∙◌, subst, ⊎_elim, add_comm, eq-or-lt_of_le, le_of_suc-le-suc, arith, pow_mono}
use Rattle.std.proofs.Math.Arith.{le-zero, lt-one}
use Rattle.std.specs.Int.Bits.{bit_xor}
use Rattle.std.proofs.lemmas.Nat.{xor_comm}
use Rattle.direction.specs.Direction.{highest, insert_zero, project}
use Rattle.direction.proofs.Insert.{Top, highest_top, insert_low, insert_lt, insert_top, top_le}
use Rattle.direction.proofs.Projected.{bit-project}
use Rattle.direction.proofs.Projection.{projected}
use Rattle.words.specs.Sum.{sum_below, total}
use Rattle.words.specs.SumLaws.{sum_ext, sum_halves, sum_le, sum_plus}
use Rattle.words.specs.TopBit.{by_top, xor_low_top, xor_top_low, xor_top_top}
use Rattle.words.specs.Word.{bit, distance}

-- all places, as they are seen from p
pub sum_from : (m p : ℕ) (f : ℕ → ℕ) → p < 2 ^ m → sum_below (2 ^ m) (λ b. f (bit_xor p b)) ≡ sum_below (2 ^ m) f
unfolding total
sum_from zero p f l = ap (λ (x : ℕ). 0 + f (bit_xor x 0)) (lt-one l)
sum_from (suc m) p f l =
    sum_halves m (λ b. f (bit_xor p b))
    ∙ by_top m (λ (x : ℕ). sum_below (2 ^ m) (λ b. f (bit_xor x b)) + sum_below (2 ^ m) (λ b. f (bit_xor x (2 ^ m + b))) ≡ one + two)
    (λ x h. ap₂ ◌+◌ (sum_from m x f h) (sum_ext (2 ^ m) _ _ (λ b k. ap f (xor_low_top m x b h k)) ∙ sum_from m x (λ q. f (2 ^ m + q)) h))
    (λ x h.
    ap₂ ◌+◌ (sum_ext (2 ^ m) _ _ (λ b k. ap f (xor_top_low m x b h k)) ∙ sum_from m x (λ q. f (2 ^ m + q)) h)
    (sum_ext (2 ^ m) _ _ (λ b k. ap f (xor_top_top m x b h k)) ∙ sum_from m x f h)
    ∙ add_comm two one)
    p l
    ∙ sym (sum_halves m f)
  where
    one : ℕ
    one = sum_below (2 ^ m) f

    two : ℕ
    two = sum_below (2 ^ m) (λ q. f (2 ^ m + q))

-- all places, coset by coset: in a direction with the top bit
cosets_top : (m b : ℕ) (f : ℕ → ℕ) → Top m b → sum_below (2 ^ m) (projected m b f) ≡ sum_below (2 ^ suc m) f
cosets_top m b f t =
    sum_ext (2 ^ m) _ _ (λ q l. ap (λ (x : ℕ). f x + f (bit_xor x b)) (insert_low m q l))
    ∙ sum_plus (2 ^ m) f (λ q. f (bit_xor q b))
    ∙ ap (λ (x : ℕ). sum_below (2 ^ m) f + x)
    (by_top m (λ (x : ℕ). 2 ^ m ≤ x → sum_below (2 ^ m) (λ q. f (bit_xor q x)) ≡ sum_below (2 ^ m) (λ q. f (2 ^ m + q)))
    (λ x h k. absurd (omega arith))
    (λ x h k. sum_ext (2 ^ m) _ _ (λ q l. ap f (xor_low_top m q x l h ∙ ap (λ (y : ℕ). 2 ^ m + y) (xor_comm q x))) ∙ sum_from m x (λ q. f (2 ^ m + q)) h)
    b t.below t.above)
    ∙ sym (sum_halves m f)

-- in any direction, whose highest one stands at h
sum_cosets : (m h b : ℕ) (f : ℕ → ℕ) → Top h b → h ≤ m → sum_below (2 ^ m) (projected h b f) ≡ sum_below (2 ^ suc m) f
sum_cosets zero h b f t l =
    subst (λ (x : ℕ). Top x b → sum_below (2 ^ 0) (projected x b f) ≡ sum_below (2 ^ 1) f) (sym (le-zero l)) (cosets_top 0 b f) t
sum_cosets (suc m) h b f t l =
    ⊎_elim
    (λ e. subst (λ (x : ℕ). Top x b → sum_below (2 ^ suc m) (projected x b f) ≡ sum_below (2 ^ suc (suc m)) f) (sym e) (cosets_top (suc m) b f) t)
    (λ k.
    let hb : b < 2 ^ suc m = omega (arith, t.below, pow_mono k) in
    let at : h ≤ m = le_of_suc-le-suc k in
    sum_halves m (projected h b f)
    ∙ ap₂ ◌+◌ (sum_cosets m h b f t at)
    (sum_ext (2 ^ m) _ _
    (λ q lq.
    ap₂ (λ (x y : ℕ). f x + f y) (insert_top m h q at)
    (ap (λ (x : ℕ). bit_xor x b) (insert_top m h q at) ∙ xor_top_low (suc m) (insert_zero h q) b (insert_lt m h q lq) hb))
    ∙ sum_cosets m h b (λ q. f (2 ^ suc m + q)) t at)
    ∙ sym (sum_halves (suc m) f))
    (eq-or-lt_of_le l)

-- a bit and its turned one
pub sum_turned : (n : ℕ) (f : ℕ → ℕ) → ((p : ℕ) → f p < 2) → sum_below n (λ p. (1 + f p) % 2) + sum_below n f ≡ n
unfolding total
sum_turned zero f h = refl
sum_turned (suc n) f h = omega (arith, sum_turned n f h, h n)

pub sum_first : (n : ℕ) (f : ℕ → ℕ) → sum_below (suc n) f ≡ f 0 + sum_below n (λ i. f (suc i))
unfolding total
sum_first zero f = omega arith
sum_first (suc n) f = omega (arith, sum_first n f)

-- projections differ in no more places than the words do
pub distance-project : (m b : ℕ) (w c : List ℕ) → m < 32 → 0 < b → b < 2 ^ suc m → distance m (project m b w) (project m b c) ≤ distance (suc m) w c
unfolding distance
distance-project m b w c hm pos below =
    let t = highest_top b pos (omega (arith, pow_mono hm)) in
    let f : ℕ → ℕ = λ p. (bit w p + bit c p) % 2 in
    omega (
      arith,
      sum_le (2 ^ m) (λ q. (bit (project m b w) q + bit (project m b c) q) % 2) (projected (highest b) b f)
          (λ q l. omega (arith, bit-project m b w q l, bit-project m b c q l)),
      sum_cosets m (highest b) b f t (top_le t m below),
    )
