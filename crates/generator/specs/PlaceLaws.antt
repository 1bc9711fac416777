-- Places drawn: the noise is a word, never with more wrong places than asked, and the code's count is theirs. Assumes nothing.
use Prim.Native.Nat.{ℕ, zero, suc, ◌+◌, ◌-◌, ◌%◌, ◌^◌, ◌≤◌, ◌<◌}
use Rattle.std.proofs.Common.{arith, mod-lt, mul-one, add-one, ap₂, ◌∙◌, length-set, pow_pos, get_or-set_same, get_or-set_other, lt-ltb, le-ltb, ltb-true}
use Rattle.std.proofs.Math.Decide.{ℕ_discrete, dec_lt, le_ind}
use Rattle.std.specs.Prelude.{◌≡◌, Bool, cond, List, set}
use Rattle.std.proofs.Math.Path.{refl, sym, ap}
use Rattle.std.proofs.Math.Bool.{true, false}
use Rattle.std.proofs.Math.Dec.{ltb}
use Rattle.std.proofs.Math.ListN.{length, get_or-eq_default}
use Rattle.words.specs.Sum.{sum_below, tabulate, total}
use Rattle.words.specs.SumLaws.{length-tabulate, bit_tabulate, sum_ext, sum_most, sum_zero}
use Rattle.words.specs.Word.{IsWord, bit}
use Rattle.words.proofs.WordLaws.{word_tabulate}
use Rattle.generator.specs.declared.Places.{Places}
use Rattle.generator.specs.Generator.{Drawn, draw, draw_times, draw_until, places_from, step, wrong_in}
use Rattle.generator.specs.Drawing.{Placed, held}
use Rattle.generator.specs.StepLaws.{Live, step_live}

-- ---- one entry changed

sum_set : (n : ℕ) (s : List ℕ) (p v : ℕ) → p < n → p < length s → sum_below n (bit (set s p v)) + bit s p ≡ sum_below n (bit s) + v
unfolding total
sum_set zero s p v l h = absurd (omega arith)
sum_set (suc n) s p v l h = elim (ℕ_discrete p n) [
  | yes e ↦
      let here : bit (set s p v) n ≡ v = rw (← e) (get_or-set_same s p v 0 h) in
      let same : sum_below n (bit (set s p v)) ≡ sum_below n (bit s) = sum_ext n _ _ (λ i b. get_or-set_other s p i v 0 (λ z. omega arith)) in
      omega (arith, here, same, ap (bit s) e)
  | no k ↦
      let there : bit (set s p v) n ≡ bit s n = get_or-set_other s p n v 0 (λ z. k (sym z)) in
      omega (arith, there, sum_set n s p v (omega arith) h)
]

-- ---- the count

wrong_most : (s : List ℕ) → ((i : ℕ) → bit s i < 2) → wrong_in s ≤ length s
unfolding wrong_in
wrong_most s b = omega (arith, sum_most (length s) 1 (bit s) (λ i l. omega (arith, b i)), mul-one (length s))

-- a place drawn: one more is wrong, unless it was already
wrong_set : (s : List ℕ) (p : ℕ) → p < length s → bit s p < 2 → wrong_in (set s p 1) ≡ wrong_in s + (1 - bit s p)
unfolding wrong_in
wrong_set s p l b = rw (length-set s p 1) (omega (arith, sum_set (length s) s p 1 l l))

-- ---- the noise is a word

set_bits : (s : List ℕ) (q : ℕ) → q < length s → ((i : ℕ) → bit s i < 2) → (i : ℕ) → bit (set s q 1) i < 2
set_bits s q l b i = elim (ℕ_discrete i q) [
  | yes e ↦ rw (e, get_or-set_same s q 1 0 l) (omega arith)
  | no k ↦ rw (get_or-set_other s q i 1 0 k) (b i)
]

-- ---- a draw, as the code makes it

module _ {p : Places} {noise : List ℕ} (h : Placed (held p noise) p noise) {n : ℕ} (long : length noise ≡ n) where
  -- the count fits, since no more places can be wrong than there are
  pub count_fits : (q : ℕ) → q < n → p.wrong + (1 - bit noise q) ≤ n
  count_fits q l =
      let l' : q < length noise = omega arith in
      omega (arith, h.count, wrong_set noise q l' (h.bits q), wrong_most (set noise q 1) (set_bits noise q l' h.bits), length-set noise q 1)

  pub place_drawn : {y : ℕ} → y ≡ step p.state → 0 < n → Placed (draw (held p noise)) (record { state = y; wrong = p.wrong + (1 - bit noise (y % n)) }) (set noise (y % n) 1)
  unfolding draw
  place_drawn {y} e some =
      let l : y % n < length noise = rw long (mod-lt y some) in
      record {
        state = e;
        word = rw (← e, long);
        count = ap (λ (w : ℕ). w + (1 - bit noise (y % n))) h.count ∙ sym (wrong_set noise (y % n) l (h.bits (y % n)));
        bits = set_bits noise (y % n) l h.bits;
      }

-- ---- none wrong

zeros : (n i : ℕ) → bit (tabulate n (λ p. 0)) i ≡ 0
zeros n i = elim (dec_lt i n) [
  | yes l ↦ bit_tabulate n (λ p. 0) i l
  | no k ↦ get_or-eq_default (tabulate n (λ p. 0)) 0 {n = i} (omega (arith, length-tabulate {A = ℕ} n (λ p. 0)))
]

zeros_wrong : (n : ℕ) → wrong_in (tabulate n (λ p. 0)) ≡ 0
unfolding wrong_in
zeros_wrong n = sum_zero _ (bit (tabulate n (λ p. 0))) (λ i l. zeros n i)

-- ---- the loop

-- n places, none wrong
abbrev pub begun : ℕ → ℕ → Drawn
begun n x = record { state = x; noise = tabulate n (λ p. 0) }

module _ (asked : ℕ) where
  until_more : (d : Drawn) → wrong_in d.noise < asked → draw_until asked d ≡ draw d
  unfolding draw_until
  until_more d h = rw (lt-ltb (wrong_in d.noise) asked h)

  until_done : (d : Drawn) → asked ≤ wrong_in d.noise → draw_until asked d ≡ d
  unfolding draw_until
  until_done d h = rw (le-ltb (wrong_in d.noise) asked h)

  -- once enough are wrong, nothing changes
  times_done : (d : Drawn) (i k : ℕ) → asked ≤ wrong_in (draw_times asked i d).noise → i ≤ k → draw_times asked k d ≡ draw_times asked i d
  unfolding draw_times
  times_done d i k h =
      le_ind (λ (j : ℕ). draw_times asked j d ≡ draw_times asked i d) refl (λ j l e. ap (draw_until asked) e ∙ until_done (draw_times asked i d) h) k

-- i turns are over
pub record Turns (n start asked : ℕ) (p : Places) (noise : List ℕ) (i : ℕ) : Type 0 where
  pub within : i ≤ n
  pub long : length noise ≡ n
  pub placed : Placed (draw_times asked i (begun n start)) p noise

pub turns_none : (n start asked : ℕ) {noise : List ℕ} → noise ≡ tabulate n (λ p. 0) → Turns n start asked (record { state = start; wrong = 0 }) noise 0
unfolding draw_times
turns_none n start asked {noise} e = record {
  within = omega arith;
  long = ap length e ∙ length-tabulate n _;
  placed = record { state = refl; word = e; count = rw e (sym (zeros_wrong n)); bits = λ i. rw e (omega (arith, zeros n i)) };
}

module _ {n start asked : ℕ} {p : Places} {noise : List ℕ} {i : ℕ} (t : Turns n start asked p noise i) where
  -- what the code holds
  holds : held p noise ≡ draw_times asked i (begun n start)
  holds = ap₂ (λ (x : ℕ) (s : List ℕ). record { state = x; noise = s }) t.placed.state t.placed.word

  pub turns_holds : Placed (held p noise) p noise
  turns_holds = record { state = refl; word = refl; count = t.placed.count; bits = t.placed.bits }

  pub turns_more : {q : Places} {noise' : List ℕ} → p.wrong < asked → i < n → length noise' ≡ length noise → Placed (draw (held p noise)) q noise'
      → Turns n start asked q noise' (i + 1)
  unfolding draw_times
  turns_more {q} {noise'} few l long b =
      let e : draw (held p noise) ≡ draw_times asked (i + 1) (begun n start) =
      ap draw holds ∙ sym (until_more asked (draw_times asked i (begun n start)) (omega (arith, t.placed.count, ap wrong_in t.placed.word))) ∙ rw (add-one i) in
      record { within = omega arith; long = long ∙ t.long; placed = rw e at b }

  pub turns_enough : asked ≤ p.wrong → Placed (places_from n asked start) p noise
  unfolding places_from
  turns_enough h =
      rw (times_done asked (begun n start) i n (omega (arith, t.placed.count, ap wrong_in t.placed.word)) t.within) t.placed

  pub turns_all : n ≤ i → Placed (places_from n asked start) p noise
  unfolding places_from
  turns_all h = let e : i ≡ n = omega (arith, t.within) in rw e at t.placed

-- ---- what every draw keeps

module _ (asked : ℕ) (P : Drawn → Type 0) (keeps : (d : Drawn) → wrong_in d.noise < asked → P d → P (draw d)) where
  until_keeps : (d : Drawn) → P d → P (draw_until asked d)
  unfolding draw_until
  until_keeps d h = go (ltb (wrong_in d.noise) asked) refl
    where
      go : (b : Bool) → ltb (wrong_in d.noise) asked ≡ b → P (cond b (draw d) d)
      go true e = keeps d (ltb-true (wrong_in d.noise) asked e) h
      go false e = h

  times_keeps : (k : ℕ) (d : Drawn) → P d → P (draw_times asked k d)
  unfolding draw_times
  times_keeps zero d h = h
  times_keeps (suc k) d h = until_keeps (draw_times asked k d) (times_keeps k d h)

-- a word with at most the asked number of places wrong
pub record FewWrong (m asked : ℕ) (noise : List ℕ) : Type 0 where
  pub word : IsWord m noise
  pub few : wrong_in noise ≤ asked

draw_noise : (m asked : ℕ) (d : Drawn) → wrong_in d.noise < asked → FewWrong m asked d.noise → FewWrong m asked (draw d).noise
unfolding draw
draw_noise m asked d l h =
    let q : ℕ = step d.state % length d.noise in
    let lq : q < length d.noise = mod-lt (step d.state) (omega (arith, h.word.size, pow_pos m)) in
    record {
      word = record { size = length-set d.noise q 1 ∙ h.word.size; bits = set_bits d.noise q lq h.word.bits };
      few = omega (arith, wrong_set d.noise q lq (h.word.bits q));
    }

pub places_noise : (m asked x : ℕ) → FewWrong m asked (places_from (2 ^ m) asked x).noise
unfolding places_from
places_noise m asked x =
    times_keeps asked (λ (d : Drawn). FewWrong m asked d.noise) (draw_noise m asked) (2 ^ m) (begun (2 ^ m) x)
    record { word = word_tabulate m (λ p. 0) (λ p l. omega arith); few = omega (arith, zeros_wrong (2 ^ m)) }

pub places_live : (n asked x : ℕ) → Live x → Live (places_from n asked x).state
unfolding places_from draw
places_live n asked x h = times_keeps asked (λ (d : Drawn). Live d.state) (λ d l k. step_live k) n (begun n x) h
