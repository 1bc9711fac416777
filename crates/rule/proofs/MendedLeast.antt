-- Document 02, request 3: at orders 0 and 1 the places mended are the least distance of the received word to any codeword. Assumes nothing.
use Rattle.std.specs.Prelude.{ℕ, zero, suc, ◌≤◌, ◌^◌, ◌-◌, ◌≡◌, List}
use Rattle.std.proofs.Common.{ap, ⊎_elim, arith, pow_pos}
use Rattle.words.specs.Word.{IsWord, distance}
use Rattle.code.specs.Code.{IsCodeword}
use Rattle.code.proofs.Distance.{distance_self, same_or_apart}
use Rattle.rule.specs.Reading.{Outcome, accepted, reading}
use Rattle.rule.specs.Nearest.{Judged, Nearest, nearest, tied}
use Rattle.rule.proofs.Nearest.{order0_judged, order1_judged}

module _ {m r : ℕ} {w d : List ℕ} (order : r ≤ m) (h : Nearest m r w d) (c : List ℕ) (hc : IsCodeword m r c) where
  nearest_least : distance m w d ≤ distance m w c
  nearest_least =
      ⊎_elim (λ (e : c ≡ d). omega (arith, ap (distance m w) e))
      (λ (l : 2 ^ (m - r) ≤ distance m c d). omega (arith, h.nearer c hc (λ e. omega (arith, pow_pos (m - r), ap (distance m c) e, distance_self m c))))
      (same_or_apart order hc h.codeword)

least : {m r : ℕ} {w : List ℕ} {o : Outcome} → r ≤ m → Judged m r w o → {d : List ℕ} {k l : ℕ} → o ≡ accepted d k l
    → (c : List ℕ) → IsCodeword m r c → distance m w d ≤ distance m w c
least order (nearest {d = x} h) {d} e c hc = let z : x ≡ d = cc in rw (← z) (nearest_least order h c hc)
least order (tied t) e c hc = let z : ◌≡◌ {A = ℕ} 0 1 = cc in absurd (omega arith)

pub mended_least : (m r limit : ℕ) (w : List ℕ) → 1 ≤ m → r ≤ 1 → IsWord m w → {d : List ℕ} {k l : ℕ} → reading r m limit w ≡ accepted d k l
    → (c : List ℕ) → IsCodeword m r c → distance m w d ≤ distance m w c
unfolding reading
mended_least m zero limit w hm hr hw e = least (omega arith) (order0_judged hw) e
mended_least m (suc zero) limit w hm hr hw e = least (omega arith) (order1_judged hm hw) e
mended_least m (suc (suc r)) limit w hm hr hw e = absurd (omega arith)
