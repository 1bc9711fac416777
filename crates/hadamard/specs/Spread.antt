-- No two correlations of a word are both great. Assumes nothing.
use Rattle.std.specs.Prelude.{ℕ, zero, suc, ◌+◌, ◌-◌, ◌*◌, ◌^◌, ◌≤◌, ◌<◌, ◌≡◌, List, ◌≢◌, nat_abs}
use Rattle.std.proofs.Common.{sym, ap, ◌∙◌, arith}
use Rattle.std.proofs.Math.Arith.{lt-one}
use Rattle.words.specs.Word.{IsWord, distance}
use Rattle.code.proofs.Distance.{code_distance, triangle}
use Rattle.hadamard.specs.Correlation.{affine, constant_of, correlation, values}
use Rattle.hadamard.specs.AffineWords.{affine_codeword, affine_mask}
use Rattle.hadamard.specs.CorrelationLaws.{near_distance}

-- the affine words of two masks are half the places apart
pub affine_apart : (m u v s t : ℕ) → u < 2 ^ m → v < 2 ^ m → u ≢ v → 2 ^ m ≤ 2 * distance m (affine m u s) (affine m v t)
affine_apart zero u v s t hu hv ne = absurd (ne (lt-one hu ∙ sym (lt-one hv)))
affine_apart (suc m) u v s t hu hv ne =
    let e : suc m - 1 ≡ m = omega arith in
    omega (
      arith,
      ap (λ (k : ℕ). 2 ^ k) e,
      code_distance {r = 1} (omega arith) (affine_codeword (suc m) u s hu) (affine_codeword (suc m) v t hv) (λ e. ne (affine_mask (suc m) u s v t e hu hv)),
    )

-- a word near to one is far from the other
pub correlations_spread :
    {m : ℕ} {w : List ℕ} → IsWord m w → (u v : ℕ) → u < 2 ^ m → v < 2 ^ m → u ≢ v
    → nat_abs (correlation m (values w) u) + nat_abs (correlation m (values w) v) ≤ 2 ^ m
correlations_spread {m} {w} hw u v hu hv ne =
    let s : ℕ = constant_of (correlation m (values w) u) in
    let t : ℕ = constant_of (correlation m (values w) v) in
    omega (arith, near_distance hw u, near_distance hw v, triangle m w (affine m u s) (affine m v t), affine_apart m u v s t hu hv ne)
