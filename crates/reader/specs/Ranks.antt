-- The number of message bits, as the loops count it. Assumes nothing.
use Rattle.std.specs.Prelude.{ℕ, ◌^◌, ◌≡◌}
use Rattle.std.proofs.Common.{sym, ap, ◌∙◌}
use Rattle.code.specs.Code.{rank, dimension}

-- k, as the code takes it
pub rank_is : (m r : ℕ) {n k : ℕ} → k ≡ dimension m r → n ≡ 2 ^ m → k ≡ rank r n
unfolding dimension
rank_is m r e f = e ∙ ap (rank r) (sym f)
