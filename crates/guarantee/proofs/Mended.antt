-- A call of the decoder whose outcome mends. Assumes nothing.
use Prim.Native.Nat.{ℕ, ◌≤◌}
use mathlib.Core.Path.{◌≡◌, refl, ap, ◌∙◌}
use mathlib.Core.List.{List}
use native.Mathlib.Omega.{arith}
use lib.IntN.{ℤ}
use lib.ListN.{length}
use Rattle.refusals.proofs.CheckLaws.{number_pos}
use Rattle.refusals.specs.Refusals.{number_of, Decoded}
use Rattle.std.specs.Prelude.{Ok, Err}
use Rattle.profiles.specs.Profiles.{profile_of}
use Rattle.rule.specs.Reading.{Outcome}
use Rattle.rule.specs.Decoding.{answer_of, decode_call, decode_profile_call, output_of, values}
use Rattle.rule.specs.Calls.{Decodes, values_of}
use Rattle.alike.specs.Alike.{Fit}
use Rattle.alike.specs.AlikeLaws.{sizes}
use Rattle.guarantee.specs.Guarantee.{Limits, Mended, Mends, Received, enough}
use Rattle.guarantee.proofs.GuaranteeLaws.{guarantee_outcome, guarantee_profile_outcome}

-- only an accepted answer has the values of one
said : (d : Decoded) {k l n : ℕ} → values_of d ≡ values 0 k l n → d ≡ Ok record { rounds = k; leaves = l; mended = n }
said (Ok x) {k} {l} {n} e =
    let i : k ≡ x.rounds = cc in
    let j : l ≡ x.leaves = cc in
    let h : n ≡ x.mended = cc in
    rw (i, j, h) refl
said (Err x) e = let z : number_of x.why ≡ 0 = cc in absurd (omega (arith, number_pos x.why))

module _ {w c out out' : List ℕ} {area area' : List ℤ} {d : Decoded} where
  -- by its outcome o
  mended : {m r : ℕ} {o : Outcome} → Decodes m o w out out' area area' d → Mends c (enough m r) o → Mended m r w c out' d
  mended {m} {r} {o} x k = record {
    rounds = k.rounds;
    leaves = k.leaves;
    answer = said d (x.answer ∙ ap (answer_of m w) k.outcome);
    output = x.output ∙ ap (λ (o : Outcome). output_of o out) k.outcome;
    rounds_most = k.rounds_most;
    leaves_most = k.leaves_most;
  }

  pub call_mended : {m r rounds leaves : ℕ} → Decodes m (decode_call m r rounds leaves w (length out) (length area)) w out out' area area' d
      → Limits m r rounds leaves → Received m r w c → Fit m out area → Mended m r w c out' d
  call_mended x l g f = mended x (guarantee_outcome l g (sizes g.word f))

  pub profile_mended : {number : ℕ} → Decodes (profile_of number).m (decode_profile_call number w (length out) (length area)) w out out' area area' d
      → number ≤ 4 → Received (profile_of number).m (profile_of number).r w c → Fit (profile_of number).m out area
      → Mended (profile_of number).m (profile_of number).r w c out' d
  profile_mended x h g f = mended x (guarantee_profile_outcome h g (sizes g.word f))
