-- The summary adds up. Assumes nothing.
use Rattle.std.specs.Prelude.{ℕ, suc, ◌+◌, ◌*◌, ◌≤◌, ◌≡◌, Bool, cond, Ok, List, [], length}
use Rattle.std.proofs.Common.{mul-le-mul_right, arith, ap, ◌∙◌, eq-eqb}
use Rattle.tables.specs.Tables.{Slot}
use Rattle.streets.specs.Street.{Step, steps_after}
use Rattle.streets.specs.CheckLaws.{settled}
use Rattle.streets.specs.StreetLaws.{adds_up, ends, steps_most}
use Rattle.streets.specs.declared.Plan.{Plan}
use Rattle.street_report.specs.Report.{counts_of}
use Rattle.street_report.specs.declared.Counts.{Counts}
use Rattle.walks.specs.EveryMeter.{every_meter}
use Rattle.walks.specs.Walk.{Walked, refusal}
use Rattle.walks.specs.declared.Walk.{Walk}

pub record Adds (plan : Plan) (c : Counts) : Type 0 where
  -- "blocks sent are those accepted right, accepted as another codeword, and refused"
  pub blocks : c.sent ≡ c.right + c.other + c.refused
  pub meters : c.right + c.other + c.never ≡ plan.meters

module _ (slot : Slot) (plan : Plan) (start : ℕ) where
  pub summary_adds : (w : Walk) → Walked slot plan start (Ok w) → Adds plan w.counts
  summary_adds w (fine, k) =
      let t = settled slot plan start fine in
      let l : List Step = steps_after slot plan start 4096 in
      let most : suc plan.retries * plan.meters ≤ 4096 = omega (arith, mul-le-mul_right {m = suc plan.retries} {n = 16} plan.meters (omega (arith, t.turns)), t.few) in
      let few : length l ≤ 4096 = omega (arith, most, steps_most slot plan start t.few 4096) in
      let all = every_meter slot plan start t.few 4096 (ends slot plan start t.few 4096 most) in
      let e : w.counts ≡ counts_of plan.retries l =
      k ∙ ap (λ (b : Bool). counts_of plan.retries (cond b l [])) (eq-eqb (refusal slot plan start) 0 fine) in
      let s = ap (λ (c : Counts). c.sent) e in
      let r = ap (λ (c : Counts). c.right) e in
      let o = ap (λ (c : Counts). c.other) e in
      let f = ap (λ (c : Counts). c.refused) e in
      let n = ap (λ (c : Counts). c.never) e in
      record { blocks = omega (arith, s, r, o, f, few, adds_up l); meters = omega (arith, r, o, n, few, adds_up l, all, t.few) }
