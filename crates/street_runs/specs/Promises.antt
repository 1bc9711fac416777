-- What request 10 asks of a run, from its contract: the counts add up, as many blocks were drawn as were sent, and a street ends. Assumes nothing.
use Rattle.std.specs.Prelude.{ℕ, suc, ◌+◌, ◌*◌, ◌≤◌, ◌<◌, ◌≡◌, refl, true, List, ℤ, length}
use Rattle.std.proofs.Common.{arith, sym, ap, ◌∙◌, eq-eqb, lt-ltb}
use Rattle.tables.specs.Tables.{Slot}
use Rattle.load.specs.Records.{state_at}
use Rattle.streets.specs.Street.{Nobody, Step, sender_after, steps_after}
use Rattle.streets.specs.State.{sender_of, street_after}
use Rattle.street_runs.specs.Run.{Runs, run_refusal, steps_made}
use Rattle.street_runs.specs.RunLaws.{run_settled}
use Rattle.streets.specs.StreetLaws.{adds_up, ends, steps-length, steps_most, street_load, street_sender}
use Rattle.streets.specs.declared.Plan.{Plan}
use Rattle.street_runs.specs.declared.Ran.{Ran}
use Rattle.streets.specs.declared.Street.{Street}

module _ {slot : Slot} {plan : Plan} {start budget : ℕ} {log log' block block' : List ℕ} {area area' : List ℤ} {a : Ran}
    (r : Runs slot plan start budget log log' block block' area area' a) where
  -- "At any step from the start, blocks sent are those accepted right, accepted as another codeword, and refused"
  pub run_adds_up : a.sent ≡ a.right + a.other + a.refused
  run_adds_up =
      let m = r.steps in
      m.sent ∙ adds_up (steps_made slot plan start budget (length block) (length area)) ∙ sym (rw (m.right, m.other, m.refused) refl)

  module _ (ok : run_refusal slot plan start (length block) (length area) ≡ 0) where
    few : plan.meters ≤ 256
    few = (run_settled slot plan start (length block) (length area) ok).few

    made : steps_made slot plan start budget (length block) (length area) ≡ steps_after slot plan start budget
    made = rw (eq-eqb _ 0 ok)

    sent_is : a.sent ≡ length (steps_after slot plan start budget)
    sent_is = r.steps.sent ∙ ap length made

    pub run_most : a.sent ≤ suc plan.retries * plan.meters
    run_most = omega (arith, sent_is, steps_most slot plan start few budget)

    street_is : a.street ≡ street_after slot plan start (length (steps_after slot plan start budget))
    street_is = r.steps.street ∙ ap (λ (l : List Step). street_after slot plan start (length l)) made

    -- "each block the next of one load": the load stands before the block whose number is that of the blocks sent
    pub run_load : a.street.state ≡ state_at slot plan.wrong start a.sent
    run_load =
        let n : ℕ = length (steps_after slot plan start budget) in
        ap (λ (s : Street). s.state) street_is ∙ street_load slot plan start few n
        ∙ ap (λ (l : List Step). state_at slot plan.wrong start (length l)) (steps-length slot plan start budget) ∙ ap (state_at slot plan.wrong start) (sym sent_is)

    -- with as many steps as all tries of all meters nobody is left, and one step more says so
    pub run_ends : suc plan.retries * plan.meters ≤ budget → sender_of plan a.street ≡ Nobody
    run_ends h =
        let n : ℕ = length (steps_after slot plan start budget) in
        ap (sender_of plan) street_is ∙ street_sender slot plan start few n ∙ ap (sender_after plan) (steps-length slot plan start budget)
        ∙ ends slot plan start few budget h

    pub run_tells : suc plan.retries * plan.meters < budget → a.none_left ≡ true
    run_tells h =
        r.none_left
        ∙ rw (eq-eqb (run_refusal slot plan start (length block) (length area)) 0 ok)
        (lt-ltb (length (steps_after slot plan start budget)) budget (omega (arith, steps_most slot plan start few budget)))
