-- The line of what a step shows, written or not. Assumes nothing.
use Rattle.std.specs.Prelude.{ℕ, ◌≡◌, Bool, true, false, not, cond, List, [], Option}
use Rattle.std.proofs.Common.{sym, ap, subst, ◌∙◌}
use Rattle.std.proofs.lemmas.Bool.{false≢true, not-true}
use Rattle.std.proofs.KnownBytes.{Appends-nil}
use Rattle.std.specs.Io.KnownBytes.{Appends}
use Rattle.turns.specs.declared.Stream.{Stream}
use Rattle.streets.specs.Street.{Step}
use Rattle.streets.specs.State.{Showing, step}
use Rattle.street_report.specs.Report.{step_line}
use Rattle.walks.specs.Walk.{line_of}

module _ {W : Type 0} (contents : W → Option (List ℕ)) (to to' : Stream W) (summary : Bool) where
  -- what is shown is a step, and lines are asked for: its line was written
  pub line_written : (x : Showing) (y : Step) (new : Stream W) → step y ≡ x → not summary ≡ true → to' ≡ new
      → (new.failed ≡ false → Appends (contents to.inner) (contents new.inner) (step_line y))
      → to'.failed ≡ false → Appends (contents to.inner) (contents to'.inner) (line_of summary x)
  line_written x y new s asked e w ok =
      let line : step_line y ≡ line_of summary x = sym (ap (λ (b : Bool). cond b [] (step_line y)) (not-true summary asked)) ∙ ap (line_of summary) s in
      subst (Appends (contents to.inner) (contents to'.inner)) line
      (subst (λ (v : Stream W). Appends (contents to.inner) (contents v.inner) (step_line y)) (sym e) (w (sym (ap (λ (v : Stream W). v.failed) e) ∙ ok)))

  -- nothing is to be written, and nothing was
  pub none_written : (x : Showing) → [] ≡ line_of summary x → to' ≡ to → Appends (contents to.inner) (contents to'.inner) (line_of summary x)
  none_written x s e =
      subst (Appends (contents to.inner) (contents to'.inner)) s
      (subst (λ (v : Stream W). Appends (contents to.inner) (contents v.inner) []) (sym e) (Appends-nil (contents to.inner)))

-- no line of a step where the summary alone is asked
pub no_line : (x : Showing) (summary : Bool) (y : Step) → step y ≡ x → not summary ≡ false → [] ≡ line_of summary x
no_line x true y s e = ap (line_of true) s
no_line x false y s e = absurd (false≢true (sym e))
