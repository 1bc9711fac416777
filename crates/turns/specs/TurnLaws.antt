-- Laws of what a program keeps from turn to turn. Assumes nothing.
use Rattle.std.specs.Prelude.{ℕ, ◌+◌, ◌-◌, ◌^◌, ◌≤◌, ◌<◌, ◌≡◌, refl, Bool, true, false, ◌||◌, List, ◌++◌, eqb, length, take}
use Rattle.std.proofs.Common.{arith, ap, ◌∙◌, take-add, eq-eqb, ne_eqb}
use Rattle.turns.specs.declared.State.{State}
use Rattle.turns.specs.Turns.{Came, Filled, after_read, came, capped}

pub capped_within : (n : ℕ) → n < 2 ^ 64 → capped n ≡ n
capped_within n h = omega arith

pub capped_again : (a b : ℕ) → capped (capped a + b) ≡ capped (a + b)
capped_again a b = omega arith

-- ---- the code's returns

no_read : (s : State) (room n : ℕ) → (s.last || eqb s.held room) ≡ true → s ≡ after_read s room n
no_read s room n e = rw e

-- the input has ended, or the buffer is full
pub filled_ended : (s : State) (before : List ℕ) → s.last ≡ true → s.held ≤ length before → Filled s s before before
filled_ended s before e h = record { state = no_read s (length before) _ (ap (λ (b : Bool). b || eqb s.held (length before)) e); within = h; kept = refl }

or_true : (b : Bool) → (b || true) ≡ true
or_true true = refl
or_true false = refl

pub filled_full : (s : State) (before : List ℕ) → s.held ≡ length before → Filled s s before before
filled_full s before e = record {
  state = no_read s (length before) _ (ap (λ (b : Bool). s.last || b) (eq-eqb s.held (length before) e) ∙ or_true s.last);
  within = omega arith;
  kept = refl;
}

-- a read was made
pub filled_read : (s : State) (before after : List ℕ) (n : ℕ) → s.last ≡ false → (s.held ≡ length before → ⊥) → Came s.held before after n
    → Filled s (record { held = s.held + n; last = eqb n 0; records = s.records; accepted = s.accepted; more = true }) before after
filled_read s before after n e f c =
    let z : (s.held + n) - s.held ≡ n = omega arith in
    record { state = rw (e, ne_eqb s.held (length before) f, z); within = c.within; kept = c.kept }

-- ---- what is held after a read

module _ {s t : State} {before after : List ℕ} (f : Filled s t before after) where
  more_held : s.held ≤ t.held
  more_held = go (s.last || eqb s.held (length before)) refl
    where
      go : (b : Bool) → (s.last || eqb s.held (length before)) ≡ b → s.held ≤ t.held
      go true e = let z : t ≡ s = rw e at f.state in omega (arith, ap (λ (x : State). x.held) z)
      go false e =
          let z : t ≡ record { held = s.held + (t.held - s.held); last = eqb (t.held - s.held) 0; records = s.records; accepted = s.accepted; more = true } = rw e at f.state in
          omega (arith, ap (λ (x : State). x.held) z)

  pub counts_stay : (t.records ≡ s.records) × (t.accepted ≡ s.accepted)
  counts_stay = go (s.last || eqb s.held (length before)) refl
    where
      go : (b : Bool) → (s.last || eqb s.held (length before)) ≡ b → (t.records ≡ s.records) × (t.accepted ≡ s.accepted)
      go true e = let z : t ≡ s = rw e at f.state in (ap (λ (x : State). x.records) z, ap (λ (x : State). x.accepted) z)
      go false e =
          let z : t ≡ record { held = s.held + (t.held - s.held); last = eqb (t.held - s.held) 0; records = s.records; accepted = s.accepted; more = true } = rw e at f.state in
          (ap (λ (x : State). x.records) z, ap (λ (x : State). x.accepted) z)

  -- what is held: what was held, and what came
  pub held_then : take t.held after ≡ take s.held before ++ came s t after
  held_then =
      let e : t.held ≡ s.held + (t.held - s.held) = omega (arith, more_held) in
      ap (λ (n : ℕ). take n after) e ∙ take-add s.held (t.held - s.held) after ∙ ap (λ (l : List ℕ). l ++ came s t after) f.kept
