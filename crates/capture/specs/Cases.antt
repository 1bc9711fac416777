-- What the capture reader answers, case by case. Assumes nothing.
use Rattle.std.specs.Prelude.{ℕ, ◌+◌, ◌-◌, ◌*◌, ◌/◌, ◌%◌, ◌^◌, ◌<◌, ◌≤◌, ◌≡◌, refl, Bool, true, false, List, take, drop, Ok, None}
use Rattle.std.proofs.Common.{ap, ◌∙◌, subst, length-drop, take_all, pow-add, pow_pos, pow_mono}
use Rattle.std.proofs.Math.Decide.{dec_lt}
use native.Mathlib.Omega.{arith}
use Rattle.std.proofs.Math.ListN.{length}
use borrow.Author.Tests.{lt-ltb, le-ltb, eq-eqb, ne_eqb}
use Rattle.profiles.specs.declared.Profile.{Profile}
use Rattle.tables.specs.declared.Table.{Table}
use Rattle.tables.specs.Tables.{Slot, held, is_there, some}
use Rattle.tables.specs.Limits.{InLimits}
use Rattle.tables.specs.Slots.{Proper}
use Rattle.capture.specs.Capture.{Answer, Found, none_left, refused, record_at, Finds, Stands, answer_of, body_length, buffer_of, profile_at, record_in, record_size, serial_of, slot_at, word_size}

-- ---- the words of an entry

pub record Sized (slot : Slot) : Type 0 where
  pub exponent : (held slot).m ≤ 10
  pub some : 8 ≤ word_size slot
  pub most : word_size slot ≤ 1024
  pub bytes : word_size slot % 8 ≡ 0

eight_more : (m : ℕ) → 3 ≤ m → 2 ^ m ≡ 8 * 2 ^ (m - 3)
eight_more m h = ap (λ (k : ℕ). 2 ^ k) {x = m} {y = 3 + (m - 3)} (omega arith) ∙ pow-add 2 3 (m - 3)

pub sized : (slot : Slot) → Proper slot → is_there slot ≡ true → Sized slot
sized slot p e =
    let k = p.limits e in
    let m : ℕ = (held slot).m in
    let q : 2 ^ m ≡ 8 * 2 ^ (m - 3) = eight_more m k.some in
    record { exponent = k.small; some = omega (arith, q, pow_pos (m - 3)); most = pow_mono k.small; bytes = omega (arith, q) }

pub in_table : (p : Profile) → InLimits p → Proper (some p)
in_table p k = record { limits = λ e. k }

-- ---- the record at the start of s

module _ (slot : Slot) (s : List ℕ) (at room : ℕ) where
  pub none : length s ≡ 0 → none_left ≡ record_in slot s at room
  unfolding record_in
  none h = simp (eq-eqb _ _ h)

  module _ (any : length s ≡ 0 → ⊥) where
    pub no_head : length s < 5 → refused 16 0 ≡ record_in slot s at room
    unfolding record_in
    no_head h = simp (ne_eqb _ _ any, lt-ltb _ _ h)

    module _ (head : 5 ≤ length s) where
      pub unknown : is_there slot ≡ false → refused 14 (serial_of s) ≡ record_in slot s at room
      unfolding record_in
      unknown h = simp (ne_eqb _ _ any, le-ltb _ _ head, h)

      module _ (is : is_there slot ≡ true) where
        pub no_body : length s < record_size slot → refused 16 0 ≡ record_in slot s at room
        unfolding record_in
        no_body h = simp (ne_eqb _ _ any, le-ltb _ _ head, is, lt-ltb _ _ h)

        module _ (body : record_size slot ≤ length s) where
          pub no_room : (room ≡ word_size slot → ⊥) → refused 6 (serial_of s) ≡ record_in slot s at room
          unfolding record_in
          no_room h = simp (ne_eqb _ _ any, le-ltb _ _ head, is, le-ltb _ _ body, ne_eqb _ _ h)

          pub whole : room ≡ word_size slot → record_at (serial_of s) (profile_at s) (at + record_size slot) ≡ record_in slot s at room
          unfolding record_in
          whole h = simp (ne_eqb _ _ any, le-ltb _ _ head, is, le-ltb _ _ body, eq-eqb _ _ h)

-- what the reader answers in a case, and what becomes of the word buffer
pub stands : {slot : Slot} {s : List ℕ} {at : ℕ} {word word' : List ℕ} {f : Found} {a : Answer} → answer_of f ≡ a → a ≡ record_in slot s at (length word) → word' ≡ buffer_of slot a s word → Stands slot s at word word' f
stands {slot} {s} {word = word} e p b = record { answer = e ∙ p; buffer = b ∙ ap (λ (x : Answer). buffer_of slot x s word) p }

-- ---- at a position of a capture

pub past_end : (t : Table) (capture : List ℕ) (at : ℕ) (word : List ℕ) → length capture ≤ at → Finds t capture at word word (Ok None)
past_end t capture at word h =
    let e : none_left ≡ record_in (slot_at t (drop at capture)) (drop at capture) at (length word) = none _ _ _ _ (rw length-drop (omega arith)) in
    record { answer = e; buffer = rw (← e) }

-- the part from `at` to the end is what is left of the capture
pub of_part : (t : Table) (capture : List ℕ) (at : ℕ) {word word' : List ℕ} {f : Found} {slot : Slot} → slot ≡ slot_at t (take (length capture - at) (drop at capture))
    → Stands slot (take (length capture - at) (drop at capture)) at word word' f → Finds t capture at word word' f
of_part t capture at {word} {word'} {f} {slot} z h =
    let e : take (length capture - at) (drop at capture) ≡ drop at capture = take_all (length capture - at) (drop at capture) (omega (arith, length-drop at capture)) in
    subst (λ (x : Slot). Stands x (drop at capture) at word word' f) (z ∙ ap (slot_at t) e) (subst (λ (l : List ℕ). Stands slot l at word word' f) e h)

-- ---- the bytes after a head

module _ (slot : Slot) (s : List ℕ) where
  pub cut_body : length s < 5 → 0 ≡ body_length slot s
  unfolding body_length
  cut_body h = simp (lt-ltb _ _ h)

  pub unknown_body : 5 ≤ length s → is_there slot ≡ false → 0 ≡ body_length slot s
  unfolding body_length
  unknown_body h p = simp (le-ltb _ _ h, p)

  pub known_body : 5 ≤ length s → is_there slot ≡ true → word_size slot / 8 ≡ body_length slot s
  unfolding body_length
  known_body h p = simp (le-ltb _ _ h, p)

-- a word buffer of eight times the bytes that follow has the right size; where none follow, its size does not matter
module _ (slot : Slot) (s : List ℕ) (at : ℕ) where
  no_size : (m n : ℕ) → (5 ≤ length s → is_there slot ≡ false) → record_in slot s at m ≡ record_in slot s at n
  unfolding record_in
  no_size m n h = elim (dec_lt (length s) 5) [
    | yes short ↦ simp (lt-ltb _ _ short)
    | no k ↦ let l : 5 ≤ length s = omega arith in simp (le-ltb _ _ l, h l)
  ]

  pub own_size : Proper slot → record_in slot s at (8 * body_length slot s) ≡ record_in slot s at (word_size slot)
  own_size p = elim (dec_lt (length s) 5) [
    | yes short ↦ no_size _ _ (λ l. absurd (omega arith))
    | no long ↦ go (is_there slot) refl (omega arith)
  ]
    where
      go : (b : Bool) → is_there slot ≡ b → 5 ≤ length s → record_in slot s at (8 * body_length slot s) ≡ record_in slot s at (word_size slot)
      go true e l = ap (record_in slot s at) (omega (arith, known_body slot s l e, (sized slot p e).bytes))
      go false e l = no_size _ _ (λ z. e)
