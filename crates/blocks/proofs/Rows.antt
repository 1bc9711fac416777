-- Lists of which a part was written, or is put in the place of another. Assumes nothing.
use Prim.Native.Nat.{ℕ, ◌+◌, ◌-◌, ◌≤◌, ◌<◌}
use mathlib.Core.Path.{◌≡◌, sym, ap, ap₂, ◌∙◌}
use mathlib.Core.List.{List, ◌++◌, append_assoc}
use native.Mathlib.Omega.{arith}
use lib.ListN.{length, get_or, take, drop, length-append, length-drop}
use lib.Seq.{ext_get_or, get_or-take, get_or-drop, length-take-le, take_at, drop_at, drop-drop}
use borrow.Rule.Slice.PartMut.{put_mid}
use Rattle.words.specs.Sum.{tabulate}
use Rattle.words.specs.SumLaws.{get_or-tabulate, length-tabulate}
use Rattle.words.specs.Parts.{at-part_of, part_length}
use Rattle.words.specs.Written.{Written}

-- a part by its entries
pub part_is :
    {A : Type 0} (d : A) (a n : ℕ) (xs : List A) (f : ℕ → A) → a + n ≤ length xs → ((q : ℕ) → q < n → get_or xs (a + q) d ≡ f q)
    → take n (drop a xs) ≡ tabulate n f
part_is d a n xs f room each =
    let size : length (take n (drop a xs)) ≡ n = part_length d a n xs room in
    ext_get_or d (take n (drop a xs)) (tabulate n f) (size ∙ sym (length-tabulate n f))
    (λ q l. at-part_of d a n xs room q (omega arith) ∙ each q (omega arith) ∙ sym (get_or-tabulate n f d q (omega arith)))

-- the part that was written, and what comes back in its place
module _ {A : Type 0} {d : A} {a n : ℕ} {f : ℕ → A} {xs ys : List A} (w : Written d a n f xs ys) (room : a + n ≤ length xs) where
  pub written_lent : take n (drop a ys) ≡ tabulate n f
  written_lent = part_is d a n ys f (omega (arith, w.long)) w.within

  before : take a ys ≡ take a xs
  before =
      let lx : length (take a xs) ≡ a = length-take-le a xs (omega arith) in
      let ly : length (take a ys) ≡ a = length-take-le a ys (omega (arith, w.long)) in
      ext_get_or d (take a ys) (take a xs) (ly ∙ sym lx)
      (λ p l. get_or-take a ys p d (omega arith) ∙ w.below p (omega arith) ∙ sym (get_or-take a xs p d (omega arith)))

  after : drop n (drop a ys) ≡ drop n (drop a xs)
  after =
      let b : ℕ = a + n in
      drop-drop n a ys
      ∙ ext_get_or d (drop b ys) (drop b xs) (length-drop b ys ∙ ap (λ (k : ℕ). k - b) w.long ∙ sym (length-drop b xs))
      (λ p l. get_or-drop b ys p d ∙ w.above (b + p) (omega arith) ∙ sym (get_or-drop b xs p d))
      ∙ sym (drop-drop n a xs)

  pub written_over : (zs : List A) → put_mid a n ys zs ≡ put_mid a n xs zs
  written_over zs = ap₂ (λ (u v : List A). u ++ (zs ++ v)) before after

-- the front of xs before the rest of ys
module _ {A : Type 0} (a : ℕ) (xs ys : List A) (room : a ≤ length xs) where
  front : length (take a xs) ≡ a
  front = length-take-le a xs room

  pub front_rest : drop a (take a xs ++ drop a ys) ≡ drop a ys
  front_rest = drop_at (take a xs) (drop a ys) a front

  -- n entries more, which come back as zs
  pub front_more :
      (n : ℕ) (zs : List A) → length zs ≡ n
      → put_mid a n (take a xs ++ drop a ys) zs ≡ take (a + n) (put_mid a n xs zs) ++ drop (a + n) ys
  front_more n zs same =
      let more : length (take a xs ++ zs) ≡ a + n = length-append (take a xs) zs ∙ ap₂ ◌+◌ front same in
      ap₂ (λ (u v : List A). u ++ (zs ++ v)) (take_at (take a xs) (drop a ys) a front) (ap (drop n) front_rest ∙ drop-drop n a ys)
      ∙ sym (append_assoc (take a xs) zs (drop (a + n) ys))
      ∙ ap (λ (u : List A). u ++ drop (a + n) ys)
      (sym (ap (take (a + n)) (sym (append_assoc (take a xs) zs (drop n (drop a xs))))
      ∙ take_at (take a xs ++ zs) (drop n (drop a xs)) (a + n) more))
