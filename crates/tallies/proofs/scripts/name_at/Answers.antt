-- `tallies::scripts::name_at` meets its contract. Assumes nothing.
use Rattle.std.proofs.Common.{ℕ, ◌≡◌, ◌+◌, ◌-◌, ◌≤◌, ◌<◌, ◌∙◌, List, length, arith, sym, ap, ext_get_or}
use Rattle.std.specs.Prelude.{take, drop}
use Rattle.words.specs.Parts.{part_length, at-part_of}
use Rattle.words.specs.SumLaws.{length-tabulate, get_or-tabulate}
use Rattle.tallies.specs.Script.{byte, name_at}
use Rattle.tallies.proofs.scripts.name_at.Goals as goal

whole : (s : List ℕ) (a : ℕ) (bytes : List ℕ) → a + 8 ≤ length s → bytes ≡ take 8 (drop a s) → record { bytes = bytes } ≡ name_at s a
unfolding name_at
whole s a bytes h e =
    ap (λ (b : List ℕ). record { bytes = b })
    (e ∙ ext_get_or 0 _ _ (part_length 0 a 8 s h ∙ sym (length-tabulate 8 (λ i. byte s (a + i))))
    (λ q l.
    let within : q < 8 = omega (arith, part_length 0 a 8 s h) in
    at-part_of 0 a 8 s h q within ∙ sym (get_or-tabulate 8 (λ i. byte s (a + i)) 0 q within)))

pub returns : goal.returns
returns c =
    let n : c.args.from + 8 - c.args.from ≡ 8 = omega arith in
    whole _ _ _ c.requires (c.copy_from_slice.ensures.after ∙ ap (λ (k : ℕ). take k (drop c.args.from c.args.script.now)) n)
