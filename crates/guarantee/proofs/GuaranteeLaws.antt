-- The guarantee: of the decoder's answer under its limits, and by profile; that it is not empty. Assumes nothing.
use Rattle.std.specs.Prelude.{ℕ, zero, suc, ◌-◌, ◌*◌, ◌^◌, ◌≤◌, ◌<◌, ◌≡◌, refl, Bool, true, ◌&&◌, List, ◌++◌, leb}
use Rattle.std.proofs.Common.{sym, ap, mul-pos, arith, pow_mono, le-leb, leb-true}
use Rattle.code.specs.Code.{IsCodeword}
use Rattle.guarantee.specs.Guarantee.{Limits, Mends, Received, enough, surely}
use Rattle.guarantee.proofs.Mending.{reading_mends}
use Rattle.profiles.specs.Profiles.{profile_of}
use Rattle.profiles.specs.declared.Profile.{Profile}
use Rattle.refusals.specs.IsCode.{IsCode}
use Rattle.refusals.proofs.CheckLaws.{no_more, passes}
use Rattle.refusals.specs.Refusals.{Check, code_checks, first_refusal}
use Rattle.rule.specs.Decoding.{after, decode_call, decode_of, decode_profile_call, decode_profile_of, limit_checks, limited, profile_checks}
use Rattle.rule.specs.RightSizes.{RightSizes}
use Rattle.rule.proofs.DecodingLaws.{after_cases, call_is, limited_within, profile_call_is}
use Rattle.rule.proofs.ProfileLaws.{profile_code}
use Rattle.rule.specs.Reading.{Outcome, leaves_of, reading}
use Rattle.words.specs.Sum.{all_below, total}
use Rattle.words.specs.SumLaws.{all_true, both_true}
use Rattle.words.specs.Word.{IsWord, distance}

-- ---- the number that is surely mended is the greatest below half the distance

pub surely_few : (m r e : ℕ) → e ≤ surely m r → 2 * e < 2 ^ (m - r)
unfolding surely
surely_few m r e l = omega (arith, pow_mono {i = 0} {j = m - r} (omega arith))

pub few_surely : (m r e : ℕ) → 2 * e < 2 ^ (m - r) → e ≤ surely m r
unfolding surely
few_surely m r e l = omega arith

-- ---- "This covers, on bits, every m and r whose product allows it."

product_pos : (n : ℕ) (f : ℕ → ℕ) → ((i : ℕ) → i < n → 0 < f i) → 0 < total ◌*◌ 1 n f
unfolding total
product_pos zero f h = omega arith
product_pos (suc n) f h = mul-pos (product_pos n f (λ i l. h i (omega arith))) (h n (omega arith))

enough_pos : (m r : ℕ) → 1 ≤ m → r ≤ m → 0 < enough m r
unfolding enough
enough_pos m r some order = product_pos _ _ (λ i l. omega (arith, pow_mono {i = 1} {j = m - i} (omega arith)))

-- the limits exist exactly where the product is at most 1,000,000
pub covered : {m r : ℕ} → IsCode m r → enough m r ≤ 1000000 → Limits m r 2 (enough m r)
covered code within = record {
  some = code.some;
  most = code.most;
  order = code.order;
  rounds_least = omega arith;
  rounds_most = omega arith;
  leaves_least = omega arith;
  leaves_most = within;
}

pub uncovered : {m r rounds leaves : ℕ} → 1000000 < enough m r → Limits m r rounds leaves → ⊥
uncovered above l = omega (arith, l.leaves_least, l.leaves_most)

-- ---- the answer

-- after checks that pass, within a leaf limit that is enough
after_mends : (cs : List Check) (leaves most : ℕ) (c : List ℕ) (o : Outcome) → first_refusal cs ≡ 0 → most ≤ leaves → Mends c most o → Mends c most (after cs (limited leaves o))
after_mends cs leaves most c o pass l k =
    after_cases cs (limited leaves o) (Mends c most)
    (λ e. rw (limited_within leaves o (omega (arith, ap leaves_of k.outcome, k.leaves_most))) k)
    (λ e. absurd (omega arith))

module _ {m r rounds leaves : ℕ} {w c : List ℕ} (s : Limits m r rounds leaves) (g : Received m r w c) where
  checks_pass : first_refusal (code_checks m r ++ limit_checks rounds leaves) ≡ 0
  checks_pass =
      sym (passes _ _ _ (le-leb 1 m s.some)
      (passes _ _ _ (le-leb m 10 s.most)
      (passes _ _ _ (le-leb r m s.order)
      (passes _ _ _ (le-leb 1 rounds (omega (arith, s.rounds_least)))
      (passes _ _ _ (le-leb rounds 16 s.rounds_most)
      (passes _ _ _ (le-leb 1 leaves (omega (arith, s.leaves_least, enough_pos m r s.some s.order)))
      (passes _ _ _ (le-leb leaves 1000000 s.leaves_most) no_more)))))))

  reads : Mends c (enough m r) (reading r m rounds w)
  reads = reading_mends r m rounds s.order (omega (arith, s.most)) (omega (arith, s.rounds_least)) w c g.word g.sent (omega (arith, g.few))

  pub guarantee : Mends c (enough m r) (decode_of m r rounds leaves w)
  unfolding decode_of
  guarantee = after_mends (code_checks m r ++ limit_checks rounds leaves) leaves (enough m r) c (reading r m rounds w) checks_pass (omega (arith, s.leaves_least)) reads

  -- "in buffers of the right sizes"
  pub guarantee_outcome : {room area : ℕ} → RightSizes m w room area → Mends c (enough m r) (decode_call m r rounds leaves w room area)
  guarantee_outcome h = rw (call_is h r rounds leaves) guarantee

-- a row of the data sheet is a promise: with so many wrong places, under round limit 2 and that leaf limit
pub row_mends : {m r : ℕ} {w c : List ℕ} → IsCode m r → enough m r ≤ 1000000 → IsWord m w → IsCodeword m r c → distance m w c ≤ surely m r
    → Mends c (enough m r) (decode_of m r 2 (enough m r) w)
row_mends {m} {r} {w} {c} code within word sent few =
    guarantee (covered code within) (record { word = word; sent = sent; few = surely_few m r (distance m w c) few })

-- ---- by profile

-- whether a profile's limits allow it
abbrev permits : Profile → Bool
permits p = (leb 2 p.rounds && leb p.rounds 16) && (leb (enough p.m p.r) p.leaves && leb p.leaves 1000000)

profiles_permit : all_below 5 (λ i. permits (profile_of i)) ≡ true
unfolding enough total
profiles_permit = refl

permitted : (p : Profile) → IsCode p.m p.r → permits p ≡ true → Limits p.m p.r p.rounds p.leaves
permitted p code e =
    let both = both_true (leb 2 p.rounds && leb p.rounds 16) (leb (enough p.m p.r) p.leaves && leb p.leaves 1000000) e in
    let rounds = both_true (leb 2 p.rounds) (leb p.rounds 16) both.0 in
    let leaves = both_true (leb (enough p.m p.r) p.leaves) (leb p.leaves 1000000) both.1 in
    record {
      some = code.some;
      most = code.most;
      order = code.order;
      rounds_least = omega (arith, leb-true 2 p.rounds rounds.0);
      rounds_most = leb-true p.rounds 16 rounds.1;
      leaves_least = leb-true (enough p.m p.r) p.leaves leaves.0;
      leaves_most = leb-true p.leaves 1000000 leaves.1;
    }

-- every profile's do
pub profile_limits : (number : ℕ) → number ≤ 4 → Limits (profile_of number).m (profile_of number).r (profile_of number).rounds (profile_of number).leaves
profile_limits number h = permitted (profile_of number) (profile_code number h) (all_true 5 (λ i. permits (profile_of i)) profiles_permit number (omega arith))

module _ {number : ℕ} {w c : List ℕ} (h : number ≤ 4) (g : Received (profile_of number).m (profile_of number).r w c) where
  abbrev p : Profile
  p = profile_of number

  guarantee_profile : Mends c (enough p.m p.r) (decode_profile_of number w)
  unfolding decode_profile_of
  guarantee_profile =
      after_mends (profile_checks number) p.leaves (enough p.m p.r) c (reading p.r p.m p.rounds w)
      (sym (passes _ _ _ (le-leb number 4 h) no_more)) (profile_limits number h).leaves_least (reads (profile_limits number h) g)

  pub guarantee_profile_outcome : {room area : ℕ} → RightSizes p.m w room area → Mends c (enough p.m p.r) (decode_profile_call number w room area)
  guarantee_profile_outcome s = rw (profile_call_is number s) guarantee_profile
