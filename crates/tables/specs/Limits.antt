-- The limits of a table's entries, test by test, and the constant table. Assumes nothing.
use Rattle.std.specs.Prelude.{ℕ, zero, suc, ◌≤◌, ◌<◌, ◌≡◌, refl, true, false, leb, ltb, get_or, replicate}
use Rattle.std.proofs.Common.{arith}
use borrow.Author.Tests.{le-leb, lt-leb, le-ltb, leb-true, ltb-true}
use Rattle.words.specs.SumLaws.{both_true}
use Rattle.profiles.specs.declared.Profile.{Profile}
use Rattle.profiles.specs.Profiles.{profile_of}
use Rattle.tables.specs.declared.Table.{Table}
use Rattle.tables.specs.Tables.{in_limits, entry_of, known, no_entry, ours}

module _ (p : Profile) where
  pub exponent_low : p.m < 3 → false ≡ in_limits p
  unfolding in_limits
  exponent_low h = rw (lt-leb 3 p.m h)

  module _ (a : 3 ≤ p.m) where
    pub exponent_high : 10 < p.m → false ≡ in_limits p
    unfolding in_limits
    exponent_high h = rw (le-leb 3 p.m a, lt-leb p.m 10 h)

    module _ (b : p.m ≤ 10) where
      pub order_high : p.m < p.r → false ≡ in_limits p
      unfolding in_limits
      order_high h = rw (le-leb 3 p.m a, le-leb p.m 10 b, lt-leb p.r p.m h)

      module _ (c : p.r ≤ p.m) where
        pub rounds_low : p.rounds < 1 → false ≡ in_limits p
        unfolding in_limits
        rounds_low h = rw (le-leb 3 p.m a, le-leb p.m 10 b, le-leb p.r p.m c, lt-leb 1 p.rounds h)

        module _ (d : 1 ≤ p.rounds) where
          pub rounds_high : 16 < p.rounds → false ≡ in_limits p
          unfolding in_limits
          rounds_high h = rw (le-leb 3 p.m a, le-leb p.m 10 b, le-leb p.r p.m c, le-leb 1 p.rounds d, lt-leb p.rounds 16 h)

          module _ (e : p.rounds ≤ 16) where
            pub leaves_low : p.leaves < 1 → false ≡ in_limits p
            unfolding in_limits
            leaves_low h = rw (le-leb 3 p.m a, le-leb p.m 10 b, le-leb p.r p.m c, le-leb 1 p.rounds d, le-leb p.rounds 16 e, lt-leb 1 p.leaves h)

            pub leaves_last : 1 ≤ p.leaves → leb p.leaves 1000000 ≡ in_limits p
            unfolding in_limits
            leaves_last h = rw (le-leb 3 p.m a, le-leb p.m 10 b, le-leb p.r p.m c, le-leb 1 p.rounds d, le-leb p.rounds 16 e, le-leb 1 p.leaves h)

-- what the limits say
pub record InLimits (p : Profile) : Type 0 where
  pub some : 3 ≤ p.m
  pub small : p.m ≤ 10
  pub order : p.r ≤ p.m
  pub round : 1 ≤ p.rounds
  pub rounds : p.rounds ≤ 16
  pub leaf : 1 ≤ p.leaves
  pub leaves : p.leaves ≤ 1000000

pub in_limits_lem : (p : Profile) → in_limits p ≡ true → InLimits p
unfolding in_limits
in_limits_lem p e =
    let (a, e1) = both_true (leb 3 p.m) _ e in
    let (b, e2) = both_true (leb p.m 10) _ e1 in
    let (c, e3) = both_true (leb p.r p.m) _ e2 in
    let (d, e4) = both_true (leb 1 p.rounds) _ e3 in
    let (f, e5) = both_true (leb p.rounds 16) _ e4 in
    let (g, h) = both_true (leb 1 p.leaves) _ e5 in
    record {
      some = leb-true 3 p.m a;
      small = leb-true p.m 10 b;
      order = leb-true p.r p.m c;
      round = leb-true 1 p.rounds d;
      rounds = leb-true p.rounds 16 f;
      leaf = leb-true 1 p.leaves g;
      leaves = leb-true p.leaves 1000000 h;
    }

-- ---- a number

module _ (t : Table) (number : ℕ) where
  pub record Known : Type 0 where
    pub below : number < t.count
    pub within : number ≤ 31
    pub limits : InLimits (entry_of t number)

  pub is_known : known t number ≡ true → Known
  unfolding known
  is_known e =
      let (a, e1) = both_true (ltb number t.count) _ e in
      let (b, e2) = both_true (leb number 31) _ e1 in
      record { below = ltb-true number t.count a; within = leb-true number 31 b; limits = in_limits_lem (entry_of t number) e2 }

-- ---- document 01's table as such a table

default : (k n : ℕ) → get_or (replicate k no_entry) n no_entry ≡ no_entry
default zero n = refl
default (suc k) zero = refl
default (suc k) (suc n) = default k n

pub ours-known : (number : ℕ) → known ours number ≡ leb number 4
unfolding known in_limits
ours-known zero = refl
ours-known (suc zero) = refl
ours-known (suc (suc zero)) = refl
ours-known (suc (suc (suc zero))) = refl
ours-known (suc (suc (suc (suc zero)))) = refl
ours-known (suc (suc (suc (suc (suc n))))) = rw (le-ltb (suc (suc (suc (suc (suc n))))) 5 (omega arith), lt-leb (suc (suc (suc (suc (suc n))))) 4 (omega arith))

pub ours_entry : (number : ℕ) → entry_of ours number ≡ profile_of number
ours_entry zero = refl
ours_entry (suc zero) = refl
ours_entry (suc (suc zero)) = refl
ours_entry (suc (suc (suc zero))) = refl
ours_entry (suc (suc (suc (suc zero)))) = refl
ours_entry (suc (suc (suc (suc (suc n))))) = default 27 n
