-- Document 01, "Profiles". Assumes nothing.
use Rattle.std.specs.Prelude.{ℕ, List, [], ◌∷◌, get_or}
use Rattle.profiles.specs.declared.Profile.{Profile}

abbrev pub row : ℕ → ℕ → ℕ → ℕ → Profile
row m r rounds leaves = record { m = m; r = r; rounds = rounds; leaves = leaves }

-- m, r, rounds and leaf limit of the profiles 0 to 4
abbrev pub profiles : List Profile
profiles = row 5 1 4 1 ∷ row 6 2 4 252 ∷ row 7 2 4 508 ∷ row 8 2 4 1020 ∷ row 8 3 4 518160 ∷ []

-- the profile of a number; a number above 4, which is refused 14, has none
abbrev pub profile_of : ℕ → Profile
profile_of number = get_or profiles number (row 0 0 0 0)
