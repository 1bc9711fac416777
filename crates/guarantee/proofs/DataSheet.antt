-- The data sheet: for every code its distance, the places surely mended, the leaf limit that is enough, and whether a leaf limit may be that
-- great. Document 02, request 6: "This covers, on bits, every m and r whose product allows it." Assumes nothing.
use Rattle.std.specs.Prelude.{suc, ◌≡◌, refl, true, false, [], ◌∷◌}
use Rattle.guarantee.specs.Guarantee.{enough, surely}
use Rattle.words.specs.Sum.{tabulate, total}
use Rattle.guarantee.specs.DataSheet.{line_of, line}

-- the codes of the exponents 1 to 10, each with the orders 0 to m
pub data_sheet : tabulate 10 (λ i. tabulate (suc (suc i)) (λ r. line_of (suc i) r)) ≡
    (
    line 1 0 2 0 1 true
    ∷ line 1 1 1 0 1 true
    ∷ [])
    ∷ (
    line 2 0 4 1 1 true
    ∷ line 2 1 2 0 1 true
    ∷ line 2 2 1 0 6 true
    ∷ [])
    ∷ (
    line 3 0 8 3 1 true
    ∷ line 3 1 4 1 1 true
    ∷ line 3 2 2 0 14 true
    ∷ line 3 3 1 0 84 true
    ∷ [])
    ∷ (
    line 4 0 16 7 1 true
    ∷ line 4 1 8 3 1 true
    ∷ line 4 2 4 1 30 true
    ∷ line 4 3 2 0 420 true
    ∷ line 4 4 1 0 2520 true
    ∷ [])
    ∷ (
    line 5 0 32 15 1 true
    ∷ line 5 1 16 7 1 true
    ∷ line 5 2 8 3 62 true
    ∷ line 5 3 4 1 1860 true
    ∷ line 5 4 2 0 26040 true
    ∷ line 5 5 1 0 156240 true
    ∷ [])
    ∷ (
    line 6 0 64 31 1 true
    ∷ line 6 1 32 15 1 true
    ∷ line 6 2 16 7 126 true
    ∷ line 6 3 8 3 7812 true
    ∷ line 6 4 4 1 234360 true
    ∷ line 6 5 2 0 3281040 false
    ∷ line 6 6 1 0 19686240 false
    ∷ [])
    ∷ (
    line 7 0 128 63 1 true
    ∷ line 7 1 64 31 1 true
    ∷ line 7 2 32 15 254 true
    ∷ line 7 3 16 7 32004 true
    ∷ line 7 4 8 3 1984248 false
    ∷ line 7 5 4 1 59527440 false
    ∷ line 7 6 2 0 833384160 false
    ∷ line 7 7 1 0 5000304960 false
    ∷ [])
    ∷ (
    line 8 0 256 127 1 true
    ∷ line 8 1 128 63 1 true
    ∷ line 8 2 64 31 510 true
    ∷ line 8 3 32 15 129540 true
    ∷ line 8 4 16 7 16322040 false
    ∷ line 8 5 8 3 1011966480 false
    ∷ line 8 6 4 1 30358994400 false
    ∷ line 8 7 2 0 425025921600 false
    ∷ line 8 8 1 0 2550155529600 false
    ∷ [])
    ∷ (
    line 9 0 512 255 1 true
    ∷ line 9 1 256 127 1 true
    ∷ line 9 2 128 63 1022 true
    ∷ line 9 3 64 31 521220 true
    ∷ line 9 4 32 15 132389880 false
    ∷ line 9 5 16 7 16681124880 false
    ∷ line 9 6 8 3 1034229742560 false
    ∷ line 9 7 4 1 31026892276800 false
    ∷ line 9 8 2 0 434376491875200 false
    ∷ line 9 9 1 0 2606258951251200 false
    ∷ [])
    ∷ (
    line 10 0 1024 511 1 true
    ∷ line 10 1 512 255 1 true
    ∷ line 10 2 256 127 2046 true
    ∷ line 10 3 128 63 2091012 false
    ∷ line 10 4 64 31 1066416120 false
    ∷ line 10 5 32 15 270869694480 false
    ∷ line 10 6 16 7 34129581504480 false
    ∷ line 10 7 8 3 2116034053277760 false
    ∷ line 10 8 4 1 63481021598332800 false
    ∷ line 10 9 2 0 888734302376659200 false
    ∷ line 10 10 1 0 5332405814259955200 false
    ∷ [])
    ∷ []
unfolding surely enough total tabulate
data_sheet = refl
