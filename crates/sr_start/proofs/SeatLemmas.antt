-- As many seats are made as were asked for, and as many connections come.
use Rattle.std.proofs.Common.{◌≡◌, ◌+◌, ◌-◌, ◌<◌, ◌≤◌, ◌∷◌, [], ◌++◌, ℕ, zero, suc, length, refl, arith, Fits, w64}
use Rattle.std.proofs.lemmas.List.{length-append}
use Rattle.sr_seats.specs.{new_seat, new_seats}

pub length-new_seats : (before n : ℕ) → length (new_seats before n) ≡ n
length-new_seats before zero = refl
length-new_seats before (suc n) =
    let fewer : length (new_seats before n) ≡ n = length-new_seats before n in
    let one : length (new_seat before n ∷ []) ≡ 1 = refl in
    let all : length (new_seats before n ++ new_seat before n ∷ []) ≡ length (new_seats before n) + length (new_seat before n ∷ []) =
    length-append (new_seats before n) (new_seat before n ∷ []) in
    omega arith

-- ---- connections come, and one more may

pub one_more : (count most : ℕ) → count < most → count + 1 ≤ most
one_more count most more = omega (arith, more)

pub one_less : (count most : ℕ) → count < most → most - (count + 1) < most - count
one_less count most more = omega (arith, more)

pub one_fits : (count most : ℕ) → Fits w64 most → count < most → Fits w64 (count + 1)
one_fits count most fits more = omega (arith, fits, more)

pub all_came : (count most : ℕ) → most ≤ count → count ≤ most → count ≡ most
all_came count most enough within = omega (arith, enough, within)
