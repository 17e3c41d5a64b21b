-- What workers leave, put together from what each of them leaves.
use Rattle.std.proofs.Common.{◌≡◌, ℕ, zero, suc, take, drop, get_or, ◌+◌, ◌*◌, ◌<◌, ◌≤◌, List, [], ◌∷◌, ◌++◌, length, length-append, map, refl, sym, ap, ap₂, ◌∙◌, subst, arith, append-nil, append_assoc, Result, Ok, Err, Option, None, Some, Bool, true, false, cond}
use Rattle.std.specs.Prelude.{All, ◌≢◌, IfSome, MatchResult, slice_get, sum, sum_by}
use Rattle.std.specs.List.{count_by, flat_map}
use Rattle.std.proofs.lemmas.Grind.{flat_map-append}
use Rattle.std.proofs.lemmas.List.{length-drop, length-map, length-take-le, map-append, map_more, map_push, take-append-drop, take-append-le, take_more}
use Rattle.std.proofs.lemmas.List.Concat.{flat_map-cons, length-flat_map}
use Rattle.std.proofs.lemmas.List.Elements.{All-push}
use Rattle.std.proofs.lemmas.List.Folds.{flat_map-map}
use Rattle.std.proofs.lemmas.List.Sums.{sum-map, sum_by-append, sum_by-cons}
use Rattle.std.proofs.Math.Seq.{take-append_seam, drop-append_seam}
use Rattle.sr_args.specs.declared.call.Call.{Call}
use Rattle.sr_book.specs.{BookState}
use Rattle.sr_run.specs.Closed.{AreCompared, IsClosed}
use Rattle.sr_run.specs.Crews.{AreHalves, AreTogether, CrewState, HasNotWorked, HasWorked, IsCrew, IsStopped, first_of, joined, seats_from}
use Rattle.sr_book.specs.declared.answer.Letter.{Letter}
use Rattle.sr_seats.specs.{Agrees, SeatState, count_before, count_made, count_skipped, new_seat, new_seats}
use Rattle.sr_seats.specs.Closing.{Follows, Matches, MayFollow, MayMatch, is_skipped}
use Rattle.sr_run.specs.Shared.{HasMade, RefusesEvent}
use Rattle.sr_run.specs.Worked.{AreWorked, HasNotRun, HasRun, IsWorked, count_calls, joined_up}
use Rattle.sr_run.specs.declared.fault.RunFault.{RunFault}
use Rattle.sr_run.specs.declared.fault.RunFault.TheVariants as faults
use Rattle.sr_seats.specs.declared.fault.CloseFault.{CloseFault}
use Rattle.sr_seats.specs.declared.fault.SeatFault.{SeatFault}
use Rattle.sr_seats.specs.declared.receipt.Receipt.{Receipt}

-- ---- seats that count on

front_seats : (first n k : ℕ) → k ≤ n → take k (seats_from first n) ≡ seats_from first k
front_seats first n zero few = refl
front_seats first zero (suc k) few = absurd (omega (arith, few))
front_seats first (suc n) (suc k) few = ap (λ xs. new_seat 0 first ∷ xs) (front_seats (first + 1) n k (omega (arith, few)))

back_seats : (first n k m : ℕ) → k + m ≡ n → drop k (seats_from first n) ≡ seats_from (first + k) m
back_seats first n zero m all =
    let here : first ≡ first + 0 = omega arith in
    let same : n ≡ m = omega (arith, all) in
    ap₂ seats_from here same
back_seats first zero (suc k) m all = absurd (omega (arith, all))
back_seats first (suc n) (suc k) m all =
    let here : first + 1 + k ≡ first + suc k = omega arith in
    back_seats (first + 1) n k m (omega (arith, all)) ∙ ap (λ f. seats_from f m) here

seats_from-more : (first n : ℕ) → seats_from first (suc n) ≡ seats_from first n ++ new_seat 0 (first + n) ∷ []
seats_from-more first zero =
    let here : first ≡ first + 0 = omega arith in
    ap (λ f. new_seat 0 f ∷ []) here
seats_from-more first (suc n) =
    let here : first + 1 + n ≡ first + suc n = omega arith in
    ap (λ xs. new_seat 0 first ∷ xs) (seats_from-more (first + 1) n ∙ ap (λ f. seats_from (first + 1) n ++ new_seat 0 f ∷ []) here)

-- seats that are numbered from 0 count on from 0
pub new_seats_count_on : (n : ℕ) → new_seats 0 n ≡ seats_from 0 n
new_seats_count_on zero = refl
new_seats_count_on (suc n) =
    let here : n ≡ 0 + n = omega arith in
    ap (λ xs. xs ++ new_seat 0 n ∷ []) (new_seats_count_on n) ∙ ap (λ f. seats_from 0 n ++ new_seat 0 f ∷ []) here ∙ sym (seats_from-more 0 n)

-- a seat that has done and seen nothing, and stands for no event
new_seat-number : (n : ℕ) → (new_seat 0 n).number ≡ n
new_seat-number zero = refl
new_seat-number (suc n) = refl

new_seat-share : (n : ℕ) → (new_seat 0 n).share ≡ 0
new_seat-share zero = refl
new_seat-share (suc n) = refl

new_seat-before : (n : ℕ) → (new_seat 0 n).before ≡ 0
new_seat-before zero = refl
new_seat-before (suc n) = refl

length-seats_from : (first n : ℕ) → length (seats_from first n) ≡ n
length-seats_from first zero = refl
length-seats_from first (suc n) = ap suc (length-seats_from (first + 1) n)

-- ---- the halves of a crew

-- seats that have done and seen nothing are a crew
pub new_crew : {V : Type 0} (f : V → List Call) (n : ℕ) (seats : List SeatState) (xs : List V) → seats ≡ new_seats 0 n → length xs ≡ n → n ≤ 64 → IsCrew 0 seats (map f xs)
new_crew f n seats xs new many few =
    let size : length (map f xs) ≡ n = length-map xs f ∙ many in
    record { new = new ∙ new_seats_count_on n ∙ ap (λ m. seats_from 0 m) (sym size); few = omega (arith, size, few) }

-- it has a seat for each script
pub crew_size : {V : Type 0} (f : V → List Call) (first : ℕ) (seats : List SeatState) (xs : List V) → IsCrew first seats (map f xs) → length seats ≡ length xs
crew_size f first seats xs crew = ap length crew.new ∙ length-seats_from first (length (map f xs)) ∙ length-map xs f

-- the first of it, this many, are a crew
pub front_crew : {V : Type 0} (f : V → List Call) (first k : ℕ) (seats front : List SeatState) (xs ys : List V) → k ≤ length xs → front ≡ take k seats → ys ≡ take k xs → IsCrew first seats (map f xs)
    → IsCrew first front (map f ys)
front_crew f first k seats front xs ys few front_is ys_are crew =
    let size : length (map f ys) ≡ k = length-map ys f ∙ ap length ys_are ∙ length-take-le k xs few in
    let whole : length (map f xs) ≡ length xs = length-map xs f in
    record {
      new = front_is ∙ ap (λ ss. take k ss) crew.new ∙ front_seats first (length (map f xs)) k (omega (arith, few, whole)) ∙ ap (λ n. seats_from first n) (sym size);
      few = omega (arith, size, whole, few, crew.few);
    }

-- the others are one whose seats count on from those
pub back_crew : {V : Type 0} (f : V → List Call) (first k : ℕ) (seats back : List SeatState) (xs ys : List V) → k ≤ length xs → back ≡ drop k seats → ys ≡ drop k xs → IsCrew first seats (map f xs)
    → IsCrew (first + k) back (map f ys)
back_crew f first k seats back xs ys few back_is ys_are crew =
    let size : length (map f ys) ≡ length ys = length-map ys f in
    let same : length ys ≡ length (drop k xs) = ap length ys_are in
    let whole : length (map f xs) ≡ length xs = length-map xs f in
    let parts : length (take k xs) + length (drop k xs) ≡ length xs = sym (length-append (take k xs) (drop k xs)) ∙ ap length (take-append-drop k xs) in
    let all : k + length (map f ys) ≡ length (map f xs) = omega (arith, size, same, whole, parts, length-take-le k xs few) in
    record {
      new = back_is ∙ ap (λ ss. drop k ss) crew.new ∙ back_seats first (length (map f xs)) k (length (map f ys)) all;
      few = omega (arith, all, crew.few);
    }

-- both have all the scripts
pub halves_are_whole : {V : Type 0} (f : V → List Call) (k : ℕ) (xs : List V) → map f xs ≡ map f (take k xs) ++ map f (drop k xs)
halves_are_whole f k xs = ap (λ ys. map f ys) (sym (take-append-drop k xs)) ∙ map-append f (take k xs) (drop k xs)

-- so is what is made of them
pub crew_is_whole : {V : Type 0} (f : V → List Call) (first k : ℕ) (xs ys zs : List V) → ys ≡ take k xs → zs ≡ drop k xs
    → record { first = first; scripts = map f xs } ≡ joined (record { first = first; scripts = map f ys }) (record { first = first + k; scripts = map f zs })
crew_is_whole {V} f first k xs ys zs ys_are zs_are =
    let made : List (List Call) → CrewState = λ scripts. record { first = first; scripts = scripts } in
    ap made (halves_are_whole f k xs ∙ ap₂ (λ (one other : List V). map f one ++ map f other) (sym ys_are) (sym zs_are))

-- neither is empty if this many of them are first
pub crew_halves : {V : Type 0} (f : V → List Call) (first k : ℕ) (xs ys zs : List V) → 0 < k → k < length xs → ys ≡ take k xs → zs ≡ drop k xs
    → AreHalves (record { first = first; scripts = map f ys }) (record { first = first + k; scripts = map f zs })
crew_halves f first k xs ys zs some less ys_are zs_are =
    let front : length (map f ys) ≡ k = length-map ys f ∙ ap length ys_are ∙ length-take-le k xs (omega (arith, less)) in
    let back : length (map f zs) ≡ length (drop k xs) = length-map zs f ∙ ap length zs_are in
    record { next = omega (arith, front); some_front = omega (arith, front, some); some_back = omega (arith, back, length-drop k xs, less) }

-- ---- scripts and their receipts

AreWorked-append : (number : ℕ) (ss ts : List (List Call)) (gs hs : List (List Receipt)) → AreWorked number ss gs → AreWorked (number + length ss) ts hs → AreWorked number (ss ++ ts) (gs ++ hs)
AreWorked-append number [] ts [] hs one two =
    let same : number + 0 ≡ number = omega arith in
    let P : ℕ → Type 0 = λ n. AreWorked n ts hs in
    subst P same two
AreWorked-append number [] ts (g ∷ gs) hs one two = absurd one
AreWorked-append number (s ∷ ss) ts [] hs one two = absurd one
AreWorked-append number (s ∷ ss) ts (g ∷ gs) hs one two =
    let same : number + length (s ∷ ss) ≡ number + 1 + length ss = omega arith in
    let P : ℕ → Type 0 = λ n. AreWorked n ts hs in
    (one.0, AreWorked-append (number + 1) ss ts gs hs one.1 (subst P same two))

-- each script has as many receipts as calls
pub AreWorked-lengths : (number : ℕ) (ss : List (List Call)) (gs : List (List Receipt)) → AreWorked number ss gs → map length gs ≡ map length ss
AreWorked-lengths number [] [] worked = refl
AreWorked-lengths number [] (g ∷ gs) worked = absurd worked
AreWorked-lengths number (s ∷ ss) [] worked = absurd worked
AreWorked-lengths number (s ∷ ss) (g ∷ gs) worked =
    let calls : length g ≡ length s = sym (length-map g (λ (r : Receipt). r.call)) ∙ ap length worked.0.calls in
    ap₂ (λ (n : ℕ) (ns : List ℕ). n ∷ ns) calls (AreWorked-lengths (number + 1) ss gs worked.1)

-- ---- crews

-- a crew has worked once both of its halves have
pub halves_have_worked : (front back : CrewState) (seats others : List SeatState) (receipts more : List Receipt) → AreHalves front back → HasWorked front seats receipts → HasWorked back others more
    → HasWorked (joined front back) (seats ++ others) (receipts ++ more)
halves_have_worked front back seats others receipts more halves one two =
    let P : ℕ → Type 0 = λ n. AreWorked n back.scripts two.groups in
    let later : AreWorked (front.first + length front.scripts) back.scripts two.groups = subst P halves.next two.worked in
    let share : SeatState → ℕ = λ seat. seat.share in
    let stands : SeatState → ℕ = λ seat. seat.before in
    let size : List Call → ℕ = λ script. length script in
    let many : length (front.scripts ++ back.scripts) ≡ length front.scripts + length back.scripts = length-append front.scripts back.scripts in
    record {
      groups = one.groups ++ two.groups;
      whole = ap₂ (λ (xs ys : List Receipt). xs ++ ys) one.whole two.whole ∙ sym (flat_map-append (λ (list : List Receipt). list) one.groups two.groups);
      worked = AreWorked-append front.first front.scripts back.scripts one.groups two.groups one.worked later;
      all = omega (arith, length-append seats others, many, one.all, two.all);
      shares = omega (arith, sum_by-append share seats others, sum_by-append size front.scripts back.scripts, many, one.shares, two.shares);
      fresh = omega (arith, sum_by-append stands seats others, one.fresh, two.fresh);
    }

one_last : {X : Type 0} (others : List X) (x : X) → length (others ++ x ∷ []) ≡ 1 → others ++ x ∷ [] ≡ x ∷ []
one_last [] x one = refl
one_last (y ∷ ys) x one = absurd (omega (arith, one, length-append ys (x ∷ [])))

one_script : (first : ℕ) (script : List Call) (seat : SeatState) (receipts : List Receipt) → IsWorked first script receipts → seat.share ≡ length script + 2 → seat.before ≡ 0
    → HasWorked (record { first = first; scripts = script ∷ [] }) (seat ∷ []) receipts
one_script first script seat receipts worked share fresh =
    let size : List Call → ℕ = λ s. length s in
    let shares : SeatState → ℕ = λ s. s.share in
    let stands : SeatState → ℕ = λ s. s.before in
    record {
      groups = receipts ∷ [];
      whole = sym (append-nil receipts) ∙ sym (flat_map-cons (λ (list : List Receipt). list) receipts []);
      worked = (worked, tt);
      all = refl;
      shares = sum_by-cons shares seat [] ∙ omega (arith, share, sum_by-cons size script []);
      fresh = sum_by-cons stands seat [] ∙ omega (arith, fresh);
    }

-- so has a crew of one whose worker has: its seat and its script are the last
pub one_has_worked : {V : Type 0} (f : V → List Call) (first : ℕ) (seats rest left : List SeatState) (xs others : List V) (seat seat_after : SeatState) (script : V) (asked : List Call) (receipts : List Receipt)
    → IsCrew first seats (map f xs) → length (map f xs) ≡ 1 → seats ≡ rest ++ seat ∷ [] → xs ≡ others ++ script ∷ [] → left ≡ rest ++ seat_after ∷ [] → asked ≡ f script
    → IsWorked seat.number asked receipts → seat_after.share ≡ seat.share + length asked + 2 → seat_after.before ≡ seat.before → HasWorked (record { first = first; scripts = map f xs }) left receipts
one_has_worked f first seats rest left xs others seat seat_after script asked receipts crew one seats_are xs_are left_is same worked share stands =
    let many : length xs ≡ 1 = sym (length-map xs f) ∙ one in
    let alone : xs ≡ script ∷ [] = xs_are ∙ one_last others script (ap length (sym xs_are) ∙ many) in
    let by_new : seats ≡ new_seat 0 first ∷ [] = crew.new ∙ ap (λ n. seats_from first n) one in
    let by_last : seats ≡ seat ∷ [] = seats_are ∙ one_last rest seat (ap length (sym seats_are) ∙ ap length by_new) in
    let is_new : seat ≡ new_seat 0 first = let both : seat ∷ [] ≡ new_seat 0 first ∷ [] = sym by_last ∙ by_new in cc in
    let front : length (rest ++ seat_after ∷ []) ≡ 1 = length-append rest (seat_after ∷ []) ∙ sym (length-append rest (seat ∷ [])) ∙ ap length (sym seats_are) ∙ ap length by_new in
    let left_alone : left ≡ seat_after ∷ [] = left_is ∙ one_last rest seat_after front in
    let number : seat.number ≡ first = ap (λ (s : SeatState). s.number) is_new ∙ new_seat-number first in
    let unused : seat.share ≡ 0 = ap (λ (s : SeatState). s.share) is_new ∙ new_seat-share first in
    let fresh : seat_after.before ≡ 0 = stands ∙ ap (λ (s : SeatState). s.before) is_new ∙ new_seat-before first in
    let size : length asked ≡ length (f script) = ap length same in
    let W : ℕ → Type 0 = λ n. IsWorked n asked receipts in
    let C : List Call → Type 0 = λ calls. IsWorked first calls receipts in
    let done = one_script first (f script) seat_after receipts (subst C same (subst W number worked)) (omega (arith, share, unused, size)) fresh in
    let P : List (List Call) → Type 0 = λ scripts. HasWorked (record { first = first; scripts = scripts }) (seat_after ∷ []) receipts in
    let Q : List SeatState → Type 0 = λ ss. HasWorked (record { first = first; scripts = map f xs }) ss receipts in
    subst Q (sym left_alone) (subst P (sym (ap (λ ys. map f ys) alone)) done)

-- its seat has room where it was taken from
pub room_again : (len cap old_len old_cap : ℕ) → len + 1 ≡ old_len → old_len ≤ old_cap → cap ≡ old_cap → len < cap
room_again len cap old_len old_cap one within same = omega (arith, one, within, same)

-- if it has not, its worker is the first that was stopped
pub alone_is_stopped : (crew : CrewState) (first : ℕ) (fault : SeatFault) → first ≡ crew.first → length crew.scripts ≡ 1 → RefusesEvent fault → HasNotWorked crew (faults.Worker first fault)
alone_is_stopped crew first fault same one told =
    let here : first ≡ crew.first + 0 = omega (arith, same) in
    (0, here, record { within = omega (arith, one); receipts = []; worked = tt }, told)

-- a crew that has worked has a receipt for each call
pub worked_count : (crew : CrewState) (seats : List SeatState) (receipts : List Receipt) → HasWorked crew seats receipts → length receipts ≡ sum (map length crew.scripts)
worked_count crew seats receipts worked =
    let size : List Receipt → ℕ = λ group. length group in
    ap length worked.whole ∙ length-flat_map (λ (list : List Receipt). list) worked.groups ∙ sym (sum-map size worked.groups) ∙ ap sum (AreWorked-lengths crew.first crew.scripts worked.groups worked.worked)

-- ---- lists that are told apart

-- lists that are as long as others, one by one, and are the same one after the other, are those
pub told_apart : {X : Type 0} → (gs hs : List (List X)) → map length gs ≡ map length hs → joined_up gs ≡ joined_up hs → gs ≡ hs
told_apart [] [] sizes same = refl
told_apart [] (h ∷ hs) sizes same = absurd (let differ = sizes in cc)
told_apart (g ∷ gs) [] sizes same = absurd (let differ = sizes in cc)
told_apart {X} (g ∷ gs) (h ∷ hs) sizes same =
    let size : length g ≡ length h = let it : length g ∷ map length gs ≡ length h ∷ map length hs = sizes in cc in
    let later : map length gs ≡ map length hs = let it : length g ∷ map length gs ≡ length h ∷ map length hs = sizes in cc in
    let whole : g ++ joined_up gs ≡ h ++ joined_up hs = sym (flat_map-cons (λ (list : List X). list) g gs) ∙ same ∙ flat_map-cons (λ (list : List X). list) h hs in
    let first : g ≡ h = sym (take-append_seam g (joined_up gs)) ∙ ap₂ (λ (n : ℕ) (xs : List X). take n xs) size whole ∙ take-append_seam h (joined_up hs) in
    let rest : joined_up gs ≡ joined_up hs = sym (drop-append_seam g (joined_up gs)) ∙ ap₂ (λ (n : ℕ) (xs : List X). drop n xs) size whole ∙ drop-append_seam h (joined_up hs) in
    ap₂ (λ (x : List X) (xs : List (List X)). x ∷ xs) first (told_apart gs hs later rest)

-- the receipts of a crew that has worked, script by script, are those of its workers
pub worked_by_script : (crew : CrewState) (seats : List SeatState) (receipts : List Receipt) (groups : List (List Receipt)) → HasWorked crew seats receipts → map length groups ≡ map length crew.scripts
    → joined_up groups ≡ receipts → AreWorked crew.first crew.scripts groups
worked_by_script crew seats receipts groups worked sizes same =
    let is : worked.groups ≡ groups = told_apart worked.groups groups (AreWorked-lengths crew.first crew.scripts worked.groups worked.worked ∙ sym sizes) (sym worked.whole ∙ sym same) in
    let P : List (List Receipt) → Type 0 = λ gs. AreWorked crew.first crew.scripts gs in
    subst P is worked.worked

-- ---- one turn of a loop

-- one more is pushed for one more of a list
pub one_more_pushed : {X Y : Type 0} (f : X → Y) (ys : List Y) (i : ℕ) (d : Y) (xs after : List X) (x : X) → i < length ys → after ≡ xs ++ x ∷ [] → f x ≡ get_or ys i d → map f xs ≡ take i ys
    → map f after ≡ take (i + 1) ys
one_more_pushed {X} {Y} f ys i d xs after x here pushed same so_far =
    ap (λ (zs : List X). map f zs) pushed ∙ map_push f xs x ∙ ap₂ (λ (zs : List Y) (z : Y). zs ++ z ∷ []) so_far same ∙ sym (take_more ys i d here)

-- so is what is made of it
pub one_more_mapped : {X Y : Type 0} (f : X → Y) (xs : List X) (i : ℕ) (x : X) (y : Y) (ys after : List Y) → i < length xs → x ≡ get_or xs i x → y ≡ f x → after ≡ ys ++ y ∷ [] → ys ≡ map f (take i xs)
    → after ≡ map f (take (i + 1) xs)
one_more_mapped {X} {Y} f xs i x y ys after here is same pushed so_far =
    pushed ∙ ap₂ (λ (zs : List Y) (z : Y). zs ++ z ∷ []) so_far (same ∙ ap f is) ∙ sym (map_more f xs i x here)

-- what holds of all that were pushed holds of one more
pub one_more_has : {X : Type 0} (P : X → Type 0) (xs after : List X) (x : X) → after ≡ xs ++ x ∷ [] → All P xs → P x → All P after
one_more_has {X} P xs after x pushed all one =
    let Q : List X → Type 0 = λ zs. All P zs in
    subst Q (sym pushed) (All-push P xs x all one)

-- receipts of which a group is taken are the same, the others after it
pub one_group_more : {W : Type 0} (f : W → List Receipt) (groups after : List W) (group : W) (rest others : List Receipt) (n : ℕ) → after ≡ groups ++ group ∷ [] → f group ≡ take n rest → others ≡ drop n rest
    → flat_map f after ++ others ≡ flat_map f groups ++ rest
one_group_more {W} f groups after group rest others n pushed front back =
    let one : flat_map f (group ∷ []) ≡ take n rest = flat_map-cons f group [] ∙ append-nil (f group) ∙ front in
    let so_far : List Receipt = flat_map f groups in
    let grown : flat_map f after ≡ so_far ++ take n rest = ap (λ (ws : List W). flat_map f ws) pushed ∙ flat_map-append f groups (group ∷ []) ∙ ap (λ (rs : List Receipt). so_far ++ rs) one in
    ap₂ (λ (rs os : List Receipt). rs ++ os) grown back ∙ append_assoc so_far (take n rest) (drop n rest) ∙ ap (λ (rs : List Receipt). so_far ++ rs) (take-append-drop n rest)

-- where nothing is left, all are there
pub nothing_left : (front rest all : List Receipt) → length rest ≡ 0 → front ++ rest ≡ all → front ≡ all
nothing_left front [] all none same = sym (append-nil front) ∙ same
nothing_left front (r ∷ rest) all none same = absurd (omega (arith, none))

-- ---- one worker

pub made_number : (index : ℕ) (old new : SeatState) → HasMade index old new → new.number ≡ old.number
made_number index old new made = ap (λ s. s.number) made.counted

pub made_share : (index : ℕ) (old new : SeatState) → HasMade index old new → new.share ≡ old.share + 1
made_share index old new made = ap (λ s. s.share) made.counted

pub made_before : (index : ℕ) (old new : SeatState) → HasMade index old new → new.before ≡ old.before
made_before index old new made = ap (λ s. s.before) made.counted

-- ---- what came of halves

take-append-more : {X : Type 0} (xs ys : List X) (k : ℕ) → take (length xs + k) (xs ++ ys) ≡ xs ++ take k ys
take-append-more [] ys k =
    let none : 0 + k ≡ k = omega arith in
    ap (λ n. take n ys) none
take-append-more (x ∷ xs) ys k =
    let one : length (x ∷ xs) + k ≡ suc (length xs + k) = omega arith in
    ap (λ n. take n (x ∷ (xs ++ ys))) one ∙ ap (λ zs. x ∷ zs) (take-append-more xs ys k)

-- the first that was stopped of the first half is that of both
front_is_stopped : (front back : CrewState) (place : ℕ) → IsStopped front.first front.scripts place → IsStopped front.first (front.scripts ++ back.scripts) place
front_is_stopped front back place stopped =
    let same : take place (front.scripts ++ back.scripts) ≡ take place front.scripts = take-append-le place front.scripts back.scripts (omega (arith, stopped.within)) in
    let P : List (List Call) → Type 0 = λ ss. AreWorked front.first ss stopped.receipts in
    record { within = omega (arith, stopped.within, length-append front.scripts back.scripts); receipts = stopped.receipts; worked = subst P (sym same) stopped.worked }

-- so is that of the second half, if the first has worked
back_is_stopped : (front back : CrewState) (place : ℕ) (seats : List SeatState) (receipts : List Receipt) → AreHalves front back → HasWorked front seats receipts → IsStopped back.first back.scripts place
    → IsStopped front.first (front.scripts ++ back.scripts) (length front.scripts + place)
back_is_stopped front back place seats receipts halves worked stopped =
    let parts : take (length front.scripts + place) (front.scripts ++ back.scripts) ≡ front.scripts ++ take place back.scripts = take-append-more front.scripts back.scripts place in
    let P : ℕ → Type 0 = λ n. AreWorked n (take place back.scripts) stopped.receipts in
    let later : AreWorked (front.first + length front.scripts) (take place back.scripts) stopped.receipts = subst P halves.next stopped.worked in
    let Q : List (List Call) → Type 0 = λ ss. AreWorked front.first ss (worked.groups ++ stopped.receipts) in
    record {
      within = omega (arith, stopped.within, length-append front.scripts back.scripts);
      receipts = worked.groups ++ stopped.receipts;
      worked = subst Q (sym parts) (AreWorked-append front.first front.scripts (take place back.scripts) worked.groups stopped.receipts worked.worked later);
    }

-- a fault of the first half is one of the whole
front_has_not_worked : (front back : CrewState) (fault : RunFault) → AreHalves front back → HasNotWorked front fault → HasNotWorked (joined front back) fault
front_has_not_worked front back faults.Count halves refused = refused
front_has_not_worked front back faults.Memory halves refused = tt
front_has_not_worked front back (faults.Worker at why) halves refused = (refused.0, refused.1, front_is_stopped front back refused.0 refused.2, refused.3)
front_has_not_worked front back (faults.Close why) halves refused = refused
front_has_not_worked front back (faults.Skipped count) halves refused = refused
front_has_not_worked front back faults.Thread halves refused = tt

-- a fault of the second half is one of the whole if the first half has worked
back_has_not_worked : (front back : CrewState) (seats : List SeatState) (receipts : List Receipt) (fault : RunFault) → AreHalves front back → HasWorked front seats receipts → HasNotWorked back fault
    → HasNotWorked (joined front back) fault
back_has_not_worked front back seats receipts faults.Count halves worked refused = refused
back_has_not_worked front back seats receipts faults.Memory halves worked refused = tt
back_has_not_worked front back seats receipts (faults.Worker at why) halves worked refused =
    let here : at ≡ front.first + (length front.scripts + refused.0) = omega (arith, refused.1, halves.next) in
    (length front.scripts + refused.0, here, back_is_stopped front back refused.0 seats receipts halves worked refused.2, refused.3)
back_has_not_worked front back seats receipts (faults.Close why) halves worked refused = refused
back_has_not_worked front back seats receipts (faults.Skipped count) halves worked refused = refused
back_has_not_worked front back seats receipts faults.Thread halves worked refused = tt

first_of_both : (front back : CrewState) (one other : RunFault) → AreHalves front back → HasNotWorked front one → HasNotWorked back other → HasNotWorked (joined front back) (first_of one other)
first_of_both front back one faults.Count halves refused nor = front_has_not_worked front back one halves refused
first_of_both front back one faults.Memory halves refused nor = front_has_not_worked front back one halves refused
first_of_both front back one (faults.Worker at why) halves refused nor = front_has_not_worked front back one halves refused
first_of_both front back one (faults.Close why) halves refused nor = front_has_not_worked front back one halves refused
first_of_both front back one (faults.Skipped count) halves refused nor = front_has_not_worked front back one halves refused
first_of_both front back one faults.Thread halves refused nor = tt

-- a crew has worked or not, by its halves
pub halves_together : {X : Type 0} (seats : X → List SeatState) (receipts : X → List Receipt) (front back : CrewState) (a b c : Result X RunFault) → AreHalves front back
    → MatchResult a (λ x. HasWorked front (seats x) (receipts x)) (λ e. HasNotWorked front e) → MatchResult b (λ x. HasWorked back (seats x) (receipts x)) (λ e. HasNotWorked back e)
    → AreTogether seats receipts a b c → MatchResult c (λ x. HasWorked (joined front back) (seats x) (receipts x)) (λ e. HasNotWorked (joined front back) e)
halves_together seats receipts front back (Ok one) (Ok two) (Ok all) halves p q is =
    let P : List SeatState → Type 0 = λ ss. HasWorked (joined front back) ss (receipts all) in
    let Q : List Receipt → Type 0 = λ rs. HasWorked (joined front back) (seats one ++ seats two) rs in
    subst P (sym is.0) (subst Q (sym is.1) (halves_have_worked front back (seats one) (seats two) (receipts one) (receipts two) halves p q))
halves_together seats receipts front back (Ok one) (Ok two) (Err fault) halves p q is =
    let P : RunFault → Type 0 = λ e. HasNotWorked (joined front back) e in
    subst P (sym is) tt
halves_together seats receipts front back (Ok one) (Err other) (Ok all) halves p q is = absurd is
halves_together seats receipts front back (Ok one) (Err other) (Err fault) halves p q is =
    let P : RunFault → Type 0 = λ e. HasNotWorked (joined front back) e in
    subst P (sym is) (back_has_not_worked front back (seats one) (receipts one) other halves p q)
halves_together seats receipts front back (Err other) (Ok two) (Ok all) halves p q is = absurd is
halves_together seats receipts front back (Err other) (Ok two) (Err fault) halves p q is =
    let P : RunFault → Type 0 = λ e. HasNotWorked (joined front back) e in
    subst P (sym is) (front_has_not_worked front back other halves p)
halves_together seats receipts front back (Err one) (Err other) (Ok all) halves p q is = absurd is
halves_together seats receipts front back (Err one) (Err other) (Err fault) halves p q is =
    let P : RunFault → Type 0 = λ e. HasNotWorked (joined front back) e in
    subst P (sym is) (first_of_both front back one other halves p q)

-- ---- the run

-- a fault of a crew that was begun is not one of its count
pub Memory≢Count : faults.Memory ≢ faults.Count
Memory≢Count is = cc

pub Close≢Count : (why : CloseFault) → faults.Close why ≢ faults.Count
Close≢Count why is = cc

pub Skipped≢Count : (count : ℕ) → faults.Skipped count ≢ faults.Count
Skipped≢Count count is = cc

sizes_of_all : {V X : Type 0} (f : V → List X) (xs : List V) → map length (map f xs) ≡ map (λ x. length (f x)) xs
sizes_of_all f [] = refl
sizes_of_all f (x ∷ xs) = ap (λ (ns : List ℕ). length (f x) ∷ ns) (sizes_of_all f xs)

-- the receipts of a crew that has worked are as many as its calls
pub receipts_by_sizes : {V : Type 0} (f : V → List Call) (crew : CrewState) (scripts : List V) (sizes : List ℕ) (seats : List SeatState) (receipts : List Receipt)
    → HasWorked crew seats receipts → crew.scripts ≡ map f scripts → sizes ≡ map (λ s. length (f s)) scripts → length receipts ≡ sum sizes
receipts_by_sizes f crew scripts sizes seats receipts worked told same =
    worked_count crew seats receipts worked ∙ ap (λ (ss : List (List Call)). sum (map length ss)) told ∙ ap sum (sizes_of_all f scripts ∙ sym same)

-- a crew has as many scripts as it was made of
pub crew_of_scripts : {V : Type 0} (f : V → List Call) (crew : CrewState) (scripts : List V) (n : ℕ) → crew.scripts ≡ map f scripts → length scripts ≡ n → length crew.scripts ≡ n
crew_of_scripts f crew scripts n are many = ap length are ∙ length-map scripts f ∙ many

-- a crew that has not worked has not run
pub crew_has_not_run : (scripts : List (List Call)) (crew : CrewState) (fault : RunFault) → crew.first ≡ 0 → crew.scripts ≡ scripts → HasNotWorked crew fault → HasNotRun scripts fault × (fault ≢ faults.Count)
crew_has_not_run scripts crew faults.Count first told refused = absurd refused
crew_has_not_run scripts crew faults.Memory first told refused = (tt, λ is. let it = is in cc)
crew_has_not_run scripts crew (faults.Worker at why) first told refused =
    let here : refused.0 ≡ at = omega (arith, refused.1, first) in
    let P : ℕ → Type 0 = λ n. IsStopped n crew.scripts refused.0 in
    let Q : List (List Call) → Type 0 = λ ss. IsStopped 0 ss refused.0 in
    let R : ℕ → Type 0 = λ n. IsStopped 0 scripts n in
    let stopped : IsStopped 0 scripts at = subst R here (subst Q told (subst P first refused.2)) in
    ((stopped.within, refused.3), λ is. let it = is in cc)
crew_has_not_run scripts crew (faults.Close why) first told refused = absurd refused
crew_has_not_run scripts crew (faults.Skipped count) first told refused = absurd refused
crew_has_not_run scripts crew faults.Thread first told refused = (tt, λ is. let it = is in cc)

-- of a list of which nothing is counted, each has not what is counted
none_counted : {X : Type 0} (p : X → Bool) (xs : List X) (at : ℕ) → count_by p xs ≡ 0 → IfSome (slice_get xs at) (λ x. p x ≡ false)
none_counted p [] at none = tt
none_counted p (x ∷ xs) zero none = not_one (p x) (count_by p xs) (sym (sum_by-cons (λ y. cond (p y) 1 0) x xs) ∙ none)
  where
    not_one : (b : Bool) (n : ℕ) → cond b 1 0 + n ≡ 0 → b ≡ false
    not_one true n is = absurd (omega (arith, is))
    not_one false n is = refl
none_counted p (x ∷ xs) (suc at) none =
    let all : cond (p x) 1 0 + count_by p xs ≡ 0 = sym (sum_by-cons (λ y. cond (p y) 1 0) x xs) ∙ none in
    none_counted p xs at (omega (arith, all))

-- receipts that agree, of which none is skipped, are compared
compared_if_none_skipped : (book : BookState) (receipts : List Receipt) (letters : List Letter) → Agrees book receipts letters → count_skipped book.base receipts letters ≡ 0 → AreCompared book receipts
compared_if_none_skipped book receipts letters agrees none at within =
    let skips : Receipt → Bool = λ receipt. is_skipped book.base receipt.index in
    one (slice_get receipts at) (agrees.good at within) (none_counted skips receipts at (omega (arith, none)))
  where
    one : (found : Option Receipt) → IfSome found (λ receipt. MayFollow book (take at receipts) receipt × MayMatch book receipt) → IfSome found (λ receipt. is_skipped book.base receipt.index ≡ false)
        → IfSome found (λ receipt. Follows book (take at receipts) receipt × Matches book receipt)
    one None may kept = tt
    one (Some receipt) may kept = (may.0 kept, may.1 kept)

-- a closed run of a crew that has worked, with its receipts script by script
pub whole_run : {V W : Type 0} (f : V → List Call) (h : W → List Receipt) (crew : CrewState) (scripts : List V) (sizes : List ℕ) (groups : List W) (seats : List SeatState) (receipts handed_in : List Receipt)
    (book : BookState) (acts skipped : ℕ) → HasWorked crew seats receipts → crew.first ≡ 0 → crew.scripts ≡ map f scripts → sizes ≡ map (λ s. length (f s)) scripts → map (λ g. length (h g)) groups ≡ sizes
    → flat_map (λ g. h g) groups ≡ receipts → handed_in ≡ receipts → IsClosed (count_before seats) handed_in [] book acts skipped → skipped ≡ 0 → acts ≡ count_made seats → HasRun (map f scripts) (map h groups) book acts skipped
whole_run f h crew scripts sizes groups seats receipts handed_in book acts skipped worked first told sizes_are grouped same handed closed none total =
    let lengths : map length (map h groups) ≡ map length crew.scripts = sizes_of_all h groups ∙ grouped ∙ sizes_are ∙ sym (sizes_of_all f scripts) ∙ ap (λ (ss : List (List Call)). map length ss) (sym told) in
    let flat : joined_up (map h groups) ≡ receipts = flat_map-map (λ (list : List Receipt). list) h groups ∙ same in
    let P : List Receipt → Type 0 = λ rs. IsClosed 0 rs [] book acts skipped in
    let N : ℕ → Type 0 = λ n. IsClosed n handed_in [] book acts skipped in
    let Q : ℕ → Type 0 = λ n. AreWorked n crew.scripts (map h groups) in
    let R : List (List Call) → Type 0 = λ ss. AreWorked 0 ss (map h groups) in
    let many : count_calls crew.scripts + 2 * length crew.scripts ≡ count_calls (map f scripts) + 2 * length (map f scripts) = ap (λ (ss : List (List Call)). count_calls ss + 2 * length ss) told in
    let whole : IsClosed 0 (joined_up (map h groups)) [] book acts skipped = subst P (handed ∙ sym flat) (subst N worked.fresh closed) in
    record {
      worked = subst R told (subst Q first (worked_by_script crew seats receipts (map h groups) worked lengths flat));
      counted = total ∙ worked.shares ∙ many;
      closed = whole;
      compared = compared_if_none_skipped book (joined_up (map h groups)) [] whole.agrees (sym whole.left_out ∙ none);
    }
