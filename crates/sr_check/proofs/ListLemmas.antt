-- An array whose items are known, read item by item.
use Rattle.std.proofs.Common.{◌≡◌, ℕ, ◌+◌, ◌^◌, ◌<◌, ◌≤◌, Bool, true, false, cond, List, [], ◌∷◌, ◌++◌, length, get_or}
use Rattle.std.proofs.Common.{map, drop, refl, sym, ap, ◌∙◌, subst, arith}
use Rattle.std.specs.Prelude.{◌↔◌}
use Rattle.std.specs.List.{All, flat_map}
use Rattle.std.proofs.lemmas.List.{drop_all, drop_more, length-map}
use Rattle.sr_transport.specs.{Tiered}
use Rattle.sr_transport.specs.Certificate.{is_reached}
use Rattle.sr_policy.specs.declared.live.Live.{Live}
use Rattle.sr_policy.specs.Bounds.{most_limit}
use Rattle.sr_policy.specs.{problem_of, room_at, Text, SnapshotState}
use Rattle.sr_resp.specs.{ReplyParts, array_header, array_of, reply_text}
use Rattle.sr_check.specs.PlanReply.{reached_from, share_answer}
use Rattle.sr_check.specs.steps.Read.{Begins}
use Rattle.sr_check.proofs.BeginsLemmas.{Begins-append, Begins-rest, Begins-front, Begins-none}

-- items one after another
abbrev pub flat : List ReplyParts → ReplyParts
flat items = flat_map (λ item. item) items

-- what comes after all items is what comes after those that are left
pub record AreLeft (all : List ReplyParts) (start : List ℕ) (items : List ReplyParts) (left : List ℕ) : Type 0 where
  pub same : (after : List ℕ) → Begins left (flat items) after ↔ Begins start (flat all) after

pub AreLeft-start : (all : List ReplyParts) (start : List ℕ) → AreLeft all start all start
AreLeft-start all start = record { same = λ after. (λ is. is, λ is. is) }

-- an item is read
pub AreLeft-more : (all items : List ReplyParts) (start left next : List ℕ) (item : ReplyParts)
    → AreLeft all start (item ∷ items) left → Begins left item next → AreLeft all start items next
AreLeft-more all items start left next item are first = record {
  same = λ after. (
    λ is. (are.same after).0 (Begins-append left next after item (flat items) first is),
    λ is. Begins-rest left next after item (flat items) first ((are.same after).1 is),
  );
}

-- an item is not there
pub AreLeft-stuck : (all items : List ReplyParts) (start left after : List ℕ) (item : ReplyParts)
    → AreLeft all start (item ∷ items) left → ((others : List ℕ) → Begins left item others → ⊥)
    → Begins start (flat all) after → ⊥
AreLeft-stuck all items start left after item are none is = none _ (Begins-front left after item (flat items) ((are.same
    after).1 is))

-- no item is left
pub AreLeft-all : (all : List ReplyParts) (start left : List ℕ) → AreLeft all start [] left → Begins start (flat all) left
AreLeft-all all start left are = (are.same left).0 (Begins-none left left refl)

pub AreLeft-same : (all items others : List ReplyParts) (start left : List ℕ) → items ≡ others
    → AreLeft all start items left
    → AreLeft all start others left
AreLeft-same all items others start left e are = subst (λ l. AreLeft all start l left) e are

-- the array begins with its header
pub array-begins : (items : List ReplyParts) (n : ℕ) (text start after : List ℕ) → n ≡ length items
    → Begins text (array_header n) start → Begins start (flat items) after → Begins text (array_of items) after
array-begins items n text start after counted header is =
    let first : Begins text (array_header (length items)) start =
    subst (λ k. Begins text (array_header k) start) counted header in
    Begins-append text start after (array_header (length items)) (flat items) first is

pub array-items : (items : List ReplyParts) (n : ℕ) (text start after : List ℕ) → n ≡ length items
    → Begins text (array_header n) start → Begins text (array_of items) after → Begins start (flat items) after
array-items items n text start after counted header is =
    let first : Begins text (array_header (length items)) start =
    subst (λ k. Begins text (array_header k) start) counted header in
    Begins-rest text start after (array_header (length items)) (flat items) first is

pub no_array : (items : List ReplyParts) (n : ℕ) (text after : List ℕ) → n ≡ length items → ((start : List ℕ)
    → Begins text (array_header n) start → ⊥) → Begins text (array_of items) after → ⊥
no_array items n text after counted none is =
    let front = Begins-front text after (array_header (length items)) (flat items) is in
    none (reply_text (flat items) ++ after)
    (subst (λ k. Begins text (array_header k) (reply_text (flat items) ++ after)) (sym counted) front)

-- ---- a list of answers

pub next_of : {X : Type 0} (f : X → ReplyParts) (xs : List X) (i : ℕ) (x : X) → i < length xs → x ≡ get_or xs i x
    → map f (drop i xs) ≡ f x ∷ map f (drop (i + 1) xs)
next_of f xs i x lt is =
    let e = drop_more xs i x lt ∙ ap (λ y. y ∷ drop (i + 1) xs) (sym is) in
    ap (map f) e

pub none_of : {X : Type 0} (f : X → ReplyParts) (xs : List X) (i : ℕ) → length xs ≤ i → map f (drop i xs) ≡ []
none_of f xs i past = ap (map f) (drop_all i xs past)

pub count_of : {X : Type 0} (f : X → ReplyParts) (xs : List X) → length xs ≡ length (map f xs)
count_of f xs = sym (length-map xs f)

-- ---- the rooms of the consumers that are reached

abbrev pub rooms_from : Tiered → List ℕ → ℕ → List Live → List ReplyParts
rooms_from p set n live = map share_answer (reached_from p set n (drop n live))

next_consumer : (live : List Live) (n : ℕ) (consumer : Live) → n < length live → consumer ≡ get_or live n consumer
    → drop n live ≡ consumer ∷ drop (n + 1) live
next_consumer live n consumer lt is =
    drop_more live n consumer lt ∙ ap (λ (first : Live). first ∷ drop (n + 1) live) (sym is)

pub reached_next : (p : Tiered) (set : List ℕ) (n : ℕ) (live : List Live) (consumer : Live) → n < length live
    → consumer ≡ get_or live n consumer → is_reached p set n ≡ true
    → reached_from p set n (drop n live)
    ≡ (consumer.name, room_at consumer) ∷ reached_from p set (n + 1) (drop (n + 1) live)
reached_next p set n live consumer lt is reached =
    let more : Bool → List (Text × ℕ) =
    λ yes. cond yes ((consumer.name, room_at consumer) ∷ []) [] ++ reached_from p set (n + 1) (drop (n + 1) live) in
    ap (reached_from p set n) (next_consumer live n consumer lt is) ∙ ap more reached

pub unreached_next : (p : Tiered) (set : List ℕ) (n : ℕ) (live : List Live) (consumer : Live) → n < length live
    → consumer ≡ get_or live n consumer → is_reached p set n ≡ false
    → reached_from p set n (drop n live) ≡ reached_from p set (n + 1) (drop (n + 1) live)
unreached_next p set n live consumer lt is unreached =
    let more : Bool → List (Text × ℕ) =
    λ yes. cond yes ((consumer.name, room_at consumer) ∷ []) [] ++ reached_from p set (n + 1) (drop (n + 1) live) in
    ap (reached_from p set n) (next_consumer live n consumer lt is) ∙ ap more unreached

pub reached_none : (p : Tiered) (set : List ℕ) (n : ℕ) (live : List Live) → length live ≤ n
    → reached_from p set n (drop n live) ≡ []
reached_none p set n live past = ap (reached_from p set n) (drop_all n live past)

-- a problem has the live consumers, and the room of each is small
pub one_room : (shown : SnapshotState) (p : Tiered) (live : List Live) → p ≡ problem_of shown → live ≡ shown.live
    → length live ≡ p.takers
one_room shown p live posed same =
    ap length same ∙ sym (ap (λ (q : Tiered). q.takers) posed)

pub room_fits : (shown live : List Live) (n : ℕ) (consumer : Live) (room : ℕ) → live ≡ shown → n < length live
    → consumer ≡ get_or live n consumer → All (λ c. c.limit ≤ most_limit) shown → room ≡ room_at consumer
    → room < 2 ^ 63
room_fits shown live n consumer room same lt is all roomy =
    let here = subst (λ (l : List Live). All (λ c. c.limit ≤ most_limit) l) (sym same) all in
    let small = subst (λ (c : Live). c.limit ≤ most_limit) (sym is) (here n consumer lt) in
    omega (arith, small, roomy)

-- how many are reached, counted one by one
pub counted_next : (p : Tiered) (set : List ℕ) (n count : ℕ) (live : List Live) (consumer : Live)
    (all : List (Text × ℕ))
    → n < length live → consumer ≡ get_or live n consumer → is_reached p set n ≡ true
    → count + length (reached_from p set n (drop n live)) ≡ length all
    → count + 1 + length (reached_from p set (n + 1) (drop (n + 1) live)) ≡ length all
counted_next p set n count live consumer all lt is reached sum =
    let e = ap length (reached_next p set n live consumer lt is reached) in
    omega (arith, e, sum)

pub passed_next : (p : Tiered) (set : List ℕ) (n count : ℕ) (live : List Live) (consumer : Live) (all : List (Text × ℕ))
    → n < length live → consumer ≡ get_or live n consumer → is_reached p set n ≡ false
    → count + length (reached_from p set n (drop n live)) ≡ length all
    → count + length (reached_from p set (n + 1) (drop (n + 1) live)) ≡ length all
passed_next p set n count live consumer all lt is unreached sum =
    let e = ap length (unreached_next p set n live consumer lt is unreached) in
    omega (arith, e, sum)

pub room_read : (p : Tiered) (set : List ℕ) (n : ℕ) (live : List Live) (consumer : Live) (all : List ReplyParts) (start left
    next : List ℕ) → n < length live → consumer ≡ get_or live n consumer → is_reached p set n ≡ true
    → AreLeft all start (rooms_from p set n live) left
    → Begins left (share_answer (consumer.name, room_at consumer)) next
    → AreLeft all start (rooms_from p set (n + 1) live) next
room_read p set n live consumer all start left next lt is reached are first =
    let e = ap (map share_answer) (reached_next p set n live consumer lt is reached) in
    AreLeft-more all (rooms_from p set (n + 1) live) start left next (share_answer (consumer.name, room_at consumer))
    (subst (λ l. AreLeft all start l left) e are) first

pub room_stuck : (p : Tiered) (set : List ℕ) (n : ℕ) (live : List Live) (consumer : Live) (all : List ReplyParts)
    (start left after : List ℕ) → n < length live → consumer ≡ get_or live n consumer → is_reached p set n ≡ true
    → AreLeft all start (rooms_from p set n live) left → ((others : List ℕ)
    → Begins left (share_answer (consumer.name, room_at consumer)) others → ⊥) → Begins start (flat all) after → ⊥
room_stuck p set n live consumer all start left after lt is reached are none begins =
    let e = ap (map share_answer) (reached_next p set n live consumer lt is reached) in
    AreLeft-stuck all (rooms_from p set (n + 1) live) start left after (share_answer (consumer.name, room_at consumer))
    (subst (λ l. AreLeft all start l left) e are) none begins

pub room_passed : (p : Tiered) (set : List ℕ) (n : ℕ) (live : List Live) (consumer : Live) (all : List ReplyParts)
    (start left : List ℕ) → n < length live → consumer ≡ get_or live n consumer → is_reached p set n ≡ false
    → AreLeft all start (rooms_from p set n live) left → AreLeft all start (rooms_from p set (n + 1) live) left
room_passed p set n live consumer all start left lt is unreached are =
    AreLeft-same all (rooms_from p set n live) (rooms_from p set (n + 1) live) start left (ap (map share_answer)
    (unreached_next p set n live consumer lt is unreached)) are

pub rooms_read : (p : Tiered) (set : List ℕ) (n : ℕ) (live : List Live) (all : List ReplyParts) (start left : List ℕ)
    → length live ≤ n → AreLeft all start (rooms_from p set n live) left → Begins start (flat all) left
rooms_read p set n live all start left past are =
    AreLeft-all all start left (AreLeft-same all (rooms_from p set n live) [] start left
    (ap (map share_answer) (reached_none p set n live past)) are)
