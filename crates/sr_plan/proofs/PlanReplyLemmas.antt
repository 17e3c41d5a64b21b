-- The reply of a verdict, part by part.
use Rattle.std.proofs.Common.{◌≡◌, ℕ, ◌+◌, ◌<◌, ◌≤◌, suc, Bool, true, false, cond, pos, codes, List, [], ◌∷◌, ◌++◌}
use Rattle.std.proofs.Common.{length, map, drop, get_or, refl, ap, append_assoc, sym, ◌∙◌, subst, arith}
use Rattle.std.specs.List.{AllByRecursion, flat_map}
use Rattle.std.proofs.lemmas.List.{drop_all, length-map}
use Rattle.std.proofs.lemmas.Simd.{map-map}
use Rattle.std.proofs.Math.Seq.{drop-cons}
use Rattle.sr_ids.specs.declared.id.Id.{Id}
use Rattle.sr_resp.specs.{ReplyParts, array_header, array_of, bulk_string, integer}
use Rattle.sr_resp.specs.Reply.{Part, IsReply}
use Rattle.sr_resp.proofs.CallerLemmas.{IsReply-array_of, IsReply-array_of_map}
use Rattle.sr_transport.specs.{Tiered}
use Rattle.sr_transport.specs.Certificate.{is_reached, places_of}
use Rattle.sr_policy.specs.declared.live.Live.{Live}
use Rattle.sr_policy.specs.{problem_of, room_at, Text, SnapshotState}
use Rattle.sr_plan.specs.Verdict.{best, id_at, moves_of, prices_by, short}
use Rattle.sr_check.specs.{id_answer, move_answer, price_answer, share_answer, plan_word, reached_from}
use Rattle.sr_check.specs.{verdict_answer}
use Rattle.sr_plan.proofs.ArrayLemmas.{map-written, HasLeft, left-after, left-none}

-- each item of a verdict's arrays is a reply
pub IsReply-moves : (moves : List (Id × Text)) → IsReply (array_of (map move_answer moves))
IsReply-moves moves = IsReply-array_of_map move_answer moves
    (λ move. IsReply-array_of (id_answer move.0 ∷ bulk_string move.1 ∷ []) (refl, (refl, tt)))

pub IsReply-ids : (ids : List Id) → IsReply (array_of (map id_answer ids))
IsReply-ids ids = IsReply-array_of_map id_answer ids (λ id. refl)

pub IsReply-gone : (gone : List (Id × Text)) → IsReply (array_of (map (λ (pair : Id × Text). id_answer pair.0) gone))
IsReply-gone gone = IsReply-array_of_map (λ (pair : Id × Text). id_answer pair.0) gone (λ pair. refl)

-- each item is a reply, if each is an integer
integers_are_replies : (ns : List ℕ) → AllByRecursion IsReply (map (λ (n : ℕ). integer (pos n)) ns)
integers_are_replies [] = tt
integers_are_replies (n ∷ ns) = (refl, integers_are_replies ns)

pub IsReply-prices : (prices : List (Text × List ℕ)) → IsReply (array_of (map price_answer prices))
IsReply-prices prices =
    IsReply-array_of_map price_answer prices (λ own.
    IsReply-array_of (bulk_string own.0 ∷ map (λ (n : ℕ). integer (pos n)) own.1) (refl, integers_are_replies own.1))

-- past the last of a list, the draft is the array of all of it
pub list-written : {X : Type 0} (f : X → ReplyParts) (xs : List X) (i : ℕ) (draft : List Part) → length xs ≤ i
    → draft ++ flat_map f (drop i xs) ≡ array_header (length xs) ++ flat_map f xs → draft ≡ array_of (map f xs)
list-written f xs i draft past e = map-written f xs (drop i xs) draft (drop_all i xs past) e

-- a consumer's name and its prices are written one after another
pub price-written : (name : Text) (own : List ℕ)
    → array_header (length own + 1) ++ bulk_string name ++ flat_map (λ (n : ℕ). integer (pos n)) own
    ≡ price_answer (name, own)
price-written name own =
    let items : List ReplyParts = map (λ (n : ℕ). integer (pos n)) own in
    let count : length own + 1 ≡ length (bulk_string name ∷ items) =
    omega (arith, length-map own (λ (n : ℕ). integer (pos n))) in
    ap (λ (n : ℕ). array_header n ++ bulk_string name ++ flat_map (λ (n : ℕ). integer (pos n)) own) count
    ∙ ap (λ (parts : List Part). array_header (length (bulk_string name ∷ items)) ++ bulk_string name ++ parts)
    (flattened own)
  where
    flattened : (ns : List ℕ) → flat_map (λ (n : ℕ). integer (pos n)) ns
        ≡ flat_map (λ (item : ReplyParts). item) (map (λ (n : ℕ). integer (pos n)) ns)
    flattened [] = refl
    flattened (n ∷ ns) = ap (λ (parts : List Part). integer (pos n) ++ parts) (flattened ns)

-- one consumer more is written
pub prices-more : (left rest : List (Text × List ℕ)) (name : Text) (own : List ℕ)
    (draft headed named now all : List Part)
    → left ≡ (name, own) ∷ rest → draft ++ flat_map price_answer left ≡ all
    → headed ≡ draft ++ array_header (length own + 1)
    → named ≡ headed ++ bulk_string name → now ≡ named ++ flat_map (λ (n : ℕ). integer (pos n)) own
    → now ++ flat_map price_answer rest ≡ all
prices-more left rest name own draft headed named now all first before a b d =
    let numbers : List Part = flat_map (λ (n : ℕ). integer (pos n)) own in
    let whole : now ≡ draft ++ price_answer (name, own) =
    d ∙ ap (λ (l : List Part). l ++ numbers) (b ∙ ap (λ (l : List Part). l ++ bulk_string name) a)
    ∙ append_assoc (draft ++ array_header (length own + 1)) (bulk_string name) numbers
    ∙ append_assoc draft (array_header (length own + 1)) (bulk_string name ++ numbers)
    ∙ ap (λ (l : List Part). draft ++ l) (price-written name own) in
    ap (λ (l : List Part). l ++ flat_map price_answer rest) whole
    ∙ append_assoc draft (price_answer (name, own)) (flat_map price_answer rest)
    ∙ ap (λ (l : List (Text × List ℕ)). draft ++ flat_map price_answer l) (sym first) ∙ before

-- the next consumer
next_consumer : (live : List Live) (n : ℕ) (consumer : Live) → n < length live → consumer ≡ get_or live n consumer
    → drop n live ≡ consumer ∷ drop (n + 1) live
next_consumer live n consumer lt is =
    let next : n + 1 ≡ suc n = omega arith in
    drop-cons live n consumer lt ∙ ap (λ (first : Live). first ∷ drop (suc n) live) (sym is)
    ∙ ap (λ (k : ℕ). consumer ∷ drop k live) (sym next)

reached_first : (p : Tiered) (set : List ℕ) (n : ℕ) (consumer : Live) (rest : List Live) → is_reached p set n ≡ true
    → map share_answer (reached_from p set n (consumer ∷ rest))
    ≡ share_answer (consumer.name, room_at consumer) ∷ map share_answer (reached_from p set (n + 1) rest)
reached_first p set n consumer rest reached =
    let more : Bool → List (Text × ℕ) =
    λ is. cond is ((consumer.name, room_at consumer) ∷ []) [] ++ reached_from p set (n + 1) rest in
    ap (λ (is : Bool). map share_answer (more is)) reached

unreached_first : (p : Tiered) (set : List ℕ) (n : ℕ) (consumer : Live) (rest : List Live) → is_reached p set n ≡ false
    → map share_answer (reached_from p set n (consumer ∷ rest)) ≡ map share_answer (reached_from p set (n + 1) rest)
unreached_first p set n consumer rest unreached =
    let more : Bool → List (Text × ℕ) =
    λ is. cond is ((consumer.name, room_at consumer) ∷ []) [] ++ reached_from p set (n + 1) rest in
    ap (λ (is : Bool). map share_answer (more is)) unreached

-- a reached consumer is added with its room, and another is passed over
pub room_added : (p : Tiered) (set : List ℕ) (n room : ℕ) (live : List Live) (consumer : Live) (reply now item : ReplyParts)
    (all : List ReplyParts)
    → n < length live → consumer ≡ get_or live n consumer → is_reached p set n ≡ true → room ≡ room_at consumer
    → item ≡ share_answer (consumer.name, room)
    → HasLeft reply (map share_answer (reached_from p set n (drop n live))) all
    → ((items : List ReplyParts) → reply ≡ array_of items → now ≡ array_of (items ++ item ∷ []))
    → HasLeft now (map share_answer (reached_from p set (n + 1) (drop (n + 1) live))) all
room_added p set n room live consumer reply now item all lt is reached roomy itemized has added =
    let left : List ReplyParts = map share_answer (reached_from p set (n + 1) (drop (n + 1) live)) in
    let one : item ≡ share_answer (consumer.name, room_at consumer) =
    itemized ∙ ap (λ (k : ℕ). share_answer (consumer.name, k)) roomy in
    let split : map share_answer (reached_from p set n (drop n live)) ≡ (item ∷ []) ++ left =
    ap (λ (l : List Live). map share_answer (reached_from p set n l)) (next_consumer live n consumer lt is)
    ∙ reached_first p set n consumer (drop (n + 1) live) reached ∙ ap (λ (first : ReplyParts). first ∷ left) (sym one) in
    left-after reply now (item ∷ []) left all (subst (λ (l : List ReplyParts). HasLeft reply l all) split has) added

pub room_passed : (p : Tiered) (set : List ℕ) (n : ℕ) (live : List Live) (consumer : Live) (reply : ReplyParts)
    (all : List ReplyParts)
    → n < length live → consumer ≡ get_or live n consumer → is_reached p set n ≡ false
    → HasLeft reply (map share_answer (reached_from p set n (drop n live))) all
    → HasLeft reply (map share_answer (reached_from p set (n + 1) (drop (n + 1) live))) all
room_passed p set n live consumer reply all lt is unreached has =
    let split : map share_answer (reached_from p set n (drop n live)) ≡ map share_answer (reached_from p set (n + 1)
    (drop (n + 1) live)) = ap (λ (l : List Live). map share_answer (reached_from p set n l))
    (next_consumer live n consumer lt is) ∙ unreached_first p set n consumer (drop (n + 1) live) unreached in
    subst (λ (l : List ReplyParts). HasLeft reply l all) split has

-- and past the last, all are there
pub rooms-written : (p : Tiered) (set : List ℕ) (i : ℕ) (live : List Live) (reply : ReplyParts) → length live ≤ i
    → HasLeft reply (map share_answer (reached_from p set i (drop i live)))
    (map share_answer (reached_from p set 0 live))
    → reply ≡ array_of (map share_answer (reached_from p set 0 live))
rooms-written p set i live reply past has =
    left-none reply (map share_answer (reached_from p set i (drop i live)))
    (map share_answer (reached_from p set 0 live)) has
    (ap (λ (l : List Live). map share_answer (reached_from p set i l)) (drop_all i live past))

-- the parts of a plan's reply
pub plan-written : (shown : SnapshotState) (assign prices : List ℕ) (total : ℕ)
    (word cost moves priced gone : ReplyParts) (applied : Bool)
    → word ≡ bulk_string (plan_word applied) → cost ≡ integer (pos total)
    → moves ≡ array_of (map move_answer (moves_of shown assign))
    → priced ≡ array_of (map price_answer (prices_by shown.live prices))
    → gone ≡ array_of (map (λ (pair : Id × Text). id_answer pair.0) shown.gone)
    → array_of (word ∷ cost ∷ moves ∷ priced ∷ gone ∷ []) ≡ verdict_answer shown (best assign prices total) applied
plan-written shown assign prices total word cost moves priced gone applied a b d e f =
    let whole : ReplyParts → ReplyParts → ReplyParts → ReplyParts → ReplyParts → ReplyParts =
    λ first second third fourth fifth. array_of (first ∷ second ∷ third ∷ fourth ∷ fifth ∷ []) in
    let said : ReplyParts = bulk_string (plan_word applied) in
    let moved : ReplyParts = array_of (map move_answer (moves_of shown assign)) in
    let shares : ReplyParts = array_of (map price_answer (prices_by shown.live prices)) in
    ap (λ (first : ReplyParts). whole first cost moves priced gone) a
    ∙ ap (λ (second : ReplyParts). whole said second moves priced gone) b
    ∙ ap (λ (third : ReplyParts). whole said (integer (pos total)) third priced gone) d
    ∙ ap (λ (fourth : ReplyParts). whole said (integer (pos total)) moved fourth gone) e
    ∙ ap (whole said (integer (pos total)) moved shares) f

-- the parts of a shortage's reply
pub shortage-written : (shown : SnapshotState) (set : List ℕ) (p : Tiered) (n : ℕ)
    (word ids rooms places : ReplyParts) (applied : Bool)
    → p ≡ problem_of shown → word ≡ bulk_string (codes "none")
    → ids ≡ array_of (map id_answer (map (id_at shown.stranded) set))
    → rooms ≡ array_of (map share_answer (reached_from p set 0 shown.live)) → places ≡ integer (pos n)
    → n ≡ places_of p set
    → array_of (word ∷ ids ∷ rooms ∷ places ∷ []) ≡ verdict_answer shown (short set) applied
shortage-written shown set p n word ids rooms places applied posed a b d e f =
    let whole : ReplyParts → ReplyParts → ReplyParts → ReplyParts → ReplyParts =
    λ first second third fourth. array_of (first ∷ second ∷ third ∷ fourth ∷ []) in
    let none : ReplyParts = bulk_string (codes "none") in
    let listed : ReplyParts = array_of (map (λ (i : ℕ). id_answer (id_at shown.stranded i)) set) in
    let roomy : Tiered → ReplyParts = λ q. array_of (map share_answer (reached_from q set 0 shown.live)) in
    let same_ids : ids ≡ listed = b ∙ ap array_of (map-map id_answer (id_at shown.stranded) set) in
    let same_rooms : rooms ≡ roomy (problem_of shown) = d ∙ ap roomy posed in
    let same_places : places ≡ integer (pos (places_of (problem_of shown) set)) =
    e ∙ ap (λ (k : ℕ). integer (pos k)) (f ∙ ap (λ (q : Tiered). places_of q set) posed) in
    ap (λ (first : ReplyParts). whole first ids rooms places) a
    ∙ ap (λ (second : ReplyParts). whole none second rooms places) same_ids
    ∙ ap (λ (third : ReplyParts). whole none listed third places) same_rooms
    ∙ ap (whole none listed (roomy (problem_of shown))) same_places
