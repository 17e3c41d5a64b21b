-- What is pending for the dead, listed page by page and looked at in the order of ids.
use Rattle.std.proofs.Common.{◌≡◌, ℕ, zero, suc, ◌+◌, ◌-◌, ◌<◌, ◌≤◌, Bool, true, false, not, ◌||◌, ◌&&◌, leb, List, [], ◌∷◌}
use Rattle.std.proofs.Common.{◌++◌, All, length, map, get_or, take, drop, Option, Some, None, is_some, max, unwrap_or, inl, inr}
use Rattle.std.proofs.Common.{refl, sym, ap, ◌∙◌, subst, arith, leb-true, leb-false, append-nil, append_assoc, take-append-drop}
use Rattle.std.proofs.lemmas.Bool.{cases_order}
use Rattle.std.proofs.lemmas.List.{drop_all, drop_more, get_or_append_left, get_or-append_right, length-append, length-map, map-append}
use Rattle.std.proofs.Math.Seq.{drop-append_seam}
use Rattle.std.proofs.lemmas.List.Elements.{All-cons, All-head, All-nil, All-tail}
use Rattle.std.proofs.lemmas.List.Sorted.{IsPermutation-append_comm, IsPermutation-append_left}
use Rattle.std.proofs.lemmas.List.Sorted.{IsPermutation-append_right, IsPermutation-refl, IsPermutation-sym, IsPermutation-trans}
use Rattle.std.specs.List.Sorted.{IsPermutation, IsSortedBy}
use Rattle.sr_ids.specs.declared.id.Id.{Id}
use Rattle.sr_ids.specs.{is_below}
use Rattle.sr_policy.specs.{Text}
use Rattle.sr_peer.specs.{Part, Array}
use Rattle.sr_live.specs.declared.listing.Listing.{Listing}
use Rattle.sr_live.specs.declared.looked.Claimable.{Claimable}
use Rattle.sr_live.specs.declared.looked.Row.{Row}
use Rattle.sr_live.specs.declared.looking.Seen.{Seen}
use Rattle.sr_live.specs.First.{kept_rows}
use Rattle.sr_live.specs.Looking.{Exchange, ListsDead, ListsPages, LooksEntries, LooksRows, ids_in, ids_within, is_past}
use Rattle.sr_live.specs.Looking.{last_of, listed_as, page, pending_call, start_after}
use Rattle.sr_live.specs.Said.{Delivered, SaysPending}
use Rattle.sr_live.specs.steps.Listing.{AreListed, Finds, Follow, ListsAs, ListsOn, Passes, Widens}
use Rattle.sr_live.specs.steps.Listing.{are_sure, is_sure, unlisted_of}
use Rattle.sr_live.proofs.FirstLemmas.{Finds-more, Finds-none, kept-found, kept-whole, wanted_at_first}
use Rattle.sr_live.proofs.LookingLemmas.{LooksEntries-append}
use Rattle.sr_live.proofs.ReadingLemmas.{AreReading, ListsPages-reads, LooksEntries-reads, reading-append, reading-front}
use Rattle.sr_live.proofs.ReadingLemmas.{reading-permutation}

-- ---- the last of some entries

pub last_of-append : (front behind : List Id) (before : Option Id)
    → last_of (front ++ behind) before ≡ last_of behind (last_of front before)
last_of-append [] behind before = refl
last_of-append (id ∷ front) behind before = last_of-append front behind (Some id)

pub last_of-last : (ids : List Id) (before : Option Id) (n : ℕ) (id : Id) → n + 1 ≡ length ids → id ≡ get_or ids n id
    → last_of ids before ≡ Some id
last_of-last [] before n id count is = absurd (omega (arith, count))
last_of-last (first ∷ []) before zero id count is = ap (λ (last : Id). Some last) (sym is)
last_of-last (first ∷ []) before (suc n) id count is = absurd (omega (arith, count))
last_of-last (first ∷ next ∷ ids) before zero id count is = absurd (omega (arith, count))
last_of-last (first ∷ next ∷ ids) before (suc n) id count is =
    last_of-last (next ∷ ids) (Some first) n id (omega (arith, count)) is

-- ---- pages

-- a condition that holds whether or not a page is full
by-full : (P : Bool → Type 0) (full : ℕ) → (page ≤ full → P true) → (full < page → P false) → P (leb page full)
by-full P full long short = by (leb 1000 full) refl
  where
    by : (test : Bool) → leb 1000 full ≡ test → P test
    by true is = long (leb-true 1000 full is)
    by false is = short (leb-false 1000 full is)

module _ (key group : Text) (claimable : Claimable) where
  -- one more page behind full ones
  lists-next : (name : Text) (after : Option Id) (own : List Exchange) (ids : List Id) (more : List Delivered)
      (parts : List Part) → ListsAs true key group claimable name after own ids → SaysPending parts name more
      → ListsAs (leb page (length more)) key group claimable name (last_of (ids_in more) after)
      (own ++ (pending_call key group claimable.idle (start_after after) name, parts) ∷ [])
      (ids ++ ids_within claimable.most_deliveries more)
  lists-next name after own ids more parts so_far says =
      let call : Exchange = (pending_call key group claimable.idle (start_after after) name, parts) in
      let kept = ids_within claimable.most_deliveries more in
      by-full (λ (full : Bool). ListsAs full key group claimable name (last_of (ids_in more) after) (own ++ call ∷ [])
      (ids ++ kept))
      (length more)
      (λ (long : page ≤ length more) (last : Option Id) (others : List Exchange) (rest : List Id)
      (pages : ListsPages key group claimable name last (last_of (ids_in more) after) others rest).
      subst (λ (both : List Exchange). ListsPages key group claimable name last None both ((ids ++ kept) ++ rest))
      (sym (append_assoc own (call ∷ []) others))
      (subst (ListsPages key group claimable name last None (own ++ call ∷ others)) (sym (append_assoc ids kept rest))
      (so_far last (call ∷ others) (kept ++ rest) (more, rest, refl, says, inr (long, pages), refl))))
      (λ (short : length more < page) (last : Option Id).
      so_far last (call ∷ []) kept (more, [], refl, says, inl (short, refl, refl), sym (append-nil kept)))

  -- a consumer was listed further, or not
  lists-on : (one now : Listing) (own calls : List Exchange) (ids more : List Id)
      → ListsAs one.goes_on key group claimable one.name one.last own ids → ListsOn key group claimable one now calls more
      → ListsAs now.goes_on key group claimable one.name now.last (own ++ calls) (ids ++ more)
  lists-on one now own calls ids more lists (same, inl none) =
      subst (λ (goes_on : Bool). ListsAs goes_on key group claimable one.name now.last (own ++ calls) (ids ++ more)) (sym none.goes_on)
      (subst (λ (last : Option Id). ListsAs one.goes_on key group claimable one.name last (own ++ calls) (ids ++ more))
      (sym none.last)
      (subst (λ (l : List Exchange). ListsAs one.goes_on key group claimable one.name one.last l (ids ++ more))
      (sym (append-nil own) ∙ ap (λ (l : List Exchange). own ++ l) (sym none.calls))
      (subst (ListsAs one.goes_on key group claimable one.name one.last own)
      (sym (append-nil ids) ∙ ap (λ (l : List Id). ids ++ l) (sym none.none)) lists)))
  lists-on one now own calls ids more lists (same, inr next) =
      let before : ListsAs true key group claimable one.name one.last own ids =
      subst (λ (goes_on : Bool). ListsAs goes_on key group claimable one.name one.last own ids) next.was_open lists in
      let whole = lists-next one.name one.last own ids next.entries next.parts before next.says in
      subst (λ (goes_on : Bool). ListsAs goes_on key group claimable one.name now.last (own ++ calls) (ids ++ more)) (sym next.goes_on)
      (subst (λ (last : Option Id). ListsAs (leb page (length next.entries)) key group claimable one.name last (own ++ calls)
      (ids ++ more))
      (sym next.last)
      (subst (λ (l : List Exchange). ListsAs (leb page (length next.entries)) key group claimable one.name
      (last_of (ids_in next.entries) one.last) (own ++ l) (ids ++ more))
      (sym next.calls)
      (subst (λ (l : List Id). ListsAs (leb page (length next.entries)) key group claimable one.name
      (last_of (ids_in next.entries) one.last)
      (own ++ (pending_call key group claimable.idle (start_after one.last) one.name, next.parts) ∷ []) (ids ++ l))
      (sym next.within) whole)))

  -- ---- several consumers

  pub AreListed-none : (dead : List Text) → AreListed key group claimable (map unlisted_of dead) [] []
  AreListed-none [] = (refl, refl)
  AreListed-none (name ∷ dead) = (
    [],
    [],
    [],
    [],
    (λ (last : Option Id) (others : List Exchange) (rest : List Id)
        (pages : ListsPages key group claimable name last None others rest). pages),
    AreListed-none dead,
    refl,
    refl,
  )

  one-behind : {X : Type 0} (first second third : List X)
      → IsPermutation ((first ++ second) ++ third) ((first ++ third) ++ second)
  one-behind first second third =
      subst (λ (l : List _). IsPermutation l ((first ++ third) ++ second)) (sym (append_assoc first second third))
      (subst (IsPermutation (first ++ (second ++ third))) (sym (append_assoc first third second))
      (IsPermutation-append_right first (second ++ third) (third ++ second) (IsPermutation-append_comm second third)))

  same-behind : {X : Type 0} (first second third then : List X) → IsPermutation (second ++ third) then
      → IsPermutation ((first ++ second) ++ third) (first ++ then)
  same-behind first second third then same =
      subst (λ (l : List _). IsPermutation l (first ++ then)) (sym (append_assoc first second third))
      (IsPermutation-append_right first (second ++ third) then same)

  -- one of them was listed further
  pub listed-on : (wider : List Listing) (one now : Listing) (others : List Listing) (talk calls : List Exchange)
      (listed : List (Id × Text)) (ids : List Id) → ListsOn key group claimable one now calls ids
      → AreListed key group claimable (wider ++ one ∷ others) talk listed
      → (talk_then : List Exchange) × (listed_then : List (Id × Text))
      × AreListed key group claimable (wider ++ now ∷ others) talk_then listed_then
      × IsPermutation (talk ++ calls) talk_then
      × IsPermutation (listed ++ map (λ id. (id, one.name)) ids) listed_then
  listed-on [] one now others talk calls listed ids on (own, rest, mine, left, lists, are, talk_is, listed_is) =
      let named : Text → Id → Id × Text = λ name id. (id, name) in
      let pairs = map (named one.name) ids in (
        (own ++ calls) ++ rest,
        map (named now.name) (mine ++ ids) ++ left,
        (
          own ++ calls,
          rest,
          mine ++ ids,
          left,
          subst (λ (name : Text). ListsAs now.goes_on key group claimable name now.last (own ++ calls) (mine ++ ids)) (sym on.0)
              (lists-on one now own calls mine ids lists on),
          are,
          refl,
          refl,
        ),
        subst (λ (l : List Exchange). IsPermutation (l ++ calls) ((own ++ calls) ++ rest)) (sym talk_is)
            (one-behind own rest calls),
        subst (λ (l : List (Id × Text)). IsPermutation (l ++ pairs) (map (named now.name) (mine ++ ids) ++ left))
            (sym listed_is)
            (subst (λ (l : List (Id × Text)). IsPermutation ((map (named one.name) mine ++ left) ++ pairs) (l ++ left))
            (sym (ap (λ (name : Text). map (named name) (mine ++ ids)) on.0 ∙ map-append (named one.name) mine ids))
            (one-behind (map (named one.name) mine) left pairs)),
      )
  listed-on (first ∷ wider) one now others talk calls listed ids on
      (own, rest, mine, left, lists, are, talk_is, listed_is) =
      let named : Text → Id → Id × Text = λ name id. (id, name) in
      let pairs = map (named one.name) ids in
      let then = listed-on wider one now others rest calls left ids on are in (
        own ++ then.0,
        map (named first.name) mine ++ then.1,
        (own, then.0, mine, then.1, lists, then.2, refl, refl),
        subst (λ (l : List Exchange). IsPermutation (l ++ calls) (own ++ then.0)) (sym talk_is)
            (same-behind own rest calls then.0 then.3),
        subst (λ (l : List (Id × Text)). IsPermutation (l ++ pairs) (map (named first.name) mine ++ then.1))
            (sym listed_is) (same-behind (map (named first.name) mine) left pairs then.1 then.4),
      )

  -- ---- one after another

  names-next : (wider : List Listing) (one now : Listing) (others : List Listing) → now.name ≡ one.name
      → map (λ (l : Listing). l.name) (wider ++ now ∷ others) ≡ map (λ (l : Listing). l.name) (wider ++ one ∷ others)
  names-next [] one now others same = ap (λ (name : Text). name ∷ map (λ (l : Listing). l.name) others) same
  names-next (first ∷ wider) one now others same =
      ap (λ (names : List Text). first.name ∷ names) (names-next wider one now others same)

  pub on-reads : (one now : Listing) (calls : List Exchange) (ids : List Id) → ListsOn key group claimable one now calls ids
      → AreReading calls
  on-reads one now calls ids (same, inl none) = subst AreReading (sym none.calls) tt
  on-reads one now calls ids (same, inr next) = subst AreReading (sym next.calls) (inr (inl refl), tt)

  pub widens-none : (listings wider : List Listing) → wider ≡ []
      → Widens key group claimable listings (wider ++ drop 0 listings) [] []
  widens-none listings wider none =
      subst (λ (l : List Listing). Widens key group claimable listings (l ++ listings) [] []) (sym none)
      (record {
        names = refl;
        reads = tt;
        lists = λ own listed are. (
          own,
          listed,
          are,
          subst (λ (l : List Exchange). IsPermutation l own) (sym (append-nil own)) (IsPermutation-refl own),
          subst (λ (l : List (Id × Text)). IsPermutation l listed) (sym (append-nil listed)) (IsPermutation-refl listed),
        );
      })

  more-then : {X : Type 0} (before first second then last : List X) → IsPermutation (before ++ first) then
      → IsPermutation (then ++ second) last → IsPermutation (before ++ (first ++ second)) last
  more-then before first second then last one two =
      subst (λ (l : List _). IsPermutation l last) (append_assoc before first second)
      (IsPermutation-trans ((before ++ first) ++ second) (then ++ second) last
      (IsPermutation-append_left second (before ++ first) then one) two)

  pub widens-next : (listings wider now_wider : List Listing) (i : ℕ) (one now : Listing) (talk calls : List Exchange)
      (more : List (Id × Text)) (ids : List Id) → i < length listings → one ≡ get_or listings i one
      → now_wider ≡ wider ++ now ∷ [] → Widens key group claimable listings (wider ++ drop i listings) talk more
      → ListsOn key group claimable one now calls ids
      → Widens key group claimable listings (now_wider ++ drop (i + 1) listings) (talk ++ calls)
      (more ++ map (λ id. (id, one.name)) ids)
  widens-next listings wider now_wider i one now talk calls more ids within read pushed was on =
      let rest = drop (i + 1) listings in
      let split : drop i listings ≡ one ∷ rest =
      drop_more listings i one within ∙ ap (λ (l : Listing). l ∷ rest) (sym read) in
      let before : Widens key group claimable listings (wider ++ one ∷ rest) talk more =
      subst (λ (l : List Listing). Widens key group claimable listings (wider ++ l) talk more) split was in
      subst (λ (l : List Listing). Widens key group claimable listings l (talk ++ calls)
      (more ++ map (λ id. (id, one.name)) ids))
      (sym (append_assoc wider (now ∷ []) rest) ∙ ap (λ (l : List Listing). l ++ rest) (sym pushed))
      (record {
        names = names-next wider one now rest on.0 ∙ before.names;
        reads = reading-append talk calls before.reads (on-reads one now calls ids on);
        lists = λ own listed are.
            let first = before.lists own listed are in
            let then = listed-on wider one now rest first.0 calls first.1 ids on first.2 in (
              then.0,
              then.1,
              then.2,
              more-then own talk calls first.0 then.0 first.3 then.3,
              more-then listed more (map (λ id. (id, one.name)) ids) first.1 then.1 first.4 then.4,
            );
      })

  pub widens-all : (listings wider : List Listing) (i : ℕ) (talk : List Exchange) (more : List (Id × Text))
      → length listings ≤ i → Widens key group claimable listings (wider ++ drop i listings) talk more
      → Widens key group claimable listings wider talk more
  widens-all listings wider i talk more past was =
      subst (λ (l : List Listing). Widens key group claimable listings l talk more)
      (ap (λ (l : List Listing). wider ++ l) (drop_all i listings past) ∙ append-nil wider) was

  -- ---- the end of a listing

  lists-end : (goes_on : Bool) (name : Text) (after last : Option Id) (own : List Exchange) (ids : List Id)
      → (not goes_on || is_past after last) ≡ true → ListsAs goes_on key group claimable name after own ids
      → ListsPages key group claimable name last None own ids
  lists-end false name after last own ids sure lists = lists last
  lists-end true name after last own ids sure lists =
      subst (λ (l : List Exchange). ListsPages key group claimable name last None l ids) (append-nil own)
      (subst (ListsPages key group claimable name last None (own ++ [])) (append-nil ids)
      (lists last [] [] (sure, refl)))

  both-true : (a b : Bool) → (a && b) ≡ true → (a ≡ true) × (b ≡ true)
  both-true true b is = (refl, is)
  both-true false b is = absurd cc

  -- of each consumer all is listed, up to this entry
  pub dead-listed : (listings : List Listing) (last : Option Id) (talk : List Exchange) (listed : List (Id × Text))
      → are_sure listings last ≡ true → AreListed key group claimable listings talk listed
      → ListsDead key group claimable last (map (λ (one : Listing). one.name) listings) talk listed
  dead-listed [] last talk listed sure lists = lists
  dead-listed (one ∷ listings) last talk listed sure (own, others, ids, rest, lists, are, talk_is, listed_is) =
      let both = both-true (is_sure last one) (are_sure listings last) sure in (
        own,
        others,
        ids,
        rest,
        lists-end one.goes_on one.name one.last last own ids both.0 lists,
        dead-listed listings last others rest both.1 are,
        talk_is,
        listed_is,
      )

  -- ---- all of it only reads

  ListsAs-reads : (goes_on : Bool) (name : Text) (after : Option Id) (own : List Exchange) (ids : List Id)
      → ListsAs goes_on key group claimable name after own ids → AreReading own
  ListsAs-reads false name after own ids lists =
      ListsPages-reads key group claimable name None None own ids (lists None)
  ListsAs-reads true name after own ids lists =
      let parts : List Part = Array 0 ∷ [] in
      let call : Exchange = (pending_call key group claimable.idle (start_after after) name, parts) in
      reading-front own (call ∷ [])
      (ListsPages-reads key group claimable name None None (own ++ call ∷ []) (ids ++ [])
      (lists None (call ∷ []) []
      ([], [], refl, record { body = []; spelled = refl; rows = refl }, inl (omega arith, refl, refl), refl)))

  pub AreListed-reads : (listings : List Listing) (talk : List Exchange) (listed : List (Id × Text))
      → AreListed key group claimable listings talk listed → AreReading talk
  AreListed-reads [] talk listed lists = subst AreReading (sym lists.0) tt
  AreListed-reads (one ∷ listings) talk listed (own, others, ids, rest, lists, are, talk_is, listed_is) =
      subst AreReading (sym talk_is)
      (reading-append own others (ListsAs-reads one.goes_on one.name one.last own ids lists)
      (AreListed-reads listings others rest are))

-- ---- in the order of ids

-- a list in order, and another one whose first item does not come before its last
sorted-join : {X : Type 0} (lt : X → X → Bool) (xs ys : List X) → IsSortedBy lt xs → IsSortedBy lt ys
    → ((i : ℕ) (d : X) → i + 1 ≡ length xs → 0 < length ys → lt (get_or ys 0 d) (get_or xs i d) ≡ false)
    → IsSortedBy lt (xs ++ ys)
sorted-join {X} lt xs ys first then join k d low high = elim (cases_order (k + 1) (length xs)) [
  | inr (inl inside) ↦
      ap (λ (x : X). lt x (get_or (xs ++ ys) k d)) (get_or_append_left xs ys d (k + 1) inside)
      ∙ ap (λ (x : X). lt (get_or xs (k + 1) d) x) (get_or_append_left xs ys d k (omega (arith, inside)))
      ∙ first k d (omega arith) inside
  | inl seam ↦
      let some : 0 < length ys = omega (arith, high, seam, length-append xs ys) in
      ap (λ (x : X). lt x (get_or (xs ++ ys) k d))
      (get_or-append_right xs ys (length xs) (k + 1) d refl (omega (arith, seam))
      ∙ ap (λ (i : ℕ). get_or ys i d) (none (k + 1) (length xs) seam))
      ∙ ap (λ (x : X). lt (get_or ys 0 d) x) (get_or_append_left xs ys d k (omega (arith, seam)))
      ∙ join k d seam some
  | inr (inr past) ↦
      let within : (k - length xs) + 1 < length ys = omega (arith, high, past, length-append xs ys) in
      ap (λ (x : X). lt x (get_or (xs ++ ys) k d))
      (get_or-append_right xs ys (length xs) (k + 1) d refl (omega (arith, past))
      ∙ ap (λ (i : ℕ). get_or ys i d) (more k (length xs) past))
      ∙ ap (λ (x : X). lt (get_or ys ((k - length xs) + 1) d) x)
      (get_or-append_right xs ys (length xs) k d refl (omega (arith, past)))
      ∙ then (k - length xs) d (omega arith) within
]
  where
    none : (a b : ℕ) → a ≡ b → a - b ≡ 0
    none a b is = omega (arith, is)

    more : (a b : ℕ) → b < a + 1 → (a + 1) - b ≡ (a - b) + 1
    more a b is = omega (arith, is)

sorted-front : {X : Type 0} (lt : X → X → Bool) (xs ys : List X) → IsSortedBy lt (xs ++ ys) → IsSortedBy lt xs
sorted-front {X} lt xs ys sorted k d low high =
    let whole : k + 1 < length (xs ++ ys) = omega (arith, high, length-append xs ys) in
    sym (ap (λ (x : X). lt x (get_or (xs ++ ys) k d)) (get_or_append_left xs ys d (k + 1) high)
    ∙ ap (λ (x : X). lt (get_or xs (k + 1) d) x) (get_or_append_left xs ys d k (omega (arith, high))))
    ∙ sorted k d low whole

-- ---- passes

abbrev is_earlier : Id × Text → Id × Text → Bool
is_earlier a b = is_below a.0 b.0

abbrev ids_of : List Row → List Id
ids_of rows = map (λ (row : Row). row.id) rows

-- how far a look-up has come by these calls
pub record IsUnderWay (key group : Text) (claimable : Claimable) (dead : List Text) (at_most : Option ℕ) (talk : List Exchange)
    (seen : Seen) : Type 0 where
  pub own : List Exchange
  pub entries : List Exchange
  pub listed : List (Id × Text)
  pub lists : AreListed key group claimable seen.listings.items own listed
  pub names : map (λ (one : Listing). one.name) seen.listings.items ≡ dead
  pub looks : LooksEntries key seen.found.rows.items entries
  pub order : IsPermutation (own ++ entries) talk
  pub same : IsPermutation listed (map listed_as seen.found.rows.items ++ seen.ahead.items)
  pub rising : IsSortedBy is_earlier (map listed_as seen.found.rows.items ++ seen.ahead.items)
  pub finds : Finds (wanted_at_first at_most) seen.found.rows.items seen.found.wanted
  pub sure : seen.found.wanted ≡ 0
      → are_sure seen.listings.items (last_of (ids_of seen.found.rows.items) None) ≡ true

names-of : (dead : List Text) → map (λ (one : Listing). one.name) (map unlisted_of dead) ≡ dead
names-of [] = refl
names-of (name ∷ dead) = ap (λ (names : List Text). name ∷ names) (names-of dead)

module _ (key group : Text) (claimable : Claimable) (dead : List Text) (at_most : Option ℕ) where
  pub under-way-first : (seen : Seen) → seen.listings.items ≡ map unlisted_of dead → seen.ahead.items ≡ []
      → seen.found.rows.items ≡ [] → seen.found.wanted ≡ wanted_at_first at_most
      → IsUnderWay key group claimable dead at_most [] seen
  under-way-first seen listings ahead rows wanted =
      let some : 0 < wanted_at_first at_most = least (unwrap_or at_most 4097) in record {
        own = [];
        entries = [];
        listed = [];
        lists = subst (λ (l : List Listing). AreListed key group claimable l [] []) (sym listings)
            (AreListed-none key group claimable dead);
        names = ap (map (λ (one : Listing). one.name)) listings ∙ names-of dead;
        looks = subst (λ (l : List Row). LooksEntries key l []) (sym rows) refl;
        order = IsPermutation-refl [];
        same = subst (IsPermutation []) (sym (nothing seen ahead rows)) (IsPermutation-refl []);
        rising = subst (IsSortedBy is_earlier) (sym (nothing seen ahead rows)) (λ k d low high. absurd (omega (arith, high)));
        finds = subst (λ (l : List Row). Finds (wanted_at_first at_most) l seen.found.wanted) (sym rows)
            (subst (Finds (wanted_at_first at_most) []) (sym wanted) (Finds-none (wanted_at_first at_most) some));
        sure = λ none. absurd (omega (arith, some, wanted, none));
      }
    where
      least : (n : ℕ) → 0 < max n 1
      least n = omega arith

      nothing : (seen : Seen) → seen.ahead.items ≡ [] → seen.found.rows.items ≡ []
          → map listed_as seen.found.rows.items ++ seen.ahead.items ≡ []
      nothing seen ahead rows =
          ap (λ (l : List Row). map listed_as l ++ seen.ahead.items) rows ∙ ahead

  four : {X : Type 0} (a b c d : List X) → IsPermutation ((a ++ b) ++ (c ++ d)) ((a ++ c) ++ (b ++ d))
  four a b c d =
      subst (λ (l : List _). IsPermutation ((a ++ b) ++ (c ++ d)) l) (append_assoc (a ++ c) b d)
      (subst (λ (l : List _). IsPermutation l (((a ++ c) ++ b) ++ d)) (append_assoc (a ++ b) c d)
      (IsPermutation-append_left d ((a ++ b) ++ c) ((a ++ c) ++ b) (one-behind key group claimable a b c)))

  moved : (rows new now : List Row) (ahead sorted : List (Id × Text)) → map listed_as new ++ ahead ≡ sorted
      → now ≡ rows ++ new → map listed_as now ++ ahead ≡ map listed_as rows ++ sorted
  moved rows new now ahead sorted split joined =
      ap (λ (l : List Row). map listed_as l ++ ahead) joined
      ∙ ap (λ (l : List (Id × Text)). l ++ ahead) (map-append listed_as rows new)
      ∙ append_assoc (map listed_as rows) (map listed_as new) ahead
      ∙ ap (λ (l : List (Id × Text)). map listed_as rows ++ l) split

  -- what was listed is what was looked at and what is ahead
  listed-same : (listed listed_then before more sorted ahead : List (Id × Text)) (rows new now : List Row)
      → IsPermutation listed (map listed_as rows ++ before) → IsPermutation (listed ++ more) listed_then
      → IsPermutation (before ++ more) sorted → map listed_as new ++ ahead ≡ sorted → now ≡ rows ++ new
      → IsPermutation listed_then (map listed_as now ++ ahead)
  listed-same listed listed_then before more sorted ahead rows new now same then order split joined =
      subst (IsPermutation listed_then) (sym (moved rows new now ahead sorted split joined))
      (IsPermutation-trans listed_then (listed ++ more) (map listed_as rows ++ sorted)
      (IsPermutation-sym (listed ++ more) listed_then then)
      (IsPermutation-trans (listed ++ more) ((map listed_as rows ++ before) ++ more) (map listed_as rows ++ sorted)
      (IsPermutation-append_left more listed (map listed_as rows ++ before) same)
      (subst (λ (l : List (Id × Text)). IsPermutation l (map listed_as rows ++ sorted))
      (sym (append_assoc (map listed_as rows) before more))
      (IsPermutation-append_right (map listed_as rows) (before ++ more) sorted order))))

  last-of-all : {X : Type 0} (P : X → Type 0) (front : List X) (x : X) → All P (front ++ x ∷ []) → P x
  last-of-all P [] x all = All-head P x [] all
  last-of-all P (y ∷ front) x all = last-of-all P front x (All-tail P y (front ++ x ∷ []) all)

  last-row : (rows front : List Row) (row : Row) → rows ≡ front ++ row ∷ [] → last_of (ids_of rows) None ≡ Some row.id
  last-row rows front row is =
      ap (λ (l : List Row). last_of (ids_of l) None) is
      ∙ ap (λ (l : List Id). last_of l None) (map-append (λ (one : Row). one.id) front (row ∷ []))
      ∙ last_of-append (ids_of front) (row.id ∷ []) None

  -- one more pass
  pub under-way-next : (talk calls : List Exchange) (seen now : Seen) → 0 < seen.found.wanted
      → IsUnderWay key group claimable dead at_most talk seen → Passes key group claimable calls seen now
      → IsUnderWay key group claimable dead at_most (talk ++ calls) now
  under-way-next talk calls seen now some was pass =
      let rows = seen.found.rows.items in
      let wide = pass.widens.lists was.own was.listed was.lists in
      let listing = pass.listing in
      let looking = pass.looking in
      let entries = was.entries in
      let split : map listed_as now.found.rows.items ++ now.ahead.items ≡ map listed_as rows ++ pass.sorted =
      moved rows pass.rows now.found.rows.items now.ahead.items pass.sorted pass.ahead pass.found in
      record {
        own = wide.0;
        entries = entries ++ looking;
        listed = wide.1;
        lists = wide.2;
        names = pass.widens.names ∙ was.names;
        looks = subst (λ (l : List Row). LooksEntries key l (entries ++ looking)) (sym pass.found)
            (LooksEntries-append key rows pass.rows entries looking was.looks pass.looks);
        order = subst (λ (l : List Exchange). IsPermutation (wide.0 ++ (entries ++ looking)) (talk ++ l)) (sym pass.calls)
            (IsPermutation-trans (wide.0 ++ (entries ++ looking)) ((was.own ++ listing) ++ (entries ++ looking))
            (talk ++ (listing ++ looking))
            (IsPermutation-append_left (entries ++ looking) wide.0 (was.own ++ listing)
            (IsPermutation-sym (was.own ++ listing) wide.0 wide.3))
            (IsPermutation-trans ((was.own ++ listing) ++ (entries ++ looking))
            ((was.own ++ entries) ++ (listing ++ looking)) (talk ++ (listing ++ looking))
            (four was.own listing entries looking)
            (IsPermutation-append_left (listing ++ looking) (was.own ++ entries) talk was.order)));
        same = listed-same was.listed wide.1 seen.ahead.items pass.more pass.sorted now.ahead.items rows pass.rows
            now.found.rows.items was.same wide.4 pass.same pass.ahead pass.found;
        rising = subst (IsSortedBy is_earlier) (sym split)
            (sorted-join is_earlier (map listed_as rows) pass.sorted
            (sorted-front is_earlier (map listed_as rows) seen.ahead.items was.rising) pass.rising
            (λ i d last some. pass.follow i d (last ∙ length-map rows listed_as) some));
        finds = subst (λ (l : List Row). Finds (wanted_at_first at_most) l now.found.wanted) (sym pass.found)
            (Finds-more (wanted_at_first at_most) seen.found.wanted now.found.wanted rows pass.rows some was.finds
            pass.finds);
        sure = λ none.
            let found = subst (Finds seen.found.wanted pass.rows) none pass.finds in
            let last : now.found.rows.items ≡ (rows ++ found.0) ++ found.1 ∷ [] =
            pass.found ∙ ap (λ (l : List Row). rows ++ l) found.2 ∙ sym (append_assoc rows found.0 (found.1 ∷ [])) in
            ap (are_sure now.listings.items) (last-row now.found.rows.items (rows ++ found.0) found.1 last)
            ∙ last-of-all (λ (row : Row). are_sure now.listings.items (Some row.id) ≡ true) found.0 found.1
            (subst (All (λ (row : Row). are_sure now.listings.items (Some row.id) ≡ true)) found.2 pass.sure);
      }

  pub under-way-reads : (talk : List Exchange) (seen : Seen) → IsUnderWay key group claimable dead at_most talk seen
      → AreReading talk
  under-way-reads talk seen was =
      reading-permutation (was.own ++ was.entries) talk was.order
      (reading-append was.own was.entries (AreListed-reads key group claimable seen.listings.items was.own was.listed was.lists)
      (LooksEntries-reads key seen.found.rows.items was.entries was.looks))

  -- as many as were asked for are found
  pub looked-found : (talk : List Exchange) (seen : Seen) (rows : List Row) (last : Option Id)
      → IsUnderWay key group claimable dead at_most talk seen → seen.found.wanted ≡ 0 → is_some at_most ≡ true
      → rows ≡ seen.found.rows.items → last ≡ last_of (ids_of seen.found.rows.items) None
      → LooksRows key group claimable dead at_most talk rows last
  looked-found talk seen rows last was none given is last_is =
      let now = seen.found.rows.items in
      let found = kept-found at_most now given (subst (Finds (wanted_at_first at_most) now) none was.finds) in
      let end : last_of (ids_of now) None ≡ Some found.1.id = last-row now found.0 found.1 found.2 in
      let kept : kept_rows at_most now ≡ (now, Some found.1.id) = found.3 in
      subst (λ (l : List Row). LooksRows key group claimable dead at_most talk l last) (sym is)
      (subst (LooksRows key group claimable dead at_most talk now) (sym (last_is ∙ end))
      (record {
        pending = was.own;
        entries = was.entries;
        listed = was.listed;
        left = seen.ahead.items;
        lists = subst (λ (names : List Text). ListsDead key group claimable (Some found.1.id) names was.own was.listed)
            was.names
            (dead-listed key group claimable seen.listings.items (Some found.1.id) was.own was.listed
            (ap (are_sure seen.listings.items) (sym end) ∙ was.sure none) was.lists);
        same = was.same;
        rising = was.rising;
        looks = was.looks;
        enough = kept;
        whole = tt;
        spelled = was.order;
      }))

  -- all are looked at
  pub looked-whole : (talk : List Exchange) (seen : Seen) (rows : List Row)
      → IsUnderWay key group claimable dead at_most talk seen → 0 < seen.found.wanted → seen.ahead.items ≡ []
      → are_sure seen.listings.items None ≡ true → rows ≡ seen.found.rows.items
      → LooksRows key group claimable dead at_most talk rows None
  looked-whole talk seen rows was some none sure is =
      subst (λ (l : List Row). LooksRows key group claimable dead at_most talk l None) (sym is)
      (record {
        pending = was.own;
        entries = was.entries;
        listed = was.listed;
        left = seen.ahead.items;
        lists = subst (λ (names : List Text). ListsDead key group claimable None names was.own was.listed) was.names
            (dead-listed key group claimable seen.listings.items None was.own was.listed sure was.lists);
        same = was.same;
        rising = was.rising;
        looks = was.looks;
        enough = kept-whole at_most seen.found.rows.items seen.found.wanted some was.finds;
        whole = none;
        spelled = was.order;
      })

-- ---- one pass

-- a condition on the entries that were listed holds of their rows
rows-of-all : (P : Id × Text → Type 0) (rows : List Row) (rest : List (Id × Text)) → All P (map listed_as rows ++ rest)
    → All (λ (row : Row). P (listed_as row)) rows
rows-of-all P [] rest all = All-nil (λ (row : Row). P (listed_as row))
rows-of-all P (row ∷ rows) rest all =
    All-cons (λ (one : Row). P (listed_as one)) row rows (All-head P (listed_as row) (map listed_as rows ++ rest) all)
    (rows-of-all P rows rest (All-tail P (listed_as row) (map listed_as rows ++ rest) all))

-- what is left of those that were sorted, behind these rows
left-of : (rows : List Row) (rest front sorted left : List (Id × Text)) (n at : ℕ) → front ≡ take n sorted
    → map listed_as rows ++ rest ≡ front → at ≡ length rows → left ≡ drop at sorted
    → map listed_as rows ++ left ≡ sorted
left-of rows rest front sorted left n at is are count dropped =
    let behind = rest ++ drop n sorted in
    let whole : sorted ≡ map listed_as rows ++ behind =
    sym (take-append-drop n sorted) ∙ ap (λ (l : List (Id × Text)). l ++ drop n sorted) (sym is ∙ sym are)
    ∙ append_assoc (map listed_as rows) rest (drop n sorted) in
    let left_is : left ≡ behind =
    dropped ∙ ap (λ (k : ℕ). drop k sorted) (count ∙ sym (length-map rows listed_as))
    ∙ ap (drop (length (map listed_as rows))) whole ∙ drop-append_seam (map listed_as rows) behind in
    ap (λ (l : List (Id × Text)). map listed_as rows ++ l) left_is ∙ sym whole

-- no more were looked at than were listed
pub pass-within : (rows : List Row) (rest front sorted : List (Id × Text)) (old now : List Row) (n at : ℕ)
    → front ≡ take n sorted → map listed_as rows ++ rest ≡ front → now ≡ old ++ rows → at + length old ≡ length now
    → at ≤ length sorted
pass-within rows rest front sorted old now n at is are joined count =
    let whole : map listed_as rows ++ (rest ++ drop n sorted) ≡ sorted =
    sym (append_assoc (map listed_as rows) rest (drop n sorted))
    ∙ ap (λ (l : List (Id × Text)). l ++ drop n sorted) (are ∙ is) ∙ take-append-drop n sorted in
    let total : length (map listed_as rows) + length (rest ++ drop n sorted) ≡ length sorted =
    sym (length-append (map listed_as rows) (rest ++ drop n sorted)) ∙ ap length whole in
    let sum : length now ≡ length old + length rows = ap length joined ∙ length-append old rows in
    omega (arith, total, sum, count, length-map rows listed_as)

pub passes-from : (key group : Text) (claimable : Claimable) (seen now : Seen) (listing looking : List Exchange)
    (more joined sorted front : List (Id × Text)) (n at : ℕ) (rows : List Row) (rest : List (Id × Text))
    → Widens key group claimable seen.listings.items now.listings.items listing more
    → joined ≡ seen.ahead.items ++ more → IsPermutation joined sorted → IsSortedBy is_earlier sorted
    → Follow seen.found.rows.items sorted
    → All (λ one. are_sure now.listings.items (Some one.0) ≡ true) (take n sorted) → front ≡ take n sorted
    → LooksEntries key rows looking → map listed_as rows ++ rest ≡ front
    → now.found.rows.items ≡ seen.found.rows.items ++ rows → Finds seen.found.wanted rows now.found.wanted
    → at + length seen.found.rows.items ≡ length now.found.rows.items → now.ahead.items ≡ drop at sorted
    → Passes key group claimable (listing ++ looking) seen now
passes-from key group claimable seen now listing looking more joined sorted front n at rows rest widens joins same rising follow
    sure is looks are found finds count dropped =
    let sum : length now.found.rows.items ≡ length seen.found.rows.items + length rows =
    ap length found ∙ length-append seen.found.rows.items rows in
    let number : at ≡ length rows = omega (arith, count, sum) in
    let P : Id × Text → Type 0 = λ one. are_sure now.listings.items (Some one.0) ≡ true in
    record {
      listing = listing;
      looking = looking;
      more = more;
      sorted = sorted;
      rows = rows;
      calls = refl;
      widens = widens;
      same = subst (λ (l : List (Id × Text)). IsPermutation l sorted) joins same;
      rising = rising;
      follow = follow;
      looks = looks;
      found = found;
      ahead = left-of rows rest front sorted now.ahead.items n at is are number dropped;
      sure = rows-of-all P rows rest (subst (All P) (sym is ∙ sym are) sure);
      finds = finds;
    }
