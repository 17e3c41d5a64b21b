-- How a group is looked up: what one more word, entry or reply adds to what was asked and answered.
use Rattle.std.proofs.Common.{◌≡◌, ℕ, ◌+◌, ◌-◌, ◌<◌, ◌≤◌, List, [], ◌∷◌, ◌++◌, length, get_or, map, take, drop, codes}
use Rattle.std.proofs.Common.{Option, Result, Ok, refl, sym, ap, ◌∙◌, subst, inl, inr, arith}
use Rattle.std.proofs.Common.{Bool, true, false, cond, ◌&&◌, ◌||◌, ◌==◌, nat_lt}
use Rattle.std.proofs.Common.{append-nil, append_assoc, take-append-drop}
use Rattle.std.proofs.lemmas.Bool.{cases_order}
use Rattle.std.proofs.lemmas.List.{flat_map_more, get_or_default, length-map, map-append, take_all, take_more}
use Rattle.std.proofs.lemmas.List.Concat.{flat_map-append}
use Rattle.std.proofs.lemmas.Result.{IfOk-at_ok, IfOk-weaker}
use Rattle.std.specs.Io.KnownBytes.{Appends}
use Rattle.std.specs.List.{AllByRecursion, flat_map, list_all}
use Rattle.std.specs.List.Sorted.{IsSortedBy}
use Rattle.std.specs.Ordering.{is_lt, nat_cmp, ordering_then}
use Rattle.std.specs.Result.{IfOk}
use Rattle.std.specs.declared.cmp.Ordering.TheVariants.{Less, Equal, Greater}
use Rattle.sr_ids.specs.declared.id.Id.{Id}
use Rattle.sr_ids.specs.{is_below, spelling}
use Rattle.sr_policy.specs.{Text}
use Rattle.sr_peer.specs.{Array, Part, part_text, request_text}
use Rattle.sr_live.specs.declared.looked.Row.{Row}
use Rattle.sr_live.specs.Looking.{Exchange, LooksEntries, Talks, answered_of, asked_of, entry_call, listed_as, range_call}
use Rattle.sr_live.specs.Said.{AreEntries, IsTold, Listed, SayEntries, SaysEntry, SaysRange, fields_at, is_between, reaches}
use Rattle.sr_live.specs.steps.Listing.{Finds}
use Rattle.sr_live.proofs.FirstLemmas.{Finds-more, Finds-none, finds-all, stranded_in}
use Rattle.sr_live.proofs.TalkLemmas.{Talks-none, Talks-one, Talks-trans}

-- ---- what a call says is understood

pub understood-says : {T E F : Type 0} (said : Result T E) (result : Result T F) (P : T → Type 0)
    → IfOk result (λ value. said ≡ Ok value) → IfOk said P → IfOk result P
understood-says said result P understood says =
    IfOk-weaker result (λ value. said ≡ Ok value) P (λ value is. IfOk-at_ok P is says) understood

-- ---- a text that is written item by item

-- one more item is written, which is read with some default
written-at : {X Y : Type 0} (f : X → List Y) (xs : List X) (i : ℕ) (d : X) (old before now : List Y)
    → i < length xs → before ≡ old ++ flat_map f (take i xs) → now ≡ before ++ f (get_or xs i d)
    → now ≡ old ++ flat_map f (take (i + 1) xs)
written-at {X} {Y} f xs i d old before now within so_far pushed =
    let push : (old ++ flat_map f (take i xs)) ++ f (get_or xs i d)
    ≡ old ++ flat_map f (take i xs ++ get_or xs i d ∷ []) =
    flat_map_more f old (take i xs) (get_or xs i d) in
    pushed ∙ ap (λ (l : List Y). l ++ f (get_or xs i d)) so_far ∙ push
    ∙ ap (λ (l : List X). old ++ flat_map f l) (sym (take_more xs i d within))

-- the same of an item that owns memory
pub written-next : {X Y : Type 0} (f : X → List Y) (xs : List X) (i : ℕ) (x : X) (old before now : List Y)
    → i < length xs → x ≡ get_or xs i x → before ≡ old ++ flat_map f (take i xs) → now ≡ before ++ f x
    → now ≡ old ++ flat_map f (take (i + 1) xs)
written-next f xs i x old before now within read so_far pushed =
    written-at f xs i x old before now within so_far (pushed ∙ ap (λ y. before ++ f y) read)

-- all items are written
pub written-all : {X Y : Type 0} (f : X → List Y) (xs : List X) (i : ℕ) (old now : List Y) → length xs ≤ i
    → now ≡ old ++ flat_map f (take i xs) → now ≡ old ++ flat_map f xs
written-all {X} f xs i old now all so_far = so_far ∙ ap (λ (l : List X). old ++ flat_map f l) (take_all i xs all)

-- ---- requests

-- the words of a call for one entry
pub entry-words : (old now : List ℕ) (key named text : Text) (id : Id) → named ≡ key → text ≡ spelling id
    → now ≡ old ++ request_text (codes "XRANGE" ∷ named ∷ text ∷ text ∷ [])
    → now ≡ old ++ request_text (entry_call key id)
entry-words old now key named text id same spells is =
    is ∙ ap (λ (t : Text). old ++ request_text (codes "XRANGE" ∷ t ∷ text ∷ text ∷ [])) same
    ∙ ap (λ (t : Text). old ++ request_text (codes "XRANGE" ∷ key ∷ t ∷ t ∷ [])) spells

-- ---- replies, one for each entry

-- a row without its fields
abbrev pub listed_of : Row → Id × Text
listed_of row = (row.id, row.owner)

-- these entries were read, and their rows added
abbrev pub AreSaid : List Part → List Part → List (Id × Text) → List Row → List Row → Type 0
AreSaid all left listed old now =
    (replies : List (List Part)) × (more : List Row) × SayEntries replies more
    × (all ≡ flat_map (λ reply. reply) replies ++ left) × (map (λ row. (row.id, row.owner)) more ≡ listed)
    × (now ≡ old ++ more)

pub AreSaid-none : (all : List Part) (old : List Row) → AreSaid all all [] old old
AreSaid-none all old = ([], [], tt, refl, refl, sym (append-nil old))

SayEntries-push : (replies : List (List Part)) (rows : List Row) (parts : List Part) (row : Row)
    → SayEntries replies rows → SaysEntry parts row.id row.fields
    → SayEntries (replies ++ parts ∷ []) (rows ++ row ∷ [])
SayEntries-push [] [] parts row before says = (says, tt)
SayEntries-push [] (r ∷ rows) parts row before says = absurd before
SayEntries-push (p ∷ replies) [] parts row before says = absurd before
SayEntries-push (p ∷ replies) (r ∷ rows) parts row before says =
    (before.0, SayEntries-push replies rows parts row before.1 says)

-- one more reply is read
replies-next : (replies : List (List Part)) (front all left rest : List Part)
    → all ≡ flat_map (λ reply. reply) replies ++ left → left ≡ front ++ rest
    → all ≡ flat_map (λ reply. reply) (replies ++ front ∷ []) ++ rest
replies-next replies front all left rest before next =
    let same = λ (reply : List Part). reply in
    let push : flat_map same replies ++ front ≡ flat_map same (replies ++ front ∷ []) =
    flat_map_more same [] replies front in
    before ∙ ap (λ (l : List Part). flat_map same replies ++ l) next
    ∙ sym (append_assoc (flat_map same replies) front rest) ∙ ap (λ (l : List Part). l ++ rest) push

pub AreSaid-next : (all left rest : List Part) (listed : List (Id × Text)) (i : ℕ) (entry : Id × Text) (row : Row)
    (old before now : List Row) → i < length listed → entry ≡ get_or listed i entry → listed_of row ≡ entry
    → now ≡ before ++ row ∷ [] → AreSaid all left (take i listed) old before
    → (front : List Part) × SaysEntry front row.id row.fields × (left ≡ front ++ rest)
    → AreSaid all rest (take (i + 1) listed) old now
AreSaid-next all left rest listed i entry row old before now within read same pushed
    (replies, more, say, spelled, are, is) (front, says, next) = (
      replies ++ front ∷ [],
      more ++ row ∷ [],
      SayEntries-push replies more front row say says,
      replies-next replies front all left rest spelled next,
      map-append listed_of more (row ∷ []) ∙ ap (λ (l : List (Id × Text)). l ++ listed_of row ∷ []) are
          ∙ ap (λ (e : Id × Text). take i listed ++ e ∷ []) (same ∙ read) ∙ sym (take_more listed i entry within),
      pushed ∙ ap (λ (l : List Row). l ++ row ∷ []) is ∙ append_assoc old more (row ∷ []),
    )

-- every entry is read, and nothing is left
pub AreSaid-all : (all left : List Part) (listed : List (Id × Text)) (i : ℕ) (old now : List Row) → length listed ≤ i
    → left ≡ [] → AreSaid all left (take i listed) old now
    → (replies : List (List Part)) × (more : List Row) × SayEntries replies more
    × (all ≡ flat_map (λ reply. reply) replies) × (map (λ row. (row.id, row.owner)) more ≡ listed)
    × (now ≡ old ++ more)
AreSaid-all all left listed i old now whole none (replies, more, say, spelled, are, is) = (
  replies,
  more,
  say,
  spelled ∙ ap (λ (l : List Part). flat_map (λ reply. reply) replies ++ l) none
      ∙ append-nil (flat_map (λ reply. reply) replies),
  are ∙ take_all i listed whole,
  is,
)

-- ---- the calls with their replies

-- each call for an entry with its reply
abbrev pub talk_of : Text → List (List Part) → List Row → List Exchange
talk_of key [] rows = []
talk_of key (reply ∷ replies) [] = []
talk_of key (reply ∷ replies) (row ∷ rows) = (entry_call key row.id, reply) ∷ talk_of key replies rows

talk-looks : (key : Text) (replies : List (List Part)) (rows : List Row) → SayEntries replies rows
    → LooksEntries key rows (talk_of key replies rows)
talk-looks key [] [] say = refl
talk-looks key [] (row ∷ rows) say = absurd say
talk-looks key (reply ∷ replies) [] say = absurd say
talk-looks key (reply ∷ replies) (row ∷ rows) say =
    (row ∷ [], rows, inl (row, refl, refl, say.0), talk-looks key replies rows say.1, refl)

-- the call for one entry
abbrev call_text : Text → Id × Text → List ℕ
call_text key entry = request_text (entry_call key entry.0)

talk-asked : (key : Text) (replies : List (List Part)) (rows : List Row) → SayEntries replies rows
    → flat_map (call_text key) (map listed_of rows) ≡ asked_of (talk_of key replies rows)
talk-asked key [] [] say = refl
talk-asked key [] (row ∷ rows) say = absurd say
talk-asked key (reply ∷ replies) [] say = absurd say
talk-asked key (reply ∷ replies) (row ∷ rows) say =
    ap (λ (l : List ℕ). request_text (entry_call key row.id) ++ l) (talk-asked key replies rows say.1)

talk-answered : (key : Text) (replies : List (List Part)) (rows : List Row) → SayEntries replies rows
    → flat_map part_text (flat_map (λ reply. reply) replies) ≡ answered_of (talk_of key replies rows)
talk-answered key [] [] say = refl
talk-answered key [] (row ∷ rows) say = absurd say
talk-answered key (reply ∷ replies) [] say = absurd say
talk-answered key (reply ∷ replies) (row ∷ rows) say =
    flat_map-append part_text reply (flat_map (λ reply. reply) replies)
    ∙ ap (λ (l : List ℕ). flat_map part_text reply ++ l) (talk-answered key replies rows say.1)

-- requests for these entries, sent together, and their replies
pub looks-together : (key : Text) (sent got sent_then got_then : Option (List ℕ)) (requests answers : List ℕ)
    (parts : List Part) (listed : List (Id × Text)) (old now : List Row)
    → requests ≡ flat_map (λ entry. request_text (entry_call key entry.0)) listed
    → Appends sent sent_then requests → Appends got got_then answers → answers ≡ flat_map part_text parts
    → (replies : List (List Part)) × (more : List Row) × SayEntries replies more
    × (parts ≡ flat_map (λ reply. reply) replies) × (map (λ row. (row.id, row.owner)) more ≡ listed)
    × (now ≡ old ++ more)
    → (talk : List Exchange) × (more : List Row) × Talks sent got sent_then got_then talk
    × LooksEntries key more talk × (map (λ row. (row.id, row.owner)) more ≡ listed) × (now ≡ old ++ more)
looks-together key sent got sent_then got_then requests answers parts listed old now asked was_sent has_come spelled
    (replies, more, say, read, are, is) = (
      talk_of key replies more,
      more,
      record {
        asked = subst (Appends sent sent_then)
            (asked ∙ ap (flat_map (call_text key)) (sym are) ∙ talk-asked key replies more say) was_sent;
        answered = subst (Appends got got_then)
            (spelled ∙ ap (flat_map part_text) read ∙ talk-answered key replies more say) has_come;
      },
      talk-looks key replies more say,
      are,
      is,
    )

-- ---- one entry after another

pub LooksEntries-append : (key : Text) (rows more : List Row) (front behind : List Exchange) → LooksEntries key rows front
    → LooksEntries key more behind → LooksEntries key (rows ++ more) (front ++ behind)
LooksEntries-append key rows more [] behind none looks =
    subst (λ (l : List Row). LooksEntries key (l ++ more) behind) (sym none) looks
LooksEntries-append key rows more (exchange ∷ front) behind (one, others, reads, rest, joined) looks = (
  one,
  others ++ more,
  reads,
  LooksEntries-append key others more front behind rest looks,
  ap (λ (l : List Row). l ++ more) joined ∙ append_assoc one others more,
)

-- some of the entries were looked up, and these are left
abbrev pub AreFound : Text → Option (List ℕ) → Option (List ℕ) → Option (List ℕ) → Option (List ℕ) → List Row → List Row
    → ℕ → ℕ → List (Id × Text) → List (Id × Text) → Type 0
AreFound key sent got sent_then got_then old now wanted left_wanted left listed =
    (talk : List Exchange) × (more : List Row) × Talks sent got sent_then got_then talk × LooksEntries key more talk
    × (map listed_as more ++ left ≡ listed) × (now ≡ old ++ more) × Finds wanted more left_wanted

pub AreFound-none : (key : Text) (sent got : Option (List ℕ)) (rows : List Row) (wanted : ℕ) (listed : List (Id × Text))
    → 0 < wanted → AreFound key sent got sent got rows rows wanted wanted listed listed
AreFound-none key sent got rows wanted listed some =
    ([], [], Talks-none sent got, refl, refl, sym (append-nil rows), Finds-none wanted some)

-- a list that is split in two
pub parted-at : {X : Type 0} (n : ℕ) (left together rest : List X) → together ≡ take n left → rest ≡ drop n left
    → left ≡ together ++ rest
parted-at {X} n left together rest front back =
    sym (take-append-drop n left) ∙ ap (λ (l : List X). l ++ drop n left) (sym front)
    ∙ ap (λ (l : List X). together ++ l) (sym back)

-- some more of them were looked up
pub AreFound-next : (key : Text) (sent got sent_then got_then sent_last got_last : Option (List ℕ))
    (old before now : List Row) (wanted left_then left_last : ℕ) (left together rest listed : List (Id × Text))
    → left ≡ together ++ rest → 0 < left_then
    → AreFound key sent got sent_then got_then old before wanted left_then left listed
    → (talk : List Exchange) × (more : List Row) × Talks sent_then got_then sent_last got_last talk
    × LooksEntries key more talk × (map listed_as more ≡ together) × (now ≡ before ++ more)
    × Finds left_then more left_last
    → AreFound key sent got sent_last got_last old now wanted left_last rest listed
AreFound-next key sent got sent_then got_then sent_last got_last old before now wanted left_then left_last left together
    rest listed parted some (front, first, talked, looked, are, is, found)
    (behind, more, talks, looks, new, pushed, finds) = (
      front ++ behind,
      first ++ more,
      Talks-trans sent got sent_then got_then sent_last got_last front behind talked talks,
      LooksEntries-append key first more front behind looked looks,
      ap (λ (l : List (Id × Text)). l ++ rest) (map-append listed_as first more)
          ∙ append_assoc (map listed_as first) (map listed_as more) rest
          ∙ ap (λ (l : List (Id × Text)). map listed_as first ++ (l ++ rest)) new
          ∙ ap (λ (l : List (Id × Text)). map listed_as first ++ l) (sym parted) ∙ are,
      pushed ∙ ap (λ (l : List Row). l ++ more) is ∙ append_assoc old first more,
      Finds-more wanted left_then left_last first more some found finds,
    )

-- the entries that were looked up together, no more than were wanted
pub found-together : (key : Text) (sent got sent_then got_then : Option (List ℕ)) (none rows old now : List Row)
    (wanted left : ℕ) (listed : List (Id × Text)) → none ≡ [] → 0 < wanted → length listed ≤ wanted
    → left ≡ wanted - stranded_in rows → now ≡ old ++ rows
    → (talk : List Exchange) × (more : List Row) × Talks sent got sent_then got_then talk × LooksEntries key more talk
    × (map (λ row. (row.id, row.owner)) more ≡ listed) × (rows ≡ none ++ more)
    → (talk : List Exchange) × (more : List Row) × Talks sent got sent_then got_then talk × LooksEntries key more talk
    × (map listed_as more ≡ listed) × (now ≡ old ++ more) × Finds wanted more left
found-together key sent got sent_then got_then none rows old now wanted left listed empty some few counted joined
    (talk, more, talks, looks, are, is) =
    let same : rows ≡ more = is ∙ ap (λ (l : List Row). l ++ more) empty in
    let count : length more ≤ wanted =
    subst (λ (n : ℕ). n ≤ wanted) (sym (ap length are) ∙ length-map more listed_as) few in (
      talk,
      more,
      talks,
      looks,
      are,
      joined ∙ ap (λ (l : List Row). old ++ l) same,
      subst (Finds wanted more) (ap (λ (l : List Row). wanted - stranded_in l) (sym same) ∙ sym counted)
          (finds-all more wanted some count),
    )

-- ---- a range

-- entries that rise, and one more
pub rising-next : (entries : List Listed) (at : ℕ) (a b : Listed) → 1 ≤ at → at < length entries
    → is_below (get_or entries (at - 1) a).0 (get_or entries at b).0 ≡ true
    → ((k : ℕ) (d : Listed) → k + 1 < at → is_below (get_or entries k d).0 (get_or entries (k + 1) d).0 ≡ true)
    → (k : ℕ) (d : Listed) → k + 1 < at + 1 → is_below (get_or entries k d).0 (get_or entries (k + 1) d).0 ≡ true
rising-next entries at a b some within below before k d high = elim (cases_order (k + 1) at) [
  | inr (inl less) ↦ before k d less
  | inl same ↦
      let is : k ≡ at - 1 = omega (arith, same) in
      ap (λ (e : Listed). is_below e.0 (get_or entries (k + 1) d).0)
      (get_or_default entries k d a (omega (arith, same, within)) ∙ ap (λ (i : ℕ). get_or entries i a) is)
      ∙ ap (λ (e : Listed). is_below (get_or entries (at - 1) a).0 e.0)
      (get_or_default entries (k + 1) d b (omega (arith, same, within)) ∙ ap (λ (i : ℕ). get_or entries i b) same)
      ∙ below
  | inr (inr past) ↦ absurd (omega (arith, past, high))
]

-- what is known of the entries that a reply lists
pub says-range : (first last : Id) (count : ℕ) (parts : List Part) (entries seen : List Listed) → seen ≡ entries
    → (body : List Part) × AreEntries body entries × (parts ≡ Array (length entries) ∷ body) → length seen ≤ count
    → list_all (λ (entry : Listed). is_between first last entry.0) seen ≡ true
    → ((k : ℕ) (d : Listed) → k + 1 < length seen → is_below (get_or seen k d).0 (get_or seen (k + 1) d).0 ≡ true)
    → SaysRange first last count parts entries
says-range first last count parts entries seen same (body, are, spelled) few inside rising = record {
  body = body;
  spelled = spelled;
  are = are;
  few = subst (λ (l : List Listed). length l ≤ count) same few;
  inside = subst (λ (l : List Listed). list_all (λ (entry : Listed). is_between first last entry.0) l ≡ true) same inside;
  rising = subst (λ (l : List Listed). (k : ℕ) (d : Listed) → k + 1 < length l
      → is_below (get_or l k d).0 (get_or l (k + 1) d).0 ≡ true) same rising;
}

all-push : {X : Type 0} (P : X → Type 0) (xs : List X) (x : X) → AllByRecursion P xs → P x
    → AllByRecursion P (xs ++ x ∷ [])
all-push P [] x all one = (one, tt)
all-push P (first ∷ xs) x all one = (all.0, all-push P xs x all.1 one)

-- the first of the rows, this many, are as the entries of a range tell them
abbrev pub AreTold : Id → Id → ℕ → List Listed → List (Id × Text) → ℕ → List Row → List Row → ℕ → ℕ → Type 0
AreTold first last count entries listed n old now wanted left =
    (more : List Row) × AllByRecursion (IsTold first last count entries) more × (map listed_as more ≡ take n listed)
    × (now ≡ old ++ more) × Finds wanted more left

module _ (first last : Id) (count : ℕ) (entries : List Listed) (listed : List (Id × Text)) (old : List Row) (wanted : ℕ)
  where
    pub AreTold-none : 0 < wanted → AreTold first last count entries listed 0 old old wanted wanted
    AreTold-none some = ([], tt, refl, sym (append-nil old), Finds-none wanted some)

    -- one more row
    pub AreTold-next : (n : ℕ) (d one : Id × Text) (before now : List Row) (left_then left : ℕ) → n < length listed
        → one ≡ get_or listed n one → 0 < left_then → reaches first last count entries (get_or listed n d).0 ≡ true
        → AreTold first last count entries listed n old before wanted left_then
        → (row : Row) × (listed_as row ≡ one) × (row.fields ≡ fields_at one.0 entries) × (now ≡ before ++ row ∷ [])
        × Finds left_then (row ∷ []) left
        → AreTold first last count entries listed (n + 1) old now wanted left
    AreTold-next n d one before now left_then left within read some reached (more, all, are, is, found)
        (row, same, has, pushed, finds) =
        let id : row.id ≡ one.0 = ap (λ (entry : Id × Text). entry.0) same in
        let there : row.id ≡ (get_or listed n d).0 =
        id ∙ ap (λ (entry : Id × Text). entry.0) (read ∙ get_or_default listed n one d within) in
        let told : IsTold first last count entries row = record {
          reached = ap (reaches first last count entries) there ∙ reached;
          fields = has ∙ ap (λ (id : Id). fields_at id entries) (sym id);
        } in (
          more ++ row ∷ [],
          all-push (IsTold first last count entries) more row all told,
          map-append listed_as more (row ∷ []) ∙ ap (λ (l : List (Id × Text)). l ++ listed_as row ∷ []) are
              ∙ ap (λ (entry : Id × Text). take n listed ++ entry ∷ []) (same ∙ read) ∙ sym (take_more listed n one within),
          pushed ∙ ap (λ (l : List Row). l ++ row ∷ []) is ∙ append_assoc old more (row ∷ []),
          Finds-more wanted left_then left more (row ∷ []) some found finds,
        )

-- one call, and what its reply tells
pub looks-range : (key : Text) (sent got sent_then got_then : Option (List ℕ)) (request answers : List ℕ)
    (parts : List Part) (first last : Id) (count told wanted left : ℕ) (listed : List (Id × Text)) (old now : List Row)
    → request ≡ request_text (range_call key first last count) → Appends sent sent_then request
    → Appends got got_then answers → answers ≡ flat_map part_text parts
    → (entries : List Listed) × (more : List Row) × SaysRange first last count parts entries
    × AllByRecursion (IsTold first last count entries) more × (map listed_as more ≡ take told listed)
    × (now ≡ old ++ more) × Finds wanted more left
    → (talk : List Exchange) × (more : List Row) × Talks sent got sent_then got_then talk × LooksEntries key more talk
    × (map listed_as more ≡ take told listed) × (now ≡ old ++ more) × Finds wanted more left
looks-range key sent got sent_then got_then request answers parts first last count told wanted left listed old now asked
    was_sent has_come spelled (entries, more, says, all, are, is, finds) = (
      (range_call key first last count, parts) ∷ [],
      more,
      Talks-one sent got sent_then got_then (range_call key first last count) parts request answers asked spelled was_sent
          has_come,
      (
        more,
        [],
        inr (record {
          first = first;
          last = last;
          count = count;
          entries = entries;
          calls = refl;
          says = says;
          told = all;
        }),
        refl,
        sym (append-nil more),
      ),
      are,
      is,
      finds,
    )

-- ---- the order of ids

-- a comes before b, as the comparison of ids has it
abbrev is_less : Id → Id → Bool
is_less a b = is_lt (ordering_then (nat_cmp a.ms b.ms) (nat_cmp a.seq b.seq))

is_below-less : (a b : Id) → is_below a b ≡ is_less a b
is_below-less a b = by (nat_lt a.ms b.ms) (a.ms == b.ms) (nat_lt a.seq b.seq) (a.seq == b.seq)
  where
    by : (lt eq less same : Bool) → (lt || (eq && less))
        ≡ is_lt (ordering_then (cond lt Less (cond eq Equal Greater)) (cond less Less (cond same Equal Greater)))
    by true eq less same = refl
    by false true true same = refl
    by false true false true = refl
    by false true false false = refl
    by false false less same = refl

-- sorted by that, no id is below the one before it
pub sorted-below : (listed : List (Id × Text)) → IsSortedBy (λ a b. is_less a.0 b.0) listed
    → IsSortedBy (λ a b. is_below a.0 b.0) listed
sorted-below listed sorted k d low high =
    is_below-less (get_or listed (k + 1) d).0 (get_or listed k d).0 ∙ sorted k d low high
