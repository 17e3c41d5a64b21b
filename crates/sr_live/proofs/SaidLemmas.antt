-- Replies read part by part: what one more consumer, entry or field adds to what was read.
use Rattle.std.proofs.Common.{◌≡◌, ℕ, ◌+◌, ◌*◌, ℤ, Bool, true, false, cond, List, [], ◌∷◌, ◌++◌, length}
use Rattle.std.proofs.Common.{Option, Some, None, refl, sym, ap, ◌∙◌, subst, nat_eq, inl, inr}
use Rattle.std.proofs.Common.{append-nil, append_assoc, codes, length-append, pos}
use Rattle.std.proofs.lemmas.List.{flat_map_more}
use Rattle.std.specs.List.{AllByRecursion, flat_map}
use Rattle.std.specs.Option.{option_or}
use Rattle.std.specs.Cmp.Lexicographic.{pointwise}
use Rattle.sr_ids.specs.declared.id.Id.{Id}
use Rattle.sr_ids.specs.{SpellsId}
use Rattle.sr_policy.specs.{Text}
use Rattle.sr_policy.specs.Rules.{value_at}
use Rattle.sr_peer.specs.{Part, Array, Bulk, Int}
use Rattle.sr_peer.specs.Reply.{NullArray, NullBulk, items_of}
use Rattle.sr_live.specs.Said.{AreEntries, ArePendingRows, Delivered, IsEntry, IsFront, IsPendingRow, Listed}
use Rattle.sr_live.specs.Said.{SayConsumers, SaysConsumer, SaysEntry, SaysNumbers, SaysRemoved, consumer_parts}
use Rattle.sr_live.specs.Said.{fields_parts, number_parts, pairs_parts}

-- ---- the first field with a name, after one more field

-- what one pair says of a name
abbrev held_by : {V : Type 0} → Text → Text × V → Option V
held_by name pair = cond (pointwise nat_eq name pair.0) (Some pair.1) None

value_at-push : {V : Type 0} (name : Text) (pairs : List (Text × V)) (pair : Text × V)
    → value_at name (pairs ++ pair ∷ []) ≡ option_or (value_at name pairs) (held_by name pair)
value_at-push name [] pair = refl
value_at-push {V} name (first ∷ pairs) pair =
    ap (λ rest. cond (pointwise nat_eq name first.0) (Some first.1) rest) (value_at-push name pairs pair)
    ∙ by (pointwise nat_eq name first.0) (value_at name pairs)
  where
    by : (test : Bool) (rest : Option V) → cond test (Some first.1) (option_or rest (held_by name pair))
        ≡ option_or (cond test (Some first.1) rest) (held_by name pair)
    by true rest = refl
    by false rest = refl

pub first-named : {V : Type 0} (name : Text) (pairs : List (Text × V)) (field : Text) (value : V) (before : Option V)
    → before ≡ value_at name pairs → pointwise nat_eq name field ≡ true
    → option_or before (Some value) ≡ value_at name (pairs ++ (field, value) ∷ [])
first-named name pairs field value before so_far same =
    ap (λ found. option_or found (Some value)) so_far
    ∙ ap (λ test. option_or (value_at name pairs) (cond test (Some value) None)) (sym same)
    ∙ sym (value_at-push name pairs (field, value))

option_or-none : {V : Type 0} (found : Option V) → option_or found None ≡ found
option_or-none None = refl
option_or-none (Some held) = refl

pub first-other : {V : Type 0} (name : Text) (pairs : List (Text × V)) (field : Text) (value : V) (before : Option V)
    → before ≡ value_at name pairs → pointwise nat_eq name field ≡ false
    → before ≡ value_at name (pairs ++ (field, value) ∷ [])
first-other name pairs field value before so_far other =
    so_far ∙ sym (option_or-none (value_at name pairs))
    ∙ ap (λ test. option_or (value_at name pairs) (cond test (Some value) None)) (sym other)
    ∙ sym (value_at-push name pairs (field, value))

-- ---- a list that is spelled item by item

-- one more item is read
pub spelled-next : {X Y : Type 0} (f : X → List Y) (xs : List X) (x : X) (all left rest : List Y)
    → all ≡ flat_map f xs ++ left → left ≡ f x ++ rest → all ≡ flat_map f (xs ++ x ∷ []) ++ rest
spelled-next f xs x all left rest before next =
    let push : flat_map f xs ++ f x ≡ flat_map f (xs ++ x ∷ []) = flat_map_more f [] xs x in
    before ∙ ap (λ l. flat_map f xs ++ l) next ∙ sym (append_assoc (flat_map f xs) (f x) rest)
    ∙ ap (λ l. l ++ rest) push

pub length-push : {X : Type 0} (xs : List X) (x : X) (n : ℕ) → length xs ≡ n → length (xs ++ x ∷ []) ≡ n + 1
length-push xs x n is = length-append xs (x ∷ []) ∙ ap (λ k. k + 1) is

-- ---- numbers

-- the numbers so far, and one more
pub numbers-next : (all left rest : List Part) (numbers now : List (Text × ℕ)) (number : Text × ℕ) (n : ℕ)
    → now ≡ numbers ++ number ∷ [] → left ≡ number_parts number ++ rest
    → (length numbers ≡ n) × (all ≡ flat_map number_parts numbers ++ left)
    → (length now ≡ n + 1) × (all ≡ flat_map number_parts now ++ rest)
numbers-next all left rest numbers now number n pushed next (so_many, spelled) = (
  ap length pushed ∙ length-push numbers number n so_many,
  spelled-next number_parts numbers number all left rest spelled next
      ∙ ap (λ (l : List (Text × ℕ)). flat_map number_parts l ++ rest) (sym pushed),
)

-- all of them, and nothing is left
pub numbers-whole : (parts all left : List Part) (numbers : List (Text × ℕ)) (n count : ℕ) → n ≡ count → left ≡ []
    → (front : List Part) × IsFront front count × (parts ≡ front ++ all)
    → (length numbers ≡ n) × (all ≡ flat_map number_parts numbers ++ left) → SaysNumbers parts numbers
numbers-whole parts all left numbers n count whole none (front, first, begins) (so_many, spelled) = record {
  front = front;
  first = subst (IsFront front) (sym (so_many ∙ whole)) first;
  spelled = begins ∙ ap (λ (l : List Part). front ++ l)
      (spelled ∙ ap (λ (l : List Part). flat_map number_parts numbers ++ l) none
      ∙ append-nil (flat_map number_parts numbers));
}

-- what comes before the consumers, read part by part
pub front-some : (n count : ℕ) (all : ℤ) (least greatest : Text) (parts a b c d rest : List Part) → n ≡ 4
    → parts ≡ Array n ∷ a → a ≡ Int all ∷ b → b ≡ Bulk least ∷ c → c ≡ Bulk greatest ∷ d → d ≡ Array count ∷ rest
    → (front : List Part) × IsFront front count × (parts ≡ front ++ rest)
front-some n count all least greatest parts a b c d rest four one two three next last = (
  Array 4 ∷ Int all ∷ Bulk least ∷ Bulk greatest ∷ Array count ∷ [],
  (all, inl (least, greatest, refl)),
  (cc),
)

pub front-none : (n count : ℕ) (all : ℤ) (parts a b c rest : List Part) → n ≡ 4 → count ≡ 0
    → parts ≡ Array n ∷ a → a ≡ Int all ∷ b → b ≡ NullBulk ∷ c → c ≡ NullBulk ∷ NullArray ∷ rest
    → (front : List Part) × IsFront front count × (parts ≡ front ++ rest)
front-none n count all parts a b c rest four none one two three last = (
  Array 4 ∷ Int all ∷ NullBulk ∷ NullBulk ∷ NullArray ∷ [],
  (all, inr (none, refl)),
  (cc),
)

-- ---- consumers

pub SayConsumers-push : (consumers : List (List (Text × Part))) (numbers : List (Text × ℕ))
    (fields : List (Text × Part)) (number : Text × ℕ) → SayConsumers consumers numbers → SaysConsumer fields number
    → SayConsumers (consumers ++ fields ∷ []) (numbers ++ number ∷ [])
SayConsumers-push [] [] fields number before says = (says, tt)
SayConsumers-push [] (n ∷ numbers) fields number before says = absurd before
SayConsumers-push (c ∷ consumers) [] fields number before says = absurd before
SayConsumers-push (c ∷ consumers) (n ∷ numbers) fields number before says =
    (before.0, SayConsumers-push consumers numbers fields number before.1 says)

-- the consumers so far, and one more
pub consumers-next : (all left rest : List Part) (numbers now : List (Text × ℕ)) (number : Text × ℕ) (n : ℕ)
    → now ≡ numbers ++ number ∷ []
    → (consumers : List (List (Text × Part))) × SayConsumers consumers numbers × (length consumers ≡ n)
    × (all ≡ flat_map consumer_parts consumers ++ left)
    → (fields : List (Text × Part)) × SaysConsumer fields number × (left ≡ consumer_parts fields ++ rest)
    → (consumers : List (List (Text × Part))) × SayConsumers consumers now × (length consumers ≡ n + 1)
    × (all ≡ flat_map consumer_parts consumers ++ rest)
consumers-next all left rest numbers now number n pushed (consumers, before, count, spelled) (fields, says, next) = (
  consumers ++ fields ∷ [],
  subst (SayConsumers (consumers ++ fields ∷ [])) (sym pushed)
      (SayConsumers-push consumers numbers fields number before says),
  length-push consumers fields n count,
  spelled-next consumer_parts consumers fields all left rest spelled next,
)

-- ---- pending entries

-- a row, read part by part
pub IsPendingRow-from : (id : Id) (owner named text : Text) (places : ℕ) (idle : ℤ) (deliveries : ℕ)
    → (all a b c d rest : List Part) → SpellsId 0 text id → named ≡ owner → places ≡ 4 → all ≡ Array places ∷ a
    → a ≡ Bulk text ∷ b → b ≡ Bulk named ∷ c → c ≡ Int idle ∷ d → d ≡ Int (pos deliveries) ∷ rest
    → (front : List Part) × IsPendingRow front (id, deliveries) owner × (all ≡ front ++ rest)
IsPendingRow-from id owner named text places idle deliveries all a b c d rest spells same four one two three next last = (
  Array 4 ∷ Bulk text ∷ Bulk owner ∷ Int idle ∷ Int (pos deliveries) ∷ [],
  record { text = text; idle = idle; spells = spells; spelled = refl },
  (cc),
)

pub ArePendingRows-push : (parts : List Part) (owner : Text) (entries : List Delivered) (front : List Part)
    (entry : Delivered) → ArePendingRows parts owner entries → IsPendingRow front entry owner
    → ArePendingRows (parts ++ front) owner (entries ++ entry ∷ [])
ArePendingRows-push parts owner [] front entry before row =
    (front, [], row, refl, ap (λ l. l ++ front) before ∙ sym (append-nil front))
ArePendingRows-push parts owner (x ∷ entries) front entry (one, others, is, rows, spelled) row = (
  one,
  others ++ front,
  is,
  ArePendingRows-push others owner entries front entry rows row,
  ap (λ l. l ++ front) spelled ∙ append_assoc one others front,
)

-- the rows so far, and one more
pub rows-next : (all left rest : List Part) (owner : Text) (entries now : List Delivered) (entry : Delivered) (n : ℕ)
    → now ≡ entries ++ entry ∷ []
    → (rows : List Part) × ArePendingRows rows owner entries × (length entries ≡ n) × (all ≡ rows ++ left)
    → (front : List Part) × IsPendingRow front entry owner × (left ≡ front ++ rest)
    → (rows : List Part) × ArePendingRows rows owner now × (length now ≡ n + 1) × (all ≡ rows ++ rest)
rows-next all left rest owner entries now entry n pushed (rows, before, count, spelled) (front, row, next) = (
  rows ++ front,
  subst (ArePendingRows (rows ++ front) owner) (sym pushed)
      (ArePendingRows-push rows owner entries front entry before row),
  ap length pushed ∙ length-push entries entry n count,
  spelled ∙ ap (λ l. rows ++ l) next ∙ sym (append_assoc rows front rest),
)

-- ---- an entry

-- an entry's header, id and fields, read one after another
pub fields-spelled : (text : List ℕ) (fields : List (Text × Text)) (n places : ℕ) (all a b c rest : List Part) → n ≡ 2
    → places ≡ 2 * length fields → all ≡ Array n ∷ a → a ≡ Bulk text ∷ b → b ≡ Array places ∷ c
    → c ≡ pairs_parts fields ++ rest
    → all ≡ Array 2 ∷ Bulk text ∷ Array (2 * length fields) ∷ pairs_parts fields ++ rest
fields-spelled text fields n places all a b c rest two count header first second pairs = cc

-- the entry that is read part by part
pub IsEntry-from : (id : Id) (text : List ℕ) (fields : List (Text × Text)) (n places : ℕ) (all a b c rest : List Part)
    → SpellsId 0 text id → n ≡ 2 → places ≡ 2 * length fields → all ≡ Array n ∷ a → a ≡ Bulk text ∷ b
    → b ≡ Array places ∷ c → c ≡ pairs_parts fields ++ rest
    → (front : List Part) × IsEntry front (id, fields) × (all ≡ front ++ rest)
IsEntry-from id text fields n places all a b c rest spells two count header first second pairs = (
  Array 2 ∷ Bulk text ∷ Array (2 * length fields) ∷ pairs_parts fields,
  record { text = text; spells = spells; spelled = refl },
  fields-spelled text fields n places all a b c rest two count header first second pairs,
)

-- an entry that has this id
pub entry-named : (id : Id) (entry : Listed) (all rest : List Part) → entry.0 ≡ id
    → (front : List Part) × IsEntry front entry × (all ≡ front ++ rest)
    → (text : List ℕ) × SpellsId 0 text id
    × (all ≡ Array 2 ∷ Bulk text ∷ Array (2 * length entry.1) ∷ pairs_parts entry.1 ++ rest)
entry-named id entry all rest same (front, is, spelled) = (
  is.text,
  subst (SpellsId 0 is.text) same is.spells,
  spelled ∙ ap (λ (l : List Part). l ++ rest) is.spelled,
)

AreEntries-push : (parts : List Part) (entries : List Listed) (front : List Part) (entry : Listed)
    → AreEntries parts entries → IsEntry front entry → AreEntries (parts ++ front) (entries ++ entry ∷ [])
AreEntries-push parts [] front entry before is =
    (front, [], is, refl, ap (λ (l : List Part). l ++ front) before ∙ sym (append-nil front))
AreEntries-push parts (first ∷ entries) front entry (one, others, has, are, spelled) is = (
  one,
  others ++ front,
  has,
  AreEntries-push others entries front entry are is,
  ap (λ (l : List Part). l ++ front) spelled ∙ append_assoc one others front,
)

-- the entries so far, and one more
pub entries-next : (all left rest : List Part) (entries now : List Listed) (entry : Listed) (n : ℕ)
    → now ≡ entries ++ entry ∷ []
    → (body : List Part) × AreEntries body entries × (length entries ≡ n) × (all ≡ body ++ left)
    → (front : List Part) × IsEntry front entry × (left ≡ front ++ rest)
    → (body : List Part) × AreEntries body now × (length now ≡ n + 1) × (all ≡ body ++ rest)
entries-next all left rest entries now entry n pushed (body, before, count, spelled) (front, is, next) = (
  body ++ front,
  subst (AreEntries (body ++ front)) (sym pushed) (AreEntries-push body entries front entry before is),
  ap length pushed ∙ length-push entries entry n count,
  spelled ∙ ap (λ (l : List Part). body ++ l) next ∙ sym (append_assoc body front rest),
)

pub SaysEntry-one : (id : Id) (fields : List (Text × Text)) (n : ℕ) (all left rest : List Part) → n ≡ 1
    → all ≡ Array n ∷ left
    → (text : List ℕ) × SpellsId 0 text id
    × (left ≡ Array 2 ∷ Bulk text ∷ Array (2 * length fields) ∷ pairs_parts fields ++ rest)
    → (front : List Part) × SaysEntry front id (Some fields) × (all ≡ front ++ rest)
SaysEntry-one id fields n all left rest one header (text, spells, spelled) = (
  Array 1 ∷ Array 2 ∷ Bulk text ∷ Array (2 * length fields) ∷ pairs_parts fields,
  (text, spells, refl),
  (cc),
)

-- ---- XINFO STREAM

-- no value has items
abbrev ArePlain : List (Text × Part) → Type 0
ArePlain fields = AllByRecursion (λ (field : Text × Part). items_of field.1 ≡ 0) fields

plain-push : (fields : List (Text × Part)) (field : Text × Part) → ArePlain fields → items_of field.1 ≡ 0
    → ArePlain (fields ++ field ∷ [])
plain-push [] field all plain = (plain, tt)
plain-push (first ∷ fields) field (here, others) plain = (here, plain-push fields field others plain)

-- fields were read, with what the two that count say so far
abbrev pub ReadsCounts : List Part → List Part → Option Part → Option Part → Type 0
ReadsCounts all rest kept added =
    (fields : List (Text × Part)) × AllByRecursion (λ (field : Text × Part). items_of field.1 ≡ 0) fields
    × (kept ≡ value_at (codes "length") fields) × (added ≡ value_at (codes "entries-added") fields)
    × (all ≡ fields_parts fields ++ rest)

pub counts-next : (all left rest : List Part) (kept added kept_now added_now : Option Part) (name : Text) (value : Part)
    → ReadsCounts all left kept added → left ≡ Bulk name ∷ value ∷ rest → items_of value ≡ 0
    → ((fields : List (Text × Part)) → kept ≡ value_at (codes "length") fields
    → kept_now ≡ value_at (codes "length") (fields ++ (name, value) ∷ []))
    → ((fields : List (Text × Part)) → added ≡ value_at (codes "entries-added") fields
    → added_now ≡ value_at (codes "entries-added") (fields ++ (name, value) ∷ []))
    → ReadsCounts all rest kept_now added_now
counts-next all left rest kept added kept_now added_now name value (fields, plain, so_kept, so_added, spelled) next is
    keep add = (
      fields ++ (name, value) ∷ [],
      plain-push fields (name, value) plain is,
      keep fields so_kept,
      add fields so_added,
      spelled-next (λ (field : Text × Part). Bulk field.0 ∷ field.1 ∷ []) fields (name, value) all left rest spelled next,
    )

pub SaysRemoved-read : (parts all rest : List Part) (places : ℕ) (kept added : Option Part) (there whole : ℤ) (removed : ℕ)
    → parts ≡ Array places ∷ all → ReadsCounts all rest kept added → kept ≡ Some (Int there) → added ≡ Some (Int whole)
    → (few : ℕ) × (many : ℕ) × (pos few ≡ there) × (pos many ≡ whole) × (few + removed ≡ many)
    → SaysRemoved parts removed
SaysRemoved-read parts all rest places kept added there whole removed first (fields, plain, so_kept, so_added, spelled)
    is_kept is_added (few, many, same_kept, same_added, others) = record {
      places = places;
      fields = fields;
      rest = rest;
      kept = few;
      added = many;
      spelled = first ∙ ap (λ (l : List Part). Array places ∷ l) spelled;
      plain = plain;
      says_kept = sym so_kept ∙ is_kept ∙ ap (λ (n : ℤ). Some (Int n)) (sym same_kept);
      says_added = sym so_added ∙ is_added ∙ ap (λ (n : ℤ). Some (Int n)) (sym same_added);
      others = others;
    }
