-- Words fit a form with one reading, and a reading has one meaning.
use Rattle.std.proofs.Common.{◌≡◌, ◌≢◌, List, [], ◌∷◌, ◌++◌, map, Option, Some, None, true, All, refl, sym, ap, ◌∙◌, subst, append-nil}
use Rattle.std.specs.List.{flat_map}
use Rattle.std.proofs.lemmas.Option.{same_Some}
use Rattle.sr_ids.proofs.SpellingLemmas.{SpellsId-one}
use Rattle.sr_ids.proofs.SpecLemmas.{IsSpec-one}
use Rattle.sr_ids.proofs.StartLemmas.{IsStart-one}
use Rattle.sr_ids.proofs.EndLemmas.{IsEnd-one}
use Rattle.sr_args.specs.Name.{is_of, nothing}
use Rattle.sr_args.specs.Options.{Written, AreOptionsFit, IsUnnamed, first_name, option_places}
use Rattle.sr_args.specs.declared.name.OptionName.{OptionName}
use Rattle.sr_args.specs.declared.name.OptionSet.{OptionSet}
use Rattle.sr_args.specs.FormWord.{Word, FormWord, Range, int, nat, from_one, tries, Number, Writes, IdForm, strict_id, range_start, range_end, new_id, position, read_id, IdOf, Spells, Fits, HasNumbers, HasIds, any, spelled}
use Rattle.sr_args.specs.Form.{Form, end, text, id, number, optional_text, ids, pairs, options, grouped, trim, before, maybe, ids_before, streams, texts_after, barring, named_places, IsNamedFirst, AreUnnamed, IsMaybeNumber, Reading, Values, places, pair_places, IsFit, Reads, AreIds, Means}
use Rattle.sr_args.proofs.ChoiceLemmas.{HasNumbers-append, HasIds-append, Choose-one, Choose-numbers, Choose-ids, IsTrim-one, trim-numbers, trim-ids}
use Rattle.sr_args.proofs.NumberLemmas.{IsInt-one, IsNat-one}
use Rattle.sr_args.proofs.OptionLemmas.{GoOn, Fits-texts, IsPast-end, head-of_set, options-one, trim-one}
use Rattle.sr_args.proofs.PositionLemmas.{SpellsPosition-one, SpellsRead-one}
use Rattle.sr_args.proofs.StreamsLemmas.{streams-one, keys-numbers, keys-ids}

-- pairs with equal parts are equal
pub same_pair : {A B : Type 0} (p q : A × B) → p.0 ≡ q.0 → p.1 ≡ q.1 → p ≡ q
same_pair {A} {B} p q e f = ap (λ (x : A). (x, p.1)) e ∙ ap (λ (y : B). (q.0, y)) f

same_cons : {A : Type 0} (x y : A) (xs ys : List A) → x ≡ y → xs ≡ ys → x ∷ xs ≡ y ∷ ys
same_cons {A} x y xs ys e f = cc

-- one reading

optional_text-one : (words : List Word) (r s : Option Word) → Fits words (places optional_text r) → Fits words (places optional_text s) → r ≡ s
optional_text-one words None None f g = refl
optional_text-one [] None (Some b) f g = absurd g
optional_text-one (w ∷ words) None (Some b) f g = absurd f
optional_text-one [] (Some a) s f g = absurd f
optional_text-one (w ∷ words) (Some a) None f g = absurd g
optional_text-one (w ∷ words) (Some a) (Some b) f g = ap Some (sym f.0 ∙ g.0)

ids-one : (spelling : IdForm) (words r s : List Word) → Fits words (map (spelled spelling) r) → Fits words (map (spelled spelling) s) → r ≡ s
ids-one spelling words [] [] f g = refl
ids-one spelling [] [] (b ∷ s) f g = absurd g
ids-one spelling (w ∷ words) [] (b ∷ s) f g = absurd f
ids-one spelling [] (a ∷ r) s f g = absurd f
ids-one spelling (w ∷ words) (a ∷ r) [] f g = absurd g
ids-one spelling (w ∷ words) (a ∷ r) (b ∷ s) f g = same_cons a b r s (sym f.0 ∙ g.0) (ids-one spelling words r s f.1 g.1)

texts-one : (words r s : List Word) → Fits words (map any r) → Fits words (map any s) → r ≡ s
texts-one words [] [] f g = refl
texts-one [] [] (b ∷ s) f g = absurd g
texts-one (w ∷ words) [] (b ∷ s) f g = absurd f
texts-one [] (a ∷ r) s f g = absurd f
texts-one (w ∷ words) (a ∷ r) [] f g = absurd g
texts-one (w ∷ words) (a ∷ r) (b ∷ s) f g = same_cons a b r s (sym f.0 ∙ g.0) (texts-one words r s f.1 g.1)

pairs-one : (words : List Word) (r s : List (Word × Word)) → Fits words (flat_map pair_places r) → Fits words (flat_map pair_places s) → r ≡ s
pairs-one words [] [] f g = refl
pairs-one [] [] (q ∷ s) f g = absurd g
pairs-one (w ∷ words) [] (q ∷ s) f g = absurd f
pairs-one [] (p ∷ r) s f g = absurd f
pairs-one (w ∷ words) (p ∷ r) [] f g = absurd g
pairs-one (w ∷ []) (p ∷ r) (q ∷ s) f g = absurd f.1
pairs-one (w ∷ v ∷ words) (p ∷ r) (q ∷ s) f g =
    same_cons p q r s (same_pair p q (sym f.0 ∙ g.0) (sym f.1.0 ∙ g.1.0)) (pairs-one words r s f.1.1 g.1.1)

before-one : (name : OptionName) (range : Range) (words : List Word) (a b : Option Word) (ps qs : List FormWord) → IsNamedFirst name a ps → IsNamedFirst name b qs → Fits words (named_places name range a ++ ps) → Fits words (named_places name range b ++ qs) → (a ≡ b) × GoOn ps qs
before-one name range words None None ps qs m n f g = (refl, record { rest = words; left = f; right = g })
before-one name range [] None (Some b) ps qs m n f g = absurd g
before-one name range (w ∷ words) None (Some b) ps qs m n f g = absurd (m.unnamed w words f g.0)
before-one name range [] (Some a) b ps qs m n f g = absurd f
before-one name range (w ∷ words) (Some a) None ps qs m n f g = absurd (n.unnamed w words g f.0)
before-one name range (w ∷ []) (Some a) (Some b) ps qs m n f g = absurd f.1
before-one name range (w ∷ v ∷ words) (Some a) (Some b) ps qs m n f g =
    (ap Some (sym f.1.0 ∙ g.1.0), record { rest = words; left = f.1.1; right = g.1.1 })

no_word-no_place : (words : List Word) (ps : List FormWord) → ps ≢ [] → Fits words [] → Fits words ps → ⊥
no_word-no_place [] [] some f g = some refl
no_word-no_place [] (p ∷ ps) some f g = g
no_word-no_place (w ∷ words) ps some f g = f

-- options do not begin with a word that names none of them
pub named-option : (set : OptionSet) (w : Word) (words : List Word) (os : List Written) → All (λ o. is_of set (first_name o) ≡ true) os → Fits (w ∷ words) (flat_map option_places os) → IsUnnamed set w → ⊥
named-option set w words [] of_set f unnamed = f
named-option set w words (o ∷ os) of_set f unnamed = unnamed (first_name o) (head-of_set set o os of_set) f.0

ids_before-one : (set : OptionSet) (words r s : List Word) (os qs : List Written) → AreUnnamed set r → AreUnnamed set s → AreOptionsFit set os → AreOptionsFit set qs → Fits words (map (spelled strict_id) r ++ flat_map option_places os) → Fits words (map (spelled strict_id) s ++ flat_map option_places qs) → (r ≡ s) × GoOn (flat_map option_places os) (flat_map option_places qs)
ids_before-one set words [] [] os qs u v m n f g = (refl, record { rest = words; left = f; right = g })
ids_before-one set [] [] (b ∷ s) os qs u v m n f g = absurd g
ids_before-one set (w ∷ words) [] (b ∷ s) os qs u v m n f g =
    absurd (named-option set w words os m.of_set f (subst (λ (x : Word). IsUnnamed set x) (sym g.0) v.0))
ids_before-one set [] (a ∷ r) s os qs u v m n f g = absurd f
ids_before-one set (w ∷ words) (a ∷ r) [] os qs u v m n f g =
    absurd (named-option set w words qs n.of_set g (subst (λ (x : Word). IsUnnamed set x) (sym f.0) u.0))
ids_before-one set (w ∷ words) (a ∷ r) (b ∷ s) os qs u v m n f g =
    let rest = ids_before-one set words r s os qs u.1 v.1 m n f.1 g.1 in
    (same_cons a b r s (sym f.0 ∙ g.0) rest.0, rest.1)

last_options-one : (set : OptionSet) (words : List Word) (a b : List Written) → AreOptionsFit set a → AreOptionsFit set b → Fits words (flat_map option_places a) → Fits words (flat_map option_places b) → a ≡ b
last_options-one set words a b u v f g =
    (options-one set words a b [] [] u v (IsPast-end set) (IsPast-end set) (rw append-nil f) (rw append-nil g)).0

reading-one : (form : Form) (words : List Word) (r s : Reading form) → Fits words (places form r) → Fits words (places form s) → IsFit form r → IsFit form s → r ≡ s
reading-one end words r s f g p q = refl
reading-one (text form) [] r s f g p q = absurd f
reading-one (text form) (w ∷ words) r s f g p q = same_pair r s (sym f.0 ∙ g.0) (reading-one form words r.1 s.1 f.1 g.1 p q)
reading-one (id spelling form) [] r s f g p q = absurd f
reading-one (id spelling form) (w ∷ words) r s f g p q = same_pair r s (sym f.0 ∙ g.0) (reading-one form words r.1 s.1 f.1 g.1 p q)
reading-one (number range form) [] r s f g p q = absurd f
reading-one (number range form) (w ∷ words) r s f g p q = same_pair r s (sym f.0 ∙ g.0) (reading-one form words r.1 s.1 f.1 g.1 p q)
reading-one optional_text words r s f g p q = optional_text-one words r s f g
reading-one (ids spelling) words r s f g p q = ids-one spelling words r s f g
reading-one pairs words r s f g p q = pairs-one words r s f g
reading-one (options set form) words r s f g p q =
    let one = options-one set words r.0 s.0 (places form r.1) (places form s.1) p.0 q.0 p.1 q.1 f g in
    same_pair r s one.0 (reading-one form one.1.rest r.1 s.1 one.1.left one.1.right p.2 q.2)
reading-one (grouped set form) words r s f g p q =
    let one = options-one set words r.0 s.0 (places form r.1) (places form s.1) p.0 q.0 p.1 q.1 f g in
    same_pair r s one.0 (reading-one form one.1.rest r.1 s.1 one.1.left one.1.right p.3 q.3)
reading-one trim words r s f g p q = trim-one words r s p q f g
reading-one (before name range form) words r s f g p q =
    let one = before-one name range words r.0 s.0 (places form r.1) (places form s.1) p.0 q.0 f g in
    same_pair r s one.0 (reading-one form one.1.rest r.1 s.1 one.1.left one.1.right p.1 q.1)
reading-one (maybe form) words None None f g p q = refl
reading-one (maybe form) words None (Some s) f g p q = absurd (no_word-no_place words (places form s) q.0 f g)
reading-one (maybe form) words (Some r) None f g p q = absurd (no_word-no_place words (places form r) p.0 g f)
reading-one (maybe form) words (Some r) (Some s) f g p q = ap Some (reading-one form words r s f g p.1 q.1)
reading-one (ids_before set) words r s f g p q =
    let one = ids_before-one set words r.0 s.0 r.1 s.1 p.1 q.1 p.2 q.2 f g in
    same_pair r s one.0 (last_options-one set one.1.rest r.1 s.1 p.2 q.2 one.1.left one.1.right)
reading-one (streams spelling) words r s f g p q =
    let one = streams-one spelling words r.0 r.1 s.0 s.1 p q f g in
    same_pair r s one.0 one.1
reading-one (texts_after name) [] r s f g p q = absurd f
reading-one (texts_after name) (w ∷ words) r s f g p q = texts-one words r s f.1 g.1
reading-one (barring names form) words r s f g p q = reading-one form words r s f g p.1 q.1

pub Reads-one : (form : Form) (words : List Word) (r s : Reading form) → Reads form words r → Reads form words s → r ≡ s
Reads-one form words r s p q = reading-one form words r s p.fits q.fits p.fit q.fit

-- one meaning

Spells-one : (spelling : IdForm) (word : Word) (i j : IdOf spelling) → Spells spelling word i → Spells spelling word j → i ≡ j
Spells-one strict_id word i j p q = SpellsId-one 0 word i j p q
Spells-one range_start word i j p q = IsStart-one word i j p q
Spells-one range_end word i j p q = IsEnd-one word i j p q
Spells-one new_id word i j p q = IsSpec-one word i j p q
Spells-one position word i j p q = SpellsPosition-one word i j p q
Spells-one read_id word i j p q = SpellsRead-one word i j p q

Writes-one : (range : Range) (word : Word) (m n : Number range) → Writes range word m → Writes range word n → m ≡ n
Writes-one int word m n p q = IsInt-one word m n p q
Writes-one nat word m n p q = IsNat-one word m n p q
Writes-one from_one word m n p q = IsInt-one word m n p.0 q.0
Writes-one tries word m n p q = IsNat-one word m n p.0 q.0

maybe_number-one : (range : Range) (word : Option Word) (m n : Option (Number range)) → IsMaybeNumber range word m → IsMaybeNumber range word n → m ≡ n
maybe_number-one range None None None p q = refl
maybe_number-one range None (Some m) n p q = absurd p
maybe_number-one range None None (Some n) p q = absurd q
maybe_number-one range (Some word) None n p q = absurd p
maybe_number-one range (Some word) (Some m) None p q = absurd q
maybe_number-one range (Some word) (Some m) (Some n) p q = ap Some (Writes-one range word m n p q)

AreIds-one : (spelling : IdForm) (words : List Word) (is js : List (IdOf spelling)) → AreIds spelling words is → AreIds spelling words js → is ≡ js
AreIds-one spelling [] [] [] p q = refl
AreIds-one spelling [] (i ∷ is) js p q = absurd p
AreIds-one spelling [] [] (j ∷ js) p q = absurd q
AreIds-one spelling (word ∷ words) [] js p q = absurd p
AreIds-one spelling (word ∷ words) (i ∷ is) [] p q = absurd q
AreIds-one spelling (word ∷ words) (i ∷ is) (j ∷ js) p q =
    same_cons i j is js (Spells-one spelling word i j p.0 q.0) (AreIds-one spelling words is js p.1 q.1)

pub Means-one : (form : Form) (reading : Reading form) (v w : Values form) → Means form reading v → Means form reading w → v ≡ w
Means-one end reading v w p q = refl
Means-one (text form) reading v w p q = same_pair v w (p.0 ∙ sym q.0) (Means-one form reading.1 v.1 w.1 p.1 q.1)
Means-one (id spelling form) reading v w p q = same_pair v w (Spells-one spelling reading.0 v.0 w.0 p.0 q.0) (Means-one form reading.1 v.1 w.1 p.1 q.1)
Means-one (number range form) reading v w p q = same_pair v w (Writes-one range reading.0 v.0 w.0 p.0 q.0) (Means-one form reading.1 v.1 w.1 p.1 q.1)
Means-one optional_text reading v w p q = p ∙ sym q
Means-one (ids spelling) reading v w p q = AreIds-one spelling reading v w p q
Means-one pairs reading v w p q = p ∙ sym q
Means-one (options set form) reading v w p q = same_pair v w (Choose-one reading.0 nothing v.0 w.0 p.0 q.0) (Means-one form reading.1 v.1 w.1 p.1 q.1)
Means-one (grouped set form) reading v w p q =
    let named : v.0 ≡ w.0 = same_Some v.0 w.0 (sym p.0 ∙ q.0) in
    same_pair v w named (same_pair v.1 w.1 (Choose-one reading.0 nothing v.1.0 w.1.0 p.1 q.1) (Means-one form reading.1 v.1.1 w.1.1 p.2 q.2))
Means-one trim reading v w p q = IsTrim-one reading v w p q
Means-one (before name range form) reading v w p q = same_pair v w (maybe_number-one range reading.0 v.0 w.0 p.0 q.0) (Means-one form reading.1 v.1 w.1 p.1 q.1)
Means-one (maybe form) None None None p q = refl
Means-one (maybe form) None (Some v) w p q = absurd p
Means-one (maybe form) None None (Some w) p q = absurd q
Means-one (maybe form) (Some reading) None w p q = absurd p
Means-one (maybe form) (Some reading) (Some v) None p q = absurd q
Means-one (maybe form) (Some reading) (Some v) (Some w) p q = ap Some (Means-one form reading v w p q)
Means-one (ids_before set) reading v w p q = same_pair v w (AreIds-one strict_id reading.0 v.0 w.0 p.0 q.0) (Choose-one reading.1 nothing v.1 w.1 p.1 q.1)
Means-one (streams spelling) reading v w p q = same_pair v w (p.0 ∙ sym q.0) (AreIds-one spelling reading.1 v.1 w.1 p.1 q.1)
Means-one (texts_after name) reading v w p q = p ∙ sym q
Means-one (barring names form) reading v w p q = Means-one form reading v w p q

-- what means something has its numbers and its ids

pub pairs-numbers : (fields : List (Word × Word)) → HasNumbers (flat_map pair_places fields)
pairs-numbers [] = tt
pairs-numbers (pair ∷ fields) = (tt, (tt, pairs-numbers fields))

pub pairs-ids : (fields : List (Word × Word)) → HasIds (flat_map pair_places fields)
pairs-ids [] = tt
pairs-ids (pair ∷ fields) = (tt, (tt, pairs-ids fields))

pub texts-numbers : (words : List Word) → HasNumbers (map any words)
texts-numbers [] = tt
texts-numbers (word ∷ words) = (tt, texts-numbers words)

texts-ids : (words : List Word) → HasIds (map any words)
texts-ids [] = tt
texts-ids (word ∷ words) = (tt, texts-ids words)

pub ids-numbers : (spelling : IdForm) (words : List Word) → HasNumbers (map (spelled spelling) words)
ids-numbers spelling [] = tt
ids-numbers spelling (word ∷ words) = (tt, ids-numbers spelling words)

pub HasIds-from_are : (spelling : IdForm) (words : List Word) (is : List (IdOf spelling)) → AreIds spelling words is → HasIds (map (spelled spelling) words)
HasIds-from_are spelling [] is p = tt
HasIds-from_are spelling (word ∷ words) [] p = absurd p
HasIds-from_are spelling (word ∷ words) (i ∷ is) p = ((i, p.0), HasIds-from_are spelling words is p.1)

optional_text-numbers : (word : Option Word) → HasNumbers (places optional_text word)
optional_text-numbers None = tt
optional_text-numbers (Some word) = (tt, tt)

optional_text-ids : (word : Option Word) → HasIds (places optional_text word)
optional_text-ids None = tt
optional_text-ids (Some word) = (tt, tt)

maybe_number-numbers : (name : OptionName) (range : Range) (word : Option Word) (n : Option (Number range)) → IsMaybeNumber range word n → HasNumbers (named_places name range word)
maybe_number-numbers name range None n p = tt
maybe_number-numbers name range (Some word) None p = absurd p
maybe_number-numbers name range (Some word) (Some n) p = (tt, ((n, p), tt))

pub named-ids : (name : OptionName) (range : Range) (word : Option Word) → HasIds (named_places name range word)
named-ids name range None = tt
named-ids name range (Some word) = (tt, (tt, tt))

pub HasNumbers-from_means : (form : Form) (reading : Reading form) (values : Values form) → Means form reading values → HasNumbers (places form reading)
HasNumbers-from_means end r v p = tt
HasNumbers-from_means (text form) r v p = (tt, HasNumbers-from_means form r.1 v.1 p.1)
HasNumbers-from_means (id spelling form) r v p = (tt, HasNumbers-from_means form r.1 v.1 p.1)
HasNumbers-from_means (number range form) r v p = ((v.0, p.0), HasNumbers-from_means form r.1 v.1 p.1)
HasNumbers-from_means optional_text r v p = optional_text-numbers r
HasNumbers-from_means (ids spelling) r v p = ids-numbers spelling r
HasNumbers-from_means pairs r v p = pairs-numbers r
HasNumbers-from_means (options set form) r v p =
    HasNumbers-append (flat_map option_places r.0) (places form r.1) (Choose-numbers r.0 nothing v.0 p.0) (HasNumbers-from_means form r.1 v.1 p.1)
HasNumbers-from_means (grouped set form) r v p =
    HasNumbers-append (flat_map option_places r.0) (places form r.1) (Choose-numbers r.0 nothing v.1.0 p.1) (HasNumbers-from_means form r.1 v.1.1 p.2)
HasNumbers-from_means trim r v p = trim-numbers r v p
HasNumbers-from_means (before name range form) r v p =
    HasNumbers-append (named_places name range r.0) (places form r.1) (maybe_number-numbers name range r.0 v.0 p.0) (HasNumbers-from_means form r.1 v.1 p.1)
HasNumbers-from_means (maybe form) None v p = tt
HasNumbers-from_means (maybe form) (Some r) None p = absurd p
HasNumbers-from_means (maybe form) (Some r) (Some v) p = HasNumbers-from_means form r v p
HasNumbers-from_means (ids_before set) r v p =
    HasNumbers-append (map (spelled strict_id) r.0) (flat_map option_places r.1) (ids-numbers strict_id r.0) (Choose-numbers r.1 nothing v.1 p.1)
HasNumbers-from_means (streams spelling) r v p = (tt, keys-numbers r.0 (map (spelled spelling) r.1) (ids-numbers spelling r.1))
HasNumbers-from_means (texts_after name) r v p = (tt, texts-numbers r)
HasNumbers-from_means (barring names form) r v p = HasNumbers-from_means form r v p

pub HasIds-from_means : (form : Form) (reading : Reading form) (values : Values form) → Means form reading values → HasIds (places form reading)
HasIds-from_means end r v p = tt
HasIds-from_means (text form) r v p = (tt, HasIds-from_means form r.1 v.1 p.1)
HasIds-from_means (id spelling form) r v p = ((v.0, p.0), HasIds-from_means form r.1 v.1 p.1)
HasIds-from_means (number range form) r v p = (tt, HasIds-from_means form r.1 v.1 p.1)
HasIds-from_means optional_text r v p = optional_text-ids r
HasIds-from_means (ids spelling) r v p = HasIds-from_are spelling r v p
HasIds-from_means pairs r v p = pairs-ids r
HasIds-from_means (options set form) r v p =
    HasIds-append (flat_map option_places r.0) (places form r.1) (Choose-ids r.0 nothing v.0 p.0) (HasIds-from_means form r.1 v.1 p.1)
HasIds-from_means (grouped set form) r v p =
    HasIds-append (flat_map option_places r.0) (places form r.1) (Choose-ids r.0 nothing v.1.0 p.1) (HasIds-from_means form r.1 v.1.1 p.2)
HasIds-from_means trim r v p = trim-ids r v p
HasIds-from_means (before name range form) r v p =
    HasIds-append (named_places name range r.0) (places form r.1) (named-ids name range r.0) (HasIds-from_means form r.1 v.1 p.1)
HasIds-from_means (maybe form) None v p = tt
HasIds-from_means (maybe form) (Some r) None p = absurd p
HasIds-from_means (maybe form) (Some r) (Some v) p = HasIds-from_means form r v p
HasIds-from_means (ids_before set) r v p =
    HasIds-append (map (spelled strict_id) r.0) (flat_map option_places r.1) (HasIds-from_are strict_id r.0 v.0 p.0) (Choose-ids r.1 nothing v.1 p.1)
HasIds-from_means (streams spelling) r v p = (tt, keys-ids r.0 (map (spelled spelling) r.1) (HasIds-from_are spelling r.1 v.1 p.1))
HasIds-from_means (texts_after name) r v p = (tt, texts-ids r)
HasIds-from_means (barring names form) r v p = HasIds-from_means form r v p

-- words are the ids that they are
pub Fits-ids : (spelling : IdForm) (words : List Word) → Fits words (map (spelled spelling) words)
Fits-ids spelling [] = tt
Fits-ids spelling (word ∷ words) = (refl, Fits-ids spelling words)

-- words in the places of texts are these texts
pub texts-from_fits : (words texts : List Word) → Fits words (map any texts) → words ≡ texts
texts-from_fits words texts f = texts-one words words texts (Fits-texts words) f

-- words that spell ids spell a list of them
pub AreIds-exist : (spelling : IdForm) (words : List Word) → HasIds (map (spelled spelling) words) → (list : List (IdOf spelling)) × AreIds spelling words list
AreIds-exist spelling [] has = ([], tt)
AreIds-exist spelling (word ∷ words) has = let rest = AreIds-exist spelling words has.1 in (has.0.0 ∷ rest.0, (has.0.1, rest.1))
