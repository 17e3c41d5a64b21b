-- The ids of a set of entries are found by walking over all entries.
use Rattle.std.proofs.Common.{◌≡◌, ℕ, zero, suc, ◌+◌, ◌^◌, ◌-◌, ◌<◌, ◌≤◌, Bool, true, false, inl, inr, List, [], ◌∷◌}
use Rattle.std.proofs.Common.{◌++◌, length, get_or, take, drop, refl, sym, ap, ◌∙◌, subst, arith}
use Rattle.std.specs.List.{All, flat_map}
use Rattle.std.specs.List.Sorted.{IsStrictlyIncreasing}
use Rattle.std.proofs.lemmas.Bool.{cases_lt}
use Rattle.std.proofs.lemmas.List.{get_or-map, get_or_default, get_or-drop, length_push, drop-drop, length-drop}
use Rattle.sr_ids.specs.declared.id.Id.{Id}
use Rattle.sr_ids.specs.{IsId, IsBelow, SpellsId, spelling}
use Rattle.sr_ids.proofs.SpellingLemmas.{SpellsId-one}
use Rattle.sr_ids.proofs.WritingLemmas.{spelling-reads_back}
use Rattle.sr_policy.specs.declared.stranded.Stranded.{Stranded}
use Rattle.sr_policy.specs.{AreInOrder}
use Rattle.sr_resp.specs.{Bulk, reply_text}
use Rattle.sr_resp.specs.steps.Decoding.{HasPart}
use Rattle.sr_check.specs.PlanAnswer.{id_at}
use Rattle.sr_check.specs.PlanReply.{id_answer}
use Rattle.sr_check.specs.steps.Read.{AreRead, Begins, HasChosen, HasFlag, flagged_from, ids_of}
use Rattle.sr_check.proofs.ReadLemmas.{HasPart-one}
use Rattle.sr_check.proofs.BeginsLemmas.{Begins-append, Begins-front, Begins-back, Begins-one, Begins-shorter}
use Rattle.sr_check.proofs.BeginsLemmas.{Begins-none, part-Begins, none-Begins, bulk_within}
use Rattle.sr_check.proofs.AreReadLemmas.{IsOne, AreRead-one, AreRead-more, AreRead-all}
use Rattle.sr_check.proofs.OrderLemmas.{earlier_id}

-- an entry is flagged in one way
pub HasFlag-one : IsOne HasFlag
HasFlag-one entry text true true x y a b = (refl, Begins-one text x y (id_answer entry.id) a b)
HasFlag-one entry text true false x y a b = absurd (b.1 x a)
HasFlag-one entry text false true x y a b = absurd (a.1 y b)
HasFlag-one entry text false false x y a b = (refl, sym a.0 ∙ b.0)

-- one flag more
pub flagged_from-push : (n : ℕ) (flags : List Bool) (m : ℕ) → m ≡ n + length flags
    → flagged_from n (flags ++ true ∷ []) ≡ flagged_from n flags ++ m ∷ []
flagged_from-push n [] m e = ap (λ (k : ℕ). k ∷ []) (omega arith)
flagged_from-push n (true ∷ flags) m e = ap (λ (ns : List ℕ). n ∷ ns) (flagged_from-push (n + 1) flags m (omega arith))
flagged_from-push n (false ∷ flags) m e = flagged_from-push (n + 1) flags m (omega arith)

pub flagged_from-pass : (n : ℕ) (flags : List Bool) → flagged_from n (flags ++ false ∷ []) ≡ flagged_from n flags
flagged_from-pass n [] = refl
flagged_from-pass n (true ∷ flags) = ap (λ (ns : List ℕ). n ∷ ns) (flagged_from-pass (n + 1) flags)
flagged_from-pass n (false ∷ flags) = flagged_from-pass (n + 1) flags

-- the numbers rise from this one on
abbrev pub AreFrom : ℕ → List ℕ → Type 0
AreFrom n [] = Unit {0}
AreFrom n (i ∷ set) = (n ≤ i) × AreFrom (i + 1) set

AreFrom-rising : (n : ℕ) (set : List ℕ) → IsStrictlyIncreasing set → (0 < length set → n ≤ get_or set 0 0)
    → AreFrom n set
AreFrom-rising n [] rising least = tt
AreFrom-rising n (i ∷ set) rising least =
    let next : (k : ℕ) → k + 1 < length set → get_or set k 0 < get_or set (k + 1) 0 = λ k lt.
    let e : suc k + 1 ≡ suc (k + 1) = omega arith in
    subst (λ m. get_or set k 0 < get_or (i ∷ set) m 0) e (rising (suc k) (omega arith))
    in
    (least (omega arith), AreFrom-rising (i + 1) set next (λ some. let up = rising 0 (omega arith) in omega arith))

AreFrom-lower : (m n : ℕ) (set : List ℕ) → m ≤ n → AreFrom n set → AreFrom m set
AreFrom-lower m n [] le from = tt
AreFrom-lower m n (i ∷ set) le from = (omega (arith, from.0), from.1)

-- the first is above the number
AreFrom-above : (n i : ℕ) (set : List ℕ) → n < i → AreFrom n (i ∷ set) → AreFrom (n + 1) (i ∷ set)
AreFrom-above n i set lt from = (omega arith, from.1)

-- ---- ids

pub one_spelling_of_id : (a b : Id) → IsId a → IsId b → spelling a ≡ spelling b → a ≡ b
one_spelling_of_id a b valid fits e =
    SpellsId-one 0 (spelling b) a b (subst (λ text. SpellsId 0 text a) e (spelling-reads_back 0 a valid))
    (spelling-reads_back 0 b fits)

-- the entry with this number, and those after it
first-is : (stranded : List Stranded) (entry : Stranded) (rest : List Stranded) (n : ℕ) → entry ∷ rest ≡ drop n stranded
    → entry ≡ get_or stranded n entry
first-is stranded entry rest n split =
    let at : get_or (entry ∷ rest) 0 entry ≡ get_or stranded (n + 0) entry =
    ap (λ (es : List Stranded). get_or es 0 entry) split ∙ get_or-drop n stranded 0 entry in
    let e : n + 0 ≡ n = omega arith in
    at ∙ ap (λ (k : ℕ). get_or stranded k entry) e

first-within : (stranded : List Stranded) (entry : Stranded) (rest : List Stranded) (n : ℕ)
    → entry ∷ rest ≡ drop n stranded
    → n < length stranded
first-within stranded entry rest n split = omega (arith, ap length split, length-drop n stranded)

All-cons : (m i : ℕ) (set : List ℕ) → i < m → All (λ k. k < m) set → All (λ k. k < m) (i ∷ set)
All-cons m i set lt all zero d within = lt
All-cons m i set lt all (suc k) d within = all k d (omega arith)

All-up : (m n : ℕ) (set : List ℕ) → m ≤ n → All (λ k. k < m) set → All (λ k. k < n) set
All-up m n set le all k d lt = omega (arith, all k d lt)

rest-is : (stranded : List Stranded) (entry : Stranded) (rest : List Stranded) (n : ℕ) → entry ∷ rest ≡ drop n stranded
    → rest ≡ drop (n + 1) stranded
rest-is stranded entry rest n split =
    ap (drop 1) split ∙ drop-drop 1 n stranded

-- ---- the ids of the set, read entry by entry

All-tail : (P : ℕ → Type 0) (i : ℕ) (set : List ℕ) → All P (i ∷ set) → All P set
All-tail P i set all k d lt = all (suc k) d (omega arith)

-- what is claimed of the entries from number n on
record IsLeft (stranded : List Stranded) (n : ℕ) (text set after : List ℕ) : Type 0 where
  from : AreFrom n set
  within : All (λ i. i < length stranded) set
  ids : Begins text (flat_map (λ item. item) (ids_of stranded set)) after

-- an id that is not at the front
other_id : (stranded : List Stranded) → AreInOrder (λ a b. IsBelow a.id b.id) stranded
    → All (λ entry. IsId entry.id) stranded → (entry : Stranded) (n i : ℕ) → n < i → i < length stranded
    → entry ≡ get_or stranded n entry
    → (text x y : List ℕ) → length text < 2 ^ 64 → Begins text (id_answer (id_at stranded i)) x
    → Begins text (id_answer entry.id) y → ⊥
other_id stranded ordered valid entry n i lt within is text x y small a b =
    let far = get_or stranded i entry in
    let named : id_at stranded i ≡ far.id =
    get_or-map (λ (e : Stranded). e.id) stranded i entry (record { ms = 0; seq = 0 }) within in
    let long = bulk_within text x (spelling (id_at stranded i)) small a in
    let short = bulk_within text y (spelling entry.id) small b in
    let same = HasPart-one text (Bulk (spelling (id_at stranded i))) (Bulk (spelling entry.id)) x y
    (part-Begins text x (Bulk (spelling (id_at stranded i))) long a)
    (part-Begins text y (Bulk (spelling entry.id)) short b) in
    let spelled : spelling (id_at stranded i) ≡ spelling entry.id = cc same.0 in
    let here : IsId entry.id = subst (λ e. IsId e.id) (sym is) (valid n entry (omega arith)) in
    let there : IsId far.id = valid i entry within in
    let ids : far.id ≡ entry.id = one_spelling_of_id far.id entry.id there here (ap spelling (sym named) ∙ spelled) in
    let first : (get_or stranded n entry).id ≡ far.id = ap (λ (e : Stranded). e.id) (sym is) ∙ sym ids in
    earlier_id stranded ordered entry n i lt within first

-- the flags of the entries of a set
chosen_from : (stranded : List Stranded) → AreInOrder (λ a b. IsBelow a.id b.id) stranded
    → All (λ entry. IsId entry.id) stranded → (rest : List Stranded) (n : ℕ) → rest ≡ drop n stranded
    → (text set after : List ℕ) → length text < 2 ^ 64
    → ((string others : List ℕ) → HasPart after (Bulk string) others → ⊥)
    → IsLeft stranded n text set after
    → (flags : List Bool) × AreRead HasFlag rest text flags after × (set ≡ flagged_from n flags)
chosen_from stranded ordered valid [] n split text [] after small ended left =
    ([], none-Begins text after left.ids, refl)
chosen_from stranded ordered valid [] n split text (i ∷ set) after small ended left =
    let none : 0 ≡ length stranded - n = ap length split ∙ length-drop n stranded in
    absurd (omega (arith, none, left.from.0, left.within 0 0 (omega arith)))
chosen_from stranded ordered valid (entry ∷ rest) n split text [] after small ended left =
    let same = none-Begins text after left.ids in
    let none : (x : List ℕ) → Begins text (id_answer entry.id) x → ⊥ = λ x is.
    ended (spelling entry.id) x (subst (λ t. HasPart t (Bulk (spelling entry.id)) x) same
    (part-Begins text x (Bulk (spelling entry.id)) (bulk_within text x (spelling entry.id) small is) is))
    in
    let more = chosen_from stranded ordered valid rest (n + 1)
    (rest-is stranded entry rest n split) text [] after small ended
    (record { from = tt; within = left.within; ids = left.ids }) in
    (false ∷ more.0, (text, (refl, none), more.1), more.2)
chosen_from stranded ordered valid (entry ∷ rest) n split text (i ∷ set) after small ended left =
    let within : i < length stranded = left.within 0 0 (omega arith) in
    let is = first-is stranded entry rest n split in
    let back = rest-is stranded entry rest n split in
    let front = Begins-front text after (id_answer (id_at stranded i))
    (flat_map (λ item. item) (ids_of stranded set)) left.ids in
    let between = reply_text (flat_map (λ item. item) (ids_of stranded set)) ++ after in
    elim (cases_lt n i) [
      | inl above ↦
          let none : (x : List ℕ) → Begins text (id_answer entry.id) x → ⊥ = λ x begins.
          other_id stranded ordered valid entry n i above within is text between x small front begins
          in
          let more = chosen_from stranded ordered valid rest (n + 1) back text (i ∷ set) after small ended
          (record { from = AreFrom-above n i set above left.from; within = left.within; ids = left.ids }) in
          (false ∷ more.0, (text, (refl, none), more.1), more.2)
      | inr not_above ↦
          let at : i ≡ n = omega (arith, left.from.0) in
          let here : id_at stranded i ≡ entry.id = ap (id_at stranded) at
          ∙ get_or-map (λ (e : Stranded). e.id) stranded n entry (record { ms = 0; seq = 0 }) (omega arith)
          ∙ ap (λ (e : Stranded). e.id) (sym is) in
          let picked : Begins text (id_answer entry.id) between =
          subst (λ id. Begins text (id_answer id) between) here front in
          let shorter = Begins-shorter text between (id_answer entry.id) picked in
          let more = chosen_from stranded ordered valid rest (n + 1) back between set after (omega arith) ended
          (record {
            from = AreFrom-lower (n + 1) (i + 1) set (omega arith) left.from.1;
            within = All-tail (λ k. k < length
                stranded) i set left.within;
            ids = Begins-back between after (flat_map (λ item. item) (ids_of stranded set)) refl;
          }) in
          (true ∷ more.0, (between, picked, more.1), cc (at, more.2))
    ]

pub flags_of : (stranded : List Stranded) → AreInOrder (λ a b. IsBelow a.id b.id) stranded
    → All (λ entry. IsId entry.id) stranded → (text set after : List ℕ) → length text < 2 ^ 64
    → HasChosen stranded text set after
    → (flags : List Bool) × AreRead HasFlag stranded text flags after × (set ≡ flagged_from 0 flags)
flags_of stranded ordered valid text set after small has =
    chosen_from stranded ordered valid stranded 0 refl text set after small has.ended
    (record { from = AreFrom-rising 0 set has.rising (λ some. omega arith); within = has.within; ids = has.ids })

-- ---- a walk over the entries

-- the first n entries have been walked over, and these numbers have been found
pub record IsWalked (stranded : List Stranded) (n : ℕ) (text set left : List ℕ) : Type 0 where
  pub flags : List Bool
  pub many : length flags ≡ n
  pub read : AreRead HasFlag (take n stranded) text flags left
  pub numbers : set ≡ flagged_from 0 flags
  pub valid : (k : ℕ) (d : Stranded) → k < n → IsId (get_or stranded k d).id

pub IsWalked-start : (stranded : List Stranded) (text : List ℕ) → IsWalked stranded 0 text [] text
IsWalked-start stranded text = record {
  flags = [];
  many = refl;
  read = refl;
  numbers = refl;
  valid = λ k d lt. absurd (omega
      arith);
}

valid-more : (stranded : List Stranded) (n : ℕ) (entry : Stranded) → n < length stranded
    → entry ≡ get_or stranded n entry
    → IsId entry.id → ((k : ℕ) (d : Stranded) → k < n → IsId (get_or stranded k d).id)
    → (k : ℕ) (d : Stranded) → k < n + 1 → IsId (get_or stranded k d).id
valid-more stranded n entry lt is one valid k d less = elim (cases_lt k n) [
  | inl below ↦ valid k d below
  | inr not_below ↦
      let at : n ≡ k = omega arith in
      let here : get_or stranded n d ≡ entry = get_or_default stranded n d entry lt ∙ sym is in
      subst (λ m. IsId (get_or stranded m d).id) at (subst (λ (e : Stranded). IsId e.id) (sym here) one)
]

pub IsWalked-found : (stranded : List Stranded) (n : ℕ) (text set left next : List ℕ) (entry : Stranded)
    → n < length stranded → entry ≡ get_or stranded n entry → IsId entry.id
    → IsWalked stranded n text set left → Begins left (id_answer entry.id) next
    → IsWalked stranded (n + 1) text (set ++ n ∷ []) next
IsWalked-found stranded n text set left next entry lt is one walked begins = record {
  flags = walked.flags ++ true ∷ [];
  many = length_push walked.flags true ∙ ap (λ (k : ℕ). k + 1) walked.many;
  read = AreRead-more HasFlag stranded n text walked.flags left next entry true lt is walked.read begins;
  numbers = ap (λ (ns : List ℕ). ns ++ n ∷ []) walked.numbers ∙ sym (flagged_from-push 0 walked.flags n (omega (
    arith,
    walked.many,
  )));
  valid = valid-more stranded n entry lt is one walked.valid;
}

pub IsWalked-passed : (stranded : List Stranded) (n : ℕ) (text set left : List ℕ) (entry : Stranded)
    → n < length stranded
    → entry ≡ get_or stranded n entry → IsId entry.id
    → IsWalked stranded n text set left → ((others : List ℕ) → Begins left (id_answer entry.id) others → ⊥)
    → IsWalked stranded (n + 1) text set left
IsWalked-passed stranded n text set left entry lt is one walked none = record {
  flags = walked.flags ++ false ∷ [];
  many = length_push walked.flags false ∙ ap (λ (k : ℕ). k + 1) walked.many;
  read = AreRead-more HasFlag stranded n text walked.flags left left entry false lt is walked.read (refl, none);
  numbers = walked.numbers ∙ sym (flagged_from-pass 0 walked.flags);
  valid = valid-more stranded n entry lt is one walked.valid;
}

-- the ids of those that were found
ids-read : (stranded rest : List Stranded) (n : ℕ) → rest ≡ drop n stranded → (text after : List ℕ) (flags : List Bool)
    → AreRead HasFlag rest text flags after
    → Begins text (flat_map (λ item. item) (ids_of stranded (flagged_from n flags))) after
ids-read stranded [] n split text after [] read = Begins-none text after read
ids-read stranded [] n split text after (flag ∷ flags) read = absurd read
ids-read stranded (entry ∷ rest) n split text after [] read = absurd read
ids-read stranded (entry ∷ rest) n split text after (true ∷ flags) (between, first, others) =
    let more = ids-read stranded rest (n + 1) (rest-is stranded entry rest n split) between after flags others in
    let within = first-within stranded entry rest n split in
    let is = first-is stranded entry rest n split in
    let here : id_at stranded n ≡ entry.id =
    get_or-map (λ (e : Stranded). e.id) stranded n entry (record { ms = 0; seq = 0 }) within
    ∙ ap (λ (e : Stranded). e.id) (sym is) in
    let front : Begins text (id_answer (id_at stranded n)) between =
    subst (λ id. Begins text (id_answer id) between) (sym here) first in
    Begins-append text between after (id_answer (id_at stranded n))
    (flat_map (λ item. item) (ids_of stranded (flagged_from (n + 1) flags))) front more
ids-read stranded (entry ∷ rest) n split text after (false ∷ flags) (between, passed, others) =
    let more = ids-read stranded rest (n + 1) (rest-is stranded entry rest n split) between after flags others in
    subst (λ t. Begins t (flat_map (λ item. item) (ids_of stranded (flagged_from (n + 1) flags))) after)
    (sym passed.0) more

-- and they are numbers of entries
flagged-within : (rest : List Stranded) (n : ℕ) (text after : List ℕ) (flags : List Bool)
    → AreRead HasFlag rest text flags after → All (λ i. i < n + length rest) (flagged_from n flags)
flagged-within [] n text after [] read = λ k d lt. absurd (omega arith)
flagged-within [] n text after (flag ∷ flags) read = absurd read
flagged-within (entry ∷ rest) n text after [] read = absurd read
flagged-within (entry ∷ rest) n text after (true ∷ flags) (between, first, others) =
    All-cons (n + suc (length rest)) n (flagged_from (n + 1) flags) (omega arith)
    (All-up (n + 1 + length rest) (n + suc (length rest)) (flagged_from (n + 1) flags) (omega arith)
    (flagged-within rest (n + 1) between after flags others))
flagged-within (entry ∷ rest) n text after (false ∷ flags) (between, first, others) =
    All-up (n + 1 + length rest) (n + suc (length rest)) (flagged_from (n + 1) flags) (omega arith)
    (flagged-within rest (n + 1) between after flags others)

walked-read : (stranded : List Stranded) (n : ℕ) (text set left : List ℕ) → length stranded ≤ n
    → (walked : IsWalked stranded n text set left) → AreRead HasFlag stranded text walked.flags left
walked-read stranded n text set left past walked =
    AreRead-all HasFlag stranded n text walked.flags left past walked.read

pub IsWalked-ids : (stranded : List Stranded) (n : ℕ) (text set left : List ℕ) → length stranded ≤ n
    → IsWalked stranded n text set left → Begins text (flat_map (λ item. item) (ids_of stranded set)) left
IsWalked-ids stranded n text set left past walked =
    subst (λ ns. Begins text (flat_map (λ item. item) (ids_of stranded ns)) left) (sym walked.numbers)
    (ids-read stranded stranded 0 refl text left walked.flags (walked-read stranded n text set left past walked))

pub IsWalked-within : (stranded : List Stranded) (n : ℕ) (text set left : List ℕ) → length stranded ≤ n
    → IsWalked stranded n text set left → All (λ i. i < length stranded) set
IsWalked-within stranded n text set left past walked =
    let within = flagged-within stranded 0 text left walked.flags (walked-read stranded n text set left past walked) in
    subst (λ ns. All (λ i. i < length stranded) ns) (sym walked.numbers) (All-up (0 + length stranded) (length stranded)
    (flagged_from 0 walked.flags) (omega arith) within)

pub IsWalked-one : (stranded : List Stranded) → AreInOrder (λ a b. IsBelow a.id b.id) stranded
    → (n : ℕ) (text set left : List ℕ) → length stranded ≤ n → length text < 2 ^ 64 → IsWalked stranded n text set left
    → (other after : List ℕ) → HasChosen stranded text other after → (set ≡ other) × (left ≡ after)
IsWalked-one stranded ordered n text set left past small walked other after has =
    let claimed = flags_of stranded ordered (λ k d lt. walked.valid k d (omega arith)) text other after small has in
    let same = AreRead-one HasFlag HasFlag-one stranded text walked.flags claimed.0 left after
    (walked-read stranded n text set left past walked) claimed.1 in
    (walked.numbers ∙ ap (flagged_from 0) same.0 ∙ sym claimed.2, same.1)

pub IsWalked-same : (stranded : List Stranded) (n : ℕ) (text set other left next : List ℕ) → other ≡ set → next ≡ left
    → IsWalked stranded n text set left → IsWalked stranded n text other next
IsWalked-same stranded n text set other left next e f walked = subst (λ t. IsWalked stranded n text other t) (sym f)
    (subst (λ ns. IsWalked stranded n text ns left) (sym e) walked)
