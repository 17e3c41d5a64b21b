-- The reply for an entry, written part by part.
use Rattle.std.proofs.Common.{◌≡◌, ℕ, ◌*◌, List, [], ◌∷◌, ◌++◌, length, map, refl, ap, sym, ◌∙◌, arith, append_assoc, append-nil}
use Rattle.std.specs.List.{flat_map, AllByRecursion}
use Rattle.sr_ids.specs.{spelling}
use Rattle.sr_resp.specs.{ReplyParts, Bulk, array_header, array_of, bulk_string}
use Rattle.sr_resp.specs.Reply.{Part, Array, IsReply}
use Rattle.sr_resp.proofs.CallerLemmas.{IsReply-array_of, IsReply-array_of_map}
use Rattle.sr_entries.specs.declared.entry.Entry.{Entry}
use Rattle.sr_space.proofs.ArrayLemmas.{array_of-map}
use Rattle.sr_space.specs.EntryReply.{pairs_answer, entry_answer}

-- the parts of a field and its value
abbrev pub pair_parts : List ℕ × List ℕ → List Part
pair_parts pair = Bulk pair.0 ∷ Bulk pair.1 ∷ []

pub pairs_answer-parts : (pairs : List (List ℕ × List ℕ)) → pairs_answer pairs ≡ Array (2 * length pairs) ∷ flat_map pair_parts pairs
pairs_answer-parts pairs =
    let items = flat_map (λ (pair : List ℕ × List ℕ). bulk_string pair.0 ∷ bulk_string pair.1 ∷ []) pairs in
    ap (λ (n : ℕ). Array n ∷ flat_map (λ item. item) items) (count pairs) ∙ ap (λ (l : List Part). Array (2 * length pairs) ∷ l) (parts pairs)
  where
    count : (pairs : List (List ℕ × List ℕ)) → length (flat_map (λ (pair : List ℕ × List ℕ). bulk_string pair.0 ∷ bulk_string pair.1 ∷ []) pairs) ≡ 2 * length pairs
    count [] = omega arith
    count (pair ∷ pairs) = omega (arith, count pairs)

    parts : (pairs : List (List ℕ × List ℕ)) → flat_map (λ (item : ReplyParts). item) (flat_map (λ (pair : List ℕ × List ℕ). bulk_string pair.0 ∷ bulk_string pair.1 ∷ []) pairs) ≡ flat_map pair_parts pairs
    parts [] = refl
    parts (pair ∷ pairs) = ap (λ (l : List Part). Bulk pair.0 ∷ Bulk pair.1 ∷ l) (parts pairs)

-- an entry is the header of two items, its id, and its fields
entry_answer-parts : (entry : Entry) (old : List Part) → old ++ array_header 2 ++ bulk_string (spelling entry.id) ++ array_header (2 * length entry.fields) ++ flat_map pair_parts entry.fields ≡ old ++ entry_answer entry
entry_answer-parts entry old =
    let id = Bulk (spelling entry.id) in
    let count = Array (2 * length entry.fields) in
    let fields = flat_map pair_parts entry.fields in
    let whole : entry_answer entry ≡ Array 2 ∷ id ∷ count ∷ fields = ap (λ (l : List Part). Array 2 ∷ id ∷ l) (append-nil (pairs_answer entry.fields) ∙ pairs_answer-parts entry.fields) in
    let begun = old ++ (Array 2 ∷ []) in
    let joined : begun ++ (id ∷ []) ++ (count ∷ []) ++ fields ≡ old ++ (Array 2 ∷ id ∷ count ∷ fields) = append_assoc (begun ++ (id ∷ [])) (count ∷ []) fields ∙ append_assoc begun (id ∷ []) (count ∷ fields) ∙ append_assoc old (Array 2 ∷ []) (id ∷ count ∷ fields) in
    joined ∙ ap (λ (l : List Part). old ++ l) (sym whole)

-- and that is what was written, part by part
pub entry-written : (entry : Entry) (old counted named grown draft : List Part) (id : List ℕ) (fields pairs : List (List ℕ × List ℕ)) → id ≡ spelling entry.id → fields ≡ entry.fields → pairs ≡ entry.fields → counted ≡ old ++ array_header 2 → named ≡ counted ++ bulk_string id → grown ≡ named ++ array_header (2 * length fields) → draft ≡ grown ++ flat_map pair_parts pairs → draft ≡ old ++ entry_answer entry
entry-written entry old counted named grown draft id fields pairs is_id is_fields is_pairs a b d e =
    let first : named ≡ old ++ array_header 2 ++ bulk_string (spelling entry.id) = b ∙ ap (λ (t : List ℕ). counted ++ bulk_string t) is_id ∙ ap (λ (l : List Part). l ++ bulk_string (spelling entry.id)) a in
    let second : grown ≡ old ++ array_header 2 ++ bulk_string (spelling entry.id) ++ array_header (2 * length entry.fields) = d ∙ ap (λ (l : List (List ℕ × List ℕ)). named ++ array_header (2 * length l)) is_fields ∙ ap (λ (l : List Part). l ++ array_header (2 * length entry.fields)) first in
    e ∙ ap (λ (l : List (List ℕ × List ℕ)). grown ++ flat_map pair_parts l) is_pairs ∙ ap (λ (l : List Part). l ++ flat_map pair_parts entry.fields) second ∙ entry_answer-parts entry old

-- fields are a reply, and each entry is
pub IsReply-pairs_answer : (pairs : List (List ℕ × List ℕ)) → IsReply (pairs_answer pairs)
IsReply-pairs_answer pairs = IsReply-array_of (flat_map (λ (pair : List ℕ × List ℕ). bulk_string pair.0 ∷ bulk_string pair.1 ∷ []) pairs) (each pairs)
  where
    each : (pairs : List (List ℕ × List ℕ)) → AllByRecursion IsReply (flat_map (λ (pair : List ℕ × List ℕ). bulk_string pair.0 ∷ bulk_string pair.1 ∷ []) pairs)
    each [] = tt
    each (pair ∷ pairs) = (refl, (refl, each pairs))

IsReply-entry_answer : (entry : Entry) → IsReply (entry_answer entry)
IsReply-entry_answer entry = IsReply-array_of (bulk_string (spelling entry.id) ∷ pairs_answer entry.fields ∷ []) (refl, (IsReply-pairs_answer entry.fields, tt))

pub IsReply-entries : (entries : List Entry) → IsReply (array_of (map entry_answer entries))
IsReply-entries entries = IsReply-array_of_map entry_answer entries IsReply-entry_answer

-- entries are a header and their replies
pub entries-written : (entries written : List Entry) (draft : List Part) → written ≡ entries → draft ≡ array_header (length entries) ++ flat_map entry_answer written → draft ≡ array_of (map entry_answer entries)
entries-written entries written draft all e = e ∙ ap (λ (l : List Entry). array_header (length entries) ++ flat_map entry_answer l) all ∙ array_of-map entry_answer entries

-- the fields are a header and their parts
pub fields-written : (fields pairs : List (List ℕ × List ℕ)) (n : ℕ) (draft written : List Part) → pairs ≡ fields → n ≡ length pairs → draft ≡ array_header (2 * n) → written ≡ draft ++ flat_map pair_parts pairs → written ≡ pairs_answer fields
fields-written fields pairs n draft written is count begun all =
    let counted : n ≡ length fields = count ∙ ap (λ (l : List (List ℕ × List ℕ)). length l) is in
    all ∙ ap (λ (l : List (List ℕ × List ℕ)). draft ++ flat_map pair_parts l) is ∙ ap (λ (l : List Part). l ++ flat_map pair_parts fields) begun ∙ ap (λ (k : ℕ). Array (2 * k) ∷ flat_map pair_parts fields) counted ∙ sym (pairs_answer-parts fields)
