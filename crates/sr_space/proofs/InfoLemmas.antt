-- What XINFO counts and lists.
use Rattle.std.proofs.Common.{◌≡◌, codes, ℕ, zero, suc, ◌<◌, ◌≤◌, Bool, true, false, cond, List, [], ◌∷◌, length, map, get_or, refl, ap, sym, ◌∙◌, arith}
use Rattle.std.proofs.lemmas.List.{get_or-map, length-map}
use Rattle.sr_group.specs.{KeptGroup, counts_of}
use Rattle.sr_group.specs.declared.consumer.Consumer.{Consumer}
use Rattle.sr_pending.specs.declared.nack.Nack.{Nack}
use Rattle.sr_pending.specs.{is_same_name, owned_by}
use Rattle.sr_ids.specs.{spelling}
use Rattle.sr_resp.specs.{ReplyParts, array_of, bulk_string}
use Rattle.sr_stream.specs.{StreamState, ByName}
use Rattle.sr_stream.specs.Groups.{shown_groups}
use Rattle.sr_space.specs.commands.Xinfo.{entry_or_null, first_entry, group_answer, last_entry, number, stream_answer}

pub length-shown_groups : (groups : ByName KeptGroup) → length (shown_groups groups) ≡ length groups
length-shown_groups groups = length-map groups (λ named. (named.0, named.1.shown))

-- the lines of groups say what is shown of them
pub group_lines-shown : (groups : ByName KeptGroup) → map (λ named. group_answer named.0 named.1) (shown_groups groups) ≡ map (λ named. group_answer named.0 named.1.shown) groups
group_lines-shown [] = refl
group_lines-shown (named ∷ groups) = ap (λ (lines : List ReplyParts). group_answer named.0 named.1.shown ∷ lines) (group_lines-shown groups)

length-owned_by : (owner : List ℕ) (nacks : List Nack) → length (owned_by owner nacks) ≤ length nacks
length-owned_by owner [] = omega arith
length-owned_by owner (nack ∷ nacks) = by (length-owned_by owner nacks) (is_same_name nack.owner owner)
  where
    by : length (owned_by owner nacks) ≤ length nacks → (test : Bool) → length (cond test (nack ∷ owned_by owner nacks) (owned_by owner nacks)) ≤ length (nack ∷ nacks)
    by le true = omega arith
    by le false = omega arith

-- no consumer has more pending entries than the group
pub counts_of-few : (consumers : List Consumer) (nacks : List Nack) (counts : List ℕ) (i n bound : ℕ) → counts ≡ counts_of consumers nacks → i < length consumers → n ≡ get_or counts i n → length nacks < bound → n < bound
counts_of-few [] nacks counts i n bound is within read few = absurd (omega arith)
counts_of-few (consumer ∷ consumers) nacks [] i n bound is within read few = cc
counts_of-few (consumer ∷ consumers) nacks (m ∷ counts) zero n bound is within read few =
    let first : m ≡ length (owned_by consumer.name nacks) = cc in
    let le = length-owned_by consumer.name nacks in
    omega (arith, read)
counts_of-few (consumer ∷ consumers) nacks (m ∷ counts) (suc i) n bound is within read few =
    let rest : counts ≡ counts_of consumers nacks = cc in
    counts_of-few consumers nacks counts i n bound rest (omega arith) read few

-- the count at a consumer's place is how many entries it has pending
pub counts_of-read : (consumers : List Consumer) (nacks : List Nack) (counts : List ℕ) (i n : ℕ) (consumer : Consumer) → counts ≡ counts_of consumers nacks → i < length consumers
    → n ≡ get_or counts i n → consumer ≡ get_or consumers i consumer → n ≡ length (owned_by consumer.name nacks)
counts_of-read consumers nacks counts i n consumer is within read at =
    let pending : Consumer → ℕ = λ other. length (owned_by other.name nacks) in
    read ∙ ap (λ (l : List ℕ). get_or l i n) is ∙ get_or-map pending consumers i consumer n within ∙ ap pending (sym at)

-- what is told of a stream, name by name and value by value
pub stream_told : (stream : StreamState) (count_name count last_name last added_name added groups_name groups first_name first end_name end : ReplyParts) → count_name ≡ bulk_string (codes "length") → count ≡ number (length stream.entries) → last_name ≡ bulk_string (codes "last-generated-id") → last ≡ bulk_string (spelling stream.last) → added_name ≡ bulk_string (codes "entries-added") → added ≡ number stream.added → groups_name ≡ bulk_string (codes "groups") → groups ≡ number (length stream.groups) → first_name ≡ bulk_string (codes "first-entry") → first ≡ entry_or_null (first_entry stream.entries) → end_name ≡ bulk_string (codes "last-entry") → end ≡ entry_or_null (last_entry stream.entries) → array_of (count_name ∷ count ∷ last_name ∷ last ∷ added_name ∷ added ∷ groups_name ∷ groups ∷ first_name ∷ first ∷ end_name ∷ end ∷ []) ≡ stream_answer stream
stream_told stream count_name count last_name last added_name added groups_name groups first_name first end_name end a b c d e f g h i j k l =
    rw (a, b, c, d, e, f, g, h, i, j, k, l) refl
