-- What XREADGROUP lists and leaves, stream by stream.
use Rattle.std.proofs.Common.{◌≡◌, ℕ, IsTrue, Bool, true, false, cond, ◌&&◌, List, [], ◌∷◌, ◌++◌, map, filter, Option, Some, inl, inr, refl, ap, sym, ◌∙◌, append_assoc}
use Rattle.std.specs.List.{list_all}
use Rattle.sr_args.specs.{IsAmong}
use Rattle.sr_args.specs.declared.reads.ReadAsked.{ReadAsked}
use Rattle.sr_args.specs.declared.reads.ReadAsked.TheVariants.{New, PendingAfter}
use Rattle.sr_bytes.specs.{comes_before}
use Rattle.sr_entries.specs.declared.entry.Entry.{Entry}
use Rattle.sr_entries.specs.{entries_above, entry_with}
use Rattle.sr_entries.specs.Entries as entries
use Rattle.sr_group.specs.declared.shown.Listed.{Listed}
use Rattle.sr_group.specs.{history_of, new_entries, GroupState, KeptGroup, HasRoomFor}
use Rattle.sr_group.specs.Delivery.{after_delivery, after_history, listed_in}
use Rattle.sr_group.specs.Shown.{ShownState}
use Rattle.sr_group.proofs.NameLemmas.{is_same_name-before, is_same_name-refl}
use Rattle.sr_ids.specs.declared.id.Id.{Id}
use Rattle.sr_pending.specs.declared.nack.Nack.{Nack}
use Rattle.sr_resp.specs.{ReplyParts, array_of, bulk_string}
use Rattle.sr_stream.specs.{ByName, group_with, has_group, with_group, StreamState, KeptStream, with_groups}
use Rattle.sr_stream.specs.Groups.{AreInOrder}
use Rattle.sr_stream.specs.Stream.{kept_with_group}
use Rattle.sr_stream.proofs.GroupsLemmas.{with_group-same}
use Rattle.sr_space.specs.Bounds.{in_63_bits}
use Rattle.sr_space.specs.Keys.{Key, Keys, shown_keys, shown_of, stream_at, with_stream}
use Rattle.sr_space.specs.Touched.{left_at}
use Rattle.sr_space.specs.commands.Xread.{count_of, entries_of_key, listed_or_null}
use Rattle.sr_space.specs.commands.Xreadgroup.{again_answer, has_group_in, have_group, history_answer}
use Rattle.sr_space.specs.declared.commands.xreadgroup.GroupRead.{GroupRead}
use Rattle.sr_space.specs.steps.Reading.{HasRoomAt, HasRoomIn, StayBeside, StayBesideAll, Stored, Writes, WritesAt, after_call, by_read, history_item, in_group, in_stream, kept_at, keys_after, listed_by, named_by}
use Rattle.sr_space.proofs.KeysLemmas.{stream_at-shown}
use Rattle.sr_space.proofs.ArrayLemmas.{HasLeft}

abbrev pub again : List Entry → Listed → ReplyParts
again entries item = again_answer item.id (entry_with item.id entries)

-- of all that is listed, the replies of those that are left are still to come
abbrev pub HasListed : List Entry → List Listed → List Listed → ReplyParts → Type 0
HasListed entries all left items = HasLeft items (map (again entries) left) (map (again entries) all)

-- what is listed of a history is the history's answer
pub history-listed : (key : List ℕ) (entries : List Entry) (history : List Nack) (listed : List Listed) → listed ≡ map (listed_in entries) history → history_item key entries listed ≡ history_answer key entries history
history-listed key entries history listed are =
    ap (λ (l : List ReplyParts). array_of (bulk_string key ∷ array_of l ∷ [])) (ap (map (again entries)) are ∙ each history)
  where
    each : (history : List Nack) → map (again entries) (map (listed_in entries) history) ≡ map (λ (nack : Nack). again_answer nack.id (entry_with nack.id entries)) history
    each [] = refl
    each (nack ∷ history) = ap (λ (l : List ReplyParts). again_answer nack.id (entry_with nack.id entries) ∷ l) (each history)

-- a group that was put under its name is there
abbrev before : {G : Type 0} → List ℕ → ByName G → ByName G
before name groups = filter (λ other. comes_before other.0 name) groups

module _ {G : Type 0} (name : List ℕ) (group : G) (after : ByName G) where
  first-with_group : group_with name ((name, group) ∷ after) ≡ Some group
  first-with_group = rw (is_same_name-refl name) refl

  past-with_group : (xs : ByName G) → group_with name (before name xs ++ (name, group) ∷ after) ≡ Some group
  past-with_group [] = first-with_group
  past-with_group (x ∷ xs) = by (comes_before x.0 name) refl (past-with_group xs)
    where
      by : (test : Bool) → comes_before x.0 name ≡ test → group_with name (before name xs ++ (name, group) ∷ after) ≡ Some group
          → group_with name (cond test (x ∷ before name xs) (before name xs) ++ (name, group) ∷ after) ≡ Some group
      by true earlier is = rw (is_same_name-before x.0 name earlier) is
      by false later is = is

pub group_with-with_group : {G : Type 0} (name : List ℕ) (group : G) (groups : ByName G) → group_with name (with_group name group groups) ≡ Some group
group_with-with_group name group groups = past-with_group name group (filter (λ other. comes_before name other.0) groups) groups

module _ (name : List ℕ) (stream : StreamState) (kept : KeptStream) (lent now : KeptGroup) where
  -- a group that still shows what it showed leaves its stream as it was shown
  pub shown-lent : AreInOrder stream.groups → Some lent.shown ≡ group_with name stream.groups → now.shown ≡ lent.shown → with_groups (with_group name now.shown stream.groups) stream ≡ stream
  shown-lent order found same =
      ap (λ (group : GroupState). with_groups (with_group name group stream.groups) stream) same
      ∙ ap (λ (groups : ByName GroupState). with_groups groups stream) (with_group-same name lent.shown stream.groups order (sym found))

  -- and the stream has the room that the group has
  pub room-lent : (shown : ShownState) → with_groups (with_group name now.shown kept.shown.groups) kept.shown ≡ kept.shown → IsTrue (has_group name kept.shown.groups) → HasRoomFor shown now → HasRoomIn name shown (kept_with_group name now kept)
  room-lent shown same there room = record {
    group = now;
    found = group_with-with_group name now kept.groups;
    room = room;
    has = ap (λ (s : StreamState). has_group name s.groups) same ∙ there;
  }

-- each of the keys has the group
pub all-have_group : (name : List ℕ) (keys : Keys) (streams : List (Key × ReadAsked)) → list_all (λ (stream : Key × ReadAsked). has_group_in name (stream_at keys stream.0)) streams ≡ have_group name keys streams
all-have_group name keys [] = refl
all-have_group name keys (stream ∷ streams) = ap (λ (rest : Bool). has_group_in name (stream_at keys stream.0) && rest) (all-have_group name keys streams)

-- what is shown of a stream that was found at a key
pub shown-found : (stored : Stored) (key : Key) (kept : KeptStream) → kept_at stored key ≡ Some kept → stream_at (shown_keys stored) key ≡ Some kept.shown
shown-found stored key kept found = stream_at-shown stored key ∙ ap shown_of found

pub same-shown : (stored : Stored) (key : Key) (kept : KeptStream) → kept_at stored key ≡ Some kept → (stream : StreamState) → stream_at (shown_keys stored) key ≡ Some stream → kept.shown ≡ stream
same-shown stored key kept found stream at = cc (shown-found stored key kept found, at)

-- what is written in the stream is written at the key
pub writes-at : (r : GroupRead) (asked : ReadAsked) (shown : ShownState) (stored : Stored) (key : Key) (kept : KeptStream) → kept_at stored key ≡ Some kept → Writes r asked key shown kept.shown → WritesAt r asked key shown (stream_at (shown_keys stored) key)
writes-at r asked shown stored key kept found writes stream at = rw (sym (same-shown stored key kept found stream at)) writes

-- the first stream: it made room, the others were read, and it was shown
module _ (r : GroupRead) (asked : ReadAsked) (key : Key) (rest : List (Key × ReadAsked)) (shown : ShownState) (begun prepared read ended : Stored) where
  pub first-read : shown_keys prepared ≡ shown_keys begun → HasRoomAt r.group.now shown key prepared → WritesAt r asked key shown (stream_at (shown_keys begun) key)
      → shown_keys read ≡ keys_after r (shown_keys prepared) rest → StayBesideAll (named_by rest) prepared read → (IsAmong key (named_by rest) → ⊥)
      → ((stream : StreamState) → stream_at (shown_keys read) key ≡ Some stream → shown_keys ended ≡ with_stream (shown_keys read) key (after_call r.group.now shown stream))
      → shown_keys ended ≡ keys_after r (shown_keys begun) ((key, asked) ∷ rest)
  first-read same room writes after others apart effect =
      let kept = room.kept in
      let there = shown-found read key kept (others key apart ∙ room.there) in
      let at : stream_at (shown_keys begun) key ≡ Some kept.shown = ap (λ (keys : Keys). stream_at keys key) (sym same) ∙ shown-found prepared key kept room.there in
      let written : (in_stream r asked key (stream_at (shown_keys begun) key)).written ≡ Some (after_call r.group.now shown kept.shown) =
      ap (λ (found : Option StreamState). (in_stream r asked key found).written) at ∙ writes kept.shown at in
      effect kept.shown there
      ∙ ap (λ (keys : Keys). with_stream keys key (after_call r.group.now shown kept.shown)) (after ∙ ap (λ (keys : Keys). keys_after r keys rest) same)
      ∙ sym (ap (left_at (keys_after r (shown_keys begun) rest) key) written)

  -- it lists what comes before what the others list
  pub first-listed : (old now end : ReplyParts) → shown_keys prepared ≡ shown_keys begun
      → ((items : List ReplyParts) → old ≡ array_of items → now ≡ array_of (items ++ (in_stream r asked key (stream_at (shown_keys begun) key)).listed))
      → ((items : List ReplyParts) → now ≡ array_of items → end ≡ listed_or_null (items ++ listed_by r (shown_keys prepared) rest))
      → (items : List ReplyParts) → old ≡ array_of items → end ≡ listed_or_null (items ++ listed_by r (shown_keys begun) ((key, asked) ∷ rest))
  first-listed old now end same first others items is =
      let more = (in_stream r asked key (stream_at (shown_keys begun) key)).listed in
      others (items ++ more) (first items is)
      ∙ ap (λ (keys : Keys). listed_or_null ((items ++ more) ++ listed_by r keys rest)) same
      ∙ ap listed_or_null (append_assoc items more (listed_by r (shown_keys begun) rest))

  -- and all other keys stay
  pub others-read : StayBeside key begun prepared → StayBesideAll (named_by rest) prepared read → StayBesideAll (key ∷ named_by rest) begun read
  others-read first others other apart = others other (λ among. apart (inr among)) ∙ first other (λ same. apart (inl same))

  pub others-shown : StayBesideAll (key ∷ named_by rest) begun read → StayBeside key read ended → StayBesideAll (key ∷ named_by rest) begun ended
  others-shown before shows other apart = shows other (λ same. apart (inl same)) ∙ before other apart

-- what all streams list is what the call leads to, if each of the keys has the group
pub read-outcome : (r : GroupRead) (streams : List (Key × ReadAsked)) (keys : Keys) → have_group r.group.now keys streams ≡ true → listed_or_null (listed_by r keys streams) ≡ (by_read r streams keys).outcome
read-outcome r streams keys there = rw there refl

-- what is delivered of a stream, and what is listed of it then
module _ (r : GroupRead) (asked : ReadAsked) (key : Key) (list : List Entry) (group : GroupState) (moment : ℕ) (count : Option ℕ) where
  pub delivered : moment ≡ in_63_bits r.moment → count ≡ count_of r.count → asked ≡ New → after_delivery r.consumer.now moment r.no_ack (new_entries group.last count list) group ≡ (in_group r asked key list group).group
  delivered at most is = rw (is, at, most) refl

  pub new-listed : (above found : List Entry) (last : Id) → count ≡ count_of r.count → asked ≡ New → last ≡ group.last → above ≡ entries_above last list → found ≡ entries.first_of count above
      → entries_of_key key found ≡ (in_group r asked key list group).listed
  new-listed above found last most is at all first = rw (is, first, all, at, most) refl

  pub shown-again : (id : Id) → moment ≡ in_63_bits r.moment → count ≡ count_of r.count → asked ≡ PendingAfter id
      → after_history r.consumer.now moment list (history_of r.consumer.now id count group.nacks) group ≡ (in_group r asked key list group).group
  shown-again id at most is = rw (is, at, most) refl
