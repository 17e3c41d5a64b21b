-- Whether a read finds nothing: stream by stream, whatever COUNT and the moment are.
use Rattle.std.proofs.Common.{◌≡◌, ℕ, zero, suc, ℤ, pos, negsuc, Bool, true, false, ◌&&◌, ◌||◌, not, List, [], ◌∷◌, ◌++◌, map, Option, Some, None, refl, ap, sym, ◌∙◌}
use Rattle.sr_args.specs.{without_block, AreDifferent}
use Rattle.sr_args.specs.declared.call.Call.{Call}
use Rattle.sr_args.specs.declared.call.Call.TheVariants as calls
use Rattle.sr_args.specs.declared.call.Position.{Position}
use Rattle.sr_args.specs.declared.commands.xread.Xread.{Xread}
use Rattle.sr_args.specs.declared.call.Position.TheVariants.{At}
use Rattle.sr_args.specs.declared.reads.ReadAsked.{ReadAsked}
use Rattle.sr_args.specs.declared.reads.ReadAsked.TheVariants as asked
use Rattle.sr_entries.specs.declared.entry.Entry.{Entry}
use Rattle.sr_entries.specs.{entries_above, first_of}
use Rattle.sr_group.specs.{GroupState}
use Rattle.sr_ids.specs.declared.id.Id.{Id}
use Rattle.sr_resp.specs.{ReplyParts}
use Rattle.sr_stream.specs.{group_with, StreamState}
use Rattle.sr_space.specs.Blocking.{fixed_position, is_nothing, waiting_as}
use Rattle.sr_space.specs.Keys.{Key, Keys, entries_of, stream_at}
use Rattle.sr_space.specs.commands.Xread.{count_of, entries_of_key, read_from, read_streams}
use Rattle.sr_space.specs.commands.Xread as xread
use Rattle.sr_space.specs.commands.Xreadgroup as xreadgroup
use Rattle.sr_space.specs.steps.Waiting.{any_after, has_after, has_answer, is_something, lists_any, lists_found, lists_stream}

-- two lists list something if one of them does
is_something-append : {X : Type 0} (xs ys : List X) → is_something (xs ++ ys) ≡ (is_something xs || is_something ys)
is_something-append [] ys = refl
is_something-append (x ∷ xs) ys = refl

-- COUNT leaves some entries if there are some
pub is_something-first_of : (count : Option ℤ) (entries : List Entry) → is_something (first_of (count_of count) entries) ≡ is_something entries
is_something-first_of None entries = refl
is_something-first_of (Some (pos zero)) entries = refl
is_something-first_of (Some (pos (suc n))) [] = refl
is_something-first_of (Some (pos (suc n))) (entry ∷ entries) = refl
is_something-first_of (Some (negsuc n)) entries = refl

is_something-entries_of_key : (key : Key) (entries : List Entry) → is_something (entries_of_key key entries) ≡ is_something entries
is_something-entries_of_key key [] = refl
is_something-entries_of_key key (entry ∷ entries) = refl

-- what is listed of a key
is_something-key : (key : Key) (count : Option ℤ) (entries : List Entry) → is_something (entries_of_key key (first_of (count_of count) entries)) ≡ is_something entries
is_something-key key count entries = is_something-entries_of_key key (first_of (count_of count) entries) ∙ is_something-first_of count entries

-- XREAD
pub any_after-read : (count : Option ℤ) (keys : Keys) (streams : List (Key × Position)) → is_something (read_streams count keys streams) ≡ any_after keys streams
any_after-read count keys [] = refl
any_after-read count keys (stream ∷ streams) =
    let found = stream_at keys stream.0 in
    let here : is_something (xread.read_stream count keys stream.0 stream.1) ≡ has_after stream.1 found = is_something-key stream.0 count (entries_above (read_from stream.1 found) (entries_of found)) in
    is_something-append (xread.read_stream count keys stream.0 stream.1) (read_streams count keys streams)
    ∙ ap (λ (b : Bool). b || is_something (read_streams count keys streams)) here
    ∙ ap (λ (b : Bool). has_after stream.1 found || b) (any_after-read count keys streams)

module _ (moment : ℕ) (name consumer : List ℕ) (count : Option ℤ) (no_ack : Bool) where
  abbrev listed_in : ReadAsked → Key → Option StreamState → List ReplyParts
  listed_in asked key found = (xreadgroup.read_stream moment name consumer (count_of count) no_ack asked key found).listed

  abbrev listed : Keys → List (Key × ReadAsked) → List ReplyParts
  listed keys streams = xreadgroup.listed_of_all moment name consumer (count_of count) no_ack keys streams

  lists_found-read : (asked : ReadAsked) (key : Key) (stream : StreamState) (found : Option GroupState)
      → is_something (xreadgroup.read_found moment name consumer (count_of count) no_ack asked key stream found).listed ≡ lists_found asked stream.entries found
  lists_found-read asked key stream None = refl
  lists_found-read asked.New key stream (Some group) = is_something-key key count (entries_above group.last stream.entries)
  lists_found-read (asked.PendingAfter id) key stream (Some group) = refl

  lists_stream-read : (asked : ReadAsked) (key : Key) (found : Option StreamState) → is_something (listed_in asked key found) ≡ lists_stream name asked found
  lists_stream-read asked key None = refl
  lists_stream-read asked key (Some stream) = lists_found-read asked key stream (group_with name stream.groups)

  -- XREADGROUP
  pub lists_any-read : (keys : Keys) (streams : List (Key × ReadAsked)) → is_something (listed keys streams) ≡ lists_any name keys streams
  lists_any-read keys [] = refl
  lists_any-read keys (stream ∷ streams) =
      let found = stream_at keys stream.0 in
      is_something-append (listed_in stream.1 stream.0 found) (listed keys streams)
      ∙ ap (λ (b : Bool). b || is_something (listed keys streams)) (lists_stream-read stream.1 stream.0 found)
      ∙ ap (λ (b : Bool). lists_stream name stream.1 found || b) (lists_any-read keys streams)

  not-both : (there nothing : Bool) → not (there && nothing) ≡ (not there || not nothing)
  not-both true nothing = refl
  not-both false nothing = refl

  pub has_answer-read : (keys : Keys) (streams : List (Key × ReadAsked)) → not (xreadgroup.have_group name keys streams && is_nothing (listed keys streams)) ≡ has_answer name keys streams
  has_answer-read keys streams =
      let there = xreadgroup.have_group name keys streams in
      not-both there (is_nothing (listed keys streams)) ∙ ap (λ (b : Bool). not there || b) (lists_any-read keys streams)

-- a group that is there is listed after an id
pub lists-pending : (read : ReadAsked) (id : Id) (entries : List Entry) (group : GroupState) (found : Option GroupState) → read ≡ asked.PendingAfter id → Some group ≡ found → true ≡ lists_found read entries found
lists-pending read id entries group found is there = rw (is, sym there) refl

-- if the group is there, the read has an answer if something is listed
pub answers : (name : List ℕ) (keys : Keys) (streams : List (Key × ReadAsked)) (lists : Bool) → xreadgroup.have_group name keys streams ≡ true → lists ≡ lists_any name keys streams → lists ≡ has_answer name keys streams
answers name keys streams lists there is = rw there is

-- the streams of a read that waits have the keys that they had, so that each is named once
fixed-keys : (keys : Keys) (streams : List (Key × Position)) → map (λ stream. stream.0) streams ≡ map (λ stream. stream.0) (map (fixed_position keys) streams)
fixed-keys keys [] = refl
fixed-keys keys (stream ∷ streams) = ap (λ (l : List Key). stream.0 ∷ l) (fixed-keys keys streams)

pub fixed-different : (keys : Keys) (streams list : List (Key × Position)) → AreDifferent (map (λ stream. stream.0) streams) → list ≡ map (fixed_position keys) streams → AreDifferent (map (λ stream. stream.0) list)
fixed-different keys streams list different is = rw (is, sym (fixed-keys keys streams)) different

-- the item that waits for an item of the call
pub waits-at : (keys : Keys) (item : Key × Position) (key : Key) (id : Id) → key ≡ item.0 → id ≡ read_from item.1 (stream_at keys item.0) → (key, At id) ≡ fixed_position keys item
waits-at keys (key, from) now id same is = ap (λ (k : Key). (k, At id)) same ∙ ap (λ (i : Id). (key, At i)) is

-- another call than XREAD waits as it does without BLOCK
pub without-waits : (keys : Keys) (call : Call) → ((read : Xread) → call ≡ calls.Xread read → ⊥) → without_block call ≡ waiting_as keys call
without-waits keys (calls.Xread read) other = absurd (other read refl)
without-waits keys (calls.Xreadgroup read) other = refl
without-waits keys call other = refl
