-- A read leaves no answer to a read that finds nothing: it takes no group away, and where a group has delivered all of its
-- stream, it stays where it is.
use Rattle.std.proofs.Common.{◌≡◌, ◌≢◌, ℕ, ℤ, Bool, true, false, cond, ◌&&◌, ◌||◌, not, List, [], ◌∷◌, nat_eq, Option, Some, None, refl, ap, sym, ◌∙◌, true≢false}
use Rattle.std.specs.Prelude.{IfSome}
use Rattle.std.specs.Cmp.Lexicographic.{pointwise, bytes_decides}
use Rattle.sr_args.specs.declared.call.Call.{Call}
use Rattle.sr_args.specs.declared.call.Call.TheVariants as calls
use Rattle.sr_args.specs.declared.call.Position.{Position}
use Rattle.sr_args.specs.declared.call.Position.TheVariants as positions
use Rattle.sr_args.specs.declared.commands.xread.Xread.{Xread}
use Rattle.sr_args.specs.declared.commands.xreadgroup.Xreadgroup.{Xreadgroup}
use Rattle.sr_args.specs.declared.reads.ReadAsked.{ReadAsked}
use Rattle.sr_args.specs.declared.reads.ReadAsked.TheVariants as asked
use Rattle.sr_entries.specs.declared.entry.Entry.{Entry}
use Rattle.sr_entries.specs.{entries_above, last_id_or}
use Rattle.sr_group.specs.{new_entries, GroupState}
use Rattle.sr_group.proofs.NameLemmas.{is_same_name-true, is_same_name-refl}
use Rattle.sr_ids.specs.declared.id.Id.{Id}
use Rattle.sr_pending.specs.{is_same_name}
use Rattle.sr_resp.specs.declared.code.ErrCode.TheVariants as errors
use Rattle.sr_resp.specs.{ReplyParts, error_reply}
use Rattle.sr_stream.specs.{ByName, group_with, has_group, with_group, StreamState, with_groups}
use Rattle.sr_space.specs.Blocking.{finds_nothing, is_nothing}
use Rattle.sr_space.specs.Bounds.{in_63_bits}
use Rattle.sr_space.specs.Effect.{at_once}
use Rattle.sr_space.specs.Keys.{Key, Keys, stream_at, with_stream}
use Rattle.sr_space.specs.Readers.{is_read}
use Rattle.sr_space.specs.Touched.{Executed, left_at, unchanged}
use Rattle.sr_space.specs.commands.Xread.{count_of, listed_or_null, read_streams}
use Rattle.sr_space.specs.commands.Xreadgroup.{after_reads, has_group_in, have_group, listed_of_all, read_found, read_group}
use Rattle.sr_space.specs.commands.Xreadgroup as grouped
use Rattle.sr_space.specs.steps.Waiting.{any_after, has_after, is_something, lists_any, lists_found, lists_group, lists_stream}
use Rattle.sr_space.proofs.KeyLaws.{stream_at-with_stream, stream_at-with_stream_other}
use Rattle.sr_space.proofs.NoAckLaws.{with_group-other}
use Rattle.sr_space.proofs.ReadGroupLemmas.{group_with-with_group}
use Rattle.sr_space.proofs.WaitingLemmas.{any_after-read, is_something-first_of, lists_any-read}

pub both : (a b : Bool) → (a && b) ≡ true → (a ≡ true) × (b ≡ true)
both true b e = (refl, e)
both false b e = cc

neither : (a b : Bool) → (a || b) ≡ false → (a ≡ false) × (b ≡ false)
neither true b e = cc
neither false b e = (refl, e)

nothing-something : {X : Type 0} (xs : List X) → is_nothing xs ≡ true → is_something xs ≡ false
nothing-something xs e = ap not e

something-nothing : {X : Type 0} (xs : List X) → is_something xs ≡ false → is_nothing xs ≡ true
something-nothing [] e = refl
something-nothing (x ∷ xs) e = cc

is-empty : {X : Type 0} (xs : List X) → is_something xs ≡ false → xs ≡ []
is-empty [] e = refl
is-empty (x ∷ xs) e = cc

-- ---- a group that is put under its name

found-has_group : {G : Type 0} (name : List ℕ) (groups : ByName G) (group : G) → group_with name groups ≡ Some group → has_group name groups ≡ true
found-has_group name [] group found = cc
found-has_group name (x ∷ xs) group found = by (found-has_group name xs group) (is_same_name x.0 name) found
  where
    by : (group_with name xs ≡ Some group → has_group name xs ≡ true) → (test : Bool) → cond test (Some x.1) (group_with name xs) ≡ Some group → (test || has_group name xs) ≡ true
    by rest true found = refl
    by rest false found = rest found

missing-has_group : {G : Type 0} (name : List ℕ) (groups : ByName G) → group_with name groups ≡ None → has_group name groups ≡ false
missing-has_group name [] none = refl
missing-has_group name (x ∷ xs) none = by (missing-has_group name xs) (is_same_name x.0 name) none
  where
    by : (group_with name xs ≡ None → has_group name xs ≡ false) → (test : Bool) → cond test (Some x.1) (group_with name xs) ≡ None → (test || has_group name xs) ≡ false
    by rest true none = cc
    by rest false none = rest none

-- a group of a name is there exactly if one is found
has_group-alike : {G : Type 0} (name : List ℕ) (now groups : ByName G) → group_with name now ≡ group_with name groups → has_group name groups ≡ true → has_group name now ≡ true
has_group-alike name now groups same there = by (group_with name groups) refl
  where
    by : (found : Option _) → group_with name groups ≡ found → has_group name now ≡ true
    by None e = absurd (true≢false (sym there ∙ missing-has_group name groups e))
    by (Some group) e = found-has_group name now group (same ∙ e)

-- a name is this one, or the group that it has stays
module _ (name other : List ℕ) (left group : GroupState) (groups : ByName GroupState) (found : group_with name groups ≡ Some group) where
  apart : is_same_name other name ≡ false → other ≢ name
  apart test same = true≢false (sym (is_same_name-refl name) ∙ ap (λ (n : List ℕ). is_same_name n name) (sym same) ∙ test)

  put-there : has_group other groups ≡ true → has_group other (with_group name left groups) ≡ true
  put-there there = by (is_same_name other name) refl
    where
      by : (test : Bool) → is_same_name other name ≡ test → has_group other (with_group name left groups) ≡ true
      by true e =
          let is : other ≡ name = is_same_name-true other name e in
          rw is (found-has_group name (with_group name left groups) left (group_with-with_group name left groups))
      by false e = has_group-alike other (with_group name left groups) groups (with_group-other other name left groups (apart e)) there

  -- if the group stays where it is as long as there is nothing to deliver, then as little is listed as before
  module _ (entries : List Entry) (stays : lists_group asked.New entries group ≡ false → left.last ≡ group.last) where
    group-quiet : (read : ReadAsked) → lists_group read entries group ≡ false → lists_group read entries left ≡ false
    group-quiet asked.New none = ap (λ (id : Id). is_something (entries_above id entries)) (stays none) ∙ none
    group-quiet (asked.PendingAfter id) none = cc

    put-quiet : (read : ReadAsked) → lists_found read entries (group_with other groups) ≡ false → lists_found read entries (group_with other (with_group name left groups)) ≡ false
    put-quiet read none = by (is_same_name other name) refl
      where
        by : (test : Bool) → is_same_name other name ≡ test → lists_found read entries (group_with other (with_group name left groups)) ≡ false
        by true e =
            let is : other ≡ name = is_same_name-true other name e in
            let before : lists_group read entries group ≡ false = sym (ap (lists_found read entries) (ap (λ (n : List ℕ). group_with n groups) is ∙ found)) ∙ none in
            rw is (ap (lists_found read entries) (group_with-with_group name left groups) ∙ group-quiet read before)
        by false e = ap (lists_found read entries) (with_group-other other name left groups (apart e)) ∙ none

-- ---- streams that give a read no more than before

-- as much lies after a place; a group that was there is there still; and where nothing was listed, nothing is
pub record IsAsQuiet (found now : Option StreamState) : Type 0 where
  pub after : (from : Position) → has_after from now ≡ has_after from found
  pub there : (name : List ℕ) → has_group_in name found ≡ true → has_group_in name now ≡ true
  pub quiet : (name : List ℕ) (read : ReadAsked) → lists_stream name read found ≡ false → lists_stream name read now ≡ false

stays-quiet : (found : Option StreamState) → IsAsQuiet found found
stays-quiet found = record { after = λ from. refl; there = λ name had. had; quiet = λ name read none. none }

module _ (moment : ℕ) (name consumer : List ℕ) (count : Option ℤ) (no_ack : Bool) where
  -- a group of which nothing is left to deliver
  left-last : (read : ReadAsked) (key : Key) (entries : List Entry) (group : GroupState) → lists_group asked.New entries group ≡ false → (read_group moment name consumer (count_of count) no_ack read key entries group).group.last ≡ group.last
  left-last asked.New key entries group none =
      let new : new_entries group.last (count_of count) entries ≡ [] = is-empty (new_entries group.last (count_of count) entries) (is_something-first_of count (entries_above group.last entries) ∙ none) in
      ap (last_id_or group.last) new
  left-last (asked.PendingAfter id) key entries group none = refl

  found-quiet : (read : ReadAsked) (key : Key) (stream : StreamState) (group : GroupState) → group_with name stream.groups ≡ Some group
      → IsAsQuiet (Some stream) (Some (with_groups (with_group name (read_group moment name consumer (count_of count) no_ack read key stream.entries group).group stream.groups) stream))
  found-quiet read key stream group found =
      let left = (read_group moment name consumer (count_of count) no_ack read key stream.entries group).group in
      record {
        after = after left;
        there = λ other had. put-there name other left group stream.groups found had;
        quiet = λ other again none. put-quiet name other left group stream.groups found stream.entries (left-last read key stream.entries group) again none;
      }
    where
      after : (left : GroupState) (from : Position) → has_after from (Some (with_groups (with_group name left stream.groups) stream)) ≡ has_after from (Some stream)
      after left positions.Last = refl
      after left (positions.At id) = refl

  written-found : (read : ReadAsked) (key : Key) (stream : StreamState) (found : Option GroupState) → group_with name stream.groups ≡ found
      → IfSome (read_found moment name consumer (count_of count) no_ack read key stream found).written (λ now. IsAsQuiet (Some stream) (Some now))
  written-found read key stream None found = tt
  written-found read key stream (Some group) found = found-quiet read key stream group found

  written-quiet : (read : ReadAsked) (key : Key) (found : Option StreamState)
      → IfSome (grouped.read_stream moment name consumer (count_of count) no_ack read key found).written (λ now. IsAsQuiet found (Some now))
  written-quiet read key None = tt
  written-quiet read key (Some stream) = written-found read key stream (group_with name stream.groups) refl

  left-quiet : (keys now : Keys) (key other : Key) (written : Option StreamState) → IfSome written (λ stream. IsAsQuiet (stream_at keys key) (Some stream)) → IsAsQuiet (stream_at keys other) (stream_at now other)
      → IsAsQuiet (stream_at keys other) (stream_at (left_at now key written) other)
  left-quiet keys now key other None is rest = rest
  left-quiet keys now key other (Some stream) is rest = by (pointwise nat_eq other key) refl
    where
      by : (test : Bool) → pointwise nat_eq other key ≡ test → IsAsQuiet (stream_at keys other) (stream_at (with_stream now key stream) other)
      by true e =
          let key_is : other ≡ key = (bytes_decides other key).0 e in
          rw (key_is, stream_at-with_stream now key stream) is
      by false e =
          let differs : other ≢ key = λ same. true≢false (sym ((bytes_decides other key).1 same) ∙ e) in
          rw (stream_at-with_stream_other now key other stream differs) rest

  reads-quiet : (keys : Keys) (streams : List (Key × ReadAsked)) (other : Key)
      → IsAsQuiet (stream_at keys other) (stream_at (after_reads moment name consumer (count_of count) no_ack keys streams) other)
  reads-quiet keys [] other = stays-quiet (stream_at keys other)
  reads-quiet keys (stream ∷ streams) other =
      let found = stream_at keys stream.0 in
      left-quiet keys (after_reads moment name consumer (count_of count) no_ack keys streams) stream.0 other (grouped.read_stream moment name consumer (count_of count) no_ack stream.1 stream.0 found).written
      (written-quiet stream.1 stream.0 found) (reads-quiet keys streams other)

  grouped-quiet : (there : Bool) (keys : Keys) (streams : List (Key × ReadAsked)) (answer : ReplyParts) (other : Key)
      → IsAsQuiet (stream_at keys other) (stream_at (cond there (let found : Executed = record { keys = after_reads moment name consumer (count_of count) no_ack keys streams; outcome = answer } in found) (unchanged keys (error_reply errors.NoGroup))).keys other)
  grouped-quiet true keys streams answer other = reads-quiet keys streams other
  grouped-quiet false keys streams answer other = stays-quiet (stream_at keys other)

-- each stream gives a read no more than before, after a read
after-read : (keys : Keys) (moment : ℕ) (call : Call) (key : Key) → is_read call ≡ true → IsAsQuiet (stream_at keys key) (stream_at (at_once keys moment call).keys key)
after-read keys moment (calls.Xread read) key is = stays-quiet (stream_at keys key)
after-read keys moment (calls.Xreadgroup read) key is =
    grouped-quiet (in_63_bits moment) read.group read.consumer read.count read.no_ack (have_group read.group keys read.streams) keys read.streams
    (listed_or_null (listed_of_all (in_63_bits moment) read.group read.consumer (count_of read.count) read.no_ack keys read.streams)) key
after-read keys moment call key is = cc

-- ---- a read that finds nothing finds nothing in such streams

module _ (keys now : Keys) (quiet : (key : Key) → IsAsQuiet (stream_at keys key) (stream_at now key)) where
  any_after-quiet : (streams : List (Key × Position)) → any_after now streams ≡ any_after keys streams
  any_after-quiet [] = refl
  any_after-quiet (stream ∷ streams) =
      ap (λ (b : Bool). b || any_after now streams) ((quiet stream.0).after stream.1)
      ∙ ap (λ (b : Bool). has_after stream.1 (stream_at keys stream.0) || b) (any_after-quiet streams)

  still-there : (name : List ℕ) (streams : List (Key × ReadAsked)) → have_group name keys streams ≡ true → have_group name now streams ≡ true
  still-there name [] there = refl
  still-there name (stream ∷ streams) there =
      let parts = both (has_group_in name (stream_at keys stream.0)) (have_group name keys streams) there in
      rw ((quiet stream.0).there name parts.0) (still-there name streams parts.1)

  still-unlisted : (name : List ℕ) (streams : List (Key × ReadAsked)) → lists_any name keys streams ≡ false → lists_any name now streams ≡ false
  still-unlisted name [] none = refl
  still-unlisted name (stream ∷ streams) none =
      let parts = neither (lists_stream name stream.1 (stream_at keys stream.0)) (lists_any name keys streams) none in
      rw ((quiet stream.0).quiet name stream.1 parts.0) (still-unlisted name streams parts.1)

  read-quiet : (read : Xread) → is_nothing (read_streams read.count keys read.streams) ≡ true → is_nothing (read_streams read.count now read.streams) ≡ true
  read-quiet read none =
      let before = read_streams read.count keys read.streams in
      let after = read_streams read.count now read.streams in
      something-nothing after (any_after-read read.count now read.streams ∙ any_after-quiet read.streams ∙ sym (any_after-read read.count keys read.streams) ∙ nothing-something before none)

  group-read-quiet : (earlier later : ℕ) (read : Xreadgroup) → finds_nothing keys earlier (calls.Xreadgroup read) ≡ true → finds_nothing now later (calls.Xreadgroup read) ≡ true
  group-read-quiet earlier later read none =
      let listed : Keys → ℕ → List ReplyParts = λ at time. listed_of_all (in_63_bits time) read.group read.consumer (count_of read.count) read.no_ack at read.streams in
      let parts = both (have_group read.group keys read.streams) (is_nothing (listed keys earlier)) none in
      let unlisted : lists_any read.group keys read.streams ≡ false =
      sym (lists_any-read (in_63_bits earlier) read.group read.consumer read.count read.no_ack keys read.streams) ∙ nothing-something (listed keys earlier) parts.1 in
      let there : have_group read.group now read.streams ≡ true = still-there read.group read.streams parts.0 in
      let still : is_nothing (listed now later) ≡ true =
      something-nothing (listed now later) (lists_any-read (in_63_bits later) read.group read.consumer read.count read.no_ack now read.streams ∙ still-unlisted read.group read.streams unlisted) in
      rw (there, still) refl

  pub finds-quiet : (earlier later : ℕ) (read : Call) → finds_nothing keys earlier read ≡ true → finds_nothing now later read ≡ true
  finds-quiet earlier later (calls.Xread read) none = read-quiet read none
  finds-quiet earlier later (calls.Xreadgroup read) none = group-read-quiet earlier later read none
  finds-quiet earlier later read none = cc

-- whoever finds nothing finds nothing still after a read
pub read-finds : (keys : Keys) (moment earlier later : ℕ) (call read : Call) → is_read call ≡ true → finds_nothing keys earlier read ≡ true → finds_nothing (at_once keys moment call).keys later read ≡ true
read-finds keys moment earlier later call read is none = finds-quiet keys (at_once keys moment call).keys (λ key. after-read keys moment call key is) earlier later read none
