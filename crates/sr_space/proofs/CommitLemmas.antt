-- What a plan's calls of XCLAIM leave of the keys, carried out one after another: one change of the group that they name.
use Rattle.std.proofs.Common.{◌≡◌, ℕ, Bool, true, false, cond, List, [], ◌∷◌, ◌++◌, Option, Some, None, nat_eq, map, filter, pos, refl, ap, sym, ◌∙◌, append-nil}
use Rattle.std.specs.Cmp.Lexicographic.{pointwise, bytes_decides}
use Rattle.std.specs.List.{All}
use Rattle.std.proofs.lemmas.List.Elements.{All-cons, All-nil, filter-append}
use Rattle.sr_args.specs.declared.call.Call.{Call}
use Rattle.sr_args.specs.declared.commands.xclaim.TimeAsked.TheVariants.{Now}
use Rattle.sr_bytes.specs.{comes_before}
use Rattle.sr_entries.specs.declared.entry.Entry.{Entry}
use Rattle.sr_group.specs.{after_moves, GroupState}
use Rattle.sr_group.specs.Claim.{HasCount, MoveState, after_move}
use Rattle.sr_group.proofs.NameLemmas.{comes_before-itself, comes_before-one_way}
use Rattle.sr_plan.specs.{BatchState, batches_in, calls_for, claim_call, claim_calls, PlanAnswer}
use Rattle.sr_policy.specs.{SnapshotState}
use Rattle.sr_stream.specs.{ByName, group_with, has_group, with_group, StreamState, with_groups}
use Rattle.sr_stream.specs.Groups.{AreInOrder}
use Rattle.sr_stream.proofs.GroupsLemmas.{AreInOrder-with_group, group_with-none, with_group-same}
use Rattle.sr_space.specs.Bounds.{in_63_bits}
use Rattle.sr_space.specs.Commit.{after_calls}
use Rattle.sr_space.specs.Effect.{at_once}
use Rattle.sr_space.specs.Grouped.{at_group}
use Rattle.sr_space.specs.Keys.{Key, Keys, stream_at, with_stream}
use Rattle.sr_space.specs.Touched.{left_at}
use Rattle.sr_space.specs.commands.Xclaim.{claim_of, claimed}
use Rattle.sr_space.specs.declared.grouped.Missing.TheVariants.{NoGroup}
use Rattle.sr_space.specs.steps.Claiming.{move_for, stream_after, with_batches}
use Rattle.sr_space.proofs.KeyLaws.{stream_at-with_stream}
use Rattle.sr_space.proofs.ReadGroupLemmas.{group_with-with_group}

-- ---- a second change in the same place

module _ {X : Type 0} where
  -- what passed a test passes it again
  filter-twice : (p : X → Bool) (xs : List X) → filter p (filter p xs) ≡ filter p xs
  filter-twice p [] = refl
  filter-twice p (x ∷ xs) = by (filter-twice p xs) (p x) refl
    where
      by : filter p (filter p xs) ≡ filter p xs → (test : Bool) → p x ≡ test → filter p (cond test (x ∷ filter p xs) (filter p xs)) ≡ cond test (x ∷ filter p xs) (filter p xs)
      by rest true e = rw e (ap (λ (l : List X). x ∷ l) rest)
      by rest false e = rest

  -- and no other test that it rules out
  filter-neither : (p q : X → Bool) → ((x : X) → q x ≡ true → p x ≡ false) → (xs : List X) → filter p (filter q xs) ≡ []
  filter-neither p q apart [] = refl
  filter-neither p q apart (x ∷ xs) = by (filter-neither p q apart xs) (q x) refl
    where
      by : filter p (filter q xs) ≡ [] → (test : Bool) → q x ≡ test → filter p (cond test (x ∷ filter q xs) (filter q xs)) ≡ []
      by rest true e = rw (apart x e) rest
      by rest false e = rest

module _ {G : Type 0} (name : List ℕ) (first now : G) (groups : ByName G) where
  abbrev is_before : List ℕ × G → Bool
  is_before other = comes_before other.0 name

  abbrev is_after : List ℕ × G → Bool
  is_after other = comes_before name other.0

  abbrev behind : ByName G
  behind = (name, first) ∷ filter is_after groups

  before-with_group : filter is_before (with_group name first groups) ≡ filter is_before groups
  before-with_group =
      let none : filter is_before behind ≡ [] = rw (comes_before-itself name) (filter-neither is_before is_after (λ x later. comes_before-one_way name x.0 later) groups) in
      filter-append is_before (filter is_before groups) behind
      ∙ ap (λ (l : ByName G). l ++ filter is_before behind) (filter-twice is_before groups)
      ∙ ap (λ (l : ByName G). filter is_before groups ++ l) none
      ∙ append-nil (filter is_before groups)

  after-with_group : filter is_after (with_group name first groups) ≡ filter is_after groups
  after-with_group =
      let same : filter is_after behind ≡ filter is_after groups = rw (comes_before-itself name) (filter-twice is_after groups) in
      filter-append is_after (filter is_before groups) behind
      ∙ ap (λ (l : ByName G). l ++ filter is_after behind) (filter-neither is_after is_before (λ x earlier. comes_before-one_way x.0 name earlier) groups)
      ∙ same

  -- a group that is put under a name twice is there as it was put last
  with_group-twice : with_group name now (with_group name first groups) ≡ with_group name now groups
  with_group-twice =
      ap (λ (l : ByName G). l ++ (name, now) ∷ filter is_after (with_group name first groups)) before-with_group
      ∙ ap (λ (l : ByName G). filter is_before groups ++ (name, now) ∷ l) after-with_group

-- so is a stream at a key
with_stream-twice : (keys : Keys) (key : Key) (first now : StreamState) → with_stream (with_stream keys key first) key now ≡ with_stream keys key now
with_stream-twice [] key first now = rw ((bytes_decides key key).1 refl)
with_stream-twice (k ∷ keys) key first now = by (with_stream-twice keys key first now) (pointwise nat_eq key k.0) refl
  where
    by : with_stream (with_stream keys key first) key now ≡ with_stream keys key now → (test : Bool) → pointwise nat_eq key k.0 ≡ test → with_stream (with_stream (k ∷ keys) key first) key now ≡ with_stream (k ∷ keys) key now
    by rest true e = simp e
    by rest false e = simp e (ap (λ (l : Keys). k ∷ l) rest)

-- the stream that is at a key changes nothing there
with_stream-same : (keys : Keys) (key : Key) (stream : StreamState) → stream_at keys key ≡ Some stream → with_stream keys key stream ≡ keys
with_stream-same [] key stream found = absurd (cc)
with_stream-same (k ∷ keys) key stream found = by (with_stream-same keys key stream) (pointwise nat_eq key k.0) found
  where
    by : (stream_at keys key ≡ Some stream → with_stream keys key stream ≡ keys) → (test : Bool) → cond test (Some k.1) (stream_at keys key) ≡ Some stream → cond test ((k.0, stream) ∷ keys) (k ∷ with_stream keys key stream) ≡ k ∷ keys
    by rest true here = let same : k.1 ≡ stream = cc in ap (λ (s : StreamState). (k.0, s) ∷ keys) (sym same)
    by rest false later = ap (λ (l : Keys). k ∷ l) (rest later)

-- ---- batches that are moved in one group

module _ (moment : ℕ) (key : Key) (name : List ℕ) where
  -- a call leaves the stream that the move of its batch makes of it
  at_once-claim : (keys : Keys) (stream : StreamState) (batch : BatchState) → stream_at keys key ≡ Some stream
      → (at_once keys moment (claim_call key name batch)).keys ≡ with_stream keys key (stream_after moment (batch ∷ []) name stream)
  at_once-claim keys stream batch there = rw there (by (group_with name stream.groups))
    where
      by : (found : Option GroupState) → left_at keys key (at_group NoGroup (claimed (in_63_bits moment) batch.consumer (claim_of (pos 0) Now None true) batch.ids) name stream found).written
          ≡ with_stream keys key (with_batches moment (batch ∷ []) name stream found)
      by None = sym (with_stream-same keys key stream there)
      by (Some group) = refl

  at_once-missing : (keys : Keys) (batch : BatchState) → stream_at keys key ≡ None → (at_once keys moment (claim_call key name batch)).keys ≡ keys
  at_once-missing keys batch none = rw none refl

  -- no batch changes nothing
  stream_after-none : (stream : StreamState) → AreInOrder stream.groups → stream_after moment [] name stream ≡ stream
  stream_after-none stream order = by (group_with name stream.groups) refl
    where
      by : (found : Option GroupState) → group_with name stream.groups ≡ found → with_batches moment [] name stream found ≡ stream
      by None e = refl
      by (Some group) e = ap (λ (groups : ByName GroupState). with_groups groups stream) (with_group-same name group stream.groups order e)

  -- a batch and those after it
  stream_after-more : (stream : StreamState) (batch : BatchState) (batches : List BatchState)
      → stream_after moment batches name (stream_after moment (batch ∷ []) name stream) ≡ stream_after moment (batch ∷ batches) name stream
  stream_after-more stream batch batches = by (group_with name stream.groups) refl
    where
      by : (found : Option GroupState) → group_with name stream.groups ≡ found
          → stream_after moment batches name (with_batches moment (batch ∷ []) name stream found) ≡ with_batches moment (batch ∷ batches) name stream found
      by None e = rw e refl
      by (Some group) e =
          let first : GroupState = after_move (in_63_bits moment) stream.entries group (move_for batch) in
          let now : GroupState = after_moves (in_63_bits moment) stream.entries (map move_for batches) first in
          rw (group_with-with_group name first stream.groups) (ap (λ (groups : ByName GroupState). with_groups groups stream) (with_group-twice name first now stream.groups))

  AreInOrder-stream_after : (stream : StreamState) (batches : List BatchState) → AreInOrder stream.groups → AreInOrder (stream_after moment batches name stream).groups
  AreInOrder-stream_after stream batches order = by (group_with name stream.groups)
    where
      by : (found : Option GroupState) → AreInOrder (with_batches moment batches name stream found).groups
      by None = order
      by (Some group) = AreInOrder-with_group name (after_moves (in_63_bits moment) stream.entries (map move_for batches) group) stream.groups order

  -- all calls at a key that is there
  after_calls-found : (batches : List BatchState) (keys : Keys) (stream : StreamState) → AreInOrder stream.groups → stream_at keys key ≡ Some stream
      → with_stream keys key (stream_after moment batches name stream) ≡ after_calls moment (calls_for key name batches) keys
  after_calls-found [] keys stream order there = ap (with_stream keys key) (stream_after-none stream order) ∙ with_stream-same keys key stream there
  after_calls-found (batch ∷ batches) keys stream order there =
      let step : StreamState = stream_after moment (batch ∷ []) name stream in
      let first : (at_once keys moment (claim_call key name batch)).keys ≡ with_stream keys key step = at_once-claim keys stream batch there in
      let others = after_calls-found batches (with_stream keys key step) step (AreInOrder-stream_after stream (batch ∷ []) order) (stream_at-with_stream keys key step) in
      ap (with_stream keys key) (sym (stream_after-more stream batch batches))
      ∙ sym (with_stream-twice keys key step (stream_after moment batches name step))
      ∙ others
      ∙ ap (after_calls moment (calls_for key name batches)) (sym first)

  -- and at a missing one
  after_calls-missing : (batches : List BatchState) (keys : Keys) → stream_at keys key ≡ None → keys ≡ after_calls moment (calls_for key name batches) keys
  after_calls-missing [] keys none = refl
  after_calls-missing (batch ∷ batches) keys none =
      after_calls-missing batches keys none ∙ ap (after_calls moment (calls_for key name batches)) (sym (at_once-missing keys batch none))

-- ---- the batches of a verdict

module _ (shown : SnapshotState) (answer : PlanAnswer) (batches : List BatchState) (are : batches ≡ batches_in shown answer)
    (moment : ℕ) (keys : Keys) (key : Key) (name : List ℕ) (key_is : key ≡ shown.key) (name_is : name ≡ shown.group) where
  calls : calls_for key name batches ≡ claim_calls shown answer
  calls = rw (are, key_is, name_is) refl

  -- the key is there: its stream has changed
  pub committed-found : (stream : StreamState) → AreInOrder stream.groups → stream_at keys key ≡ Some stream
      → with_stream keys key (stream_after moment batches name stream) ≡ after_calls moment (claim_calls shown answer) keys
  committed-found stream order there = after_calls-found moment key name batches keys stream order there ∙ ap (λ (l : List Call). after_calls moment l keys) calls

  -- the key is missing
  pub committed-missing : stream_at keys key ≡ None → keys ≡ after_calls moment (claim_calls shown answer) keys
  committed-missing none = after_calls-missing moment key name batches keys none ∙ ap (λ (l : List Call). after_calls moment l keys) calls

-- ---- a group in its stream

module _ (moment : ℕ) (batches : List BatchState) (name : List ℕ) (stream : StreamState) where
  -- the group that the moves leave is put in the place of the one that was found
  pub stream_after-found : (entries : List Entry) (moves : List MoveState) (group now : GroupState) → entries ≡ stream.entries → moves ≡ map move_for batches
      → Some group ≡ group_with name stream.groups → now ≡ after_moves (in_63_bits moment) entries moves group
      → with_groups (with_group name now stream.groups) stream ≡ stream_after moment batches name stream
  stream_after-found entries moves group now same made found is =
      let left : now ≡ after_moves (in_63_bits moment) stream.entries (map move_for batches) group =
      is ∙ ap (λ (l : List Entry). after_moves (in_63_bits moment) l moves group) same ∙ ap (λ (l : List MoveState). after_moves (in_63_bits moment) stream.entries l group) made in
      rw (sym found) (ap (λ (g : GroupState). with_groups (with_group name g stream.groups) stream) left)

  -- without such a group the stream stays
  pub stream_after-missing : has_group name stream.groups ≡ false → stream ≡ stream_after moment batches name stream
  stream_after-missing missing = rw (group_with-none name stream.groups missing) refl

-- ---- batches as moves

-- no count is asked for
pub moves-counts : (batches : List BatchState) (moves : List MoveState) → moves ≡ map move_for batches → All HasCount moves
moves-counts batches moves made = rw made (counts batches)
  where
    counts : (these : List BatchState) → All HasCount (map move_for these)
    counts [] = All-nil HasCount
    counts (batch ∷ these) = All-cons HasCount (move_for batch) (map move_for these) tt (counts these)
