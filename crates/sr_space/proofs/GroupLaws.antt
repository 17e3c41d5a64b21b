-- Each command on the groups of one stream leaves a sound stream, and writes nothing if it replies an error.
use Rattle.std.proofs.Common.{◌≡◌, ℕ, Bool, true, false, cond, List, [], ◌∷◌, Option, Some, None, refl}
use Rattle.std.specs.Prelude.{IfSome}
use Rattle.sr_bytes.specs.{comes_before}
use Rattle.sr_ids.specs.declared.id.Id.{Id}
use Rattle.sr_args.specs.declared.call.Position.{Position}
use Rattle.sr_resp.specs.declared.code.ErrCode.{ErrCode}
use Rattle.sr_resp.specs.declared.code.ErrCode.TheVariants as errors
use Rattle.sr_resp.specs.declared.code.Word.{Word}
use Rattle.sr_resp.specs.declared.code.Word.TheVariants as words
use Rattle.sr_resp.specs.{ReplyParts, error_reply}
use Rattle.sr_resp.specs.Reply.{simple_string}
use Rattle.sr_entries.specs.declared.entry.Entry.{Entry}
use Rattle.sr_group.specs.declared.claim.Claim.{Claim}
use Rattle.sr_group.specs.{GroupState, new_group}
use Rattle.sr_pending.specs.{is_same_name}
use Rattle.sr_stream.specs.{ByName, group_with, has_group, with_group, StreamState, IsStream, empty_stream}
use Rattle.sr_stream.specs.{with_groups}
use Rattle.sr_stream.specs.Groups.{AreAfter, AreInOrder, with_last, without_group}
use Rattle.sr_stream.proofs.GroupsLemmas.{AreInOrder-with_group, AreInOrder-without_group}
use Rattle.sr_stream.proofs.LendingLemmas.{IsStream-with_groups}
use Rattle.sr_space.specs.declared.grouped.Missing.{Missing}
use Rattle.sr_space.specs.declared.grouped.Missing.TheVariants.{Zero, NoGroup, NoKey}
use Rattle.sr_space.specs.Grouped.{Regrouped, at_group, in_group, regrouped}
use Rattle.sr_space.specs.Touched.{refuses, writes}
use Rattle.sr_space.specs.commands.Xack.{acknowledged, xack}
use Rattle.sr_space.specs.commands.Xclaim.{autoclaimed, claimed, xautoclaim, xclaim}
use Rattle.sr_space.specs.commands.Xgroup.{consumer_made, consumer_removed, id_of, made_in, xgroup_create, xgroup_create_consumer, xgroup_del_consumer, xgroup_destroy, xgroup_set_id, yes_or_no}
use Rattle.sr_space.proofs.Lawful.{IsLawful, IsStream-empty}

-- a command that leaves its group where it replies an error
abbrev LeavesOnError : (List Entry → GroupState → Regrouped) → Type 0
LeavesOnError f = (entries : List Entry) (group : GroupState) (code : ErrCode) → (f entries group).outcome ≡ error_reply code → (f entries group).written ≡ None

module _ (missing : Missing) (f : List Entry → GroupState → Regrouped) (name : List ℕ) where
  IsStream-regrouped : (stream : StreamState) (written : Option GroupState) → IsStream stream → IfSome (regrouped name stream written) IsStream
  IsStream-regrouped stream None is = tt
  IsStream-regrouped stream (Some group) is = IsStream-with_groups stream (with_group name group stream.groups) is (AreInOrder-with_group name group stream.groups is.in_order)

  at_group-sound : (stream : StreamState) (found : Option GroupState) → IsStream stream → IfSome (at_group missing f name stream found).written IsStream
  at_group-sound stream None is = tt
  at_group-sound stream (Some group) is = IsStream-regrouped stream (f stream.entries group).written is

  at_group-errors : LeavesOnError f → (stream : StreamState) (found : Option GroupState) (code : ErrCode) → (at_group missing f name stream found).outcome ≡ error_reply code
      → (at_group missing f name stream found).written ≡ None
  at_group-errors leaves stream None code e = refl
  at_group-errors leaves stream (Some group) code e = rw (leaves stream.entries group code e) refl

  pub IsLawful-in_group : LeavesOnError f → IsLawful (in_group missing f name)
  IsLawful-in_group leaves = record { sound = sound; errors = errors }
    where
      sound : (found : Option StreamState) → IfSome found IsStream → IfSome (in_group missing f name found).written IsStream
      sound None is = tt
      sound (Some stream) is = at_group-sound stream (group_with name stream.groups) is

      errors : (found : Option StreamState) (code : ErrCode) → (in_group missing f name found).outcome ≡ error_reply code → (in_group missing f name found).written ≡ None
      errors None code e = refl
      errors (Some stream) code e = at_group-errors leaves stream (group_with name stream.groups) code e

-- XACK
pub IsLawful-xack : (group : List ℕ) (ids : List Id) → IsLawful (xack group ids)
IsLawful-xack group ids = IsLawful-in_group Zero (acknowledged ids) group (λ entries g code e. absurd (cc))

-- XCLAIM and XAUTOCLAIM
module _ (moment : ℕ) (consumer : List ℕ) (claim : Claim) (group : List ℕ) where
  pub IsLawful-xclaim : (ids : List Id) → IsLawful (xclaim moment consumer claim group ids)
  IsLawful-xclaim ids = IsLawful-in_group NoGroup (claimed moment consumer claim ids) group (λ entries g code e. absurd (cc))

  pub IsLawful-xautoclaim : (start : Id) (count : ℕ) → IsLawful (xautoclaim moment consumer claim group start count)
  IsLawful-xautoclaim start count = IsLawful-in_group NoGroup (autoclaimed moment consumer claim start count) group (λ entries g code e. absurd (cc))

-- XGROUP CREATECONSUMER and DELCONSUMER
answered_no_error : (yes : Bool) (code : ErrCode) → yes_or_no yes ≡ error_reply code → ⊥
answered_no_error true code e = cc
answered_no_error false code e = cc

pub IsLawful-create_consumer : (moment : ℕ) (group consumer : List ℕ) → IsLawful (xgroup_create_consumer moment group consumer)
IsLawful-create_consumer moment group consumer = IsLawful-in_group NoKey (consumer_made moment consumer) group (λ entries g code e. absurd (answered_no_error _ code e))

pub IsLawful-del_consumer : (group consumer : List ℕ) → IsLawful (xgroup_del_consumer group consumer)
IsLawful-del_consumer group consumer = IsLawful-in_group NoKey (consumer_removed consumer) group (λ entries g code e. absurd (cc))

-- a test decides between a refusal and a stream that is written
unless-sound : (refused : Bool) (code : ErrCode) (stream : StreamState) (answer : ReplyParts) → IsStream stream → IfSome (cond refused (refuses code) (writes stream answer)).written IsStream
unless-sound true code stream answer is = tt
unless-sound false code stream answer is = is

unless-errors : (refused : Bool) (code other : ErrCode) (stream : StreamState) (word : Word) → (cond refused (refuses code) (writes stream (simple_string word))).outcome ≡ error_reply other
    → (cond refused (refuses code) (writes stream (simple_string word))).written ≡ None
unless-errors true code other stream word e = refl
unless-errors false code other stream word e = absurd (cc)

if-sound : (test : Bool) (code : ErrCode) (stream : StreamState) (answer : ReplyParts) → IsStream stream → IfSome (cond test (writes stream answer) (refuses code)).written IsStream
if-sound true code stream answer is = is
if-sound false code stream answer is = tt

if-errors : (test : Bool) (code other : ErrCode) (stream : StreamState) (word : Word) → (cond test (writes stream (simple_string word)) (refuses code)).outcome ≡ error_reply other
    → (cond test (writes stream (simple_string word)) (refuses code)).written ≡ None
if-errors true code other stream word e = absurd (cc)
if-errors false code other stream word e = refl

-- XGROUP CREATE
module _ (group : List ℕ) (from : Position) where
  abbrev made : StreamState → StreamState
  made stream = with_groups (with_group group (new_group (id_of from stream)) stream.groups) stream

  made-sound : (stream : StreamState) → IsStream stream → IfSome (made_in group from stream).written IsStream
  made-sound stream is =
      unless-sound (has_group group stream.groups) errors.BusyGroup (made stream) (simple_string words.Ok)
      (IsStream-with_groups stream (with_group group (new_group (id_of from stream)) stream.groups) is (AreInOrder-with_group group (new_group (id_of from stream)) stream.groups is.in_order))

  made-errors : (stream : StreamState) (code : ErrCode) → (made_in group from stream).outcome ≡ error_reply code → (made_in group from stream).written ≡ None
  made-errors stream code e = unless-errors (has_group group stream.groups) errors.BusyGroup code (made stream) words.Ok e

  pub IsLawful-create : (make : Bool) → IsLawful (xgroup_create group from make)
  IsLawful-create make = record { sound = sound make; errors = refused make }
    where
      sound : (make : Bool) (found : Option StreamState) → IfSome found IsStream → IfSome (xgroup_create group from make found).written IsStream
      sound make (Some stream) is = made-sound stream is
      sound true None is = made-sound empty_stream IsStream-empty
      sound false None is = tt

      refused : (make : Bool) (found : Option StreamState) (code : ErrCode) → (xgroup_create group from make found).outcome ≡ error_reply code → (xgroup_create group from make found).written ≡ None
      refused make (Some stream) code e = made-errors stream code e
      refused true None code e = made-errors empty_stream code e
      refused false None code e = refl

-- XGROUP SETID
AreAfter-last : (first name : List ℕ) (id : Id) (groups : ByName GroupState) → AreAfter first groups → AreAfter first (with_last name id groups)
AreAfter-last first name id [] after = tt
AreAfter-last first name id (named ∷ groups) after = (by (is_same_name named.0 name), AreAfter-last first name id groups after.1)
  where
    by : (same : Bool) → comes_before first (cond same (named.0, record named.1 { last = id }) named).0 ≡ true
    by true = after.0
    by false = after.0

AreInOrder-last : (name : List ℕ) (id : Id) (groups : ByName GroupState) → AreInOrder groups → AreInOrder (with_last name id groups)
AreInOrder-last name id [] order = tt
AreInOrder-last name id (named ∷ groups) order = by (AreAfter-last named.0 name id groups order.0) (AreInOrder-last name id groups order.1) (is_same_name named.0 name)
  where
    by : AreAfter named.0 (with_last name id groups) → AreInOrder (with_last name id groups) → (same : Bool) → AreInOrder (cond same (named.0, record named.1 { last = id }) named ∷ with_last name id groups)
    by after rest true = (after, rest)
    by after rest false = (after, rest)

module _ (group : List ℕ) (from : Position) where
  abbrev moved : StreamState → StreamState
  moved stream = with_groups (with_last group (id_of from stream) stream.groups) stream

  pub IsLawful-set_id : IsLawful (xgroup_set_id group from)
  IsLawful-set_id = record { sound = sound; errors = refused }
    where
      sound : (found : Option StreamState) → IfSome found IsStream → IfSome (xgroup_set_id group from found).written IsStream
      sound None is = tt
      sound (Some stream) is =
          if-sound (has_group group stream.groups) errors.NoGroup (moved stream) (simple_string words.Ok)
          (IsStream-with_groups stream (with_last group (id_of from stream) stream.groups) is (AreInOrder-last group (id_of from stream) stream.groups is.in_order))

      refused : (found : Option StreamState) (code : ErrCode) → (xgroup_set_id group from found).outcome ≡ error_reply code → (xgroup_set_id group from found).written ≡ None
      refused None code e = refl
      refused (Some stream) code e = if-errors (has_group group stream.groups) errors.NoGroup code (moved stream) words.Ok e

-- XGROUP DESTROY
pub IsLawful-destroy : (group : List ℕ) → IsLawful (xgroup_destroy group)
IsLawful-destroy group = record { sound = sound; errors = refused }
  where
    sound : (found : Option StreamState) → IfSome found IsStream → IfSome (xgroup_destroy group found).written IsStream
    sound None is = tt
    sound (Some stream) is = IsStream-with_groups stream (without_group group stream.groups) is (AreInOrder-without_group group stream.groups is.in_order)

    refused : (found : Option StreamState) (code : ErrCode) → (xgroup_destroy group found).outcome ≡ error_reply code → (xgroup_destroy group found).written ≡ None
    refused None code e = refl
    refused (Some stream) code e = absurd (answered_no_error (has_group group stream.groups) code e)
