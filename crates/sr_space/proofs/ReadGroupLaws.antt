-- XREADGROUP leaves sound streams and each key that is there, and all keys if a group is missing.
use Rattle.std.proofs.Common.{◌≡◌, ℕ, Bool, true, false, cond, List, [], ◌∷◌, Option, Some, None, refl}
use Rattle.std.specs.Prelude.{IfSome, IsSome}
use Rattle.sr_args.specs.declared.reads.ReadAsked.{ReadAsked}
use Rattle.sr_resp.specs.declared.code.ErrCode.{ErrCode}
use Rattle.sr_resp.specs.declared.code.ErrCode.TheVariants as errors
use Rattle.sr_resp.specs.{ReplyParts, error_reply}
use Rattle.sr_group.specs.{GroupState}
use Rattle.sr_stream.specs.{group_with, with_group, StreamState, IsStream}
use Rattle.sr_stream.proofs.GroupsLemmas.{AreInOrder-with_group}
use Rattle.sr_stream.proofs.LendingLemmas.{IsStream-with_groups}
use Rattle.sr_space.specs.Keys.{Key, Keys, AreStreams, stream_at}
use Rattle.sr_space.specs.Touched.{unchanged}
use Rattle.sr_space.specs.commands.Xread.{listed_or_null}
use Rattle.sr_space.specs.commands.Xreadgroup.{after_reads, have_group, listed_of_all, read_found, read_group, read_stream, xreadgroup}
use Rattle.sr_space.proofs.KeyLaws.{AreStreams-left_at, IsSome-left_at, KeepsKeys, KeepsKeys-unchanged, found-sound}

-- what is listed is no error
listed-no_error : (listed : List ReplyParts) (code : ErrCode) → listed_or_null listed ≡ error_reply code → ⊥
listed-no_error [] code e = cc
listed-no_error (answer ∷ answers) code e = cc

module _ (moment : ℕ) (name consumer : List ℕ) (count : Option ℕ) (no_ack : Bool) where
  found-written : (asked : ReadAsked) (key : Key) (stream : StreamState) (found : Option GroupState) → IsStream stream → IfSome (read_found moment name consumer count no_ack asked key stream found).written IsStream
  found-written asked key stream None is = tt
  found-written asked key stream (Some group) is =
      let left = (read_group moment name consumer count no_ack asked key stream.entries group).group in
      IsStream-with_groups stream (with_group name left stream.groups) is (AreInOrder-with_group name left stream.groups is.in_order)

  written-sound : (asked : ReadAsked) (key : Key) (found : Option StreamState) → IfSome found IsStream → IfSome (read_stream moment name consumer count no_ack asked key found).written IsStream
  written-sound asked key None is = tt
  written-sound asked key (Some stream) is = found-written asked key stream (group_with name stream.groups) is

  reads-sound : (keys : Keys) (streams : List (Key × ReadAsked)) → AreStreams keys → AreStreams (after_reads moment name consumer count no_ack keys streams)
  reads-sound keys [] all = all
  reads-sound keys (stream ∷ streams) all =
      let found = stream_at keys stream.0 in
      AreStreams-left_at (after_reads moment name consumer count no_ack keys streams) stream.0 (read_stream moment name consumer count no_ack stream.1 stream.0 found).written (reads-sound keys streams all)
      (written-sound stream.1 stream.0 found (found-sound keys stream.0 found all refl))

  reads-stay : (keys : Keys) (streams : List (Key × ReadAsked)) (key : Key) → IsSome (stream_at keys key) → IsSome (stream_at (after_reads moment name consumer count no_ack keys streams) key)
  reads-stay keys [] key there = there
  reads-stay keys (stream ∷ streams) key there =
      IsSome-left_at (after_reads moment name consumer count no_ack keys streams) stream.0 key (read_stream moment name consumer count no_ack stream.1 stream.0 (stream_at keys stream.0)).written (reads-stay keys streams key there)

  pub KeepsKeys-xreadgroup : (streams : List (Key × ReadAsked)) (keys : Keys) → KeepsKeys keys (xreadgroup moment name consumer count no_ack streams keys)
  KeepsKeys-xreadgroup streams keys = by (have_group name keys streams)
    where
      by : (there : Bool) → KeepsKeys keys (cond there (record { keys = after_reads moment name consumer count no_ack keys streams; outcome = listed_or_null (listed_of_all moment name consumer count no_ack keys streams) }) (unchanged keys (error_reply errors.NoGroup)))
      by false = KeepsKeys-unchanged keys (error_reply errors.NoGroup)
      by true = record {
        sound = reads-sound keys streams;
        errors = λ code e. absurd (listed-no_error (listed_of_all moment name consumer count no_ack keys streams) code e);
        stay = reads-stay keys streams;
      }
