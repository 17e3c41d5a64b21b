-- A stream with what was written through the `&mut` to one of its groups.
use Rattle.std.proofs.Common.{◌≡◌, ℕ, List, get_or, set, ap, ◌∙◌}
use Rattle.sr_ids.specs.declared.id.Id.{Id}
use Rattle.sr_entries.specs.declared.entry.Entry.{Entry}
use Rattle.sr_group.specs.{GroupState, KeptGroup}
use Rattle.sr_stream.specs.Groups.{ByName, AreInOrder, shown_groups}
use Rattle.sr_stream.specs.Stream.{StreamState, KeptStream, IsStream, kept_with_group, with_groups}
use Rattle.sr_stream.specs.steps.Places.{IsPlace}
use Rattle.sr_stream.proofs.GroupsLemmas.{IsPlace-read, set-kept, set-shown, set-in_order}

-- a stream with other groups in order
pub IsStream-with_groups : (stream : StreamState) (groups : ByName GroupState) → IsStream stream → AreInOrder groups → IsStream (with_groups groups stream)
IsStream-with_groups stream groups is order = record { rising = is.rising; up_to = is.up_to; few = is.few; in_order = order }

module _ (name : List ℕ) (entries : List Entry) (last : Id) (added : ℕ) (items : ByName KeptGroup) (i : ℕ) (named : List ℕ × KeptGroup) (is : IsStream (record { entries = entries; last = last; added = added; groups = shown_groups items })) (at : IsPlace name items i) (read : named ≡ get_or items i named) where
  same : named.0 ≡ name
  same = ap (λ (x : List ℕ × KeptGroup). x.0) (IsPlace-read name items i named at read)

  pub lent-sound : (w : KeptGroup) → IsStream (record { entries = entries; last = last; added = added; groups = shown_groups (set items i (named.0, w)) })
  lent-sound w = record {
    rising = is.rising;
    up_to = is.up_to;
    few = is.few;
    in_order = rw same (set-in_order name w items i is.in_order at);
  }

  abbrev stream : ByName KeptGroup → ByName GroupState → ℕ → KeptStream
  stream groups shown room = record {
    shown = record { entries = entries; last = last; added = added; groups = shown };
    room = room;
    groups = groups;
  }

  pub lent-view : (room : ℕ) (w : KeptGroup) → stream (set items i (named.0, w)) (shown_groups (set items i (named.0, w))) room ≡ kept_with_group name w (stream items (shown_groups items) room)
  lent-view room w =
      rw same (ap (λ (g : ByName GroupState). stream (set items i (name, w)) g room) (set-shown name w items i is.in_order at)
      ∙ ap (λ (g : ByName KeptGroup). kept_with_groups g) (set-kept name w items i is.in_order at))
    where
      kept_with_groups : ByName KeptGroup → KeptStream
      kept_with_groups g = stream g (kept_with_group name w (stream items (shown_groups items) room)).shown.groups room
