-- What XCLAIM and XAUTOCLAIM reply, item by item.
use Rattle.std.proofs.Common.{◌≡◌, Bool, true, false, not, List, [], ◌∷◌, refl}
use Rattle.std.specs.List.{flat_map}
use Rattle.sr_entries.specs.declared.entry.Entry.{Entry}
use Rattle.sr_group.specs.declared.shown.Listed.{Listed}
use Rattle.sr_ids.specs.declared.id.Id.{Id}
use Rattle.sr_ids.specs.{spelling}
use Rattle.sr_resp.specs.{ReplyParts, bulk_string}
use Rattle.sr_space.specs.commands.Xclaim.{claimed_reply, deleted_id}
use Rattle.sr_space.proofs.ArrayLemmas.{HasLeft}

abbrev pub claimed_of : Bool → List Entry → Listed → List ReplyParts
claimed_of just_ids entries l = claimed_reply just_ids entries l.id l.found

-- of all that is listed, the replies of those that are left are still to come
abbrev pub HasClaimed : Bool → List Entry → List Listed → List Listed → ReplyParts → Type 0
HasClaimed just_ids entries all left claimed = HasLeft claimed (flat_map (claimed_of just_ids entries) left) (flat_map (claimed_of just_ids entries) all)

abbrev pub deleted_of : Listed → List ReplyParts
deleted_of l = deleted_id l.id l.found

abbrev pub HasDeleted : List Listed → List Listed → ReplyParts → Type 0
HasDeleted all left deleted = HasLeft deleted (flat_map deleted_of left) (flat_map deleted_of all)

pub deleted-more : (id : Id) (found : Bool) → not found ≡ true → bulk_string (spelling id) ∷ [] ≡ deleted_id id found
deleted-more id false gone = refl
deleted-more id true gone = cc

pub deleted-none : (id : Id) (found : Bool) → not found ≡ false → deleted_id id found ≡ []
deleted-none id true there = refl
deleted-none id false there = cc
