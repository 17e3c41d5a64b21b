-- Calls that only read: of a look-up that breaks off, what was sent before and what is sent then add up.
use Rattle.std.proofs.Common.{◌≡◌, ◌⊎◌, ℕ, List, [], ◌∷◌, ◌++◌, map, Option, Some, None, Result, Err, refl, sym, ap, ◌∙◌, subst}
use Rattle.std.proofs.Common.{Ok, append-nil, append_assoc, inl, inr}
use Rattle.std.proofs.KnownBytes.{Appends-nil, Appends-trans}
use Rattle.std.proofs.lemmas.List.Concat.{flat_map-append}
use Rattle.std.proofs.lemmas.List.Elements.{All-from_recursion, recursion_from_All}
use Rattle.std.proofs.lemmas.List.Sorted.{All-permutation, IsPermutation-map}
use Rattle.std.proofs.lemmas.Result.{err_from_is_err_and}
use Rattle.std.specs.Io.KnownBytes.{Appends}
use Rattle.std.specs.List.{AllByRecursion, flat_map}
use Rattle.std.specs.List.Sorted.{IsPermutation}
use Rattle.std.specs.Result.{IfErr, IsErrAnd}
use Rattle.sr_ids.specs.declared.id.Id.{Id}
use Rattle.sr_policy.specs.{Text}
use Rattle.sr_peer.specs.{Part, part_text, request_text}
use Rattle.sr_peer.specs.Exchange.{SendsPart}
use Rattle.sr_peer.specs.Reply.{Error}
use Rattle.sr_live.specs.declared.fault.LiveCall.{LiveCall}
use Rattle.sr_live.specs.declared.fault.LiveFault.{LiveFault}
use Rattle.sr_live.specs.declared.fault.LiveFault.TheVariants.{Changed, ErrorReply, Memory, Peer, Shape, TooMany, Unfit}
use Rattle.sr_live.specs.declared.fault.LiveFault.TheVariants.{Unknown}
use Rattle.sr_live.specs.declared.looked.Asked.{Asked}
use Rattle.sr_live.specs.declared.looked.Claimable.{Claimable}
use Rattle.sr_live.specs.declared.looked.Row.{Row}
use Rattle.sr_live.specs.declared.said.Misread.{Misread}
use Rattle.sr_live.specs.declared.said.Misread.TheVariants as misreads
use Rattle.sr_live.specs.Looking.{Exchange, IsLooked, ListsDead, ListsPages, LooksEntries, LooksIdle, LooksLive, LooksRows}
use Rattle.sr_live.specs.Looking.{ReadsOne, ReadsRange, Talks, answered_of, asked_of, entry_call, ids_in, last_of}
use Rattle.sr_live.specs.Looking.{numbers_call, pending_call, range_call, start_after}
use Rattle.sr_live.specs.Reading.{BreaksOff, CameError, HasOnlyRead, IsOfLooking, IsReplied, Reads}
use Rattle.sr_live.specs.steps.Misread.{IsToldAs, Tells, told_as}

-- ---- what was sent

reads-append : (xs ys : List (List Text)) → AllByRecursion Reads xs → AllByRecursion Reads ys
    → AllByRecursion Reads (xs ++ ys)
reads-append [] ys first then = then
reads-append (x ∷ xs) ys first then = (first.0, reads-append xs ys first.1 then)

reads-front : (xs ys : List (List Text)) → AllByRecursion Reads (xs ++ ys) → AllByRecursion Reads xs
reads-front [] ys all = tt
reads-front (x ∷ xs) ys all = (all.0, reads-front xs ys all.1)

-- the calls of a talk
abbrev pub calls_of : List Exchange → List (List Text)
calls_of talk = map (λ (exchange : Exchange). exchange.0) talk

-- they only read
abbrev pub AreReading : List Exchange → Type 0
AreReading talk = AllByRecursion Reads (calls_of talk)

calls_of-append : (xs ys : List Exchange) → calls_of (xs ++ ys) ≡ calls_of xs ++ calls_of ys
calls_of-append [] ys = refl
calls_of-append (x ∷ xs) ys = ap (λ (calls : List (List Text)). x.0 ∷ calls) (calls_of-append xs ys)

pub reading-append : (xs ys : List Exchange) → AreReading xs → AreReading ys → AreReading (xs ++ ys)
reading-append xs ys first then =
    subst (AllByRecursion Reads) (sym (calls_of-append xs ys)) (reads-append (calls_of xs) (calls_of ys) first then)

pub reading-front : (xs ys : List Exchange) → AreReading (xs ++ ys) → AreReading xs
reading-front xs ys all =
    reads-front (calls_of xs) (calls_of ys) (subst (AllByRecursion Reads) (calls_of-append xs ys) all)

asked-calls : (talk : List Exchange) → flat_map request_text (calls_of talk) ≡ asked_of talk
asked-calls [] = refl
asked-calls (exchange ∷ talk) = ap (λ (text : List ℕ). request_text exchange.0 ++ text) (asked-calls talk)

pub sends-whole : (sent sent_then : Option (List ℕ)) (bytes : List ℕ) → Appends sent sent_then bytes
    → SendsPart sent sent_then bytes
sends-whole sent sent_then bytes all =
    record { front = bytes; rest = []; splits = sym (append-nil bytes); sends = all }

pub reads-none : (sent : Option (List ℕ)) → HasOnlyRead sent sent
reads-none sent = record {
  calls = [];
  read = tt;
  sends = record { front = []; rest = []; splits = refl; sends = Appends-nil sent };
}

-- a request of such a call, or a part of it
pub reads-part : (sent sent_then : Option (List ℕ)) (call : List Text) (request : List ℕ)
    → request ≡ request_text call → Reads call → SendsPart sent sent_then request → HasOnlyRead sent sent_then
reads-part sent sent_then call request is reads part = record {
  calls = call ∷ [];
  read = (reads, tt);
  sends = record {
    front = part.front;
    rest = part.rest;
    splits = append-nil (request_text call) ∙ sym is ∙ part.splits;
    sends = part.sends;
  };
}

-- a request for a range, or a part of it
pub reads-range : (sent sent_then : Option (List ℕ)) (key : Text) (first last : Id) (count : ℕ) (request : List ℕ)
    → request ≡ request_text (range_call key first last count) → SendsPart sent sent_then request
    → HasOnlyRead sent sent_then
reads-range sent sent_then key first last count request is part =
    reads-part sent sent_then (range_call key first last count) request is (inr (inr refl)) part

-- requests for these entries, or a part of them
entries-asked : (key : Text) (listed : List (Id × Text))
    → flat_map request_text (map (λ (entry : Id × Text). entry_call key entry.0) listed)
    ≡ flat_map (λ (entry : Id × Text). request_text (entry_call key entry.0)) listed
entries-asked key [] = refl
entries-asked key (entry ∷ listed) =
    ap (λ (text : List ℕ). request_text (entry_call key entry.0) ++ text) (entries-asked key listed)

entries-read : (key : Text) (listed : List (Id × Text))
    → AllByRecursion Reads (map (λ (entry : Id × Text). entry_call key entry.0) listed)
entries-read key [] = tt
entries-read key (entry ∷ listed) = (inr (inr refl), entries-read key listed)

pub reads-entries : (sent sent_then : Option (List ℕ)) (key : Text) (listed : List (Id × Text)) (requests : List ℕ)
    → requests ≡ flat_map (λ (entry : Id × Text). request_text (entry_call key entry.0)) listed
    → SendsPart sent sent_then requests → HasOnlyRead sent sent_then
reads-entries sent sent_then key listed requests is part = record {
  calls = map (λ (entry : Id × Text). entry_call key entry.0) listed;
  read = entries-read key listed;
  sends = record {
    front = part.front;
    rest = part.rest;
    splits = entries-asked key listed ∙ sym is ∙ part.splits;
    sends = part.sends;
  };
}

-- such calls with their replies, and then others
pub reads-later : (sent got sent_then got_then sent_last : Option (List ℕ)) (talk : List Exchange)
    → Talks sent got sent_then got_then talk → AreReading talk → HasOnlyRead sent_then sent_last
    → HasOnlyRead sent sent_last
reads-later sent got sent_then got_then sent_last talk talks reading then = record {
  calls = calls_of talk ++ then.calls;
  read = reads-append (calls_of talk) then.calls reading then.read;
  sends = record {
    front = asked_of talk ++ then.sends.front;
    rest = then.sends.rest;
    splits = flat_map-append request_text (calls_of talk) then.calls
        ∙ ap (λ (text : List ℕ). text ++ flat_map request_text then.calls) (asked-calls talk)
        ∙ ap (λ (text : List ℕ). asked_of talk ++ text) then.sends.splits
        ∙ sym (append_assoc (asked_of talk) then.sends.front then.sends.rest);
    sends = Appends-trans sent sent_then sent_last (asked_of talk) then.sends.front talks.asked then.sends.sends;
  };
}

pub reads-whole : (sent got sent_then got_then : Option (List ℕ)) (talk : List Exchange)
    → Talks sent got sent_then got_then talk → AreReading talk → HasOnlyRead sent sent_then
reads-whole sent got sent_then got_then talk talks reading =
    reads-later sent got sent_then got_then sent_then talk talks reading (reads-none sent_then)

-- ---- the calls of a look-up only read

pub pending-reads : (key group : Text) (idle : ℕ) (start name : Text) → Reads (pending_call key group idle start name)
pending-reads key group idle start name = inr (inl refl)

pub entry-reads : (key : Text) (id : Id) → Reads (entry_call key id)
entry-reads key id = inr (inr refl)

reads-as : (call other : List Text) → call ≡ other → Reads other → Reads call
reads-as call other is reads = subst Reads (sym is) reads

pub ListsPages-reads : (key group : Text) (claimable : Claimable) (name : Text) (last after : Option Id) (talk : List Exchange)
    (ids : List Id) → ListsPages key group claimable name last after talk ids → AreReading talk
ListsPages-reads key group claimable name last after [] ids lists = tt
ListsPages-reads key group claimable name last after (exchange ∷ talk) ids (front, behind, is, says, inl short, joined) = (
  reads-as exchange.0 (pending_call key group claimable.idle (start_after after) name) is
      (pending-reads key group claimable.idle (start_after after) name),
  subst AreReading (sym short.1) tt,
)
ListsPages-reads key group claimable name last after (exchange ∷ talk) ids (front, behind, is, says, inr full, joined) = (
  reads-as exchange.0 (pending_call key group claimable.idle (start_after after) name) is
      (pending-reads key group claimable.idle (start_after after) name),
  ListsPages-reads key group claimable name last (last_of (ids_in front) after) talk behind full.1,
)

pub ListsDead-reads : (key group : Text) (claimable : Claimable) (last : Option Id) (dead : List Text) (talk : List Exchange)
    (listed : List (Id × Text)) → ListsDead key group claimable last dead talk listed → AreReading talk
ListsDead-reads key group claimable last [] talk listed lists = subst AreReading (sym lists.0) tt
ListsDead-reads key group claimable last (name ∷ dead) talk listed (own, others, ids, rest, pages, lists, talk_is, listed_is) =
    subst AreReading (sym talk_is)
    (reading-append own others (ListsPages-reads key group claimable name last None own ids pages)
    (ListsDead-reads key group claimable last dead others rest lists))

ReadsRows-reads : (key : Text) (rows : List Row) (exchange : Exchange)
    → ReadsOne key rows exchange ⊎ ReadsRange key rows exchange → Reads exchange.0
ReadsRows-reads key rows exchange (inl (row, one, is, says)) =
    reads-as exchange.0 (entry_call key row.id) is (entry-reads key row.id)
ReadsRows-reads key rows exchange (inr range) =
    reads-as exchange.0 (range_call key range.first range.last range.count) range.calls (inr (inr refl))

pub LooksEntries-reads : (key : Text) (rows : List Row) (talk : List Exchange) → LooksEntries key rows talk
    → AreReading talk
LooksEntries-reads key rows [] looks = tt
LooksEntries-reads key rows (exchange ∷ talk) (front, behind, reads, looks, joined) =
    (ReadsRows-reads key front exchange reads, LooksEntries-reads key behind talk looks)

-- in any order
pub reading-permutation : (xs ys : List Exchange) → IsPermutation xs ys → AreReading xs → AreReading ys
reading-permutation xs ys same reading =
    recursion_from_All Reads (calls_of ys)
    (All-permutation Reads (calls_of xs) (calls_of ys)
    (IsPermutation-map (λ (exchange : Exchange). exchange.0) xs ys same)
    (All-from_recursion Reads (calls_of xs) reading))

pub LooksRows-reads : (key group : Text) (claimable : Claimable) (dead : List Text) (at_most : Option ℕ) (talk : List Exchange)
    (rows : List Row) (last : Option Id) → LooksRows key group claimable dead at_most talk rows last → AreReading talk
LooksRows-reads key group claimable dead at_most talk rows last looks =
    reading-permutation (looks.pending ++ looks.entries) talk looks.spelled
    (reading-append looks.pending looks.entries
    (ListsDead-reads key group claimable last dead looks.pending looks.listed looks.lists)
    (LooksEntries-reads key rows looks.entries looks.looks))

pub LooksIdle-reads : (key group : Text) (within : Option ℕ) (talk : List Exchange) (idles : List (Text × ℕ))
    → LooksIdle key group within talk idles → AreReading talk
LooksIdle-reads key group None talk idles (none, empty) = subst AreReading (sym none) tt
LooksIdle-reads key group (Some within) talk idles (parts, says, one) = subst AreReading (sym one) (inl refl, tt)

pub LooksLive-reads : (key group : Text) (within : Option ℕ) (talk : List Exchange) (idles numbers : List (Text × ℕ))
    → LooksLive key group within talk idles numbers → AreReading talk
LooksLive-reads key group within talk idles numbers live =
    subst AreReading (sym live.spelled)
    (reading-append live.first ((numbers_call key group, live.parts) ∷ [])
    (LooksIdle-reads key group within live.first idles live.looks) (inr (inl refl), tt))

pub IsLooked-reads : (asked : Asked) (at_most : Option ℕ) (talk : List Exchange) (idles numbers : List (Text × ℕ))
    (rows : List Row) (last : Option Id) (removed : ℕ) → IsLooked asked at_most talk idles numbers rows last removed
    → AreReading talk
IsLooked-reads asked at_most talk idles numbers rows last removed looked =
    subst AreReading (sym looked.spelled) (
      inl refl,
      reading-append looked.looking looked.asking
          (LooksRows-reads asked.key asked.group asked.claimable asked.dead.items at_most looked.looking rows last looked.looks)
          (LooksLive-reads asked.key asked.group asked.seen_within looked.asking idles numbers looked.live),
    )

-- ---- an error that came

-- the parts of the replies
abbrev parts_of : List Exchange → List Part
parts_of talk = flat_map (λ (exchange : Exchange). exchange.1) talk

answered-parts : (talk : List Exchange) → answered_of talk ≡ flat_map part_text (parts_of talk)
answered-parts [] = refl
answered-parts (exchange ∷ talk) =
    ap (λ (text : List ℕ). flat_map part_text exchange.1 ++ text) (answered-parts talk)
    ∙ sym (flat_map-append part_text exchange.1 (parts_of talk))

came-later : (got got_then got_last : Option (List ℕ)) (talk : List Exchange) (text : Text)
    → Appends got got_then (answered_of talk) → CameError got_then got_last text → CameError got got_last text
came-later got got_then got_last talk text answered then =
    let first : List Part = parts_of talk in
    let error : List Part = Error text ∷ then.behind in
    let rest : List ℕ = flat_map part_text (then.before ++ error) in
    let is : answered_of talk ++ rest ≡ flat_map part_text ((first ++ then.before) ++ error) =
    ap (λ (front : List ℕ). front ++ rest) (answered-parts talk)
    ∙ sym (flat_map-append part_text first (then.before ++ error))
    ∙ ap (flat_map part_text) (sym (append_assoc first then.before error)) in
    record {
      before = first ++ then.before;
      behind = then.behind;
      came = subst (Appends got got_last) is
          (Appends-trans got got_then got_last (answered_of talk) rest answered then.came);
    }

-- the error that is told came, if not before these replies
replied-later : (got got_then got_last : Option (List ℕ)) (talk : List Exchange) (fault : LiveFault)
    → Appends got got_then (answered_of talk) → IsReplied got_then got_last fault → IsReplied got got_last fault
replied-later got got_then got_last talk Memory answered told = tt
replied-later got got_then got_last talk (Peer why) answered told = tt
replied-later got got_then got_last talk (ErrorReply call text) answered told =
    came-later got got_then got_last talk text answered told
replied-later got got_then got_last talk (Shape call) answered told = tt
replied-later got got_then got_last talk TooMany answered told = tt
replied-later got got_then got_last talk Changed answered told = tt
replied-later got got_then got_last talk Unfit answered told = tt
replied-later got got_then got_last talk (Unknown why) answered told = tt

-- it is one of the parts that came
module _ (got got_then : Option (List ℕ)) (call : LiveCall) (parts : List Part) where
  replied-misread : (misread : Misread) → Appends got got_then (flat_map part_text parts) → Tells parts misread
      → IsReplied got got_then (told_as call misread)
  replied-misread misreads.Memory came tells = tt
  replied-misread (misreads.ErrorReply text) came (before, behind, is) = record {
    before = before;
    behind = behind;
    came = subst (λ (l : List Part). Appends got got_then (flat_map part_text l)) is came;
  }
  replied-misread misreads.Shape came tells = tt

  replied-from : {S : Type 0} (said : Result S Misread) (fault : LiveFault)
      → Appends got got_then (flat_map part_text parts) → IsToldAs call said fault → IfErr said (Tells parts)
      → IsReplied got got_then fault
  replied-from (Ok value) fault came is tells = absurd is
  replied-from (Err misread) fault came is tells =
      subst (IsReplied got got_then) (sym is) (replied-misread misread came tells)

-- ---- faults

-- calls that only read, and then a look-up that breaks off
pub breaks-later : (sent got sent_then got_then sent_last got_last : Option (List ℕ)) (talk : List Exchange)
    (fault : LiveFault) → Talks sent got sent_then got_then talk → AreReading talk
    → BreaksOff sent_then got_then sent_last got_last fault → BreaksOff sent got sent_last got_last fault
breaks-later sent got sent_then got_then sent_last got_last talk fault talks reading broken = record {
  looking = broken.looking;
  read = reads-later sent got sent_then got_then sent_last talk talks reading broken.read;
  told = replied-later got got_then got_last talk fault talks.answered broken.told;
}

module _ {T : Type 0} (result : Result T LiveFault) (sent got sent_then got_then : Option (List ℕ)) where
  -- memory was refused
  pub breaks-memory : IsErrAnd result (λ fault. fault ≡ Memory) → HasOnlyRead sent sent_then
      → IfErr result (BreaksOff sent got sent_then got_then)
  breaks-memory is read =
      let told = err_from_is_err_and result is in
      subst (λ (r : Result T LiveFault). IfErr r (BreaksOff sent got sent_then got_then)) (sym told.1)
      (subst (BreaksOff sent got sent_then got_then) (sym told.2) (record { looking = tt; read = read; told = tt }))

  -- a fault is passed on
  pub breaks-passed : (fault : LiveFault) → IsErrAnd result (λ passed. passed ≡ fault)
      → BreaksOff sent got sent_then got_then fault → IfErr result (BreaksOff sent got sent_then got_then)
  breaks-passed fault is broken =
      let told = err_from_is_err_and result is in
      subst (λ (r : Result T LiveFault). IfErr r (BreaksOff sent got sent_then got_then)) (sym told.1)
      (subst (BreaksOff sent got sent_then got_then) (sym told.2) broken)

  -- what was read says nothing
  pub breaks-understood : {S : Type 0} (call : LiveCall) (said : Result S Misread) (text : List ℕ) (parts : List Part)
      → IfErr result IsOfLooking → IfErr result (IsToldAs call said) → IfErr said (Tells parts)
      → Appends got got_then text → text ≡ flat_map part_text parts → HasOnlyRead sent sent_then
      → IfErr result (BreaksOff sent got sent_then got_then)
  breaks-understood {S} call said text parts looking told tells came spelled read = by result looking told
    where
      by : (r : Result T LiveFault) → IfErr r IsOfLooking → IfErr r (IsToldAs call said)
          → IfErr r (BreaksOff sent got sent_then got_then)
      by (Ok value) looking told = tt
      by (Err fault) looking told = record {
        looking = looking;
        read = read;
        told = replied-from got got_then call parts said fault (subst (Appends got got_then) spelled came) told tells;
      }
