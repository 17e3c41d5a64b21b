-- Connections stay counted and in turn, whatever is noted of one, written to it or told of it.

use Rattle.std.proofs.Common.{◌⊎◌, ◌≡◌, ◌≢◌, ℕ, ◌<◌, ◌≤◌, Bool, true, false, ◌||◌, ◌&&◌, not, cond, ltb, eqb, Some, None}
use Rattle.std.proofs.Common.{Option, IfSome, List, [], ◌∷◌, ◌++◌, length, set, refl, sym, ap, ◌∙◌, subst, ⊎_elim}
use Rattle.std.proofs.Common.{arith, take}
use Rattle.std.proofs.lemmas.Bool.{false≢true, cases_eq, cases_Bool, cases_lt, ne_eqb, eq-eqb, or_right, or_left}
use Rattle.std.proofs.lemmas.Bool.{and_parts, lt-ltb, cond-true, cond-false, ltb-true, and_from, not_from_false}
use Rattle.std.proofs.lemmas.List.{length-set, get_or-set_same, get_or-set_other, get_or_past, set_past, set-get_or}
use Rattle.std.proofs.lemmas.List.{set-set}
use Rattle.std.proofs.lemmas.List.Sums.{sum_by-set}
use Rattle.std.proofs.lemmas.List.Folds.{list_any-append}
use Rattle.std.specs.List.{list_any}
use Rattle.mio.specs.declared.event.event.Event.{Event}
use Rattle.sr_hub.specs.declared.sockets.Heard.{Heard}
use Rattle.sr_hub.specs.declared.sockets.Heard.TheVariants as heard
use Rattle.sr_events.specs.Bytes.{more}
use Rattle.sr_events.specs.Slot.{Ends, EndsBy, Reads, SlotState, TellsBy, fresh, has_ended, has_turn, is_read, is_taken, may_have_room, noted}
use Rattle.sr_events.specs.Turns.{Turns, turns, with_first_turn, with_turn}
use Rattle.sr_events.specs.Connections.{ChangesAt, IsHeardOf, is_in_turn, open_count, settled, settled_after_event}
use Rattle.sr_events.specs.Connections.{slot_at, with_event}
use Rattle.sr_events.specs.steps.Connections.{IsKept, IsKeptBut, TellsAt}

-- a token has a turn if it is to have one, and whoever had a turn keeps it
pub record Gives (token : ℕ) (wanted : Bool) (ring after : Turns) : Type 0 where
  most : after.most ≡ ring.most
  kept : (other : ℕ) → is_in_turn other ring ≡ true → is_in_turn other after ≡ true
  given : wanted ≡ true → token < ring.most → is_in_turn token after ≡ true

-- a token that has no turn yet gets one, wherever that is among the others
module _ (token : ℕ) (ring : Turns) (more : List ℕ)
    (others : (other : ℕ) → is_in_turn other ring ≡ true → list_any (eqb other) more ≡ true)
    (there : list_any (eqb token) more ≡ true) where
  abbrev is_added : Bool
  is_added = ltb token ring.most && not (is_in_turn token ring)

  abbrev enlarged : Turns
  enlarged = cond is_added (turns more ring.most) ring

  kept_turn : (other : ℕ) → is_in_turn other ring ≡ true → is_in_turn other enlarged ≡ true
  kept_turn other here =
      elim is_added as (λ b. is_in_turn other (cond b (turns more ring.most) ring) ≡ true)
      [ true ↦ others other here | false ↦ here ]

  given_turn : token < ring.most → is_in_turn token enlarged ≡ true
  given_turn within = ⊎_elim
      (λ (here : is_in_turn token ring ≡ true). kept_turn token here)
      (λ (absent : is_in_turn token ring ≡ false).
      let added : is_added ≡ true = and_from (ltb token ring.most) (not (is_in_turn token ring))
      (lt-ltb token ring.most within) (not_from_false (is_in_turn token ring) absent) in
      rw (cond-true is_added (turns more ring.most) ring added) there)
      (cases_Bool (is_in_turn token ring))

  Gives-enlarged : Gives token true ring enlarged
  Gives-enlarged = record {
    most = elim is_added as (λ b. (cond b (turns more ring.most) ring).most ≡ ring.most)
        [ true ↦ refl | false ↦ refl ];
    kept = kept_turn;
    given = λ wanted. given_turn;
  }

Gives-last : (token : ℕ) (ring : Turns) → Gives token true ring (with_turn token ring)
Gives-last token ring = Gives-enlarged token ring (ring.tokens ++ token ∷ [])
    (λ other here. list_any-append (eqb other) ring.tokens (token ∷ [])
    ∙ or_left (list_any (eqb other) ring.tokens) (list_any (eqb other) (token ∷ [])) here)
    (list_any-append (eqb token) ring.tokens (token ∷ [])
    ∙ or_right (list_any (eqb token) ring.tokens) (eqb token token || false)
    (or_left (eqb token token) false (eq-eqb token token refl)))

Gives-first : (token : ℕ) (ring : Turns) → Gives token true ring (with_first_turn token ring)
Gives-first token ring = Gives-enlarged token ring (token ∷ ring.tokens)
    (λ other here. or_right (eqb other token) (list_any (eqb other) ring.tokens) here)
    (or_left (eqb token token) (list_any (eqb token) ring.tokens) (eq-eqb token token refl))

Gives-if : (token : ℕ) (wanted : Bool) (ring more : Turns) → Gives token true ring more
    → Gives token wanted ring (cond wanted more ring)
Gives-if token true ring more gives = gives
Gives-if token false ring more gives = record {
  most = refl;
  kept = λ other here. here;
  given = λ wanted. absurd (false≢true wanted);
}

Gives-settled : (token : ℕ) (slots : List SlotState) (ring : Turns)
    → Gives token (has_turn (slot_at slots token)) ring (settled token slots ring)
Gives-settled token slots ring =
    Gives-if token (has_turn (slot_at slots token)) ring (with_turn token ring) (Gives-last token ring)

Gives-event : (token : ℕ) (slots : List SlotState) (ring : Turns)
    → Gives token (has_turn (slot_at slots token)) ring (settled_after_event token slots ring)
Gives-event token slots ring =
    Gives-if token (has_turn (slot_at slots token)) ring
    (cond (has_ended (slot_at slots token)) (with_first_turn token ring) (with_turn token ring)) (
    elim (has_ended (slot_at slots token))
    as (λ b. Gives token true ring (cond b (with_first_turn token ring) (with_turn token ring)))
    [ true ↦ Gives-first token ring | false ↦ Gives-last token ring ])

-- only a slot that there is has a turn
within_from_turn : (token : ℕ) (slots : List SlotState) → has_turn (slot_at slots token) ≡ true → token < length slots
within_from_turn token slots turn = ⊎_elim
    (λ (within : token < length slots). within)
    (λ (past : length slots ≤ token).
    let beyond : slot_at slots token ≡ fresh false 0 = get_or_past slots token (fresh false 0) past in
    absurd (false≢true (sym (ap has_turn beyond) ∙ turn)))
    (cases_lt token (length slots))

module _ (token : ℕ) (old new : List SlotState) (changes : ChangesAt token old new) where
  pub same_length : length new ≡ length old
  same_length = ap length changes ∙ length-set old token (slot_at new token)

  same_others : (other : ℕ) → other ≢ token → slot_at new other ≡ slot_at old other
  same_others other apart = ap (λ slots. slot_at slots other) changes
      ∙ get_or-set_other old token other (slot_at new token) (fresh false 0) apart

  same_count : (slot_at new token).taken ≡ (slot_at old token).taken → open_count new ≡ open_count old
  same_count same = ⊎_elim
      (λ (within : token < length old).
      let bit : Bool → ℕ = λ b. cond b 1 0 in
      let moved =
      sum_by-set (λ (slot : SlotState). bit slot.taken) old token (slot_at new token) (fresh false 0) within in
      let bits : bit (slot_at new token).taken ≡ bit (slot_at old token).taken = ap bit same in
      let set_count : open_count (set old token (slot_at new token)) ≡ open_count old = omega (arith, moved, bits) in
      ap open_count changes ∙ set_count)
      (λ (past : length old ≤ token). ap open_count (changes ∙ set_past old token (slot_at new token) past))
      (cases_lt token (length old))

-- what was noted of one connection leaves all counted and in turn
pub IsKept-settled : (token : ℕ) (old new : List SlotState) (taken : ℕ) (ring after : Turns)
    → IsKeptBut token old taken ring → ChangesAt token old new
    → (slot_at new token).taken ≡ (slot_at old token).taken → Gives token (has_turn (slot_at new token)) ring after
    → IsKept new taken after
IsKept-settled token old new taken ring after kept changes same gives =
    let length_same : length new ≡ length old = same_length token old new changes in
    record {
      most = gives.most ∙ kept.most ∙ sym length_same;
      counted = kept.counted ∙ sym (same_count token old new changes same);
      scheduled = λ other turn. ⊎_elim
          (λ (this : other ≡ token).
          let turn_here : has_turn (slot_at new token) ≡ true =
          subst (λ t. has_turn (slot_at new t) ≡ true) this turn in
          let within : token < ring.most =
          omega (arith, within_from_turn token new turn_here, length_same, kept.most) in
          rw this (gives.given turn_here within))
          (λ (apart : other ≡ token → ⊥).
          let as_before : has_turn (slot_at old other) ≡ true =
          subst (λ slot. has_turn slot ≡ true) (same_others token old new changes other apart) turn in
          gives.kept other (kept.scheduled other apart as_before))
          (cases_eq other token);
    }

IsKeptBut-IsKept : (token : ℕ) (slots : List SlotState) (taken : ℕ) (ring : Turns) → IsKept slots taken ring
    → IsKeptBut token slots taken ring
IsKeptBut-IsKept token slots taken ring kept = record {
  most = kept.most;
  counted = kept.counted;
  scheduled = λ other apart turn. kept.scheduled other turn;
}

pub IsKept-changed : (token : ℕ) (old new : List SlotState) (taken : ℕ) (ring after : Turns) → IsKept old taken ring
    → ChangesAt token old new → (slot_at new token).taken ≡ (slot_at old token).taken → after ≡ settled token new ring
    → IsKept new taken after
IsKept-changed token old new taken ring after kept changes same is_after = IsKept-settled token old new taken ring after
    (IsKeptBut-IsKept token old taken ring kept) changes same (rw is_after (Gives-settled token new ring))

pub taken-held : (token : ℕ) (held : Bool) (old new : List SlotState) → ChangesAt token old new
    → (token < length old → slot_at new token ≡ record (slot_at old token) { held = held })
    → (slot_at new token).taken ≡ (slot_at old token).taken
taken-held token held old new changes is_held = ⊎_elim
    (λ (within : token < length old). ap (λ slot. slot.taken) (is_held within))
    (λ (past : length old ≤ token). ap (λ slots. (slot_at slots token).taken)
    (changes ∙ set_past old token (slot_at new token) past))
    (cases_lt token (length old))

-- the next token takes its turn
IsKeptBut-pop : (token : ℕ) (slots : List SlotState) (taken : ℕ) (ring after : Turns) → IsKept slots taken ring
    → ring ≡ turns (token ∷ after.tokens) after.most → IsKeptBut token slots taken after
IsKeptBut-pop token slots taken ring after kept popped =
    let whole : IsKept slots taken (turns (token ∷ after.tokens) after.most) =
    subst (λ r. IsKept slots taken r) popped kept in
    record {
      most = whole.most;
      counted = whole.counted;
      scheduled = λ other apart turn.
          ap (λ b. b || is_in_turn other after) (sym (ne_eqb other token apart)) ∙ whole.scheduled other turn;
    }

-- what is known of a connection's bytes once this was told of it
abbrev pub gave_told : Option Heard → List ℕ → Option (List ℕ) → Option (List ℕ)
gave_told None buffer gave = gave
gave_told (Some heard.Came) buffer gave = gave
gave_told (Some (heard.Bytes of count)) buffer gave = more (take count buffer) gave
gave_told (Some (heard.Room of)) buffer gave = gave
gave_told (Some (heard.Over of)) buffer gave = gave
gave_told (Some heard.Planned) buffer gave = gave
gave_told (Some heard.Nothing) buffer gave = gave
gave_told (Some heard.End) buffer gave = gave

-- what an event and a turn leave of a connection: nothing opens or closes it, and no bytes are lost
pub record Stays (buffer : List ℕ) (told : Option Heard) (old new : SlotState) : Type 0 where
  pub taken : new.taken ≡ old.taken
  pub gave : new.gave ≡ gave_told told buffer old.gave
  pub got : new.got ≡ old.got

Stays-same : (old new : SlotState) → new ≡ old → Stays [] None old new
Stays-same old new same = record {
  taken = ap (λ slot. slot.taken) same;
  gave = ap (λ slot. slot.gave) same;
  got = ap (λ slot. slot.got) same;
}

-- an event is about one generation of one slot
pub ChangesAt-event : (token generation : ℕ) (event : Event) (old new : List SlotState)
    → new ≡ with_event token generation event old
    → ChangesAt token old new × Stays [] None (slot_at old token) (slot_at new token)
ChangesAt-event token generation event old new is_new =
    ⊎_elim
    (λ (yes : (ltb token (length old) && eqb (slot_at old token).generation generation) ≡ true).
    let within : token < length old = ltb-true token (length old)
    (and_parts (ltb token (length old)) (eqb (slot_at old token).generation generation) yes).0 in
    let is_changed : new ≡ set old token (noted event (slot_at old token)) = is_new ∙ cond-true _ _ _ yes in
    let there : slot_at new token ≡ noted event (slot_at old token) =
    ap (λ slots. slot_at slots token) is_changed
    ∙ get_or-set_same old token (noted event (slot_at old token)) (fresh false 0) within in (
      is_changed ∙ ap (λ slot. set old token slot) (sym there),
      record {
        taken = ap (λ slot. slot.taken) there;
        gave = ap (λ slot. slot.gave) there;
        got = ap (λ slot. slot.got) there;
      },
    ))
    (λ (no : (ltb token (length old) && eqb (slot_at old token).generation generation) ≡ false).
    let is_old : new ≡ old = is_new ∙ cond-false _ _ _ no in
    let there : slot_at new token ≡ slot_at old token = ap (λ slots. slot_at slots token) is_old in (
      is_old ∙ sym (set-get_or old token (fresh false 0)) ∙ ap (λ slot. set old token slot) (sym there),
      Stays-same (slot_at old token) (slot_at new token) there,
    ))
    (cases_Bool (ltb token (length old) && eqb (slot_at old token).generation generation))

pub IsKept-event : (token generation : ℕ) (event : Event) (old new : List SlotState) (taken : ℕ) (ring after : Turns)
    → IsKept old taken ring → new ≡ with_event token generation event old
    → after ≡ settled_after_event token new ring → IsKept new taken after
IsKept-event token generation event old new taken ring after kept noted is_after =
    let (changes, stays) = ChangesAt-event token generation event old new noted in
    IsKept-settled token old new taken ring after (IsKeptBut-IsKept token old taken ring kept) changes stays.taken
    (rw is_after (Gives-event token new ring))

Stays-Ends : (all_taken : Bool) (token : ℕ) (buffer : List ℕ) (old : SlotState) (told : Option Heard) (new : SlotState)
    → EndsBy all_taken token old told new → Stays buffer told old new
Stays-Ends true token buffer old told new ends = rw ends.0 (rw ends.1 (record { taken = refl; gave = refl; got = refl }))
Stays-Ends false token buffer old told new ends = rw ends.0 (rw ends.1 (record { taken = refl; gave = refl; got = refl }))

Stays-Reads : (token : ℕ) (buffer : List ℕ) (old : SlotState) (told : Option Heard) (new : SlotState)
    → Reads token buffer old told new → Stays buffer told old new
Stays-Reads token buffer old (Some heard.Came) new reads = absurd reads
Stays-Reads token buffer old (Some (heard.Bytes of count)) new reads =
    rw reads.2 (record { taken = refl; gave = refl; got = refl })
Stays-Reads token buffer old (Some (heard.Room of)) new reads = absurd reads
Stays-Reads token buffer old (Some (heard.Over of)) new reads =
    rw reads.1 (record { taken = refl; gave = refl; got = refl })
Stays-Reads token buffer old (Some heard.Planned) new reads = absurd reads
Stays-Reads token buffer old (Some heard.Nothing) new reads = absurd reads
Stays-Reads token buffer old (Some heard.End) new reads = absurd reads
Stays-Reads token buffer old None new reads =
    ⊎_elim
    (λ (unread : new ≡ record old { readable = false }). rw unread (record { taken = refl; gave = refl; got = refl }))
    (λ (others : (new ≡ old) ⊎ Ends token old None new).
    ⊎_elim
    (λ (same : new ≡ old). rw same (record { taken = refl; gave = refl; got = refl }))
    (λ (ends : Ends token old None new). Stays-Ends (is_taken old.output) token buffer old None new ends)
    others)
    reads

Stays-Tells : (failed room_again read : Bool) (token : ℕ) (buffer : List ℕ) (old : SlotState) (told : Option Heard)
    (new : SlotState) → TellsBy failed room_again read token buffer old told new → Stays buffer told old new
Stays-Tells true room_again read token buffer old told new tells =
    rw tells.0 (rw tells.1 (record { taken = refl; gave = refl; got = refl }))
Stays-Tells false true read token buffer old told new tells =
    rw tells.0 (rw tells.1 (record { taken = refl; gave = refl; got = refl }))
Stays-Tells false false true token buffer old told new tells = Stays-Reads token buffer old told new tells
Stays-Tells false false false token buffer old told new tells =
    rw tells.0 (rw tells.1 (record { taken = refl; gave = refl; got = refl }))

-- what is told of a connection names it: of bytes at most as many as there was room; room after a write that came short,
-- and an end that was noted
heard_of-Reads : (token : ℕ) (buffer : List ℕ) (old : SlotState) (told : Option Heard) (new : SlotState)
    → Reads token buffer old told new → IfSome told (IsHeardOf token (length buffer) new)
heard_of-Reads token buffer old (Some heard.Came) new reads = absurd reads
heard_of-Reads token buffer old (Some (heard.Bytes of count)) new reads = (reads.0, reads.1)
heard_of-Reads token buffer old (Some (heard.Room of)) new reads = absurd reads
heard_of-Reads token buffer old (Some (heard.Over of)) new reads = (reads.0, ap (λ slot. slot.failed) reads.1)
heard_of-Reads token buffer old (Some heard.Planned) new reads = absurd reads
heard_of-Reads token buffer old (Some heard.Nothing) new reads = absurd reads
heard_of-Reads token buffer old (Some heard.End) new reads = absurd reads
heard_of-Reads token buffer old None new reads = tt

heard_of-Tells : (failed room_again read : Bool) (token : ℕ) (buffer : List ℕ) (old : SlotState) (told : Option Heard)
    (new : SlotState) → old.failed ≡ failed → TellsBy failed room_again read token buffer old told new
    → IfSome told (IsHeardOf token (length buffer) new)
heard_of-Tells true room_again read token buffer old told new failed tells =
    rw tells.0 (refl, ap (λ slot. slot.failed) tells.1 ∙ failed)
heard_of-Tells false true read token buffer old told new failed tells =
    rw tells.0 (refl, ap (λ slot. slot.output) tells.1)
heard_of-Tells false false true token buffer old told new failed tells =
    heard_of-Reads token buffer old told new tells
heard_of-Tells false false false token buffer old told new failed tells = rw tells.0 tt

pub Stays-TellsAt : (token : ℕ) (buffer : List ℕ) (old new : List SlotState) (told : Option Heard)
    → TellsAt token buffer old told new → Stays buffer told (slot_at old token) (slot_at new token)
Stays-TellsAt token buffer old new told tells = ⊎_elim
    (λ (turn : has_turn (slot_at old token) ≡ true).
    Stays-Tells (slot_at old token).failed (may_have_room (slot_at old token).output) (is_read (slot_at old token))
    token buffer (slot_at old token) told (slot_at new token) (tells.some turn))
    (λ (none : has_turn (slot_at old token) ≡ false).
    rw (tells.none none).0 (rw (tells.none none).1 (record { taken = refl; gave = refl; got = refl })))
    (cases_Bool (has_turn (slot_at old token)))

pub IsKept-told : (token : ℕ) (buffer : List ℕ) (old new : List SlotState) (taken : ℕ) (told : Option Heard)
    (ring popped after : Turns) → IsKept old taken ring → ring ≡ turns (token ∷ popped.tokens) popped.most
    → TellsAt token buffer old told new
    → after ≡ settled token new popped → IsKept new taken after
IsKept-told token buffer old new taken told ring popped after kept pops tells is_after =
    IsKept-settled token old new taken popped after (IsKeptBut-pop token old taken ring popped kept pops)
    tells.others (Stays-TellsAt token buffer old new told tells).taken (rw is_after (Gives-settled token new popped))

-- what is told of a connection is told of it
pub told_of : (token : ℕ) (buffer : List ℕ) (old new : List SlotState) (told : Option Heard)
    → TellsAt token buffer old told new → IfSome told (IsHeardOf token (length buffer) (slot_at new token))
told_of token buffer old new told tells = ⊎_elim
    (λ (turn : has_turn (slot_at old token) ≡ true).
    heard_of-Tells (slot_at old token).failed (may_have_room (slot_at old token).output) (is_read (slot_at old token))
    token buffer (slot_at old token) told (slot_at new token) refl (tells.some turn))
    (λ (none : has_turn (slot_at old token) ≡ false). rw (tells.none none).0 tt)
    (cases_Bool (has_turn (slot_at old token)))

-- and its token is one that there is
pub told_within : (token : ℕ) (buffer : List ℕ) (old new : List SlotState) (told : Option Heard)
    → TellsAt token buffer old told new
    → IfSome told (λ heard. (of : ℕ) × (of < length new) × IsHeardOf of (length buffer) (slot_at new of) heard)
told_within token buffer old new told tells = ⊎_elim
    (λ (turn : has_turn (slot_at old token) ≡ true).
    let within : token < length new =
    omega (arith, within_from_turn token old turn, same_length token old new tells.others) in
    named told (told_of token buffer old new told tells) within)
    (λ (none : has_turn (slot_at old token) ≡ false). rw (tells.none none).0 tt)
    (cases_Bool (has_turn (slot_at old token)))
  where
    named : (told : Option Heard) → IfSome told (IsHeardOf token (length buffer) (slot_at new token)) → token < length new
        → IfSome told (λ heard. (of : ℕ) × (of < length new) × IsHeardOf of (length buffer) (slot_at new of) heard)
    named None of_token within = tt
    named (Some heard) of_token within = (token, within, of_token)

-- a slot that changes once more
pub ChangesAt-again : (token : ℕ) (old new : List SlotState) (slot : SlotState) → ChangesAt token old new
    → ChangesAt token old (set new token slot)
ChangesAt-again token old new slot changes = ⊎_elim
    (λ (within : token < length new).
    let there : slot_at (set new token slot) token ≡ slot = get_or-set_same new token slot (fresh false 0) within in
    let both : set new token slot ≡ set old token slot =
    ap (λ slots. set slots token slot) changes ∙ set-set old token (slot_at new token) slot in
    both ∙ ap (λ last. set old token last) (sym there))
    (λ (past : length new ≤ token).
    let same : set new token slot ≡ new = set_past new token slot past in
    rw same changes)
    (cases_lt token (length new))
