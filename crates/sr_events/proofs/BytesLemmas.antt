-- The bytes that may have passed through each connection, whatever is read, written, noted or closed.

use Rattle.std.proofs.Common.{◌⊎◌, ◌≡◌, ◌≢◌, ℕ, ◌<◌, ◌≤◌, Bool, true, false, cond, eqb, Some, None}
use Rattle.std.proofs.Common.{IfSome, Option, List, [], ◌∷◌, ◌++◌, length, refl, ap, ◌∙◌, ⊎_elim, take}
use Rattle.std.specs.Prelude.{is_some, unwrap_or}
use Rattle.std.proofs.lemmas.Bool.{false≢true, cases_eq, cases_lt, ne_eqb, eq-eqb, cond-true, cond-false}
use Rattle.std.proofs.lemmas.List.{get_or-set_other, set_past}
use Rattle.mio.specs.declared.event.event.Event.{Event}
use Rattle.sr_hub.specs.declared.sockets.Heard.{Heard}
use Rattle.sr_hub.specs.declared.sockets.Heard.TheVariants as heard
use Rattle.sr_hub.specs.Lines.{with_more, with_none}
use Rattle.sr_hub.specs.Traffic.{Traffic, closes, names, with_answer}
use Rattle.sr_events.specs.Bytes.{IsUnused, MayBe, more}
use Rattle.sr_events.specs.Slot.{IsEmpty, SlotState, Writes, fresh}
use Rattle.sr_events.specs.Connections.{BeginsAt, ChangesAt, IsHeardOf, KeepBytes, MayHave, TellBytes, slot_at}
use Rattle.sr_events.specs.Connections.{taken_told, with_event}
use Rattle.sr_events.specs.Sockets.{HasCome, SocketsState}
use Rattle.sr_events.specs.steps.Connections.{TellsAt}
use Rattle.sr_events.proofs.ConnectionsLemmas.{ChangesAt-event, Stays, Stays-TellsAt, told_of}

MayBe-more : (known : Option (List ℕ)) (before bytes : List ℕ) → MayBe known before
    → MayBe (more bytes known) (before ++ bytes)
MayBe-more None before bytes may = tt
MayBe-more (Some known) before bytes may = ap (λ all. all ++ bytes) may

-- one slot changes, and what may have passed there and nowhere else
record Passes (token : ℕ) (slot : SlotState) (taken given more_taken more_given : ℕ → List ℕ) : Type 0 where
  taken_there : MayBe slot.gave (more_taken token)
  given_there : MayBe slot.got (more_given token)
  taken_elsewhere : (other : ℕ) → other ≢ token → more_taken other ≡ taken other
  given_elsewhere : (other : ℕ) → other ≢ token → more_given other ≡ given other

MayHave-changed : (token : ℕ) (old new : List SlotState) (taken given more_taken more_given : ℕ → List ℕ)
    → ChangesAt token old new → Passes token (slot_at new token) taken given more_taken more_given
    → MayHave old taken given → MayHave new more_taken more_given
MayHave-changed token old new taken given more_taken more_given changes passes may other = ⊎_elim
    (λ (this : other ≡ token). rw this (passes.taken_there, passes.given_there))
    (λ (apart : other ≡ token → ⊥).
    let same : slot_at new other ≡ slot_at old other = ap (λ slots. slot_at slots other) changes
    ∙ get_or-set_other old token other (slot_at new token) (fresh false 0) apart in
    rw same (rw (passes.taken_elsewhere other apart) (rw (passes.given_elsewhere other apart) (may other))))
    (cases_eq other token)

-- what a slot knows stays, and so do the bytes
KeepBytes-at : (token : ℕ) (old new : List SlotState) → ChangesAt token old new
    → (slot_at new token).gave ≡ (slot_at old token).gave → (slot_at new token).got ≡ (slot_at old token).got
    → KeepBytes old new
KeepBytes-at token old new changes gave got taken given may =
    MayHave-changed token old new taken given taken given changes record {
      taken_there = rw gave ((may token).0);
      given_there = rw got ((may token).1);
      taken_elsewhere = λ other apart. refl;
      given_elsewhere = λ other apart. refl;
    } may

more_there : (token : ℕ) (bytes : List ℕ) (all : ℕ → List ℕ) → with_more token bytes all token ≡ all token ++ bytes
more_there token bytes all = cond-true (eqb token token) _ _ (eq-eqb token token refl)

more_elsewhere : (token : ℕ) (bytes : List ℕ) (all : ℕ → List ℕ) (other : ℕ) → other ≢ token
    → with_more token bytes all other ≡ all other
more_elsewhere token bytes all other apart = cond-false (eqb other token) _ _ (ne_eqb other token apart)

none_there : (token : ℕ) (all : ℕ → List ℕ) → with_none token all token ≡ []
none_there token all = cond-true (eqb token token) _ _ (eq-eqb token token refl)

none_elsewhere : (token : ℕ) (all : ℕ → List ℕ) (other : ℕ) → other ≢ token → with_none token all other ≡ all other
none_elsewhere token all other apart = cond-false (eqb other token) _ _ (ne_eqb other token apart)

-- bytes that were read from one connection
bytes_read : (token : ℕ) (bytes : List ℕ) (old new : List SlotState) (taken given : ℕ → List ℕ) → ChangesAt token old new
    → (slot_at new token).gave ≡ more bytes (slot_at old token).gave
    → (slot_at new token).got ≡ (slot_at old token).got
    → MayHave old taken given → MayHave new (with_more token bytes taken) given
bytes_read token bytes old new taken given changes gave got may =
    MayHave-changed token old new taken given (with_more token bytes taken) given changes record {
      taken_there = rw gave (rw (more_there token bytes taken)
          (MayBe-more (slot_at old token).gave (taken token) bytes (may token).0));
      given_there = rw got ((may token).1);
      taken_elsewhere = more_elsewhere token bytes taken;
      given_elsewhere = λ other apart. refl;
    } may

-- bytes that were written to one
pub bytes_written : (token count : ℕ) (bytes : List ℕ) (old new : List SlotState) → ChangesAt token old new
    → Writes bytes (slot_at old token) count (slot_at new token) → (taken given : ℕ → List ℕ)
    → MayHave old taken given → MayHave new taken (with_more token (take count bytes) given)
bytes_written token count bytes old new changes writes taken given may =
    MayHave-changed token old new taken given taken (with_more token (take count bytes) given) changes record {
      taken_there = rw (ap (λ slot. slot.gave) writes.others) ((may token).0);
      given_there = rw writes.got (rw (more_there token (take count bytes) given)
          (MayBe-more (slot_at old token).got (given token) (take count bytes) (may token).1));
      taken_elsewhere = λ other apart. refl;
      given_elsewhere = more_elsewhere token (take count bytes) given;
    } may

-- another connection at a token, or none
pub bytes_begin : (token : ℕ) (old new : List SlotState) → ChangesAt token old new
    → IsUnused (slot_at new token).gave (slot_at new token).got → BeginsAt token old new
bytes_begin token old new changes unused taken given may =
    MayHave-changed token old new taken given (with_none token taken) (with_none token given) changes record {
      taken_there = rw (none_there token taken) (unused.0);
      given_there = rw (none_there token given) (unused.1);
      taken_elsewhere = none_elsewhere token taken;
      given_elsewhere = none_elsewhere token given;
    } may

unused_empty : (slot : SlotState) → IsEmpty slot → IsUnused slot.gave slot.got
unused_empty slot empty = rw empty.1.0 (rw empty.1.1 (tt, tt))

pub bytes_gone : (token : ℕ) (old new : List SlotState) → ChangesAt token old new → IsEmpty (slot_at new token)
    → KeepBytes old new
bytes_gone token old new changes empty taken given may =
    MayHave-changed token old new taken given taken given changes record {
      taken_there = rw empty.1.0 tt;
      given_there = rw empty.1.1 tt;
      taken_elsewhere = λ other apart. refl;
      given_elsewhere = λ other apart. refl;
    } may

-- what was told is the bytes that were read
pub bytes_told : (token : ℕ) (buffer : List ℕ) (old new : List SlotState) (told : Option Heard)
    → TellsAt token buffer old told new → TellBytes told buffer old new
bytes_told token buffer old new told tells taken given =
    by_told told (told_of token buffer old new told tells) (Stays-TellsAt token buffer old new told tells)
  where
    kept : (slot_at new token).gave ≡ (slot_at old token).gave → (slot_at new token).got ≡ (slot_at old token).got
        → MayHave old taken given → MayHave new taken given
    kept gave got = KeepBytes-at token old new tells.others gave got taken given

    by_told : (one : Option Heard) → IfSome one (IsHeardOf token (length buffer) (slot_at new token))
        → Stays buffer one (slot_at old token) (slot_at new token) → MayHave old taken given
        → MayHave new (taken_told one buffer taken) given
    by_told None of_token stays = kept stays.gave stays.got
    by_told (Some heard.Came) of_token stays = kept stays.gave stays.got
    by_told (Some (heard.Bytes of count)) of_token stays = rw of_token.0
        (bytes_read token (take count buffer) old new taken given tells.others stays.gave stays.got)
    by_told (Some (heard.Room of)) of_token stays = kept stays.gave stays.got
    by_told (Some (heard.Over of)) of_token stays = kept stays.gave stays.got
    by_told (Some heard.Planned) of_token stays = kept stays.gave stays.got
    by_told (Some heard.Nothing) of_token stays = kept stays.gave stays.got
    by_told (Some heard.End) of_token stays = kept stays.gave stays.got

-- an event moves no bytes
pub bytes_noted : (token generation : ℕ) (event : Event) (old new : List SlotState)
    → new ≡ with_event token generation event old → KeepBytes old new
bytes_noted token generation event old new noted =
    let (changes, stays) = ChangesAt-event token generation event old new noted in
    KeepBytes-at token old new changes stays.gave stays.got

-- holding a connection back moves none
pub bytes_held : (token : ℕ) (held : Bool) (old new : List SlotState) → ChangesAt token old new
    → (token < length old → slot_at new token ≡ record (slot_at old token) { held = held }) → KeepBytes old new
bytes_held token held old new changes is_held = ⊎_elim
    (λ (within : token < length old). KeepBytes-at token old new changes
    (ap (λ slot. slot.gave) (is_held within)) (ap (λ slot. slot.got) (is_held within)))
    (λ (past : length old ≤ token).
    let same : new ≡ old = changes ∙ set_past old token (slot_at new token) past in
    rw same (λ taken given may. may))
    (cases_lt token (length old))

-- where nothing was told, none were read
pub bytes_untold : (token : ℕ) (buffer : List ℕ) (old new : List SlotState) (told : Option Heard)
    → TellsAt token buffer old told new → false ≡ is_some told → KeepBytes old new
bytes_untold token buffer old new None tells untold = bytes_told token buffer old new None tells
bytes_untold token buffer old new (Some heard) tells untold = absurd (false≢true untold)

-- who comes, if one does, brings no bytes yet
pub bytes_comer : (buffer : List ℕ) (old new : List SlotState) (told : Option Heard) (sockets : SocketsState)
    → IfSome told (λ one. (one ≡ heard.End) ⊎ ((one ≡ heard.Came) × HasCome sockets)) → KeepBytes old new
    → TellBytes told buffer old new
bytes_comer buffer old new None sockets came keep = keep
bytes_comer buffer old new (Some one) sockets came keep = ⊎_elim
    (λ (end : one ≡ heard.End). rw end keep)
    (λ (comes : (one ≡ heard.Came) × HasCome sockets). rw comes.0 keep)
    came

-- where nothing was told, it is told that nothing came
pub bytes_or_nothing : (buffer : List ℕ) (old between new : List SlotState) (told : Option Heard)
    → KeepBytes old between → TellBytes told buffer between new
    → TellBytes (Some (unwrap_or told heard.Nothing)) buffer old new
bytes_or_nothing buffer old between new None keep tell = λ taken given may. tell taken given (keep taken given may)
bytes_or_nothing buffer old between new (Some one) keep tell = λ taken given may.
    tell taken given (keep taken given may)

-- closing a connection, or naming one, leaves what passed through the others
pub closes_bytes : (token : ℕ) (traffic : Traffic) (Of : (ℕ → List ℕ) → (ℕ → List ℕ) → Type 0)
    → Of traffic.taken traffic.given → Of (closes token traffic).taken (closes token traffic).given
closes_bytes token traffic Of may = by (traffic.opened token)
  where
    by : (opened : Bool) → (let after : Traffic = cond opened (record {
      opened = with_answer token false traffic.opened;
      taken = traffic.taken;
      given = traffic.given;
      closed = record { taken = traffic.taken token; given = traffic.given token } ∷ traffic.closed;
    }) traffic in Of after.taken after.given)
    by true = may
    by false = may

pub names_bytes : (token : ℕ) (traffic : Traffic) (Of : (ℕ → List ℕ) → (ℕ → List ℕ) → Type 0)
    → Of (with_none token traffic.taken) (with_none token traffic.given)
    → Of (names token traffic).taken (names token traffic).given
names_bytes token traffic Of may =
    closes_bytes token traffic (λ taken given. Of (with_none token taken) (with_none token given)) may
