-- What the type keeps, after each change.
use Rattle.std.proofs.Common.{◌≡◌, ◌≢◌, ℕ, zero, suc, ◌+◌, ◌-◌, ◌^◌, ◌<◌, ◌≤◌, Bool, true, false, not, min, max, List, [], ◌∷◌, ◌++◌, length, filter, map, slice_get, Option, Some, None, refl, ap, subst, sym, ◌∙◌, arith}
use Rattle.std.specs.Cmp.Lexicographic.{bytes_decides}
use Rattle.std.specs.HashMap.{HashMap}
use Rattle.std.specs.List.{All, remove}
use Rattle.std.specs.Option.{IsSome}
use Rattle.std.proofs.lemmas.List.Filters.{length-filter_both}
use Rattle.std.proofs.lemmas.List.Edits.{length-remove}
use Rattle.std.proofs.lemmas.List.Elements.{All-filter, All-weaker, filter_agree, filter_passes}
use Rattle.std.proofs.lemmas.Option.{slice_get_within}
use Rattle.slab.specs.Slab.{Slab, ContainsKey, Updates, get, slab_len}
use Rattle.sr_ids.specs.declared.id.Id.{Id}
use Rattle.sr_pending.specs.declared.nack.Nack.{Nack}
use Rattle.sr_pending.specs.declared.room.Room.{Room}
use Rattle.sr_ids.specs.{is_below, is_same_id}
use Rattle.sr_pending.specs.Pending.{AreRising, IsCountable, has_id, is_same_name, room_left, with_nack, without, without_owner}
use Rattle.sr_pending.specs.steps.Blocks.{Laid}
use Rattle.sr_pending.specs.steps.OwnedSlots.{Gives, HasSpare, IsIndexed, KeepsSlots, PutsSlot, TakesSlot, slots_by, spare_by}
use Rattle.sr_pending.specs.steps.Room.{AddsRoom, rooms_in_all}
use Rattle.sr_pending.specs.steps.Slots.{AreTaken, Frees, Writes, nack_at, nack_or, nacks_at, slots_of, slots_with, slots_without, slots_without_owner}
use Rattle.sr_pending.specs.steps.Sound.{IsSound}
use Rattle.sr_pending.proofs.ChangeLemmas.{AreRising-with_nack, All-with_nack, AreRising-changed, All-changed, changed_at, has_id-without}
use Rattle.sr_pending.proofs.HeldLemmas.{IsIndexed-put, IsIndexed-same, IsIndexed-taken, IsIndexed-without_owner}
use Rattle.sr_pending.proofs.NackLemmas.{AreRising-filter}
use Rattle.sr_pending.proofs.PlaceLemmas.{put_back, removed}
use Rattle.sr_pending.proofs.SlotLemmas.{AreSame, AreSame-updated, AreTaken-changed, AreTaken-same, AreTaken-with, apart-empty, apart-without, field-kept, length-with, nacks_at-changed, nacks_at-same, nacks_at-with, nacks_at-without, nacks_at-without_owner}

-- the same entries, with no less memory
module _ {S : Type 0} (slab : Slab Nack) (slots after : List ℕ) (rooms left : List Room) (held now : HashMap (List ℕ) (Laid ℕ) S) (spare less places : ℕ) (sound : IsSound slab slots rooms held spare) (same : after ≡ slots) (wider : slab.capacity ≤ places) where
  pub IsSound-wider : left ≡ rooms → KeepsSlots held now → spare ≤ less → IsSound (record slab { capacity = places }) after left now less
  IsSound-wider rest keeps le = record {
    rising = rw same sound.rising;
    countable = rw same sound.countable;
    taken = rw same sound.taken;
    counted = rw same sound.counted;
    indexed = λ owner. rw same (keeps.slots owner ∙ sound.indexed owner);
    small = rw rest sound.small;
    places = rw (same, rest) (omega (arith, sound.places, wider));
    fits = rw rest (omega (arith, sound.fits, le));
    spared = λ owner. rw rest (omega (arith, sound.spared owner, keeps.spare owner));
  }

  pub IsSound-reserved : (owner : List ℕ) (n had more count all : ℕ) → had ≡ room_left owner rooms → more ≡ n - had → count ≡ rooms_in_all rooms → all ≡ min (count + more) (2 ^ 64 - 1) → slab_len slab + all ≤ places → less ≡ max all spare → less < 2 ^ 63 → AddsRoom owner more rooms left → KeepsSlots held now → n ≤ spare_by now owner → IsSound (record slab { capacity = places }) after left now less
  IsSound-reserved owner n had more count all has is counts sums finds wide small adds keeps enough = record {
    rising = rw same sound.rising;
    countable = rw same sound.countable;
    taken = rw same sound.taken;
    counted = rw same sound.counted;
    indexed = λ other. rw same (keeps.slots other ∙ sound.indexed other);
    small = omega (arith, adds.in_all, counts, sums, wide, small);
    places = rw same (omega (arith, adds.in_all, counts, sums, wide, small, finds, sound.counted));
    fits = omega (arith, adds.in_all, counts, sums, wide, small);
    spared = λ other. by other (is_same_name owner other) refl;
  }
    where
      by : (other : List ℕ) (test : Bool) → is_same_name owner other ≡ test → room_left other left ≤ spare_by now other
      by other true e = subst (λ (o : List ℕ). room_left o left ≤ spare_by now o) ((bytes_decides owner other).0 e) (omega (arith, adds.added, has, is, enough, sound.spared owner, keeps.spare owner))
      by other false e = omega (arith, sound.spared other, keeps.spare other, adds.others other (λ equal. absurd (let both = sym e ∙ (bytes_decides owner other).1 (sym equal) in cc)))

-- an entry comes into an empty slot
module _ {S : Type 0} (slab new : Slab Nack) (slots : List ℕ) (rooms : List Room) (held : HashMap (List ℕ) (Laid ℕ) S) (spare slot : ℕ) (nack : Nack) (sound : IsSound slab slots rooms held spare) (empty : get slab slot ≡ None) (updates : Updates slab new slot (Some nack)) (fresh : has_id nack.id (nacks_at slab slots) ≡ false) where
  pub here-put : nack_at new slot ≡ nack
  here-put = ap nack_or updates.changed

  pub same-put : AreSame slab new slots
  same-put = AreSame-updated slab new slots slot (Some nack) updates (apart-empty slab slot slots empty sound.taken)

  pub nacks-put : nacks_at new slots ≡ nacks_at slab slots
  nacks-put = nacks_at-same slab new slots same-put

  pub rising-put : AreRising (nacks_at new slots)
  rising-put = subst AreRising (sym nacks-put) sound.rising

  pub fresh-put : has_id (nack_at new slot).id (nacks_at new slots) ≡ false
  fresh-put = ap (has_id (nack_at new slot).id) nacks-put ∙ ap (λ (e : Nack). has_id e.id (nacks_at slab slots)) here-put ∙ fresh

  pub added-put : (after : List ℕ) → after ≡ slots_with slot new slots → nacks_at new after ≡ with_nack nack (nacks_at slab slots)
  added-put after is =
      ap (nacks_at new) is
      ∙ nacks_at-with new slots slot
      ∙ ap (λ (e : Nack). with_nack e (nacks_at new slots)) here-put
      ∙ ap (with_nack nack) nacks-put

  pub taken-put : ContainsKey new slot
  taken-put = subst (λ (o : Option Nack). IsSome o) (sym updates.changed) refl

  pub indexed-put : IsIndexed held new slots
  indexed-put = IsIndexed-same held slab slots sound.indexed new same-put

  pub IsSound-put : (after : List ℕ) (left : List Room) (now : HashMap (List ℕ) (Laid ℕ) S) (less : ℕ) → slab_len new ≡ slab_len slab + 1 → new.capacity ≡ slab.capacity → IsCountable nack → after ≡ slots_with slot new slots → rooms_in_all left + 1 ≡ rooms_in_all rooms → less + 1 ≡ spare → PutsSlot slot new held now → HasSpare now left → IsSound new after left now less
  IsSound-put after left now less len capacity countable is used room puts spared =
      let many : length after ≡ length slots + 1 = ap (λ (l : List ℕ). length l) is ∙ length-with new slots slot rising-put fresh-put in
      record {
        rising = subst AreRising (sym (added-put after is)) (AreRising-with_nack nack (nacks_at slab slots) sound.rising);
        countable = subst (λ (l : List Nack). All IsCountable l) (sym (added-put after is)) (All-with_nack IsCountable nack (nacks_at slab slots) countable sound.countable);
        taken = subst (λ (l : List ℕ). AreTaken new l) (sym is) (AreTaken-with new slots slot taken-put (AreTaken-same slab new slots same-put sound.taken));
        counted = omega (arith, many, len, sound.counted);
        indexed = subst (λ (l : List ℕ). IsIndexed now new l) (sym is) (IsIndexed-put held new slots indexed-put rising-put slot now fresh-put puts);
        small = omega (arith, sound.small, used);
        places = omega (arith, many, sound.places, used, capacity);
        fits = omega (arith, sound.fits, used, room);
        spared = spared;
      }

-- the entry with an id goes
module _ {S : Type 0} (slab new : Slab Nack) (slots after : List ℕ) (rooms : List Room) (held : HashMap (List ℕ) (Laid ℕ) S) (spare slot place : ℕ) (id : Id) (sound : IsSound slab slots rooms held spare) (here : slice_get slots place ≡ Some slot) (same : (nack_at slab slot).id ≡ id) (is : after ≡ remove slots place) (updates : Updates slab new slot None) where
  rest-gone : after ≡ slots_without id slab slots
  rest-gone = is ∙ removed (nack_at slab) id slots place slot sound.rising here same

  same-gone : AreSame slab new after
  same-gone =
      let rest : after ≡ slots_without (nack_at slab slot).id slab slots = subst (λ (i : Id). after ≡ slots_without i slab slots) (sym same) rest-gone in
      subst (λ (l : List ℕ). AreSame slab new l) (sym rest) (AreSame-updated slab new (slots_without (nack_at slab slot).id slab slots) slot None updates (apart-without slab slot slots))

  pub left-gone : nacks_at new after ≡ without id (nacks_at slab slots)
  left-gone = nacks_at-same slab new after same-gone ∙ ap (nacks_at slab) rest-gone ∙ nacks_at-without slab slots id

  pub IsSound-gone : (now : HashMap (List ℕ) (Laid ℕ) S) (less : ℕ) → slab_len new + 1 ≡ slab_len slab → new.capacity ≡ slab.capacity → less ≡ spare → TakesSlot slot slab held now → HasSpare now rooms → IsSound new after rooms now less
  IsSound-gone now less len capacity room takes spared =
      let p : Nack → Bool = λ (e : Nack). not (is_same_id e.id id) in
      let many : length after + 1 ≡ length slots = ap (λ (l : List ℕ). length l + 1) is ∙ length-remove slots place (slice_get_within slots place slot here) in
      let taken : AreTaken slab after = subst (λ (l : List ℕ). AreTaken slab l) (sym rest-gone) (All-filter (λ (s : ℕ). not (is_same_id (nack_at slab s).id id)) (λ (s : ℕ). ContainsKey slab s) slots sound.taken) in
      let indexed : IsIndexed now slab after = subst (λ (l : List ℕ). IsIndexed now slab l) (sym rest-gone) (subst (λ (i : Id). IsIndexed now slab (slots_without i slab slots)) same (IsIndexed-taken held slab slots sound.indexed sound.rising slot now place here takes)) in
      record {
        rising = subst AreRising (sym left-gone) (AreRising-filter p (nacks_at slab slots) sound.rising);
        countable = subst (λ (l : List Nack). All IsCountable l) (sym left-gone) (All-filter p IsCountable (nacks_at slab slots) sound.countable);
        taken = AreTaken-same slab new after same-gone taken;
        counted = omega (arith, many, len, sound.counted);
        indexed = IsIndexed-same now slab after indexed new same-gone;
        small = sound.small;
        places = omega (arith, many, sound.places, capacity);
        fits = omega (arith, sound.fits, room);
        spared = spared;
      }

-- the entry in a slot changes, and keeps its id
module _ {S : Type 0} (slab new : Slab Nack) (slots : List ℕ) (rooms : List Room) (held : HashMap (List ℕ) (Laid ℕ) S) (spare slot place : ℕ) (id : Id) (change : Nack → Nack) (sound : IsSound slab slots rooms held spare) (here : slice_get slots place ≡ Some slot) (same : (nack_at slab slot).id ≡ id) (keeps : (nack : Nack) → (change nack).id ≡ nack.id) (countable : (nack : Nack) → IsCountable (change nack)) (writes : Writes slot (change (nack_at slab slot)) slab new) where
  pub changed-all : nacks_at new slots ≡ map (changed_at id change) (nacks_at slab slots)
  changed-all = nacks_at-changed slab new slot id change writes.updates same slots place sound.rising here

  pub rising-changed : AreRising (nacks_at new slots)
  rising-changed = subst AreRising (sym changed-all) (AreRising-changed id change keeps (nacks_at slab slots) sound.rising)

  pub IsSound-changed : (left : List Room) (now : HashMap (List ℕ) (Laid ℕ) S) → rooms_in_all left ≤ rooms_in_all rooms → IsIndexed now new slots → HasSpare now left → IsSound new slots left now spare
  IsSound-changed left now used indexed spared = record {
    rising = rising-changed;
    countable = subst (λ (l : List Nack). All IsCountable l) (sym changed-all) (All-changed id change IsCountable countable (nacks_at slab slots) sound.countable);
    taken = AreTaken-changed slab new slot id change writes.updates same slots sound.taken;
    counted = writes.len ∙ sound.counted;
    indexed = indexed;
    small = omega (arith, sound.small, used);
    places = omega (arith, sound.places, used, writes.capacity);
    fits = omega (arith, sound.fits, used);
    spared = spared;
  }

  -- it stays its owner's
  pub indexed-still : (change (nack_at slab slot)).owner ≡ (nack_at slab slot).owner → IsIndexed held new slots
  indexed-still its owner =
      let kept : (s : ℕ) → (nack_at new s).owner ≡ (nack_at slab s).owner = field-kept slab new slot id change writes.updates same (λ (e : Nack). e.owner) its in
      sound.indexed owner ∙ filter_agree (λ s. is_same_name (nack_at slab s).owner owner) (λ s. is_same_name (nack_at new s).owner owner) (λ s. ap (λ (o : List ℕ). is_same_name o owner) (sym (kept s))) slots

  -- it becomes another's: between, its slot is nobody's
  abbrev rest-moved : List ℕ
  rest-moved = slots_without (nack_at slab slot).id slab slots

  same-moved : AreSame slab new rest-moved
  same-moved = AreSame-updated slab new rest-moved slot (Some (change (nack_at slab slot))) writes.updates (apart-without slab slot slots)

  module _ (mid : HashMap (List ℕ) (Laid ℕ) S) (takes : TakesSlot slot slab held mid) where
    pub indexed-between : IsIndexed mid new (slots_without (nack_at slab slot).id slab slots)
    indexed-between = IsIndexed-same mid slab rest-moved (IsIndexed-taken held slab slots sound.indexed sound.rising slot mid place here takes) new same-moved

    pub nacks-between : nacks_at new (slots_without (nack_at slab slot).id slab slots) ≡ without (nack_at slab slot).id (nacks_at slab slots)
    nacks-between = nacks_at-same slab new rest-moved same-moved ∙ nacks_at-without slab slots (nack_at slab slot).id

    pub rising-between : AreRising (nacks_at new (slots_without (nack_at slab slot).id slab slots))
    rising-between = subst AreRising (sym nacks-between) (AreRising-filter (λ (e : Nack). not (is_same_id e.id (nack_at slab slot).id)) (nacks_at slab slots) sound.rising)

    same_id : (s : ℕ) → (nack_at new s).id ≡ (nack_at slab s).id
    same_id = field-kept slab new slot id change writes.updates same (λ (e : Nack). e.id) (keeps (nack_at slab slot))

    pub fresh-between : has_id (nack_at new slot).id (nacks_at new (slots_without (nack_at slab slot).id slab slots)) ≡ false
    fresh-between =
        ap (has_id (nack_at new slot).id) nacks-between
        ∙ ap (λ (i : Id). has_id i (without (nack_at slab slot).id (nacks_at slab slots))) (same_id slot)
        ∙ has_id-without (nack_at slab slot).id (nacks_at slab slots)

    back : slots_with slot new (slots_without (nack_at slab slot).id slab slots) ≡ slots
    back =
        let rest = rest-moved in
        let before : filter (λ o. is_below (nack_at new o).id (nack_at new slot).id) rest ≡ filter (λ o. is_below (nack_at slab o).id (nack_at slab slot).id) rest = filter_agree (λ o. is_below (nack_at new o).id (nack_at new slot).id) (λ o. is_below (nack_at slab o).id (nack_at slab slot).id) (λ o. ap (λ (i : Id). is_below i (nack_at new slot).id) (same_id o) ∙ ap (λ (i : Id). is_below (nack_at slab o).id i) (same_id slot)) rest in
        let behind : filter (λ o. is_below (nack_at new slot).id (nack_at new o).id) rest ≡ filter (λ o. is_below (nack_at slab slot).id (nack_at slab o).id) rest = filter_agree (λ o. is_below (nack_at new slot).id (nack_at new o).id) (λ o. is_below (nack_at slab slot).id (nack_at slab o).id) (λ o. ap (λ (i : Id). is_below i (nack_at new o).id) (same_id slot) ∙ ap (λ (i : Id). is_below (nack_at slab slot).id i) (same_id o)) rest in
        ap (λ (l : List ℕ). l ++ slot ∷ filter (λ o. is_below (nack_at new slot).id (nack_at new o).id) rest) before
        ∙ ap (λ (l : List ℕ). filter (λ o. is_below (nack_at slab o).id (nack_at slab slot).id) rest ++ slot ∷ l) behind
        ∙ put_back (nack_at slab) slots place slot sound.rising here

    pub indexed-moved : (now : HashMap (List ℕ) (Laid ℕ) S) → PutsSlot slot new mid now → IsIndexed now new slots
    indexed-moved now puts = subst (λ (l : List ℕ). IsIndexed now new l) back (IsIndexed-put mid new rest-moved indexed-between rising-between slot now fresh-between puts)

-- the entries of an owner go
module _ {S : Type 0} (slab new : Slab Nack) (slots after : List ℕ) (rooms : List Room) (held : HashMap (List ℕ) (Laid ℕ) S) (spare : ℕ) (owner : List ℕ) (sound : IsSound slab slots rooms held spare) (is : after ≡ slots_without_owner owner slab slots) (frees : Frees (slots_by held owner) slab new) where
  abbrev owned : ℕ → Bool
  owned s = is_same_name (nack_at slab s).owner owner

  same-dropped : AreSame slab new after
  same-dropped =
      subst (λ (l : List ℕ). AreSame slab new l) (sym is)
      (All-weaker (λ (s : ℕ). not (owned s) ≡ true) (λ (s : ℕ). get new s ≡ get slab s) (λ s fails. frees.others s (subst (λ (l : List ℕ). All (λ (freed : ℕ). freed ≢ s) l) (sym (sound.indexed owner)) (All-weaker (λ (freed : ℕ). owned freed ≡ true) (λ (freed : ℕ). freed ≢ s) (λ freed passes same. by s fails (subst (λ (o : ℕ). owned o ≡ true) same passes)) (filter owned slots) (filter_passes owned slots)))) (filter (λ s. not (owned s)) slots) (filter_passes (λ s. not (owned s)) slots))
    where
      by : (s : ℕ) → not (owned s) ≡ true → owned s ≡ true → ⊥
      by s fails passes = let other : not true ≡ true = sym (ap not passes) ∙ fails in cc

  pub left-dropped : nacks_at new after ≡ without_owner owner (nacks_at slab slots)
  left-dropped = nacks_at-same slab new after same-dropped ∙ ap (nacks_at slab) is ∙ nacks_at-without_owner slab slots owner

  pub IsSound-dropped : (now : HashMap (List ℕ) (Laid ℕ) S) (less room : ℕ) → less ≡ spare → Gives owner [] room held now → HasSpare now rooms → IsSound new after rooms now less
  IsSound-dropped now less room wide gives spared =
      let p : Nack → Bool = λ (e : Nack). not (is_same_name e.owner owner) in
      let parts : length (slots_by held owner) + length after ≡ length slots =
      ap (λ (l : List ℕ). length l + length after) (sound.indexed owner)
      ∙ ap (λ (l : List ℕ). length (filter owned slots) + length l) is
      ∙ length-filter_both owned (λ s. not (owned s)) (λ s. refl) slots in
      let taken : AreTaken slab after = subst (λ (l : List ℕ). AreTaken slab l) (sym is) (All-filter (λ s. not (owned s)) (λ (s : ℕ). ContainsKey slab s) slots sound.taken) in
      let indexed : IsIndexed now slab after = subst (λ (l : List ℕ). IsIndexed now slab l) (sym is) (IsIndexed-without_owner held slab slots sound.indexed now owner room gives) in
      record {
        rising = subst AreRising (sym left-dropped) (AreRising-filter p (nacks_at slab slots) sound.rising);
        countable = subst (λ (l : List Nack). All IsCountable l) (sym left-dropped) (All-filter p IsCountable (nacks_at slab slots) sound.countable);
        taken = AreTaken-same slab new after same-dropped taken;
        counted = omega (arith, parts, frees.len, sound.counted);
        indexed = IsIndexed-same now slab after indexed new same-dropped;
        small = sound.small;
        places = omega (arith, parts, sound.places, frees.capacity);
        fits = omega (arith, sound.fits, wide);
        spared = spared;
      }
