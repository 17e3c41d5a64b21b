-- Who is dead: what one more consumer adds to what was found.
use Rattle.std.proofs.Common.{◌≡◌, ℕ, ◌+◌, ◌<◌, ◌≤◌, Bool, List, [], ◌∷◌, ◌++◌, length, get_or, take}
use Rattle.std.proofs.Common.{Option, arith, refl, sym, ap, ◌∙◌, subst, inl, inr, append-nil, append_assoc}
use Rattle.std.proofs.lemmas.Bool.{le-leb}
use Rattle.std.proofs.lemmas.List.{take_all, take_more}
use Rattle.std.specs.Prelude.{if◌then◌else◌}
use Rattle.sr_policy.specs.{Text}
use Rattle.sr_peer.specs.{Part}
use Rattle.sr_live.specs.Dead.{FindsDead, FindsEach, LooksOld, name_of_dead, old_call}
use Rattle.sr_live.specs.Looked.{number_of}
use Rattle.sr_live.specs.Looking.{Exchange, Talks, consumers_call, numbers_call}
use Rattle.sr_live.specs.Said.{Delivered, SaysIdle, SaysNumbers, SaysPending}
use Rattle.sr_live.proofs.ReadingLemmas.{AreReading, reading-append}
use Rattle.sr_live.proofs.TalkLemmas.{Talks-none, Talks-trans}

-- ---- one consumer

-- it was looked at, and its name added if it is dead
abbrev pub FindsOne : Text → Text → ℕ → List (Text × ℕ) → Text × ℕ → Option (List ℕ) → Option (List ℕ) → Option (List ℕ)
    → Option (List ℕ) → List Text → List Text → Type 0
FindsOne key group after numbers consumer sent got sent_then got_then dead now =
    (talk : List Exchange) × (old : List Delivered) × Talks sent got sent_then got_then talk
    × LooksOld key group after numbers consumer old talk × (now ≡ dead ++ name_of_dead after consumer old)

-- the call for one that was not seen for so long, with its reply
abbrev pub IsAsked : Text → Text → ℕ → Text → Option (List ℕ) → Option (List ℕ) → Option (List ℕ)
    → Option (List ℕ) → List Delivered → Type 0
IsAsked key group after name sent got sent_then got_then old =
    (parts : List Part) × Talks sent got sent_then got_then ((old_call key group after name, parts) ∷ [])
    × SaysPending parts name old

module _ (key group : Text) (after : ℕ) (numbers : List (Text × ℕ)) (consumer : Text × ℕ) where
  pub seen-lately : (sent got : Option (List ℕ)) (dead : List Text) → consumer.1 < after
      → FindsOne key group after numbers consumer sent got sent got dead dead
  seen-lately sent got dead lately =
      ([], [], Talks-none sent got, inl (inl lately, refl, refl), sym (append-nil dead))

  pub has-nothing : (sent got : Option (List ℕ)) (dead : List Text) → number_of numbers consumer.0 ≡ 0
      → FindsOne key group after numbers consumer sent got sent got dead dead
  has-nothing sent got dead none =
      ([], [], Talks-none sent got, inl (inr none, refl, refl), sym (append-nil dead))

  pub has-none : (sent got sent_then got_then : Option (List ℕ)) (dead : List Text) (old : List Delivered)
      → after ≤ consumer.1 → 0 < number_of numbers consumer.0 → old ≡ [] → IsAsked key group after consumer.0 sent got sent_then got_then old
      → FindsOne key group after numbers consumer sent got sent_then got_then dead dead
  has-none sent got sent_then got_then dead old long some none (parts, talks, says) =
      let none_named : [] ≡ name_of_dead after consumer old =
      ap (name_of_dead after consumer) (sym none) in (
        (old_call key group after consumer.0, parts) ∷ [],
        old,
        talks,
        inr (long, some, parts, says, refl),
        sym (append-nil dead) ∙ ap (λ (l : List Text). dead ++ l) none_named,
      )

  named : (old : List Delivered) → after ≤ consumer.1 → 0 < length old → consumer.0 ∷ [] ≡ name_of_dead after consumer old
  named [] long some = absurd (omega (arith, some))
  named (id ∷ ids) long some =
      ap (λ (b : Bool). if b then consumer.0 ∷ [] else []) (sym (le-leb after consumer.1 long))

  pub has-some : (sent got sent_then got_then : Option (List ℕ)) (dead now : List Text) (old : List Delivered)
      → after ≤ consumer.1 → 0 < number_of numbers consumer.0 → 0 < length old → now ≡ dead ++ consumer.0 ∷ []
      → IsAsked key group after consumer.0 sent got sent_then got_then old
      → FindsOne key group after numbers consumer sent got sent_then got_then dead now
  has-some sent got sent_then got_then dead now old long has some pushed (parts, talks, says) = (
    (old_call key group after consumer.0, parts) ∷ [],
    old,
    talks,
    inr (long, has, parts, says, refl),
    pushed ∙ ap (λ (l : List Text). dead ++ l) (named old long some),
  )

-- ---- all of them

FindsEach-push : (key group : Text) (after : ℕ) (numbers consumers : List (Text × ℕ)) (consumer : Text × ℕ) (old : List Delivered)
    (talk own : List Exchange) (dead : List Text) → FindsEach key group after numbers consumers talk dead
    → LooksOld key group after numbers consumer old own
    → FindsEach key group after numbers (consumers ++ consumer ∷ []) (talk ++ own) (dead ++ name_of_dead after consumer old)
FindsEach-push key group after numbers [] consumer old talk own dead none looks = (
  old,
  own,
  [],
  [],
  looks,
  (refl, refl),
  ap (λ (l : List Exchange). l ++ own) none.0 ∙ sym (append-nil own),
  ap (λ (l : List Text). l ++ name_of_dead after consumer old) none.1
      ∙ sym (append-nil (name_of_dead after consumer old)),
)
FindsEach-push key group after numbers (first ∷ consumers) consumer old talk own dead
    (before, mine, others, rest, looked, finds, talk_is, dead_is) looks = (
      before,
      mine,
      others ++ own,
      rest ++ name_of_dead after consumer old,
      looked,
      FindsEach-push key group after numbers consumers consumer old others own rest finds looks,
      ap (λ (l : List Exchange). l ++ own) talk_is ∙ append_assoc mine others own,
      ap (λ (l : List Text). l ++ name_of_dead after consumer old) dead_is
          ∙ append_assoc (name_of_dead after first before) rest (name_of_dead after consumer old),
    )

-- these consumers were looked at since then
abbrev pub FindsSince : Text → Text → ℕ → List (Text × ℕ) → Option (List ℕ) → Option (List ℕ) → Option (List ℕ) → Option (List ℕ)
    → List (Text × ℕ) → List Text → Type 0
FindsSince key group after numbers sent got sent_then got_then consumers dead =
    (talk : List Exchange) × Talks sent got sent_then got_then talk × FindsEach key group after numbers consumers talk dead

module _ (key group : Text) (after : ℕ) (numbers : List (Text × ℕ)) (sent got : Option (List ℕ)) where
  -- none was
  pub finds-none : (dead : List Text) → dead ≡ [] → FindsSince key group after numbers sent got sent got [] dead
  finds-none dead none = ([], Talks-none sent got, (refl, none))

  -- one more was
  pub finds-next : (sent_then got_then sent_last got_last : Option (List ℕ)) (consumers : List (Text × ℕ)) (i : ℕ)
      (consumer : Text × ℕ) (dead now : List Text) → i < length consumers → consumer ≡ get_or consumers i consumer
      → FindsSince key group after numbers sent got sent_then got_then (take i consumers) dead
      → FindsOne key group after numbers consumer sent_then got_then sent_last got_last dead now
      → FindsSince key group after numbers sent got sent_last got_last (take (i + 1) consumers) now
  finds-next sent_then got_then sent_last got_last consumers i consumer dead now within read (talk, talks, finds)
      (own, old, later, looks, pushed) =
      let more : take i consumers ++ consumer ∷ [] ≡ take (i + 1) consumers =
      ap (λ (c : Text × ℕ). take i consumers ++ c ∷ []) read ∙ sym (take_more consumers i consumer within) in (
        talk ++ own,
        Talks-trans sent got sent_then got_then sent_last got_last talk own talks later,
        subst (λ (l : List (Text × ℕ)). FindsEach key group after numbers l (talk ++ own) now) more
            (subst (FindsEach key group after numbers (take i consumers ++ consumer ∷ []) (talk ++ own)) (sym pushed)
            (FindsEach-push key group after numbers (take i consumers) consumer old talk own dead finds looks)),
      )

  -- all were
  pub finds-all : (sent_then got_then : Option (List ℕ)) (consumers : List (Text × ℕ)) (i : ℕ) (dead : List Text)
      → length consumers ≤ i → FindsSince key group after numbers sent got sent_then got_then (take i consumers) dead
      → FindsSince key group after numbers sent got sent_then got_then consumers dead
  finds-all sent_then got_then consumers i dead past since =
      subst (λ (l : List (Text × ℕ)). FindsSince key group after numbers sent got sent_then got_then l dead)
      (take_all i consumers past) since

  -- after the replies that name them, and how many entries each has
  pub found-from : (sent_one got_one sent_then got_then sent_last got_last : Option (List ℕ))
      (consumers listed : List (Text × ℕ)) (dead : List Text) → listed ≡ consumers
      → (parts : List Part) × Talks sent got sent_one got_one ((consumers_call key group, parts) ∷ [])
      × SaysIdle parts consumers
      → (parts : List Part) × Talks sent_one got_one sent_then got_then ((numbers_call key group, parts) ∷ [])
      × SaysNumbers parts numbers → FindsSince key group after numbers sent_then got_then sent_last got_last listed dead
      → (talk : List Exchange) × Talks sent got sent_last got_last talk × FindsDead key group after talk dead
  found-from sent_one got_one sent_then got_then sent_last got_last consumers listed dead same (parts, first, says)
      (counts, second, counted) (asking, later, finds) =
      let one : List Exchange = (consumers_call key group, parts) ∷ [] in
      let two : List Exchange = (numbers_call key group, counts) ∷ [] in (
        one ++ (two ++ asking),
        Talks-trans sent got sent_one got_one sent_last got_last one (two ++ asking) first
            (Talks-trans sent_one got_one sent_then got_then sent_last got_last two asking second later),
        record {
          parts = parts;
          counts = counts;
          consumers = consumers;
          numbers = numbers;
          asking = asking;
          says = says;
          says_numbers = counted;
          finds = subst (λ (l : List (Text × ℕ)). FindsEach key group after numbers l asking dead) same finds;
          spelled = refl;
        },
      )

-- ---- these calls only read

LooksOld-reads : (key group : Text) (after : ℕ) (numbers : List (Text × ℕ)) (consumer : Text × ℕ) (old : List Delivered) (talk : List Exchange)
    → LooksOld key group after numbers consumer old talk → AreReading talk
LooksOld-reads key group after numbers consumer old talk (inl (lately, none, empty)) = subst AreReading (sym empty) tt
LooksOld-reads key group after numbers consumer old talk (inr (long, some, parts, says, one)) =
    subst AreReading (sym one) (inr (inl refl), tt)

pub FindsEach-reads : (key group : Text) (after : ℕ) (numbers consumers : List (Text × ℕ)) (talk : List Exchange)
    (dead : List Text) → FindsEach key group after numbers consumers talk dead → AreReading talk
FindsEach-reads key group after numbers [] talk dead none = subst AreReading (sym none.0) tt
FindsEach-reads key group after numbers (consumer ∷ consumers) talk dead
    (old, own, others, rest, looks, finds, talk_is, dead_is) =
    subst AreReading (sym talk_is)
    (reading-append own others (LooksOld-reads key group after numbers consumer old own looks)
    (FindsEach-reads key group after numbers consumers others rest finds))
