-- What XPENDING answers, over the words of a listing.
use Rattle.std.proofs.Common.{◌≡◌, ℤ, List, [], ◌∷◌, Option, Some, None, option_copied, Bor, refl, ap, subst, to_z, of_z, w64}
use Rattle.std.specs.Prelude.{IfSome, IfNone}
use Rattle.sr_ids.specs.declared.id.Id.{Id}
use Rattle.sr_ids.specs.{IsStart}
use Rattle.sr_ids.specs.Spelling.{IsEnd}
use Rattle.sr_args.specs.declared.commands.xpending.PendingAsked.{PendingAsked}
use Rattle.sr_args.specs.Name.{IsSameName, option_text}
use Rattle.sr_args.specs.Number.{IsInt}
use Rattle.sr_args.specs.FormWord.{Word, FormWord, Fits, HasNumbers, HasIds, int, numeric, spelled, range_start, range_end}
use Rattle.sr_args.specs.Form.{Reading, Reads, IsNamedFirst, places, optional_text, named_places}
use Rattle.sr_args.specs.commands.Xpending.{listing, asked}
use Rattle.sr_args.specs.steps.Gives.{GivesCall}
use Rattle.sr_args.specs.steps.Numbers.{IsAnyWord}
use Rattle.sr_args.specs.steps.Options.{Begins}
use Rattle.sr_args.specs.steps.Pending.{listing_reading, idle_name, IsBeforeStart, IsPastIdle, IsMaybeInt}
use Rattle.sr_args.proofs.ChoiceLemmas.{HasNumbers-append, HasNumbers-front, HasNumbers-back, HasIds-back, count-back}

-- a word too many
no_word_left : {X : Type 0} (now : X → Word) (read : Option X) (left last : List Word) → IfSome read (λ x. left ≡ now x ∷ last) → IfNone read (last ≡ []) → (last ≡ [] → ⊥) → (consumer : Option Word) → Fits left (places optional_text consumer) → ⊥
no_word_left now None left last some none more consumer f = more none
no_word_left now (Some x) left last some none more None f = rw some at f
no_word_left now (Some x) left [] some none more (Some c) f = more refl
no_word_left now (Some x) left (w ∷ last) some none more (Some c) f = (rw some at f).1

pub listing-word_left : {X : Type 0} (now : X → Word) (read : Option X) (words first a b left last : List Word) (least_idle : Option Word) (start until most : Word) → Begins (named_places idle_name int) IsAnyWord IsBeforeStart words least_idle first → first ≡ start ∷ a → a ≡ until ∷ b → b ≡ most ∷ left → IfSome read (λ x. left ≡ now x ∷ last) → IfNone read (last ≡ []) → (last ≡ [] → ⊥) → (reading : Reading listing) → Reads listing words reading → ⊥
listing-word_left now read words first a b left last least_idle start until most begins d e f some none more reading r =
    let one = begins.only reading.0 (spelled range_start reading.1.0 ∷ spelled range_end reading.1.1.0 ∷ numeric int reading.1.1.1.0 ∷ places optional_text reading.1.1.1.1) tt r.fit.0 r.fits in
    let rest = rw f at (rw e at (rw d at one.1).1).1 in
    no_word_left now read left last some none more reading.1.1.1.1 rest.1

-- the words of a listing, one after the other
start_unnamed : (least_idle : Option Word) (first a : List Word) (start : Word) (ps : List FormWord) → first ≡ start ∷ a → IsPastIdle least_idle first → IsNamedFirst idle_name least_idle (spelled range_start start ∷ ps)
start_unnamed None first a start ps d past = record { unnamed = λ word words f same. past start a d (subst (λ (w : Word). IsSameName w (option_text idle_name)) f.0 same) }
start_unnamed (Some word) first a start ps d past = tt

fits-last : (read : Option (Bor Word)) (left last : List Word) → IfSome read (λ word. left ≡ word.now ∷ last) → IfNone read (left ≡ []) → last ≡ [] → Fits left (places optional_text (option_copied read))
fits-last None left last some none done = rw none tt
fits-last (Some word) left last some none done = rw (some, done) (refl, tt)

pub listing-reads : (words first a b left last : List Word) (least_idle : Option Word) (start until most : Word) (consumer : Option (Bor Word)) → Begins (named_places idle_name int) IsAnyWord IsBeforeStart words least_idle first → IsPastIdle least_idle first → first ≡ start ∷ a → a ≡ until ∷ b → b ≡ most ∷ left → IfSome consumer (λ word. left ≡ word.now ∷ last) → IfNone consumer (left ≡ []) → last ≡ [] → Reads listing words (listing_reading least_idle start until most (option_copied consumer))
listing-reads words first a b left last least_idle start until most consumer begins past d e f some none done =
    let after = spelled range_end until ∷ numeric int most ∷ places optional_text (option_copied consumer) in
    record {
      fits = begins.fits (spelled range_start start ∷ after) (rw d (refl, rw e (refl, rw f (refl, fits-last consumer left last some none done))));
      fit = (start_unnamed least_idle first a start after d past, tt);
    }

-- numbers and ids of a listing
abbrev after_idle : (start until most : Word) → Option Word → List FormWord
after_idle start until most consumer = spelled range_start start ∷ spelled range_end until ∷ numeric int most ∷ places optional_text consumer

idle-numbers : (word : Option Word) (z : Option ℤ) → IsMaybeInt word z → HasNumbers (named_places idle_name int word)
idle-numbers None z i = tt
idle-numbers (Some word) None i = absurd i
idle-numbers (Some word) (Some z) i = (tt, ((z, i), tt))

idle-exists : (word : Option Word) → HasNumbers (named_places idle_name int word) → (z : Option ℤ) × IsMaybeInt word z
idle-exists None n = (None, tt)
idle-exists (Some word) n = (Some n.1.0.0, n.1.0.1)

consumer-numbers : (consumer : Option Word) → HasNumbers (places optional_text consumer)
consumer-numbers None = tt
consumer-numbers (Some word) = (tt, tt)

pub listing-no_idle : (least_idle : Option Word) (start until most : Word) (consumer : Option Word) → ((z : Option ℤ) → IsMaybeInt least_idle z → ⊥) → HasNumbers (places listing (listing_reading least_idle start until most consumer)) → ⊥
listing-no_idle least_idle start until most consumer none h =
    let found = idle-exists least_idle (HasNumbers-front (named_places idle_name int least_idle) (after_idle start until most consumer) h) in
    none found.0 found.1

pub listing-no_count : (least_idle : Option Word) (start until most : Word) (consumer : Option Word) → ((z : ℤ) → IsInt most z → ⊥) → HasNumbers (places listing (listing_reading least_idle start until most consumer)) → ⊥
listing-no_count least_idle start until most consumer none h =
    let rest = HasNumbers-back (named_places idle_name int least_idle) (after_idle start until most consumer) h in
    none rest.1.1.0.0 rest.1.1.0.1

pub listing-numbers : (least_idle : Option Word) (start until most : Word) (consumer : Option Word) (y : Option ℤ) (z : ℤ) → IsMaybeInt least_idle y → IsInt most z → HasNumbers (places listing (listing_reading least_idle start until most consumer))
listing-numbers least_idle start until most consumer y z i j =
    HasNumbers-append (named_places idle_name int least_idle) (after_idle start until most consumer) (idle-numbers least_idle y i) (tt, (tt, ((z, j), consumer-numbers consumer)))

pub listing-no_start : (least_idle : Option Word) (start until most : Word) (consumer : Option Word) → ((found : Id) → IsStart start found → ⊥) → HasIds (places listing (listing_reading least_idle start until most consumer)) → ⊥
listing-no_start least_idle start until most consumer none h =
    let rest = HasIds-back (named_places idle_name int least_idle) (after_idle start until most consumer) h in
    none rest.0.0 rest.0.1

pub listing-no_end : (least_idle : Option Word) (start until most : Word) (consumer : Option Word) → ((found : Id) → IsEnd until found → ⊥) → HasIds (places listing (listing_reading least_idle start until most consumer)) → ⊥
listing-no_end least_idle start until most consumer none h =
    let rest = HasIds-back (named_places idle_name int least_idle) (after_idle start until most consumer) h in
    none rest.1.0.0 rest.1.0.1

abbrev pub asked_with : Option ℤ → Id → Id → ℤ → Option Word → PendingAsked
asked_with least_idle from until most consumer = record { least_idle = least_idle; start = from; end = until; count = most; consumer = consumer }

pub listing-gives : (words : List Word) (least_idle : Option Word) (start until most : Word) (consumer copy : Option Word) (y : Option ℤ) (i j : Id) (z : ℤ) → Reads listing words (listing_reading least_idle start until most consumer) → IsMaybeInt least_idle y → IsStart start i → IsEnd until j → IsInt most z → copy ≡ consumer → GivesCall listing asked words (asked_with y i j (to_z w64 (of_z w64 z)) copy)
listing-gives words least_idle start until most consumer copy y i j z reads idle s e m same = record {
  reading = listing_reading least_idle start until most consumer;
  reads = reads;
  values = (y, (i, (j, (z, copy))));
  means = (idle, (s, (e, (m, same))));
  is = ap (λ (n : ℤ). asked_with y i j n copy) (count-back most z m);
}
