-- A read finds nothing exactly if it finds nothing in its stream at a key, and nothing in its other streams.
use Rattle.std.proofs.Common.{◌≡◌, ℕ, Bool, true, false, cond, ◌&&◌, ◌||◌, not, List, [], ◌∷◌, filter, nat_eq, Some, refl, ap, sym, ◌∙◌}
use Rattle.std.specs.Cmp.Lexicographic.{pointwise}
use Rattle.std.specs.List.{list_any}
use Rattle.sr_args.specs.declared.call.Call.{Call}
use Rattle.sr_args.specs.declared.call.Call.TheVariants as calls
use Rattle.sr_args.specs.declared.call.Position.{Position}
use Rattle.sr_args.specs.declared.commands.xread.Xread.{Xread}
use Rattle.sr_args.specs.declared.commands.xreadgroup.Xreadgroup.{Xreadgroup}
use Rattle.sr_args.specs.declared.reads.ReadAsked.{ReadAsked}
use Rattle.sr_space.specs.Blocking.{executed, finds_nothing}
use Rattle.sr_space.specs.Bounds.{in_63_bits}
use Rattle.sr_space.specs.Effect.{key_of}
use Rattle.sr_space.specs.Keys.{Key, Keys, stream_at}
use Rattle.sr_space.specs.Readers.{asks, read_at, read_beside, streams_at, streams_beside}
use Rattle.sr_space.specs.commands.Xreadgroup.{has_group_in, have_group}
use Rattle.sr_space.specs.steps.Waiting.{answers_stream, any_after, any_answers, has_after, has_answer, lists_any, lists_stream}
use Rattle.sr_space.proofs.ReaderLaws.{finds-others, twice}
use Rattle.sr_space.proofs.WaitingLemmas.{any_after-read, has_answer-read}

-- ---- lists, and those of their items that pass a test

or-first : (a b c : Bool) → (a || (b || c)) ≡ ((a || b) || c)
or-first true b c = refl
or-first false b c = refl

or-second : (a b c : Bool) → (a || (b || c)) ≡ (b || (a || c))
or-second true true c = refl
or-second true false c = refl
or-second false b c = refl

module _ {X : Type 0} (p q : X → Bool) where
  -- some item passes if one does that passes another test, or one that fails it
  any-apart : (xs : List X) → list_any p xs ≡ (list_any p (filter q xs) || list_any p (filter (λ x. not (q x)) xs))
  any-apart [] = refl
  any-apart (x ∷ xs) = ap (λ (b : Bool). p x || b) (any-apart xs) ∙ by (q x)
    where
      by : (test : Bool) → (p x || (list_any p (filter q xs) || list_any p (filter (λ x. not (q x)) xs)))
          ≡ (list_any p (cond test (x ∷ filter q xs) (filter q xs)) || list_any p (cond (not test) (x ∷ filter (λ x. not (q x)) xs) (filter (λ x. not (q x)) xs)))
      by true = or-first (p x) (list_any p (filter q xs)) (list_any p (filter (λ x. not (q x)) xs))
      by false = or-second (p x) (list_any p (filter q xs)) (list_any p (filter (λ x. not (q x)) xs))

  -- both tests at once
  pub any-filter : (xs : List X) → list_any (λ x. q x && p x) xs ≡ list_any p (filter q xs)
  any-filter [] = refl
  any-filter (x ∷ xs) = by (q x) (any-filter xs)
    where
      by : (test : Bool) → list_any (λ x. q x && p x) xs ≡ list_any p (filter q xs) → ((test && p x) || list_any (λ x. q x && p x) xs) ≡ list_any p (cond test (x ∷ filter q xs) (filter q xs))
      by true rest = ap (λ (b : Bool). p x || b) rest
      by false rest = rest

module _ {X : Type 0} (q : X → Bool) where
  none-left : (xs : List X) → list_any q (filter (λ x. not (q x)) xs) ≡ false
  none-left [] = refl
  none-left (x ∷ xs) = by (q x) refl (none-left xs)
    where
      by : (test : Bool) → q x ≡ test → list_any q (filter (λ x. not (q x)) xs) ≡ false → list_any q (cond (not test) (x ∷ filter (λ x. not (q x)) xs) (filter (λ x. not (q x)) xs)) ≡ false
      by true is rest = rest
      by false is rest = rw is rest

  no-filter : (xs : List X) → list_any q xs ≡ false → filter q xs ≡ []
  no-filter [] none = refl
  no-filter (x ∷ xs) none = by (q x) none (no-filter xs)
    where
      by : (test : Bool) → (test || list_any q xs) ≡ false → (list_any q xs ≡ false → filter q xs ≡ []) → cond test (x ∷ filter q xs) (filter q xs) ≡ []
      by true none rest = cc
      by false none rest = rest none

-- ---- a read has an answer if one of its streams gives one

nor : (a b c d : Bool) → (not (a && b) || (c || d)) ≡ ((not a || c) || (not b || d))
nor true true c d = refl
nor true false true d = refl
nor true false false d = refl
nor false b c d = refl

module _ (keys : Keys) (moment : ℕ) where
  pub gives-read : (read : Xread) → not (finds_nothing keys moment (calls.Xread read)) ≡ any_after keys read.streams
  gives-read read = any_after-read read.count keys read.streams

  pub any-answers : (name : List ℕ) (streams : List (Key × ReadAsked)) → has_answer name keys streams ≡ any_answers name keys streams
  any-answers name [] = refl
  any-answers name (stream ∷ streams) =
      let found = stream_at keys stream.0 in
      nor (has_group_in name found) (have_group name keys streams) (lists_stream name stream.1 found) (lists_any name keys streams)
      ∙ ap (λ (b : Bool). answers_stream name stream.1 found || b) (any-answers name streams)

  pub gives-grouped : (read : Xreadgroup) → not (finds_nothing keys moment (calls.Xreadgroup read)) ≡ any_answers read.group keys read.streams
  gives-grouped read = has_answer-read (in_63_bits moment) read.group read.consumer read.count read.no_ack keys read.streams ∙ any-answers read.group read.streams

  not-or : (a b c : Bool) → not a ≡ (not b || not c) → a ≡ (b && c)
  not-or a true c e = sym (twice a) ∙ ap not e ∙ twice c
  not-or a false c e = sym (twice a) ∙ ap not e

  -- at the key, and beside it
  pub finds-apart : (key : Key) (read : Call) → finds_nothing keys moment read ≡ (finds_nothing keys moment (read_at key read) && finds_nothing keys moment (read_beside key read))
  finds-apart key (calls.Xread read) =
      let at = record read { streams = streams_at key read.streams } in
      let beside = record read { streams = streams_beside key read.streams } in
      let gives : Key × Position → Bool = λ stream. has_after stream.1 (stream_at keys stream.0) in
      let has : Key × Position → Bool = λ stream. pointwise nat_eq stream.0 key in
      not-or (finds_nothing keys moment (calls.Xread read)) (finds_nothing keys moment (calls.Xread at)) (finds_nothing keys moment (calls.Xread beside))
      (gives-read read ∙ any-apart gives has read.streams ∙ ap (λ (b : Bool). b || any_after keys beside.streams) (sym (gives-read at)) ∙ ap (λ (b : Bool). not (finds_nothing keys moment (calls.Xread at)) || b) (sym (gives-read beside)))
  finds-apart key (calls.Xreadgroup read) =
      let at = record read { streams = streams_at key read.streams } in
      let beside = record read { streams = streams_beside key read.streams } in
      let gives : Key × ReadAsked → Bool = λ stream. answers_stream read.group stream.1 (stream_at keys stream.0) in
      let has : Key × ReadAsked → Bool = λ stream. pointwise nat_eq stream.0 key in
      not-or (finds_nothing keys moment (calls.Xreadgroup read)) (finds_nothing keys moment (calls.Xreadgroup at)) (finds_nothing keys moment (calls.Xreadgroup beside))
      (gives-grouped read ∙ any-apart gives has read.streams ∙ ap (λ (b : Bool). b || any_answers read.group keys beside.streams) (sym (gives-grouped at)) ∙ ap (λ (b : Bool). not (finds_nothing keys moment (calls.Xreadgroup at)) || b) (sym (gives-grouped beside)))
  finds-apart key read = refl

-- a read that does not ask the stream at the key finds nothing there
pub unasked-nothing : (keys : Keys) (moment : ℕ) (key : Key) (read : Call) → asks key read ≡ false → finds_nothing keys moment (read_at key read) ≡ true
unasked-nothing keys moment key (calls.Xread read) apart = rw (no-filter (λ (stream : Key × Position). pointwise nat_eq stream.0 key) read.streams apart) refl
unasked-nothing keys moment key (calls.Xreadgroup read) apart = rw (no-filter (λ (stream : Key × ReadAsked). pointwise nat_eq stream.0 key) read.streams apart) refl
unasked-nothing keys moment key read apart = cc

-- a call on one key leaves what a read finds beside it
pub finds-beside : (keys : Keys) (moment earlier later : ℕ) (call read : Call) (key : Key) → key_of call ≡ Some key
    → finds_nothing (executed keys moment call).keys later (read_beside key read) ≡ finds_nothing keys earlier (read_beside key read)
finds-beside keys moment earlier later call (calls.Xread read) key is =
    finds-others keys moment earlier later call (read_beside key (calls.Xread read)) key is (none-left (λ (stream : Key × Position). pointwise nat_eq stream.0 key) read.streams)
finds-beside keys moment earlier later call (calls.Xreadgroup read) key is =
    finds-others keys moment earlier later call (read_beside key (calls.Xreadgroup read)) key is (none-left (λ (stream : Key × ReadAsked). pointwise nat_eq stream.0 key) read.streams)
finds-beside keys moment earlier later call read key is = refl
