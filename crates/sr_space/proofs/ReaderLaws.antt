-- A read finds the same at each moment, and wherever the streams that it asks are the same.
use Rattle.std.proofs.Common.{◌≡◌, ◌≢◌, ℕ, Bool, true, false, ◌&&◌, ◌||◌, not, List, [], ◌∷◌, nat_eq, Option, Some, refl, ap, sym, ◌∙◌, true≢false}
use Rattle.std.specs.Cmp.Lexicographic.{pointwise, bytes_decides}
use Rattle.sr_args.specs.declared.call.Call.{Call}
use Rattle.sr_args.specs.declared.call.Call.TheVariants as calls
use Rattle.sr_args.specs.declared.call.Position.{Position}
use Rattle.sr_args.specs.declared.commands.xread.Xread.{Xread}
use Rattle.sr_args.specs.declared.commands.xreadgroup.Xreadgroup.{Xreadgroup}
use Rattle.sr_args.specs.declared.reads.ReadAsked.{ReadAsked}
use Rattle.sr_resp.specs.{ReplyParts}
use Rattle.sr_stream.specs.{StreamState}
use Rattle.sr_space.specs.Blocking.{executed, finds_nothing, is_nothing}
use Rattle.sr_space.specs.Bounds.{in_63_bits}
use Rattle.sr_space.specs.Effect.{at_once, key_of}
use Rattle.sr_space.specs.Keys.{Key, Keys, stream_at}
use Rattle.sr_space.specs.Readers.{asks, has_key, is_read}
use Rattle.sr_space.specs.commands.Xread.{count_of, read_streams}
use Rattle.sr_space.specs.commands.Xreadgroup.{has_group_in, have_group, listed_of_all}
use Rattle.sr_space.specs.steps.Waiting.{any_after, has_after, is_something, lists_any, lists_stream}
use Rattle.sr_space.proofs.CommandLaws.{others-stay}
use Rattle.sr_space.proofs.QuietLaws.{read-finds}
use Rattle.sr_space.proofs.WaitingLaws.{executed-keys}
use Rattle.sr_space.proofs.WaitingLemmas.{any_after-read, lists_any-read}

-- ---- what a read finds, by its streams

pub twice : (b : Bool) → not (not b) ≡ b
twice true = refl
twice false = refl

nothing-if : {X Y : Type 0} (xs : List X) (ys : List Y) → is_something xs ≡ is_something ys → is_nothing xs ≡ is_nothing ys
nothing-if xs ys same = sym (twice (is_nothing xs)) ∙ ap not same ∙ twice (is_nothing ys)

apart-key : (key other : Key) → pointwise nat_eq other key ≡ false → other ≢ key
apart-key key other test same = true≢false (sym ((bytes_decides other key).1 same) ∙ test)

neither : (a b : Bool) → (a || b) ≡ false → (a ≡ false) × (b ≡ false)
neither true b e = cc
neither false b e = (refl, e)

-- at these keys the streams are the same, but for the one at a key
module _ (keys now : Keys) (key : Key) (same : (other : Key) → other ≢ key → stream_at now other ≡ stream_at keys other) where
  any_after-same : (streams : List (Key × Position)) → has_key key streams ≡ false → any_after now streams ≡ any_after keys streams
  any_after-same [] apart = refl
  any_after-same (stream ∷ streams) apart =
      let parts = neither (pointwise nat_eq stream.0 key) (has_key key streams) apart in
      let here : stream_at now stream.0 ≡ stream_at keys stream.0 = same stream.0 (apart-key key stream.0 parts.0) in
      ap (λ (found : Option StreamState). has_after stream.1 found || any_after now streams) here
      ∙ ap (λ (b : Bool). has_after stream.1 (stream_at keys stream.0) || b) (any_after-same streams parts.1)

  lists_any-same : (name : List ℕ) (streams : List (Key × ReadAsked)) → has_key key streams ≡ false → lists_any name now streams ≡ lists_any name keys streams
  lists_any-same name [] apart = refl
  lists_any-same name (stream ∷ streams) apart =
      let parts = neither (pointwise nat_eq stream.0 key) (has_key key streams) apart in
      let here : stream_at now stream.0 ≡ stream_at keys stream.0 = same stream.0 (apart-key key stream.0 parts.0) in
      ap (λ (found : Option StreamState). lists_stream name stream.1 found || lists_any name now streams) here
      ∙ ap (λ (b : Bool). lists_stream name stream.1 (stream_at keys stream.0) || b) (lists_any-same name streams parts.1)

  have_group-same : (name : List ℕ) (streams : List (Key × ReadAsked)) → has_key key streams ≡ false → have_group name now streams ≡ have_group name keys streams
  have_group-same name [] apart = refl
  have_group-same name (stream ∷ streams) apart =
      let parts = neither (pointwise nat_eq stream.0 key) (has_key key streams) apart in
      let here : stream_at now stream.0 ≡ stream_at keys stream.0 = same stream.0 (apart-key key stream.0 parts.0) in
      ap (λ (found : Option StreamState). has_group_in name found && have_group name now streams) here
      ∙ ap (λ (b : Bool). has_group_in name (stream_at keys stream.0) && b) (have_group-same name streams parts.1)

  read-same : (read : Xread) → has_key key read.streams ≡ false → is_nothing (read_streams read.count now read.streams) ≡ is_nothing (read_streams read.count keys read.streams)
  read-same read apart =
      nothing-if (read_streams read.count now read.streams) (read_streams read.count keys read.streams)
      (any_after-read read.count now read.streams ∙ any_after-same read.streams apart ∙ sym (any_after-read read.count keys read.streams))

  grouped-same : (moment later : ℕ) (read : Xreadgroup) → has_key key read.streams ≡ false → finds_nothing now later (calls.Xreadgroup read) ≡ finds_nothing keys moment (calls.Xreadgroup read)
  grouped-same moment later read apart =
      let listed : Keys → ℕ → List ReplyParts = λ at time. listed_of_all (in_63_bits time) read.group read.consumer (count_of read.count) read.no_ack at read.streams in
      let lists : is_nothing (listed now later) ≡ is_nothing (listed keys moment) =
      nothing-if (listed now later) (listed keys moment)
      (lists_any-read (in_63_bits later) read.group read.consumer read.count read.no_ack now read.streams ∙ lists_any-same read.group read.streams apart
      ∙ sym (lists_any-read (in_63_bits moment) read.group read.consumer read.count read.no_ack keys read.streams)) in
      ap (λ (b : Bool). b && is_nothing (listed now later)) (have_group-same read.group read.streams apart)
      ∙ ap (λ (b : Bool). have_group read.group keys read.streams && b) lists

  pub finds-same : (moment later : ℕ) (read : Call) → asks key read ≡ false → finds_nothing now later read ≡ finds_nothing keys moment read
  finds-same moment later (calls.Xread read) apart = read-same read apart
  finds-same moment later (calls.Xreadgroup read) apart = grouped-same moment later read apart
  finds-same moment later read apart = cc

-- ---- moments

pub finds-moment : (keys : Keys) (moment later : ℕ) (read : Call) → finds_nothing keys later read ≡ finds_nothing keys moment read
finds-moment keys moment later (calls.Xread read) = refl
finds-moment keys moment later (calls.Xreadgroup read) =
    let listed : ℕ → List ReplyParts = λ time. listed_of_all (in_63_bits time) read.group read.consumer (count_of read.count) read.no_ack keys read.streams in
    ap (λ (b : Bool). have_group read.group keys read.streams && b)
    (nothing-if (listed later) (listed moment)
    (lists_any-read (in_63_bits later) read.group read.consumer read.count read.no_ack keys read.streams
    ∙ sym (lists_any-read (in_63_bits moment) read.group read.consumer read.count read.no_ack keys read.streams)))
finds-moment keys moment later read = refl

-- ---- a call on one key

pub finds-others : (keys : Keys) (moment earlier later : ℕ) (call read : Call) (key : Key) → key_of call ≡ Some key → asks key read ≡ false
    → finds_nothing (executed keys moment call).keys later read ≡ finds_nothing keys earlier read
finds-others keys moment earlier later call read key is apart =
    rw (executed-keys keys moment call)
    (finds-same keys (at_once keys moment call).keys key (λ other differs. others-stay keys moment key other differs call is) earlier later read apart)

-- ---- a call that is a read

pub finds-still : (keys : Keys) (moment earlier later : ℕ) (call read : Call) → is_read call ≡ true → finds_nothing keys earlier read ≡ true
    → finds_nothing (executed keys moment call).keys later read ≡ true
finds-still keys moment earlier later call read is none = rw (executed-keys keys moment call) (read-finds keys moment earlier later call read is none)
