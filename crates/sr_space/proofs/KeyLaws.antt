-- One stream changed: what each key has then; and what a command on one stream leaves of the keys.
use Rattle.std.proofs.Common.{◌≡◌, ◌≢◌, Bool, true, false, cond, [], ◌∷◌, Option, Some, None, nat_eq, refl, ap, sym, ◌∙◌, true≢false}
use Rattle.std.specs.Prelude.{IfSome, IsSome}
use Rattle.std.specs.Cmp.Lexicographic.{pointwise, bytes_decides}
use Rattle.sr_resp.specs.declared.code.ErrCode.{ErrCode}
use Rattle.sr_resp.specs.{ReplyParts, error_reply}
use Rattle.sr_stream.specs.{StreamState, IsStream}
use Rattle.sr_space.specs.Keys.{Key, Keys, stream_at, with_stream, AreStreams}
use Rattle.sr_space.specs.Touched.{Executed, Touched, at_key, left_at, unchanged}
use Rattle.sr_space.proofs.Lawful.{IsLawful}

other_key : (a b : Key) → a ≢ b → pointwise nat_eq a b ≡ false
other_key a b apart = by (pointwise nat_eq a b) refl
  where
    by : (test : Bool) → pointwise nat_eq a b ≡ test → test ≡ false
    by true e = absurd (apart ((bytes_decides a b).0 e))
    by false e = refl

-- the changed stream is at its key
pub stream_at-with_stream : (keys : Keys) (key : Key) (stream : StreamState) → stream_at (with_stream keys key stream) key ≡ Some stream
stream_at-with_stream [] key stream = rw ((bytes_decides key key).1 refl)
stream_at-with_stream (k ∷ keys) key stream = by (stream_at-with_stream keys key stream) (pointwise nat_eq key k.0) refl
  where
    by : stream_at (with_stream keys key stream) key ≡ Some stream → (test : Bool) → pointwise nat_eq key k.0 ≡ test → stream_at (with_stream (k ∷ keys) key stream) key ≡ Some stream
    by rest true e = simp e
    by rest false e = simp e rest

-- and each other stream is as it was
pub stream_at-with_stream_other : (keys : Keys) (key other : Key) (stream : StreamState) → other ≢ key → stream_at (with_stream keys key stream) other ≡ stream_at keys other
stream_at-with_stream_other [] key other stream apart = rw (other_key other key apart)
stream_at-with_stream_other (k ∷ keys) key other stream apart = by (stream_at-with_stream_other keys key other stream apart) (pointwise nat_eq key k.0) refl
  where
    by : stream_at (with_stream keys key stream) other ≡ stream_at keys other → (test : Bool) → pointwise nat_eq key k.0 ≡ test → stream_at (with_stream (k ∷ keys) key stream) other ≡ stream_at (k ∷ keys) other
    by rest true e =
        let key_is : key ≡ k.0 = (bytes_decides key k.0).0 e in
        let not_here : pointwise nat_eq other k.0 ≡ false = other_key other k.0 (λ same. apart (same ∙ sym key_is)) in
        simp (e, not_here)
    by rest false e = simp e (ap (cond (pointwise nat_eq other k.0) (Some k.1)) rest)

-- all streams are sound if the changed one is
AreStreams-with_stream : (keys : Keys) (key : Key) (changed : StreamState) → AreStreams keys → IsStream changed → AreStreams (with_stream keys key changed)
AreStreams-with_stream keys key changed all is other stream here = by (pointwise nat_eq other key) refl
  where
    by : (test : Bool) → pointwise nat_eq other key ≡ test → IsStream stream
    by true e =
        let key_is : other ≡ key = (bytes_decides other key).0 e in
        let there : stream_at (with_stream keys key changed) key ≡ Some stream = rw key_is at here in
        let same : changed ≡ stream = cc (stream_at-with_stream keys key changed, there) in
        rw (sym same) is
    by false e =
        let apart : other ≢ key = λ same. true≢false (sym ((bytes_decides other key).1 same) ∙ e) in
        all other stream (sym (stream_at-with_stream_other keys key other changed apart) ∙ here)

pub AreStreams-left_at : (keys : Keys) (key : Key) (written : Option StreamState) → AreStreams keys → IfSome written IsStream → AreStreams (left_at keys key written)
AreStreams-left_at keys key None all is = all
AreStreams-left_at keys key (Some changed) all is = AreStreams-with_stream keys key changed all is

pub found-sound : (keys : Keys) (key : Key) (found : Option StreamState) → AreStreams keys → stream_at keys key ≡ found → IfSome found IsStream
found-sound keys key None all at = tt
found-sound keys key (Some stream) all at = all key stream at

-- a key that is there is there after a change
IsSome-with_stream : (keys : Keys) (key other : Key) (changed : StreamState) → IsSome (stream_at keys other) → IsSome (stream_at (with_stream keys key changed) other)
IsSome-with_stream keys key other changed there = by (pointwise nat_eq other key) refl
  where
    by : (test : Bool) → pointwise nat_eq other key ≡ test → IsSome (stream_at (with_stream keys key changed) other)
    by true e =
        let key_is : other ≡ key = (bytes_decides other key).0 e in
        rw (key_is, stream_at-with_stream keys key changed) refl
    by false e =
        let apart : other ≢ key = λ same. true≢false (sym ((bytes_decides other key).1 same) ∙ e) in
        rw (stream_at-with_stream_other keys key other changed apart) there

pub IsSome-left_at : (keys : Keys) (key other : Key) (written : Option StreamState) → IsSome (stream_at keys other) → IsSome (stream_at (left_at keys key written) other)
IsSome-left_at keys key other None there = there
IsSome-left_at keys key other (Some changed) there = IsSome-with_stream keys key other changed there

-- a command that leaves sound streams and each key that is there, and all keys if it replies an error
pub record KeepsKeys (keys : Keys) (at_once : Executed) : Type 0 where
  pub sound : AreStreams keys → AreStreams at_once.keys
  pub errors : (code : ErrCode) → at_once.outcome ≡ error_reply code → at_once.keys ≡ keys
  pub stay : (key : Key) → IsSome (stream_at keys key) → IsSome (stream_at at_once.keys key)

-- such are one that only reads, and a lawful one at one key
pub KeepsKeys-unchanged : (keys : Keys) (answer : ReplyParts) → KeepsKeys keys (unchanged keys answer)
KeepsKeys-unchanged keys answer = record { sound = λ all. all; errors = λ code e. refl; stay = λ key there. there }

pub KeepsKeys-at_key : (keys : Keys) (key : Key) (f : Option StreamState → Touched) → IsLawful f → KeepsKeys keys (at_key keys key f)
KeepsKeys-at_key keys key f lawful =
    let found = stream_at keys key in
    record {
      sound = λ all. AreStreams-left_at keys key (f found).written all (lawful.sound found (found-sound keys key found all refl));
      errors = λ code e. ap (left_at keys key) (lawful.errors found code e);
      stay = λ other there. IsSome-left_at keys key other (f found).written there;
    }
