-- What a write through a look-up and an insertion leave of the keys as they are shown: what `at_key` says, for any command.
use Rattle.std.proofs.Common.{◌≡◌, Bool, true, false, cond, [], ◌∷◌, Option, Some, None, nat_eq, refl, ap, sym, ◌∙◌}
use Rattle.std.specs.Cmp.Lexicographic.{pointwise}
use Rattle.std.specs.Map.{lookup, set_value}
use Rattle.indexmap.specs.IndexMap.{insert_entry}
use Rattle.sr_stream.specs.{StreamState, KeptStream}
use Rattle.sr_space.specs.Keys.{Key, Keys, stream_at, with_stream, shown_of, shown_keys}
use Rattle.sr_space.specs.Touched.{Touched, left_of, left_at, at_key}
pub use Rattle.sr_space.specs.steps.Reading.{Stored}

-- a look-up in what is shown
pub stream_at-shown : (stored : Stored) (key : Key) → stream_at (shown_keys stored) key ≡ shown_of (lookup (pointwise nat_eq key) stored)
stream_at-shown [] key = refl
stream_at-shown (k ∷ stored) key = by (stream_at-shown stored key) (pointwise nat_eq key k.0)
  where
    by : stream_at (shown_keys stored) key ≡ shown_of (lookup (pointwise nat_eq key) stored) → (test : Bool) → cond test (Some k.1.shown) (stream_at (shown_keys stored) key) ≡ shown_of (cond test (Some k.1) (lookup (pointwise nat_eq key) stored))
    by rest true = refl
    by rest false = rest

-- a write in place is the change of the stream at the key
pub shown-set_value : (stored : Stored) (key : Key) (kept written : KeptStream) → lookup (pointwise nat_eq key) stored ≡ Some kept → shown_keys (set_value (pointwise nat_eq key) stored written) ≡ with_stream (shown_keys stored) key written.shown
shown-set_value [] key kept written found = absurd (cc)
shown-set_value (k ∷ stored) key kept written found = by (shown-set_value stored key kept written) (pointwise nat_eq key k.0) found
  where
    by : (lookup (pointwise nat_eq key) stored ≡ Some kept → shown_keys (set_value (pointwise nat_eq key) stored written) ≡ with_stream (shown_keys stored) key written.shown) → (test : Bool) → cond test (Some k.1) (lookup (pointwise nat_eq key) stored) ≡ Some kept → shown_keys (cond test ((k.0, written) ∷ stored) (k ∷ set_value (pointwise nat_eq key) stored written)) ≡ cond test ((k.0, written.shown) ∷ shown_keys stored) ((k.0, k.1.shown) ∷ with_stream (shown_keys stored) key written.shown)
    by rest true found = refl
    by rest false found = ap (λ (l : Keys). (k.0, k.1.shown) ∷ l) (rest found)

-- a write of what was shown changes nothing that is shown
pub shown-set_value_same : (stored : Stored) (key : Key) (kept written : KeptStream) → lookup (pointwise nat_eq key) stored ≡ Some kept → written.shown ≡ kept.shown → shown_keys (set_value (pointwise nat_eq key) stored written) ≡ shown_keys stored
shown-set_value_same [] key kept written found same = refl
shown-set_value_same (k ∷ stored) key kept written found same = by (shown-set_value_same stored key kept written) (pointwise nat_eq key k.0) found
  where
    by : (lookup (pointwise nat_eq key) stored ≡ Some kept → written.shown ≡ kept.shown → shown_keys (set_value (pointwise nat_eq key) stored written) ≡ shown_keys stored) → (test : Bool) → cond test (Some k.1) (lookup (pointwise nat_eq key) stored) ≡ Some kept → shown_keys (cond test ((k.0, written) ∷ stored) (k ∷ set_value (pointwise nat_eq key) stored written)) ≡ (k.0, k.1.shown) ∷ shown_keys stored
    by rest true found =
        let here : k.1 ≡ kept = cc in
        ap (λ (s : StreamState). (k.0, s) ∷ shown_keys stored) (same ∙ ap (λ (x : KeptStream). x.shown) (sym here))
    by rest false found = ap (λ (l : Keys). (k.0, k.1.shown) ∷ l) (rest found same)

-- an insertion
pub shown-insert_entry : (stored : Stored) (key : Key) (kept : KeptStream) → shown_keys (insert_entry (pointwise nat_eq) stored key kept) ≡ with_stream (shown_keys stored) key kept.shown
shown-insert_entry [] key kept = refl
shown-insert_entry (k ∷ stored) key kept = by (shown-insert_entry stored key kept) (pointwise nat_eq key k.0)
  where
    by : shown_keys (insert_entry (pointwise nat_eq) stored key kept) ≡ with_stream (shown_keys stored) key kept.shown → (test : Bool) → shown_keys (cond test ((k.0, kept) ∷ stored) (k ∷ insert_entry (pointwise nat_eq) stored key kept)) ≡ cond test ((k.0, kept.shown) ∷ shown_keys stored) ((k.0, k.1.shown) ∷ with_stream (shown_keys stored) key kept.shown)
    by rest true = refl
    by rest false = ap (λ (l : Keys). (k.0, k.1.shown) ∷ l) rest

module _ (stored : Stored) (key : Key) (f : Option StreamState → Touched) where
  -- the key is there: its stream is written, or left
  pub at_key-found : (kept written : KeptStream) → lookup (pointwise nat_eq key) stored ≡ Some kept → written.shown ≡ left_of kept.shown (f (Some kept.shown)).written → shown_keys (set_value (pointwise nat_eq key) stored written) ≡ (at_key (shown_keys stored) key f).keys
  at_key-found kept written found is =
      let here : stream_at (shown_keys stored) key ≡ Some kept.shown = stream_at-shown stored key ∙ ap shown_of found in
      rw here (by (f (Some kept.shown)).written is)
    where
      by : (leaves : Option StreamState) → written.shown ≡ left_of kept.shown leaves → shown_keys (set_value (pointwise nat_eq key) stored written) ≡ left_at (shown_keys stored) key leaves
      by None is = shown-set_value_same stored key kept written found is
      by (Some stream) is = shown-set_value stored key kept written found ∙ ap (λ (s : StreamState). with_stream (shown_keys stored) key s) is

  pub at_key-found_outcome : (kept : KeptStream) → lookup (pointwise nat_eq key) stored ≡ Some kept → (f (Some kept.shown)).outcome ≡ (at_key (shown_keys stored) key f).outcome
  at_key-found_outcome kept found =
      let here : stream_at (shown_keys stored) key ≡ Some kept.shown = stream_at-shown stored key ∙ ap shown_of found in
      rw here refl

module _ (keys : Keys) (key : Key) (f : Option StreamState → Touched) (missing : stream_at keys key ≡ None) where
  -- the key is missing: it is made, or not
  pub at_key-missing : None ≡ (f None).written → keys ≡ (at_key keys key f).keys
  at_key-missing none = rw missing (ap (left_at keys key) none)

  pub at_key-made : (stream : StreamState) → Some stream ≡ (f None).written → with_stream keys key stream ≡ (at_key keys key f).keys
  at_key-made stream made = rw missing (ap (left_at keys key) made)
