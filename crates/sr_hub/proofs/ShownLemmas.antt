-- Which group a snapshot shows that an event brought, and the consumers that are dead in it.
use Rattle.std.proofs.Common.{◌≡◌, ◌||◌, inl, inr, ℕ, Bool, true, false, cond, nat_eq, nat_lt, List, [], ◌∷◌, length, Option, Some, None, Result, Ok, Err, refl, ap, sym, subst, ◌∙◌}
use Rattle.sr_group.specs.{GroupState}
use Rattle.sr_stream.specs.{group_with, StreamState}
use Rattle.sr_resp.specs.Reply.{ReplyParts}
use Rattle.sr_policy.specs.Bounds.{most_stranded}
use Rattle.sr_policy.specs.Rules.{Rules}
use Rattle.sr_policy.specs.{same, SnapshotState, is_among}
use Rattle.sr_check.specs.{verdict_answer}
use Rattle.sr_plan.specs.{Judged}
use Rattle.sr_space.specs.Keys.{Keys, stream_at}
use Rattle.sr_space.specs.{in_order, shown_with, snapped}
use Rattle.sr_space.specs.Snap.{snapped_group, snapped_stream}
use Rattle.sr_space.specs.declared.snap.SnapFault.{SnapFault}
use Rattle.sr_space.specs.declared.snap.SnapFault.TheVariants as snap_faults
use Rattle.sr_bytes.specs.{ComesBefore}
use Rattle.std.specs.Cmp.Lexicographic.{pointwise}
use Rattle.sr_group.proofs.NameLemmas.{comes_before-one_way, is_same_name-refl, is_same_name-true}
use Rattle.sr_space.proofs.NameOrderLemmas.{NamesRise-in_order, is_among-in_order}
use Rattle.sr_space.proofs.SortedLemmas.{IsIn, Rises-same}
use Rattle.sr_book.specs.Server.{Server, concluded, fresh_snapshot, keys_after, outdated, replied, snapped_for}
use Rattle.sr_book.specs.{BookState, IsStepped, next_moment}
use Rattle.sr_book.specs.declared.answer.Answer.{Answer}
use Rattle.sr_book.specs.declared.event.Event.TheVariants as events
use Rattle.sr_book.specs.declared.event.Out.TheVariants as outs

-- a snapshot of this group, with these dead
pub record IsOf (key group : List ℕ) (dead : List (List ℕ)) (shown : SnapshotState) : Type 0 where
  pub key_is : shown.key ≡ key
  pub group_is : shown.group ≡ group
  pub dead_is : shown.dead ≡ in_order dead

pub snapped-of : (rules : Rules) (keys : Keys) (key group : List ℕ) (dead : List (List ℕ)) (shown : SnapshotState) → snapped rules keys key group dead ≡ Ok shown → IsOf key group dead shown
snapped-of rules keys key group dead shown is = at_stream (stream_at keys key) is
  where
    few : (made : SnapshotState) (many : Bool) → IsOf key group dead made → cond many (Err snap_faults.TooMany) (Ok made) ≡ Ok shown → IsOf key group dead shown
    few made true of is = absurd (cc)
    few made false of is =
        let one : made ≡ shown = cc in
        subst (IsOf key group dead) one of

    at_group : (stream : StreamState) (found : Option GroupState) → snapped_group rules key group dead stream.entries found ≡ Ok shown → IsOf key group dead shown
    at_group stream None is = absurd (cc)
    at_group stream (Some its) is =
        let made : SnapshotState = shown_with rules key group (in_order dead) stream.entries its.nacks in
        few made (nat_lt most_stranded (length made.stranded)) (record { key_is = refl; group_is = refl; dead_is = refl }) is

    at_stream : (found : Option StreamState) → snapped_stream rules key group dead found ≡ Ok shown → IsOf key group dead shown
    at_stream None is = absurd (cc)
    at_stream (Some stream) is = at_group stream (group_with group stream.groups) is

-- ---- names in byte order

IsIn-among : (names : List (List ℕ)) (name : List ℕ) → is_among names name ≡ true → IsIn name names
IsIn-among [] name among = absurd cc
IsIn-among (x ∷ xs) name among = by (λ more. IsIn-among xs name more) (pointwise nat_eq x name) refl among
  where
    by : (is_among xs name ≡ true → IsIn name xs) → (test : Bool) → pointwise nat_eq x name ≡ test → (test || is_among xs name) ≡ true → IsIn name (x ∷ xs)
    by rest true same more = inl (sym (is_same_name-true x name same))
    by rest false apart more = inr (rest more)

among-one_of : (names : List (List ℕ)) (name : List ℕ) → IsIn name names → is_among names name ≡ true
among-one_of [] name is = absurd is
among-one_of (x ∷ xs) name (inl same) = rw (same, is_same_name-refl x) refl
among-one_of (x ∷ xs) name (inr later) = or_later (pointwise nat_eq x name) (is_among xs name) (among-one_of xs name later)
  where
    or_later : (a b : Bool) → b ≡ true → (a || b) ≡ true
    or_later true b is = refl
    or_later false b is = is

one_way : (a b : List ℕ) → ComesBefore a b → ComesBefore b a → ⊥
one_way a b first second = let no = comes_before-one_way a b first in absurd (cc (second, no))

-- those that are so stay
pub in_order-twice : (names : List (List ℕ)) → in_order (in_order names) ≡ in_order names
in_order-twice names =
    Rises-same ComesBefore (λ (name : List ℕ). name) one_way (in_order (in_order names)) (in_order names) (NamesRise-in_order (in_order names)) (NamesRise-in_order names)
    (λ name is. IsIn-among (in_order names) name (sym (is_among-in_order (in_order names) name) ∙ among-one_of (in_order (in_order names)) name is))
    (λ name is. IsIn-among (in_order (in_order names)) name (is_among-in_order (in_order names) name ∙ among-one_of (in_order names) name is))

-- ---- what comes of an event

snap-ok : (session moment : ℕ) (server : Server) (result : Result SnapshotState SnapFault) (shown : SnapshotState) → (snapped_for session moment server result).out ≡ outs.Snap shown → result ≡ Ok shown
snap-ok session moment server (Ok made) shown out =
    let it : outs.Snap made ≡ outs.Snap shown = out in
    let one : made ≡ shown = cc in
    ap (λ (s : SnapshotState). Ok s) one
snap-ok session moment server (Err fault) shown out = absurd (cc)

pub snapshot-of : (old : BookState) (at session : ℕ) (key group : List ℕ) (dead : List (List ℕ)) (answer : Answer) (new : BookState) (shown : SnapshotState)
    → IsStepped old at (events.Snapshot session key group dead) answer new → answer.out ≡ outs.Snap shown → IsOf key group dead shown
snapshot-of old at session key group dead answer new shown stepped out =
    snapped-of old.server.rules old.server.keys key group dead shown
    (snap-ok session (next_moment old at) old.server (snapped old.server.rules old.server.keys key group dead) shown (sym stepped.out ∙ out))

module _ (session moment : ℕ) (apply last : Bool) (judged : Judged) (server : Server) (shown : SnapshotState) where
  outdated-ok : (final : Bool) (made : SnapshotState) → (outdated session moment final server made).out ≡ outs.Stale shown → made ≡ shown
  outdated-ok true made out = absurd (cc)
  outdated-ok false made out = let it : outs.Stale made ≡ outs.Stale shown = out in cc

  compared-ok : (equal : Bool) (keys : Keys) (reply : ReplyParts) (made : SnapshotState)
      → (cond equal (replied session moment server keys reply) (outdated session moment last server made)).out ≡ outs.Stale shown → made ≡ shown
  compared-ok true keys reply made out = absurd (cc)
  compared-ok false keys reply made out = outdated-ok last made out

  stale-ok : (result : Result SnapshotState SnapFault) → (concluded session moment apply last judged server result).out ≡ outs.Stale shown → result ≡ Ok shown
  stale-ok (Ok made) out =
      ap (λ (s : SnapshotState). Ok s) (compared-ok (same made judged.snapshot) (keys_after apply moment judged server.keys) (verdict_answer judged.snapshot judged.answer apply) made out)
  stale-ok (Err fault) out = absurd (cc)

-- the fresh snapshot of a round is of the same group, with the same dead
pub stale-of : (old : BookState) (at session : ℕ) (judged : Judged) (apply last : Bool) (answer : Answer) (new : BookState) (shown : SnapshotState)
    → IsStepped old at (events.Conclude session judged apply last) answer new → answer.out ≡ outs.Stale shown
    → IsOf judged.snapshot.key judged.snapshot.group judged.snapshot.dead shown
stale-of old at session judged apply last answer new shown stepped out =
    snapped-of old.server.rules old.server.keys judged.snapshot.key judged.snapshot.group judged.snapshot.dead shown
    (stale-ok session (next_moment old at) apply last judged old.server shown (fresh_snapshot old.server judged.snapshot) (sym stepped.out ∙ out))
