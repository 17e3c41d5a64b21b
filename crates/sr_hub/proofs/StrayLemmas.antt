-- What can come of each event of a session, and what cannot.
use Rattle.std.proofs.Common.{◌≡◌, ◌⊎◌, inl, inr, ℕ, Bool, true, false, List, Option, Some, None, IsSome, is_some, refl, ap, sym, subst, ◌∙◌, true≢false}
use Rattle.std.specs.Option.{option_map}
use Rattle.sr_resp.specs.Reply.{ReplyParts}
use Rattle.sr_args.specs.declared.call.Call.{Call}
use Rattle.sr_policy.specs.{SnapshotState}
use Rattle.sr_plan.specs.{Judged}
use Rattle.sr_space.specs.{executed}
use Rattle.sr_space.specs.Keys.{Keys}
use Rattle.sr_space.specs.declared.blocking.Outcome.{Outcome}
use Rattle.sr_space.specs.declared.blocking.Outcome.TheVariants as outcomes
use Rattle.sr_book.specs.{Given, letter_of, BookState, letter_for, next_moment}
use Rattle.sr_book.specs.Server.{Server, called}
use Rattle.sr_book.specs.declared.answer.Letter.{Letter}
use Rattle.sr_book.specs.declared.event.Event.TheVariants as events
use Rattle.sr_book.specs.declared.event.Out.{Out}
use Rattle.sr_book.specs.declared.event.Out.TheVariants as outs
use Rattle.sr_book.proofs.SessionLaws.{board-replies, conclude-answers, snapshot-answers}
use Rattle.sr_session.proofs.DeskLemmas.{IsBoardOut, IsCallOut, IsRecoverOut}
use Rattle.sr_hub.specs.steps.Telling.{Comes}

-- ---- a call

called-out : (session moment : ℕ) (server : Server) (keys : Keys) (outcome : Outcome) → IsCallOut (called session moment server keys outcome).out
called-out session moment server keys (outcomes.Reply send keep) = tt
called-out session moment server keys (outcomes.Blocked call deadline) = tt

pub call-out : (old : BookState) (at session : ℕ) (call : Call) (out : Out) (new : BookState) → Comes old at (events.Call session call) out new → IsCallOut out
call-out old at session call out new comes =
    let done = executed old.server.keys (next_moment old at) call in
    subst IsCallOut (sym comes.stepped.out ∙ comes.is) (called-out session (next_moment old at) old.server done.keys done.outcome)

-- ---- a board, a snapshot, a verdict

pub board-out : (old : BookState) (at session : ℕ) (key group : List ℕ) (out : Out) (new : BookState) → Comes old at (events.Board session key group) out new → IsBoardOut out
board-out old at session key group out new comes =
    let one = board-replies old at session key group comes.answer new comes.stepped in
    subst IsBoardOut (sym one.1 ∙ comes.is) tt

pub snapshot-out : (old : BookState) (at session : ℕ) (key group : List ℕ) (dead : List (List ℕ)) (out : Out) (new : BookState) → Comes old at (events.Snapshot session key group dead) out new
    → IsRecoverOut out
snapshot-out old at session key group dead out new comes = by (snapshot-answers old at session key group dead comes.answer new comes.stepped)
  where
    by : ((reply : ReplyParts) × (comes.answer.out ≡ outs.Reply reply)) ⊎ ((shown : SnapshotState) × (comes.answer.out ≡ outs.Snap shown)) → IsRecoverOut out
    by (inl one) = subst IsRecoverOut (sym one.1 ∙ comes.is) tt
    by (inr one) = subst IsRecoverOut (sym one.1 ∙ comes.is) tt

-- a verdict is replied, or, but in the last round, there is a fresh snapshot
abbrev pub IsConcludeOut : Bool → Out → Type 0
IsConcludeOut last (outs.Joined number) = ⊥
IsConcludeOut last (outs.Reply reply) = Unit {0}
IsConcludeOut last outs.Blocked = ⊥
IsConcludeOut last (outs.Snap shown) = ⊥
IsConcludeOut last (outs.Stale shown) = last ≡ false
IsConcludeOut last (outs.Expired count) = ⊥
IsConcludeOut last outs.Left = ⊥

pub conclude-out : (old : BookState) (at session : ℕ) (judged : Judged) (apply last : Bool) (out : Out) (new : BookState) → Comes old at (events.Conclude session judged apply last) out new
    → IsConcludeOut last out
conclude-out old at session judged apply last out new comes = by (conclude-answers old at session judged apply last comes.answer new comes.stepped)
  where
    by : ((reply : ReplyParts) × (comes.answer.out ≡ outs.Reply reply)) ⊎ ((shown : SnapshotState) × (comes.answer.out ≡ outs.Stale shown) × (last ≡ false)) → IsConcludeOut last out
    by (inl one) = subst (IsConcludeOut last) (sym one.1 ∙ comes.is) tt
    by (inr one) = subst (IsConcludeOut last) (sym one.1 ∙ comes.is) one.2

pub stray-conclude : (last : Bool) (out : Out)
    → ((number : ℕ) × (out ≡ outs.Joined number)) ⊎ ((out ≡ outs.Blocked) ⊎ (((shown : SnapshotState) × (out ≡ outs.Snap shown)) ⊎ (((count : ℕ) × (out ≡ outs.Expired count)) ⊎ (out ≡ outs.Left))))
    → IsConcludeOut last out → ⊥
stray-conclude last out (inl joined) comes = subst (IsConcludeOut last) joined.1 comes
stray-conclude last out (inr (inl blocked)) comes = subst (IsConcludeOut last) blocked comes
stray-conclude last out (inr (inr (inl snap))) comes = subst (IsConcludeOut last) snap.1 comes
stray-conclude last out (inr (inr (inr (inl expired)))) comes = subst (IsConcludeOut last) expired.1 comes
stray-conclude last out (inr (inr (inr (inr left)))) comes = subst (IsConcludeOut last) left comes

-- ---- letters

pub some-letter : (session : ℕ) (server : Server) → IsSome (letter_for session server) → is_some (letter_of session server.sessions) ≡ true
some-letter session server is = by (letter_of session server.sessions) is
  where
    by : (given : Option Given) → IsSome {T = Letter} (option_map (λ (g : Given). record { index = g.index; session = session; reply = g.reply }) given) → is_some given ≡ true
    by None is = absurd (true≢false (sym is))
    by (Some given) is = refl

pub no-letter : (session : ℕ) (server : Server) → letter_for session server ≡ None → is_some (letter_of session server.sessions) ≡ false
no-letter session server is = by (letter_of session server.sessions) is
  where
    by : (given : Option Given) → option_map {U = Letter} (λ (g : Given). record { index = g.index; session = session; reply = g.reply }) given ≡ None → is_some given ≡ false
    by None is = refl
    by (Some given) is = absurd (cc)

-- what a letter says was given
pub record IsGivenBy (session : ℕ) (server : Server) (letter : Letter) : Type 0 where
  pub given : Given
  pub there : letter_of session server.sessions ≡ Some given
  pub same : given.reply ≡ letter.reply

pub letter-given : (session : ℕ) (server : Server) (letter : Letter) → Some letter ≡ letter_for session server → IsGivenBy session server letter
letter-given session server letter is = by (letter_of session server.sessions) refl is
  where
    by : (found : Option Given) → letter_of session server.sessions ≡ found
        → Some letter ≡ option_map (λ (g : Given). record { index = g.index; session = session; reply = g.reply }) found → IsGivenBy session server letter
    by None e none_is = absurd (cc)
    by (Some given) e some =
        let built : Letter = record { index = given.index; session = session; reply = given.reply } in
        let one : Some letter ≡ Some built = some in
        let two : letter ≡ built = cc in
        record { given = given; there = e; same = sym (ap (λ (l : Letter). l.reply) two) }

-- one that has none
pub letter-lacks : (session : ℕ) (server : Server) → None ≡ letter_for session server → is_some (letter_of session server.sessions) ≡ false
letter-lacks session server is = no-letter session server (sym is)
