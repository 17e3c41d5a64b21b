-- A board, a snapshot or a verdict for a session: what the event leaves, and what it sends.
use Rattle.std.proofs.Common.{◌≡◌, ℕ, Bool, true, false, cond, List, [], ◌∷◌, Some, Result, Ok, Err, refl, sym, ap, subst}
use Rattle.sr_resp.specs.Reply.{ReplyParts, error_reply}
use Rattle.sr_resp.specs.declared.code.ErrCode.TheVariants as errors
use Rattle.sr_check.specs.{verdict_answer}
use Rattle.sr_plan.specs.{Judged}
use Rattle.sr_policy.specs.{same, SnapshotState}
use Rattle.sr_space.specs.{group_at, snapped}
use Rattle.sr_space.specs.Keys.{Keys}
use Rattle.sr_space.specs.Snap.{IsSnapFault}
use Rattle.sr_space.specs.declared.snap.SnapFault.{SnapFault}
use Rattle.sr_space.specs.declared.snap.SnapFault.TheVariants as snap_faults
use Rattle.sr_waiters.specs.{Waiting, has_session}
use Rattle.sr_book.specs.declared.event.Event.{Event}
use Rattle.sr_book.specs.declared.event.Event.TheVariants as events
use Rattle.sr_book.specs.declared.event.Out.{Out}
use Rattle.sr_book.specs.declared.event.Out.TheVariants as outs
use Rattle.sr_book.specs.Server.{Effect, Server, acted, after_call, board_reply, concluded, fresh_snapshot, is_busy, keys_after, outdated, replied, snap_code, snapped_for, speaker}

-- the event asks for a board, a snapshot or the end of a verdict, for this session
abbrev pub Asks : ℕ → Event → Type 0
Asks session events.Join = ⊥
Asks session (events.Call other call) = ⊥
Asks session (events.Board other key group) = other ≡ session
Asks session (events.Snapshot other key group dead) = other ≡ session
Asks session (events.Conclude other judged apply last) = other ≡ session
Asks session events.Expire = ⊥
Asks session (events.Leave other) = ⊥

-- a reply that is answered is the one that is sent, to the session; with a snapshot nothing is sent
abbrev pub SendsAnswer : ℕ → Out → List (ℕ × ReplyParts) → Type 0
SendsAnswer session (outs.Joined opened) sent = ⊥
SendsAnswer session (outs.Reply reply) sent = sent ≡ (session, reply) ∷ []
SendsAnswer session outs.Blocked sent = ⊥
SendsAnswer session (outs.Snap shown) sent = sent ≡ []
SendsAnswer session (outs.Stale shown) sent = sent ≡ []
SendsAnswer session (outs.Expired count) sent = ⊥
SendsAnswer session outs.Left sent = ⊥

-- the effect changes the keys, the session's letter and the moment alone, and sends what it answers
pub record IsHeard (session moment : ℕ) (server : Server) (effect : Effect) : Type 0 where
  pub keys : Keys
  pub leaves : effect.server ≡ after_call session moment keys server.waiting server
  pub sends : SendsAnswer session effect.out effect.sent

-- ---- each of the three events

module _ (session moment : ℕ) (server : Server) where
  heard-replied : (keys : Keys) (reply : ReplyParts) → IsHeard session moment server (replied session moment server keys reply)
  heard-replied keys reply = record { keys = keys; leaves = refl; sends = refl }

  heard-snapped : (result : Result SnapshotState SnapFault) → IsHeard session moment server (snapped_for session moment server result)
  heard-snapped (Ok shown) = record { keys = server.keys; leaves = refl; sends = refl }
  heard-snapped (Err fault) = heard-replied server.keys (error_reply (snap_code fault))

  heard-outdated : (last : Bool) (shown : SnapshotState) → IsHeard session moment server (outdated session moment last server shown)
  heard-outdated true shown = heard-replied server.keys (error_reply errors.Stale)
  heard-outdated false shown = record { keys = server.keys; leaves = refl; sends = refl }

  heard-concluded : (apply last : Bool) (judged : Judged) (result : Result SnapshotState SnapFault) → IsHeard session moment server (concluded session moment apply last judged server result)
  heard-concluded apply last judged (Err fault) = heard-replied server.keys (error_reply (snap_code fault))
  heard-concluded apply last judged (Ok shown) = by (same shown judged.snapshot)
    where
      keys : Keys
      keys = keys_after apply moment judged server.keys

      reply : ReplyParts
      reply = verdict_answer judged.snapshot judged.answer apply

      by : (equal : Bool) → IsHeard session moment server (cond equal (replied session moment server keys reply) (outdated session moment last server shown))
      by true = heard-replied keys reply
      by false = heard-outdated last shown

-- an event that asks for a session is heard
pub acted-heard : (server : Server) (index moment session : ℕ) (event : Event) → Asks session event → IsHeard session moment server (acted server index moment event)
acted-heard server index moment session events.Join asks = absurd asks
acted-heard server index moment session (events.Call other call) asks = absurd asks
acted-heard server index moment session (events.Board other key group) asks =
    let P : ℕ → Type 0 = λ n. IsHeard n moment server (acted server index moment (events.Board other key group)) in
    subst P asks (heard-replied other moment server server.keys (board_reply server.rules moment (group_at server.keys key group)))
acted-heard server index moment session (events.Snapshot other key group dead) asks =
    let P : ℕ → Type 0 = λ n. IsHeard n moment server (acted server index moment (events.Snapshot other key group dead)) in
    subst P asks (heard-snapped other moment server (snapped server.rules server.keys key group dead))
acted-heard server index moment session (events.Conclude other judged apply last) asks =
    let P : ℕ → Type 0 = λ n. IsHeard n moment server (acted server index moment (events.Conclude other judged apply last)) in
    subst P asks (heard-concluded other moment server apply last judged (fresh_snapshot server judged.snapshot))
acted-heard server index moment session events.Expire asks = absurd asks
acted-heard server index moment session (events.Leave other) asks = absurd asks

-- ---- refusals

pub asks-speaker : (session : ℕ) (event : Event) → Asks session event → speaker event ≡ Some session
asks-speaker session events.Join asks = absurd asks
asks-speaker session (events.Call other call) asks = absurd asks
asks-speaker session (events.Board other key group) asks = ap Some asks
asks-speaker session (events.Snapshot other key group dead) asks = ap Some asks
asks-speaker session (events.Conclude other judged apply last) asks = ap Some asks
asks-speaker session events.Expire asks = absurd asks
asks-speaker session (events.Leave other) asks = absurd asks

pub asks-busy : (session : ℕ) (event : Event) (waiting : List Waiting) → Asks session event → is_busy event waiting ≡ has_session session waiting
asks-busy session events.Join waiting asks = absurd asks
asks-busy session (events.Call other call) waiting asks = absurd asks
asks-busy session (events.Board other key group) waiting asks = ap (λ (n : ℕ). has_session n waiting) asks
asks-busy session (events.Snapshot other key group dead) waiting asks = ap (λ (n : ℕ). has_session n waiting) asks
asks-busy session (events.Conclude other judged apply last) waiting asks = ap (λ (n : ℕ). has_session n waiting) asks
asks-busy session events.Expire waiting asks = absurd asks
asks-busy session (events.Leave other) waiting asks = absurd asks

-- a fault that is no failed allocation is why there is no snapshot
pub snap_fault-is : (result : Result SnapshotState SnapFault) (fault : SnapFault) → IsSnapFault result fault → (fault ≡ snap_faults.Memory → ⊥) → result ≡ Err fault
snap_fault-is (Ok shown) fault is other = absurd (other is)
snap_fault-is (Err reason) fault is other = ap Err (sym is)
