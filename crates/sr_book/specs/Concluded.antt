-- What comes of a call that was carried out on the keys, part by part. No public clause cites this.
use Rattle.std.specs.Prelude.{ℕ, List, [], ◌∷◌, ◌++◌}
use Rattle.sr_resp.specs.{ReplyParts}
use Rattle.sr_space.specs.declared.blocking.Outcome.{Outcome}
use Rattle.sr_space.specs.declared.blocking.Outcome.TheVariants as outcomes
use Rattle.sr_waiters.specs.{Waiting}
use Rattle.sr_book.specs.declared.event.Out.{Out}
use Rattle.sr_book.specs.declared.event.Out.TheVariants as outs

-- what is answered
abbrev pub out_of : Outcome → Out
out_of (outcomes.Reply send keep) = outs.Reply send
out_of (outcomes.Blocked call deadline) = outs.Blocked

-- the reads that wait then
abbrev pub waiting_after : ℕ → Outcome → List Waiting → List Waiting
waiting_after session (outcomes.Reply send keep) waiting = waiting
waiting_after session (outcomes.Blocked call deadline) waiting =
    waiting ++ record { session = session; call = call; deadline = deadline } ∷ []

-- the replies by session
abbrev pub sent_by : ℕ → Outcome → List (ℕ × ReplyParts)
sent_by session (outcomes.Reply send keep) = (session, keep) ∷ []
sent_by session (outcomes.Blocked call deadline) = []
