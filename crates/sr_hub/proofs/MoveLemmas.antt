-- One connection and the book: what comes of an event of its session, and one step after another.
use Rattle.std.proofs.Common.{◌≡◌, ◌==◌, ◌⊎◌, inl, inr, ℕ, zero, suc, max, ◌+◌, ◌*◌, ◌<◌, ◌≤◌, ◌^◌, Bool, true, false, List, [], ◌∷◌, ◌++◌, length, length-append, append_assoc, Option, Some, None, IsSome, IsSomeAnd, refl, ap, sym, subst, ◌∙◌, arith, true≢false}
use Rattle.std.proofs.lemmas.List.{append-nil}
use Rattle.std.specs.Global.{Box}
use Rattle.std.specs.List.{AllByRecursion}
use Rattle.sr_resp.specs.{Words}
use Rattle.sr_resp.specs.Reply.{ReplyParts, error_reply, reply_text}
use Rattle.sr_resp.specs.declared.code.ErrCode.{ErrCode}
use Rattle.sr_resp.specs.declared.code.ErrCode.TheVariants as errors
use Rattle.sr_args.specs.declared.call.Call.{Call}
use Rattle.sr_args.specs.declared.call.Command.{Command}
use Rattle.sr_args.specs.declared.call.Command.TheVariants as commands
use Rattle.sr_args.specs.declared.fault.CallFault.{CallFault}
use Rattle.sr_args.specs.declared.fault.CallFault.TheVariants as call_faults
use Rattle.sr_args.specs.{IsCommand, Refuses}
use Rattle.sr_policy.specs.{SnapshotState}
use Rattle.sr_plan.specs.{Judged}
use Rattle.sr_space.specs.{executed, in_order}
use Rattle.sr_space.specs.Keys.{Keys}
use Rattle.sr_space.specs.declared.blocking.Outcome.{Outcome}
use Rattle.sr_space.specs.declared.blocking.Outcome.TheVariants as outcomes
use Rattle.sr_waiters.specs.{has_session}
use Rattle.sr_book.specs.{Given, is_open, letter_of, BookState, IsHistory, Recorded, letter_for, next_index}
use Rattle.sr_book.specs.{next_moment}
use Rattle.sr_book.specs.Server.{Server, called, is_busy, speaker}
use Rattle.sr_book.specs.Records.{addressed, event_record, event_server}
use Rattle.sr_book.specs.declared.answer.Letter.{Letter}
use Rattle.sr_book.specs.declared.event.BookFault.{BookFault}
use Rattle.sr_book.specs.declared.event.BookFault.TheVariants as faults
use Rattle.sr_book.specs.declared.event.Event.{Event}
use Rattle.sr_book.specs.declared.event.Event.TheVariants as events
use Rattle.sr_book.specs.declared.event.Out.{Out}
use Rattle.sr_book.specs.declared.event.Out.TheVariants as outs
use Rattle.sr_book.proofs.BaseLemmas.{all-legal, all-length, all_records}
use Rattle.sr_book.proofs.HeardLemmas.{Asks, acted-heard, asks-busy, asks-speaker}
use Rattle.sr_book.proofs.LegalLemmas.{Legal-append}
use Rattle.sr_book.proofs.OpenLemmas.{is_open-with_letter}
use Rattle.sr_book.proofs.SessionLaws.{servings-open}
use Rattle.sr_session.specs.{code_of}
use Rattle.sr_session.proofs.LetterLemmas.{HasNone, history-none}
use Rattle.sr_hub.specs.OneRequest.{AreOf, AreRounds, IsBroken, IsSilent, IsAnsweredInRecords, IsVerdictOn, broke_off, is_full, lacks_index, lacks_memory, refused, replied, spoken}
use Rattle.sr_hub.specs.Line.{Begins, ConnectionState, IsAskingFor, IsAtRest, IsFree, IsJudging, IsLine, IsWaitingFor, Stays, is_asking, is_ended, last_text}
use Rattle.sr_hub.specs.declared.stage.Judging.{Judging}
use Rattle.sr_hub.specs.declared.stage.Recovery.{Recovery}
use Rattle.sr_hub.specs.declared.stage.Stage.{Stage}
use Rattle.sr_hub.specs.declared.stage.Stage.TheVariants as stages
use Rattle.sr_hub.specs.steps.Left.{Concludes, judging_of, left, letters}
use Rattle.sr_hub.specs.Said.{IsOwn}
use Rattle.sr_hub.specs.steps.Moves.{Adds, Answers, AnswersAs, IsHolding, KeepsOpen, Moves, Takes}
use Rattle.sr_hub.specs.steps.Telling.{Comes, IsRefusedBy, Tells, TellsFault, cut_off, is_sound, lacks, refusal_code, told, went_wrong}
use Rattle.sr_hub.proofs.FrameLemmas.{addressed-append, all-grows, spoken-append}
use Rattle.sr_hub.proofs.OwnLemmas.{IsHeardOut, board-replied, call-blocked, call-replied, conclude-replied, conclude-stale, snapshot-replied, snapshot-taken, step-adds, step-refused}
use Rattle.sr_hub.proofs.SoundLemmas.{IsSound, reached-sound}
use Rattle.sr_hub.proofs.ShownLemmas.{in_order-twice, snapshot-of, stale-of}
use Rattle.sr_hub.proofs.StrayLemmas.{letter-given}
use Rattle.sr_hub.proofs.LineLemmas.{IsBegun, IsBegun-held, IsBegun-line, addressed-after, asked-held, cut_off-line, fault-line, held-line, lettered-line, lost-answered, spoken-after, told-line, whole-more}

-- ---- records that an event adds

-- a book leads to a sound state
pub history-sound : (book : BookState) → IsHistory book → IsSound book.server
history-sound book history =
    reached-sound (all_records book history) (next_index book) book.server (record {
      legal = all-legal book history;
      next = omega (arith, all-length book history);
    })

-- the event of a session that calls or asks: no session closes
pub data IsAsking (session : ℕ) (event : Event) : Type 0 where
  calls : (call : Call) → event ≡ events.Call session call → IsAsking session event
  asks : Asks session event → IsAsking session event

asking-speaker : (session : ℕ) (event : Event) → IsAsking session event → speaker event ≡ Some session
asking-speaker session event (calls call is) = ap speaker is
asking-speaker session event (asks of) = asks-speaker session event of

called-opens : (other session moment : ℕ) (server : Server) (keys : Keys) (outcome : Outcome)
    → is_open other (called session moment server keys outcome).server.sessions ≡ is_open other server.sessions
called-opens other session moment server keys (outcomes.Reply send keep) = is_open-with_letter other session None server.sessions
called-opens other session moment server keys (outcomes.Blocked call deadline) = is_open-with_letter other session None server.sessions

asking-opens : (other session : ℕ) (old : BookState) (at : ℕ) (event : Event) → IsAsking session event
    → is_open other (event_server old at event).sessions ≡ is_open other old.server.sessions
asking-opens other session old at event (calls call is) =
    let done = executed old.server.keys (next_moment old at) call in
    ap (λ (e : Event). is_open other (event_server old at e).sessions) is ∙ called-opens other session (next_moment old at) old.server done.keys done.outcome
asking-opens other session old at event (asks of) =
    ap (λ (s : Server). is_open other s.sessions) (acted-heard old.server (next_index old) (next_moment old at) session event of).leaves
    ∙ is_open-with_letter other session None old.server.sessions

-- the records that it adds
abbrev pub added : (old : BookState) (at : ℕ) (event : Event) (out : Out) (new : BookState) → Comes old at event out new → List Recorded
added old at event out new comes = event_record old at event ∷ comes.stepped.servings

pub comes-adds : (session : ℕ) (old : BookState) (at : ℕ) (event : Event) (out : Out) (new : BookState) (comes : Comes old at event out new) → IsAsking session event
    → Adds session old (added old at event out new comes) new
comes-adds session old at event out new comes asking =
    step-adds old at session event comes.answer new (history-sound old comes.history) comes.certain (asking-speaker session event asking) comes.stepped

pub comes-opened : (session : ℕ) (old : BookState) (at : ℕ) (event : Event) (out : Out) (new : BookState) → Comes old at event out new → IsAsking session event
    → KeepsOpen old.server new.server
comes-opened session old at event out new comes asking other opened =
    servings-open other (next_index old + 1) (event_server old at event) comes.stepped.servings new.server comes.stepped.served comes.stepped.legal
    ∙ asking-opens other session old at event asking ∙ opened

-- ---- nothing, and one step after another

Adds-none : (session : ℕ) (old : BookState) → Adds session old [] old
Adds-none session old = record {
  same_base = refl;
  grown = sym (append-nil old.records);
  legal = refl;
  own = tt;
}

own-append : (session : ℕ) (a b : List Recorded) → AllByRecursion (λ recorded. IsOwn session recorded.act) a → AllByRecursion (λ recorded. IsOwn session recorded.act) b
    → AllByRecursion (λ recorded. IsOwn session recorded.act) (a ++ b)
own-append session [] b first second = second
own-append session (x ∷ a) b first second = (first.0, own-append session a b first.1 second)

Adds-then : (session : ℕ) (old : BookState) (first : List Recorded) (middle : BookState) (second : List Recorded) (new : BookState)
    → Adds session old first middle → Adds session middle second new → Adds session old (first ++ second) new
Adds-then session old first middle second new one two =
    let next : next_index middle ≡ next_index old + length first =
    omega (arith, ap (λ b. b.index) one.same_base, ap (λ (l : List Recorded). length l) one.grown, length-append old.records first) in
    record {
      same_base = two.same_base ∙ one.same_base;
      grown = two.grown ∙ ap (λ (l : List Recorded). l ++ second) one.grown ∙ append_assoc old.records first second;
      legal = Legal-append (next_index old) old.server first middle.server second new.server (next_index middle) next one.legal two.legal;
      own = own-append session first second one.own two.own;
    }

-- a change of the connection alone
pub moves-alone : (book : BookState) (line after : ConnectionState) → after.session ≡ line.session
    → ((records : List Recorded) (taken given : List ℕ) → IsLine records book.server taken given line → IsLine records book.server taken given after)
    → Moves book line book after
moves-alone book line after same goes = record {
  more = [];
  adds = Adds-none line.session book;
  opened = λ other opened. opened;
  same = same;
  goes_on = λ records taken given all l.
      subst (λ (r : List Recorded). IsLine r book.server taken given after) (sym (append-nil records)) (goes records taken given l);
}

pub moves-none : (book : BookState) (line : ConnectionState) → Moves book line book line
moves-none book line = moves-alone book line line refl (λ records taken given l. l)

pub moves-then : (old : BookState) (line : ConnectionState) (middle : BookState) (between : ConnectionState) (new : BookState) (after : ConnectionState)
    → Moves old line middle between → Moves middle between new after → Moves old line new after
moves-then old line middle between new after one two =
    let second : Adds line.session middle two.more new = subst (λ (s : ℕ). Adds s middle two.more new) one.same two.adds in
    record {
      more = one.more ++ two.more;
      adds = Adds-then line.session old one.more middle two.more new one.adds second;
      opened = λ other opened. two.opened other (one.opened other opened);
      same = two.same ∙ one.same;
      goes_on = λ records taken given all l.
          subst (λ (r : List Recorded). IsLine r new.server taken given after) (append_assoc records one.more two.more)
          (two.goes_on (records ++ one.more) taken given (all-grows records one.more old middle all one.adds.same_base one.adds.grown one.adds.legal)
          (one.goes_on records taken given all l));
    }

-- a request is handed out, and then answered
pub moves-answers : (words : Words) (old : BookState) (line next : ConnectionState) (new : BookState) (after : ConnectionState)
    → next.session ≡ line.session
    → ((records : List Recorded) (taken given : List ℕ) → IsLine records old.server taken given line → IsHolding words records old.server taken given next)
    → Answers words old next new after → Moves old line new after
moves-answers words old line next new after same holds answers = record {
  more = answers.more;
  adds = subst (λ (s : ℕ). Adds s old answers.more new) same answers.adds;
  opened = answers.opened;
  same = answers.same ∙ same;
  goes_on = λ records taken given all l. answers.goes_on records taken given all (holds records taken given l);
}

-- a recovery is asked for, and begun later
pub answers-asked : (words : Words) (book : BookState) (line after : ConnectionState) (asked : Box Recovery)
    → IsCommand words (commands.Recover asked.value.apply asked.value.tries asked.value.key asked.value.group asked.value.dead)
    → after ≡ record line { stage = stages.Asks asked } → Answers words book line book after
answers-asked words book line after asked is_command is = record {
  more = [];
  adds = Adds-none line.session book;
  opened = λ other opened. opened;
  same = ap (λ (c : ConnectionState). c.session) is;
  goes_on = λ records taken given all h.
      let begun = IsBegun-held words records book.server taken given line h in
      let silent : IsSilent line.session (h.more ++ []) = subst (IsSilent line.session) (sym (append-nil h.more)) h.silent in
      let waits : IsAskingFor line.session book.server (h.more ++ []) (words ∷ []) asked.value = record {
        words = words;
        one = refl;
        is = is_command;
        silent = silent;
        free = h.free;
      } in
      subst (IsLine (records ++ []) book.server taken given) (sym is) (held-line words records taken given line begun [] book.server (stages.Asks asked) refl waits);
}

-- a command is answered alike, whatever its words are
answers-as : (asked : Command) (old : BookState) (line : ConnectionState) (more : List Recorded) (new : BookState) (after : ConnectionState) → Adds line.session old more new
    → KeepsOpen old.server new.server → after.session ≡ line.session → (answers : (words : Words) → IsCommand words asked → Answers words old line new after)
    → ((words : Words) (is : IsCommand words asked) → (answers words is).more ≡ more) → AnswersAs asked old line new after
answers-as asked old line more new after adds opened same answers alike = record {
  more = more;
  adds = adds;
  opened = opened;
  same = same;
  goes_on = λ words is records taken given all h.
      subst (λ (m : List Recorded). IsLine (records ++ m) new.server taken given after) (alike words is) ((answers words is).goes_on records taken given all h);
}

-- one step after another leaves less to do
pub goes-then : (first line next : ConnectionState) → (line ≡ first) ⊎ (left line < left first) → left next < left line → (next ≡ first) ⊎ (left next < left first)
goes-then first line next (inl same) fewer = inr (subst (λ (l : ConnectionState). left next < left l) same fewer)
goes-then first line next (inr goes) fewer = inr (omega (arith, goes, fewer))

-- at the end of them a recovery is asked for only if it was at first, or by a request that is looked at now
pub asks-later : (first line last : ConnectionState) → (line ≡ first) ⊎ (left line < left first) → last ≡ line → is_asking last.stage ≡ true
    → (is_asking first.stage ≡ true) ⊎ (left last < left first)
asks-later first line last (inl same) is asking = inl (ap (λ (l : ConnectionState). is_asking l.stage) (sym (is ∙ same)) ∙ asking)
asks-later first line last (inr goes) is asking = inr (subst (λ (l : ConnectionState). left l < left first) (sym is) goes)

-- so one that asked, and was begun, and asks then, has fewer requests that wait
asking-left : (line : ConnectionState) (stage : Stage) → is_asking stage ≡ true → 2 * length line.requests.waiting + letters stage ≡ 2 * length line.requests.waiting
asking-left line stages.Idle asking = absurd (true≢false (sym asking))
asking-left line stages.Waiting asking = absurd (true≢false (sym asking))
asking-left line (stages.Asks asked) asking = omega arith
asking-left line (stages.Judges judging) asking = absurd (true≢false (sym asking))
asking-left line stages.Broken asking = absurd (true≢false (sym asking))
asking-left line stages.CutOff asking = absurd (true≢false (sym asking))

pub begun-begins : (before line after : ConnectionState) → is_asking line.stage ≡ false → left line ≡ left before
    → (is_asking after.stage ≡ true → (is_asking line.stage ≡ true) ⊎ (left after < left line)) → Begins before after
begun-begins before line after begun same later was asking = by (later asking)
  where
    by : (is_asking line.stage ≡ true) ⊎ (left after < left line) → length after.requests.waiting < length before.requests.waiting
    by (inl still) = absurd (true≢false (sym still ∙ begun))
    by (inr fewer) = omega (arith, fewer, same, asking-left before before.stage was, asking-left after after.stage asking)

-- it is begun then, whatever its words are
pub moves-asked : (old : BookState) (line out : ConnectionState) (asked : Box Recovery) (new : BookState) (after : ConnectionState) → stages.Asks asked ≡ line.stage
    → out ≡ record line { stage = stages.Idle }
    → AnswersAs (commands.Recover asked.value.apply asked.value.tries asked.value.key asked.value.group asked.value.dead) old out new after → Moves old line new after
moves-asked old line out asked new after was is answers =
    let As : ConnectionState → Type 0 = λ l. AnswersAs (commands.Recover asked.value.apply asked.value.tries asked.value.key asked.value.group asked.value.dead) old l new after in
    let idle : As (record line { stage = stages.Idle }) = subst As is answers in
    record {
      more = idle.more;
      adds = idle.adds;
      opened = idle.opened;
      same = idle.same;
      goes_on = λ records taken given all l.
          let held = asked-held records old.server taken given line l asked (sym was) in
          idle.goes_on held.0 held.1 records taken given all held.2;
    }

-- a piece is taken, and then it goes on
pub takes-then : (piece : List ℕ) (old : BookState) (line fed : ConnectionState) (new : BookState) (after : ConnectionState)
    → fed.session ≡ line.session
    → ((records : List Recorded) (taken given : List ℕ) → IsLine records old.server taken given line → IsLine records old.server (taken ++ piece) given fed)
    → Moves old fed new after → Takes piece old line new after
takes-then piece old line fed new after same feeds moves = record {
  more = moves.more;
  adds = subst (λ (s : ℕ). Adds s old moves.more new) same moves.adds;
  opened = moves.opened;
  same = moves.same ∙ same;
  goes_on = λ records taken given all l. moves.goes_on records (taken ++ piece) given all (feeds records taken given l);
}

-- ---- the same event, of the same session

pub comes-same : (old : BookState) (at : ℕ) (event other : Event) (out same_out : Out) (new : BookState) → event ≡ other → out ≡ same_out → Comes old at event out new → Comes old at other same_out new
comes-same old at event other out same_out new same is comes =
    subst (λ (e : Event). Comes old at e same_out new) same (subst (λ (o : Out). Comes old at event o new) is comes)

-- ---- a request that is answered

-- a session waits, and these replies are none; or it has the one letter that they are
abbrev StandsBy : ℕ → Server → List ReplyParts → Type 0
StandsBy session server replies =
    ((has_session session server.waiting ≡ true) × (replies ≡ []))
    ⊎ ((given : Given) × (has_session session server.waiting ≡ false)
    × (letter_of session server.sessions ≡ Some given) × (replies ≡ given.reply ∷ []))

told-same : (text : List ℕ) (line after : ConnectionState) → Tells text line after → after.session ≡ line.session
told-same text line after (told is) = ap (λ (c : ConnectionState). c.session) is
told-same text line after (cut_off is) = ap (λ (c : ConnectionState). c.session) is

pub told-requests : (text : List ℕ) (line after : ConnectionState) → Tells text line after → after.requests ≡ line.requests
told-requests text line after (told is) = ap (λ (c : ConnectionState). c.requests) is
told-requests text line after (cut_off is) = ap (λ (c : ConnectionState). c.requests) is

-- what is told of a request that is begun
tells-line : (words : Words) (records : List Recorded) (taken given : List ℕ) (line : ConnectionState) (begun : IsBegun words records taken given line) (more : List Recorded) (server : Server)
    (text : List ℕ) (after : ConnectionState) → Tells text line after → IsAnsweredInRecords line.session begun.told words text (records ++ more) → IsFree line.session server
    → IsLine (records ++ more) server taken given after
tells-line words records taken given line begun more server text after (told is) is_told free =
    subst (IsLine (records ++ more) server taken given) (sym is) (told-line words records taken given line begun more server text is_told free)
tells-line words records taken given line begun more server text after (cut_off is) is_told free =
    subst (IsLine (records ++ more) server taken given) (sym is) (held-line words records taken given line begun more server stages.CutOff refl
    (lost-answered line.session begun.told (begun.more ++ more) (records ++ more) words text is_told (whole-more words records taken given line begun more server)))

-- a request is answered by the reply to its one event
module _ (words : Words) (asked : Command) (old : BookState) (line : ConnectionState) (at : ℕ) (event : Event) (new : BookState) (after : ConnectionState) (is_command : IsCommand words asked) where
  answers-replied : (reply : ReplyParts) (comes : Comes old at event (outs.Reply reply) new) → IsAsking line.session event → AreOf line.session asked (event ∷ [])
      → IsHeardOut line.session event (reply ∷ []) (added old at event (outs.Reply reply) new comes) new.server → Tells (reply_text reply) line after
      → Answers words old line new after
  answers-replied reply comes asking of heard tells =
      let session : ℕ = line.session in
      let these : List Recorded = added old at event (outs.Reply reply) new comes in
      record {
        more = these;
        adds = comes-adds session old at event (outs.Reply reply) new comes asking;
        opened = comes-opened session old at event (outs.Reply reply) new comes asking;
        same = told-same (reply_text reply) line after tells;
        goes_on = λ records taken given all h.
            let begun = IsBegun-held words records old.server taken given line h in
            let is_told : IsAnsweredInRecords session h.told words (reply_text reply) (records ++ these) =
            replied asked reply (h.more ++ these) is_command refl (whole-more words records taken given line begun these new.server)
            (subst (AreOf session asked) (sym (spoken-after session h.more these h.silent ∙ heard.said)) of)
            (addressed-after session h.more these h.silent ∙ heard.gets) in
            tells-line words records taken given line begun these new.server (reply_text reply) after tells is_told heard.free;
      }

-- ---- the events of a session

pub answers-call : (words : Words) (call : Call) (old : BookState) (line : ConnectionState) (at : ℕ) (new : BookState) (after : ConnectionState) (reply : ReplyParts)
    → IsCommand words (commands.Call call) → Comes old at (events.Call line.session call) (outs.Reply reply) new → Tells (reply_text reply) line after → Answers words old line new after
answers-call words call old line at new after reply is_command comes tells =
    answers-replied words (commands.Call call) old line at (events.Call line.session call) new after is_command reply comes (calls call refl) refl
    (call-replied old at line.session call comes.answer new reply comes.stepped comes.is) tells

-- a call that waits
pub answers-blocked : (words : Words) (call : Call) (old : BookState) (line : ConnectionState) (at : ℕ) (new : BookState) (after : ConnectionState)
    → IsCommand words (commands.Call call) → Comes old at (events.Call line.session call) outs.Blocked new → after ≡ record line { stage = stages.Waiting } → Answers words old line new after
answers-blocked words call old line at new after is_command comes is =
    let session : ℕ = line.session in
    let event : Event = events.Call session call in
    let these : List Recorded = added old at event outs.Blocked new comes in
    record {
      more = these;
      adds = comes-adds session old at event outs.Blocked new comes (calls call refl);
      opened = comes-opened session old at event outs.Blocked new comes (calls call refl);
      same = ap (λ (c : ConnectionState). c.session) is;
      goes_on = λ records taken given all h.
          let begun = IsBegun-held words records old.server taken given line h in
          let blocked = call-blocked records old at session call comes.answer new all comes.stepped comes.is in
          let waits : IsWaitingFor session new.server (h.more ++ these) (words ∷ []) = record {
            words = words;
            call = call;
            one = refl;
            is = is_command;
            said = spoken-after session h.more these h.silent ∙ blocked.said;
            opened = blocked.opened;
            stands = subst (StandsBy session new.server) (sym (addressed-after session h.more these h.silent)) blocked.stands;
          } in
          subst (IsLine (records ++ these) new.server taken given) (sym is) (held-line words records taken given line begun these new.server stages.Waiting refl waits);
    }

pub answers-board : (words : Words) (key group : List ℕ) (old : BookState) (line : ConnectionState) (at : ℕ) (new : BookState) (after : ConnectionState) (reply : ReplyParts)
    → IsCommand words (commands.Board key group) → Comes old at (events.Board line.session key group) (outs.Reply reply) new → Tells (reply_text reply) line after → Answers words old line new after
answers-board words key group old line at new after reply is_command comes tells =
    answers-replied words (commands.Board key group) old line at (events.Board line.session key group) new after is_command reply comes (asks refl) refl
    (board-replied old at line.session key group comes.answer new reply comes.stepped comes.is) tells

answers-snapshot : (words : Words) (apply : Bool) (tries : ℕ) (key group : List ℕ) (dead : List (List ℕ)) (old : BookState) (line : ConnectionState) (at : ℕ) (new : BookState)
    (after : ConnectionState) (reply : ReplyParts)
    → IsCommand words (commands.Recover apply tries key group dead) → Comes old at (events.Snapshot line.session key group dead) (outs.Reply reply) new → Tells (reply_text reply) line after
    → Answers words old line new after
answers-snapshot words apply tries key group dead old line at new after reply is_command comes tells =
    answers-replied words (commands.Recover apply tries key group dead) old line at (events.Snapshot line.session key group dead) new after is_command reply comes (asks refl) ([], refl, tt)
    (snapshot-replied old at line.session key group dead comes.answer new reply comes.stepped comes.is) tells

-- a recovery that has its first snapshot
answers-snapped : (words : Words) (apply : Bool) (tries : ℕ) (key group : List ℕ) (dead : List (List ℕ)) (old : BookState) (line : ConnectionState) (at : ℕ) (new : BookState)
    (after : ConnectionState) (judging : Judging)
    → IsCommand words (commands.Recover apply tries key group dead) → Comes old at (events.Snapshot line.session key group dead) (outs.Snap judging.snapshot) new
    → judging.apply ≡ apply → suc judging.later ≡ max tries 1 → after ≡ record line { stage = stages.Judges judging } → Answers words old line new after
answers-snapped words apply tries key group dead old line at new after judging is_command comes applied later is =
    let session : ℕ = line.session in
    let event : Event = events.Snapshot session key group dead in
    let these : List Recorded = added old at event (outs.Snap judging.snapshot) new comes in
    let heard = snapshot-taken old at session key group dead comes.answer new judging.snapshot comes.stepped comes.is in
    let of = snapshot-of old at session key group dead comes.answer new judging.snapshot comes.stepped comes.is in
    record {
      more = these;
      adds = comes-adds session old at event (outs.Snap judging.snapshot) new comes (asks refl);
      opened = comes-opened session old at event (outs.Snap judging.snapshot) new comes (asks refl);
      same = ap (λ (c : ConnectionState). c.session) is;
      goes_on = λ records taken given all h.
          let begun = IsBegun-held words records old.server taken given line h in
          let judges : IsJudging session new.server (h.more ++ these) (words ∷ []) judging = record {
            words = words;
            tries = tries;
            key = key;
            group = group;
            dead = dead;
            verdicts = [];
            one = refl;
            is = subst (λ (a : Bool). IsCommand words (commands.Recover a tries key group dead)) (sym applied) is_command;
            said = spoken-after session h.more these h.silent ∙ heard.said;
            rounds = tt;
            left = omega (arith, later);
            of_key = of.key_is;
            of_group = of.group_is;
            of_dead = of.dead_is;
            silent = addressed-after session h.more these h.silent ∙ heard.gets;
            free = heard.free;
          } in
          subst (IsLine (records ++ these) new.server taken given) (sym is) (held-line words records taken given line begun these new.server (stages.Judges judging) refl judges);
    }

-- what is told of an event that memory or an index was lacking for
asking-busy : (session : ℕ) (event : Event) (server : Server) → IsAsking session event → is_busy event server.waiting ≡ has_session session server.waiting
asking-busy session event server (calls call is) = ap (λ (e : Event). is_busy e server.waiting) is
asking-busy session event server (asks of) = asks-busy session event server.waiting of

refused-told : (session : ℕ) (told_by : List Recorded) (words : Words) (asked : Command) (fault : BookFault) (records more : List Recorded) → IsCommand words asked → records ≡ told_by ++ more
    → IsSilent session more → (fault ≡ faults.Memory) ⊎ ((fault ≡ faults.Full) × (2 ^ 63 ≤ length records + 1))
    → IsAnsweredInRecords session told_by words (reply_text (error_reply (refusal_code fault))) (records ++ [])
refused-told session told_by words asked fault records more is_command whole silent (inl memory) =
    let Response : BookFault → Type 0 = λ f. IsAnsweredInRecords session told_by words (reply_text (error_reply (refusal_code f))) (records ++ []) in
    subst Response (sym memory) (refused call_faults.Memory more (asked, is_command) refl (append-nil records ∙ whole) silent)
refused-told session told_by words asked fault records more is_command whole silent (inr full) =
    let Response : BookFault → Type 0 = λ f. IsAnsweredInRecords session told_by words (reply_text (error_reply (refusal_code f))) (records ++ []) in
    let same : length (records ++ []) ≡ length records = ap (λ (l : List Recorded). length l) (append-nil records) in
    subst Response (sym full.0) (is_full asked more is_command (omega (arith, full.1, same)) refl (append-nil records ∙ whole) silent)

broken : (fault : BookFault) (records : List Recorded) → (fault ≡ faults.Memory) ⊎ ((fault ≡ faults.Full) × (2 ^ 63 ≤ length records + 1))
    → IsBroken (refusal_code fault) (length (records ++ []))
broken fault records (inl is) = lacks_memory (ap refusal_code is)
broken fault records (inr full) =
    let same : length (records ++ []) ≡ length records = ap (λ (l : List Recorded). length l) (append-nil records) in
    lacks_index (ap refusal_code full.0) (omega (arith, full.1, same))

-- words that are no command
pub answers-fault : (words : Words) (fault : CallFault) (book : BookState) (line after : ConnectionState) → Refuses words fault
    → Tells (reply_text (error_reply (code_of fault))) line after → Answers words book line book after
answers-fault words fault book line after refuses tells =
    let text : List ℕ = reply_text (error_reply (code_of fault)) in
    record {
      more = [];
      adds = Adds-none line.session book;
      opened = λ other opened. opened;
      same = told-same text line after tells;
      goes_on = λ records taken given all h.
          let begun = IsBegun-held words records book.server taken given line h in
          let is_told : IsAnsweredInRecords line.session h.told words text (records ++ []) =
          refused fault h.more refuses refl (append-nil records ∙ h.whole) h.silent in
          tells-line words records taken given line begun [] book.server text after tells is_told h.free;
    }

-- an event that was refused
pub answers-refused : (words : Words) (asked : Command) (event : Event) (old : BookState) (line : ConnectionState) (at : ℕ) (code : ErrCode) (new : BookState) (after : ConnectionState)
    → IsCommand words asked → IsAsking line.session event → IsRefusedBy old at event code new → Tells (reply_text (error_reply code)) line after → Answers words old line new after
answers-refused words asked event old line at code new after is_command asking by_fault tells =
    let session : ℕ = line.session in
    let same : new ≡ old = by_fault.refused.1 in
    let text : List ℕ = reply_text (error_reply code) in
    record {
      more = [];
      adds = subst (Adds session old []) (sym same) (Adds-none session old);
      opened = subst (λ (b : BookState). KeepsOpen old.server b.server) (sym same) (λ other opened. opened);
      same = told-same text line after tells;
      goes_on = λ records taken given all h.
          let begun = IsBegun-held words records old.server taken given line h in
          let busy = asking-busy session event old.server asking ∙ h.free.absent in
          let why = step-refused records old at session event by_fault.fault new all (asking-speaker session event asking) h.free.opened busy by_fault.refused in
          let is_told : IsAnsweredInRecords session h.told words text (records ++ []) =
          subst (λ (c : ErrCode). IsAnsweredInRecords session h.told words (reply_text (error_reply c)) (records ++ [])) (sym by_fault.is)
          (refused-told session h.told words asked by_fault.fault records h.more is_command h.whole h.silent why.reason) in
          subst (λ (b : BookState). IsLine (records ++ []) b.server taken given after) (sym same)
          (tells-line words records taken given line begun [] old.server text after tells is_told h.free);
    }

-- ---- a recovery that is begun, whatever its words are

module _ (apply : Bool) (tries : ℕ) (key group : List ℕ) (dead : List (List ℕ)) (old : BookState) (line : ConnectionState) (at : ℕ) (new : BookState) (after : ConnectionState) where
  abbrev Recovers : Command
  Recovers = commands.Recover apply tries key group dead

  abbrev Snaps : Event
  Snaps = events.Snapshot line.session key group dead

  pub recovers-replied : (reply : ReplyParts) → Comes old at Snaps (outs.Reply reply) new → Tells (reply_text reply) line after → AnswersAs Recovers old line new after
  unfolding answers-snapshot answers-replied
  recovers-replied reply comes tells =
      answers-as Recovers old line (added old at Snaps (outs.Reply reply) new comes) new after (comes-adds line.session old at Snaps (outs.Reply reply) new comes (asks refl))
      (comes-opened line.session old at Snaps (outs.Reply reply) new comes (asks refl)) (told-same (reply_text reply) line after tells)
      (λ words is. answers-snapshot words apply tries key group dead old line at new after reply is comes tells) (λ words is. refl)

  pub recovers-snapped : (judging : Judging) → Comes old at Snaps (outs.Snap judging.snapshot) new → judging.apply ≡ apply → suc judging.later ≡ max tries 1
      → after ≡ record line { stage = stages.Judges judging } → AnswersAs Recovers old line new after
  unfolding answers-snapped
  recovers-snapped judging comes applied later is =
      answers-as Recovers old line (added old at Snaps (outs.Snap judging.snapshot) new comes) new after (comes-adds line.session old at Snaps (outs.Snap judging.snapshot) new comes (asks refl))
      (comes-opened line.session old at Snaps (outs.Snap judging.snapshot) new comes (asks refl)) (ap (λ (c : ConnectionState). c.session) is)
      (λ words command. answers-snapped words apply tries key group dead old line at new after judging command comes applied later is) (λ words command. refl)

  pub recovers-refused : (code : ErrCode) → IsRefusedBy old at Snaps code new → Tells (reply_text (error_reply code)) line after → AnswersAs Recovers old line new after
  unfolding answers-refused
  recovers-refused code by_fault tells =
      answers-as Recovers old line [] new after (subst (Adds line.session old []) (sym by_fault.refused.1) (Adds-none line.session old))
      (subst (λ (b : BookState). KeepsOpen old.server b.server) (sym by_fault.refused.1) (λ other opened. opened)) (told-same (reply_text (error_reply code)) line after tells)
      (λ words is. answers-refused words Recovers Snaps old line at code new after is (asks refl) by_fault tells) (λ words is. refl)

-- memory is lacking for it
pub recovers-lacking : (asked : Command) (book : BookState) (line after : ConnectionState) → Tells (reply_text (error_reply errors.Memory)) line after → AnswersAs asked book line book after
unfolding answers-fault
recovers-lacking asked book line after tells =
    answers-as asked book line [] book after (Adds-none line.session book) (λ other opened. opened) (told-same (reply_text (error_reply errors.Memory)) line after tells)
    (λ words is. answers-fault words call_faults.Memory book line after (asked, is) tells) (λ words is. refl)

-- ---- the rounds of a recovery

-- one round more
AreRounds-push : (session : ℕ) (apply : Bool) (key group : List ℕ) (dead : List (List ℕ)) (rounds : ℕ) (verdicts : List Event) (event : Event) (later : ℕ)
    → length verdicts + suc later ≡ rounds → AreRounds session apply key group dead rounds verdicts → IsVerdictOn session apply key group dead (later == 0) event
    → AreRounds session apply key group dead rounds (verdicts ++ event ∷ [])
AreRounds-push session apply key group dead zero [] event later left rounds is = absurd (omega (arith, left))
AreRounds-push session apply key group dead (suc rounds) [] event later left all is =
    let same : later ≡ rounds = omega (arith, left) in
    (subst (λ (n : ℕ). IsVerdictOn session apply key group dead (n == 0) event) same is, tt)
AreRounds-push session apply key group dead zero (first ∷ verdicts) event later left all is = absurd all
AreRounds-push session apply key group dead (suc rounds) (first ∷ verdicts) event later left all is =
    let less : length verdicts + suc later ≡ rounds = omega (arith, left) in
    (all.0, AreRounds-push session apply key group dead rounds verdicts event later less all.1 is)

-- what a verdict is of
pub record IsRoundOf (judging : Judging) (judged : Judged) (apply last : Bool) : Type 0 where
  pub same : judged.snapshot ≡ judging.snapshot
  pub applied : apply ≡ judging.apply
  pub final : last ≡ (judging.later == 0)

module _ (old : BookState) (line : ConnectionState) (at : ℕ) (judging : Judging) (is : line.stage ≡ stages.Judges judging) where
  abbrev judges-of : (records : List Recorded) (taken given : List ℕ) (l : IsLine records old.server taken given line) → IsJudging line.session old.server l.more l.held judging
  judges-of records taken given l = subst (Stays line.session old.server l.more l.held line.requests) is l.stays

  abbrev begun-of : (records : List Recorded) (taken given : List ℕ) (l : IsLine records old.server taken given line)
      → IsBegun (judges-of records taken given l).words records taken given line
  begun-of records taken given l =
      IsBegun-line (judges-of records taken given l).words records old.server taken given line l (judges-of records taken given l).one (ap is_ended is) (ap last_text is)

  -- memory is lacking for a verdict
  pub moves-lacking : (after : ConnectionState) → Tells (reply_text (error_reply errors.Memory)) line after → Moves old line old after
  moves-lacking after tells =
      moves-alone old line after (told-same (reply_text (error_reply errors.Memory)) line after tells) (λ records taken given l.
      let j = judges-of records taken given l in
      let text : List ℕ = reply_text (error_reply errors.Memory) in
      let is_told : IsAnsweredInRecords line.session l.told j.words text (records ++ []) =
      broke_off judging.apply j.tries j.key j.group j.dead errors.Memory l.more j.is (lacks_memory refl) refl (append-nil records ∙ l.whole)
      (j.verdicts, j.said, j.rounds) j.silent in
      subst (λ (r : List Recorded). IsLine r old.server taken given after) (append-nil records)
      (tells-line j.words records taken given line (begun-of records taken given l) [] old.server text after tells is_told j.free))

  module _ (judged : Judged) (apply last : Bool) (round : IsRoundOf judging judged apply last) where
    -- the verdict is one more round
    AreRounds-more : (server : Server) (more : List Recorded) (held : List Words) (j : IsJudging line.session server more held judging)
        → AreRounds line.session judging.apply j.key j.group j.dead (max j.tries 1) (j.verdicts ++ events.Conclude line.session judged apply last ∷ [])
    AreRounds-more server more held j =
        AreRounds-push line.session judging.apply j.key j.group j.dead (max j.tries 1) j.verdicts (events.Conclude line.session judged apply last) judging.later j.left j.rounds (
          refl,
          round.applied,
          round.final,
          ap (λ (s : SnapshotState). s.key) round.same ∙ j.of_key,
          ap (λ (s : SnapshotState). s.group) round.same ∙ j.of_group,
          ap (λ (s : SnapshotState). s.dead) round.same ∙ j.of_dead,
        )

    said-more : (server : Server) (more these : List Recorded) (held : List Words) (j : IsJudging line.session server more held judging)
        → spoken line.session these ≡ events.Conclude line.session judged apply last ∷ []
        → spoken line.session (more ++ these) ≡ events.Snapshot line.session j.key j.group j.dead ∷ (j.verdicts ++ events.Conclude line.session judged apply last ∷ [])
    said-more server more these held j says =
        spoken-append line.session more these
        ∙ ap (λ (l : List Event). l ++ spoken line.session these) j.said
        ∙ ap (λ (l : List Event). (events.Snapshot line.session j.key j.group j.dead ∷ j.verdicts) ++ l) says

    gets-more : (server : Server) (more these : List Recorded) (held : List Words) (j : IsJudging line.session server more held judging) (replies : List ReplyParts)
        → addressed line.session these ≡ replies → addressed line.session (more ++ these) ≡ replies
    gets-more server more these held j replies gets =
        addressed-append line.session more these ∙ ap (λ (l : List ReplyParts). l ++ addressed line.session these) j.silent ∙ gets

    -- the recovery is replied
    pub moves-replied : (new : BookState) (after : ConnectionState) (reply : ReplyParts)
        → Comes old at (events.Conclude line.session judged apply last) (outs.Reply reply) new → Tells (reply_text reply) line after → Moves old line new after
    moves-replied new after reply comes tells =
        let event : Event = events.Conclude line.session judged apply last in
        let these : List Recorded = added old at event (outs.Reply reply) new comes in
        let heard = conclude-replied old at line.session judged apply last comes.answer new reply comes.stepped comes.is in
        record {
          more = these;
          adds = comes-adds line.session old at event (outs.Reply reply) new comes (asks refl);
          opened = comes-opened line.session old at event (outs.Reply reply) new comes (asks refl);
          same = told-same (reply_text reply) line after tells;
          goes_on = λ records taken given all l.
              let j = judges-of records taken given l in
              let begun = begun-of records taken given l in
              let is_told : IsAnsweredInRecords line.session l.told j.words (reply_text reply) (records ++ these) =
              replied (commands.Recover judging.apply j.tries j.key j.group j.dead) reply (l.more ++ these) j.is refl (whole-more j.words records taken given line begun these new.server)
              (j.verdicts ++ event ∷ [], said-more old.server l.more these l.held j heard.said, AreRounds-more old.server l.more l.held j)
              (gets-more old.server l.more these l.held j (reply ∷ []) heard.gets) in
              tells-line j.words records taken given line begun these new.server (reply_text reply) after tells is_told heard.free;
        }

    -- it has a fresh snapshot for its next round
    pub moves-stale : (new : BookState) (after : ConnectionState) (next : Judging)
        → Comes old at (events.Conclude line.session judged apply last) (outs.Stale next.snapshot) new
        → next.apply ≡ judging.apply → suc next.later ≡ judging.later → after ≡ record line { stage = stages.Judges next } → Moves old line new after
    moves-stale new after next comes same_apply later after_is =
        let event : Event = events.Conclude line.session judged apply last in
        let these : List Recorded = added old at event (outs.Stale next.snapshot) new comes in
        let heard = conclude-stale old at line.session judged apply last comes.answer new next.snapshot comes.stepped comes.is in
        let of = stale-of old at line.session judged apply last comes.answer new next.snapshot comes.stepped comes.is in
        record {
          more = these;
          adds = comes-adds line.session old at event (outs.Stale next.snapshot) new comes (asks refl);
          opened = comes-opened line.session old at event (outs.Stale next.snapshot) new comes (asks refl);
          same = ap (λ (c : ConnectionState). c.session) after_is;
          goes_on = λ records taken given all l.
              let j = judges-of records taken given l in
              let begun = begun-of records taken given l in
              let counted : length (j.verdicts ++ event ∷ []) + suc next.later ≡ max j.tries 1 = omega (arith, length-append j.verdicts (event ∷ []), j.left, later) in
              let judges : IsJudging line.session new.server (l.more ++ these) (j.words ∷ []) next = record {
                words = j.words;
                tries = j.tries;
                key = j.key;
                group = j.group;
                dead = j.dead;
                verdicts = j.verdicts ++ event ∷ [];
                one = refl;
                is = subst (λ (a : Bool). IsCommand j.words (commands.Recover a j.tries j.key j.group j.dead)) (sym same_apply) j.is;
                said = said-more old.server l.more these l.held j heard.said;
                rounds = subst (λ (a : Bool). AreRounds line.session a j.key j.group j.dead (max j.tries 1) (j.verdicts ++ event ∷ [])) (sym same_apply)
                    (AreRounds-more old.server l.more l.held j);
                left = counted;
                of_key = of.key_is ∙ ap (λ (s : SnapshotState). s.key) round.same ∙ j.of_key;
                of_group = of.group_is ∙ ap (λ (s : SnapshotState). s.group) round.same ∙ j.of_group;
                of_dead = of.dead_is ∙ ap in_order (ap (λ (s : SnapshotState). s.dead) round.same ∙ j.of_dead) ∙ in_order-twice j.dead;
                silent = gets-more old.server l.more these l.held j [] heard.gets;
                free = heard.free;
              } in
              subst (IsLine (records ++ these) new.server taken given) (sym after_is)
              (held-line j.words records taken given line begun these new.server (stages.Judges next) refl judges);
        }

    -- the event was refused
    pub moves-refused : (code : ErrCode) (new : BookState) (after : ConnectionState) → IsRefusedBy old at (events.Conclude line.session judged apply last) code new
        → Tells (reply_text (error_reply code)) line after → Moves old line new after
    moves-refused code new after by_fault tells =
        let event : Event = events.Conclude line.session judged apply last in
        let same : new ≡ old = by_fault.refused.1 in
        let text : List ℕ = reply_text (error_reply code) in
        record {
          more = [];
          adds = subst (Adds line.session old []) (sym same) (Adds-none line.session old);
          opened = subst (λ (b : BookState). KeepsOpen old.server b.server) (sym same) (λ other opened. opened);
          same = told-same text line after tells;
          goes_on = λ records taken given all l.
              let j = judges-of records taken given l in
              let why = step-refused records old at line.session event by_fault.fault new all refl j.free.opened j.free.absent by_fault.refused in
              let told_this : AreOf line.session (commands.Recover judging.apply j.tries j.key j.group j.dead) (spoken line.session l.more) = (j.verdicts, j.said, j.rounds) in
              let is_told : IsAnsweredInRecords line.session l.told j.words text (records ++ []) =
              broke_off judging.apply j.tries j.key j.group j.dead code l.more j.is
              (subst (λ (c : ErrCode). IsBroken c (length (records ++ []))) (sym by_fault.is) (broken by_fault.fault records why.reason)) refl (append-nil records ∙ l.whole) told_this j.silent in
              subst (λ (b : BookState). IsLine (records ++ []) b.server taken given after) (sym same)
              (tells-line j.words records taken given line (begun-of records taken given l) [] old.server text after tells is_told j.free);
        }

-- it is cut off
pub cut_off-moves : (book : BookState) (line after : ConnectionState) → last_text line.stage ≡ [] → after ≡ record line { stage = stages.CutOff } → Moves book line book after
cut_off-moves book line after none after_is =
    moves-alone book line after (ap (λ (c : ConnectionState). c.session) after_is) (λ records taken given l.
    subst (IsLine records book.server taken given) (sym after_is) (cut_off-line records book.server taken given line l none))

-- ---- a letter

pub lettered-moves : (book : BookState) (session : ℕ) (line after : ConnectionState) (letter : Letter) → IsHistory book → session ≡ line.session → line.stage ≡ stages.Waiting
    → Some letter ≡ letter_for session book.server → Tells (reply_text letter.reply) line after → Moves book line book after
lettered-moves book session line after letter history same waiting is (told after_is) =
    let its = letter-given session book.server letter is in
    let none : HasNone line.session book.server = subst (λ (s : ℕ). HasNone s book.server) same (history-none session book history) in
    let there : letter_of line.session book.server.sessions ≡ Some its.given = subst (λ (s : ℕ). letter_of s book.server.sessions ≡ Some its.given) same its.there in
    let After : ReplyParts → Type 0 = λ r. (records : List Recorded) (taken given : List ℕ) → IsLine records book.server taken given line
    → IsLine records book.server taken given (record line { unsent = line.unsent ++ reply_text r; stage = stages.Idle }) in
    let goes : After letter.reply = subst After its.same (λ records taken given l. lettered-line records book.server taken given line l its.given waiting none there) in
    moves-alone book line after (ap (λ (c : ConnectionState). c.session) after_is) (λ records taken given l.
    subst (IsLine records book.server taken given) (sym after_is) (goes records taken given l))
lettered-moves book session line after letter history same waiting is (cut_off after_is) = cut_off-moves book line after (ap last_text waiting) after_is

-- ---- a fault

pub fault-moves : (book : BookState) (line after : ConnectionState) → line.stage ≡ stages.Idle → line.requests.waiting ≡ [] → TellsFault line after → Moves book line book after
fault-moves book line after idle none (is_sound sound after_is) = moves-alone book line after (ap (λ (c : ConnectionState). c.session) after_is) (λ records taken given l.
    subst (IsLine records book.server taken given) (sym after_is) l)
fault-moves book line after idle none (went_wrong failed after_is) =
    moves-alone book line after (ap (λ (c : ConnectionState). c.session) after_is) (λ records taken given l.
    subst (IsLine records book.server taken given) (sym after_is) (fault-line records book.server taken given line l idle none failed))
fault-moves book line after idle none (lacks after_is) = cut_off-moves book line after (ap last_text idle) after_is

-- where it is then
pub fault-rests : (server : Server) (line after : ConnectionState) → line.stage ≡ stages.Idle → line.requests.waiting ≡ [] → TellsFault line after → IsAtRest 65536 server after after.stage
fault-rests server line after idle none (is_sound sound after_is) =
    let P : ConnectionState → Type 0 = λ c. IsAtRest 65536 server c c.stage in
    subst P (sym after_is) (subst (IsAtRest 65536 server line) (sym idle) (inl (none, sound)))
fault-rests server line after idle none (went_wrong failed after_is) =
    let P : ConnectionState → Type 0 = λ c. IsAtRest 65536 server c c.stage in
    subst P (sym after_is) tt
fault-rests server line after idle none (lacks after_is) =
    let P : ConnectionState → Type 0 = λ c. IsAtRest 65536 server c c.stage in
    subst P (sym after_is) tt

-- ---- what a verdict is concluded with

record IsJudgedIn (stage : Stage) (P : Judging → Type 0) : Type 0 where
  pub judging : Judging
  pub is : stage ≡ stages.Judges judging
  pub has : P judging

judged-in : (stage : Stage) (P : Judging → Type 0) → IsSomeAnd (judging_of stage) P → IsJudgedIn stage P
judged-in stages.Idle P some = absurd some
judged-in stages.Waiting P some = absurd some
judged-in (stages.Asks asked) P some = absurd some
judged-in (stages.Judges judging) P some = record { judging = judging; is = refl; has = some }
judged-in stages.Broken P some = absurd some
judged-in stages.CutOff P some = absurd some

module _ (old : BookState) (line : ConnectionState) (at : ℕ) (new : BookState) (after : ConnectionState) (judged : Judged) (apply : Bool) (later : ℕ) (concludes : Concludes line.stage judged apply later) where
  at_round : IsJudgedIn line.stage (λ judging. (judging.apply ≡ apply) × (judging.later ≡ later) × (judged.snapshot ≡ judging.snapshot))
  at_round = judged-in line.stage (λ judging. (judging.apply ≡ apply) × (judging.later ≡ later) × (judged.snapshot ≡ judging.snapshot)) concludes

  of_round : IsRoundOf at_round.judging judged apply (later == 0)
  of_round = record { same = at_round.has.2; applied = sym at_round.has.0; final = ap (λ (n : ℕ). n == 0) (sym at_round.has.1) }

  pub concluded-replied : (reply : ReplyParts) → Comes old at (events.Conclude line.session judged apply (later == 0)) (outs.Reply reply) new → Tells (reply_text reply) line after
      → Moves old line new after
  concluded-replied reply comes tells = moves-replied old line at at_round.judging at_round.is judged apply (later == 0) of_round new after reply comes tells

  pub concluded-stale : (shown : SnapshotState) (next : ℕ) → suc next ≡ later → Comes old at (events.Conclude line.session judged apply (later == 0)) (outs.Stale shown) new
      → after ≡ record line { stage = stages.Judges (record { apply = apply; later = next; snapshot = shown }) } → Moves old line new after
  concluded-stale shown next less comes is =
      moves-stale old line at at_round.judging at_round.is judged apply (later == 0) of_round new after (record { apply = apply; later = next; snapshot = shown }) comes
      (sym at_round.has.0) (less ∙ sym at_round.has.1) is

  pub concluded-refused : (code : ErrCode) → IsRefusedBy old at (events.Conclude line.session judged apply (later == 0)) code new → Tells (reply_text (error_reply code)) line after
      → Moves old line new after
  concluded-refused code by_fault tells = moves-refused old line at at_round.judging at_round.is judged apply (later == 0) of_round code new after by_fault tells

-- there is a value if there is one of which something holds
pub some-is : {A : Type 0} (o : Option A) (P : A → Type 0) → IsSomeAnd o P → IsSome o
some-is None P some = absurd some
some-is (Some x) P some = refl

-- not the last round
pub some-later : (later : ℕ) → (later == 0) ≡ false → 1 ≤ later
some-later zero is = absurd (true≢false is)
some-later (suc later) is = omega arith

-- a connection is told the same, whichever stage it was in
pub tells-from : (text : List ℕ) (stage other : Stage) (line after : ConnectionState) → Tells text (record line { stage = stage }) after → Tells text (record line { stage = other }) after
tells-from text stage other line after (told is) = told is
tells-from text stage other line after (cut_off is) = cut_off is

-- what a connection does was taken out, a verdict was made of the snapshot that it wanted one on, and concluded
pub judged-moves : (old new : BookState) (line out after : ConnectionState) (judging : Judging) (judged : Judged) → stages.Judges judging ≡ line.stage → out ≡ record line { stage = stages.CutOff }
    → judged.snapshot ≡ judging.snapshot
    → ((stage : Stage) → Concludes stage judged judging.apply judging.later → Moves old (record out { stage = stage }) new after) → Moves old line new after
judged-moves old new line out after judging judged was is of concludes =
    subst (λ (l : ConnectionState). Moves old l new after) (ap (λ (l : ConnectionState). record l { stage = stages.Judges judging }) is ∙ ap (λ (s : Stage). record line { stage = s }) was)
    (concludes (stages.Judges judging) (refl, refl, of))

-- memory is lacking for a verdict, after what a connection does was taken out
pub unjudged-moves : (old : BookState) (line out after : ConnectionState) (judging : Judging) → stages.Judges judging ≡ line.stage → out ≡ record line { stage = stages.CutOff }
    → Tells (reply_text (error_reply errors.Memory)) out after → Moves old line old after
unjudged-moves old line out after judging was is tells =
    moves-lacking old line 0 judging (sym was) after
    (tells-from _ stages.CutOff line.stage line after (subst (λ (l : ConnectionState). Tells (reply_text (error_reply errors.Memory)) l after) is tells))
