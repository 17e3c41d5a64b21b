-- One connection as a line: its request is answered or held, a letter is taken, bytes are taken and sent.
use Rattle.std.proofs.Common.{◌≡◌, ◌⊎◌, inl, inr, ◌≤◌, ℕ, true, false, List, [], ◌∷◌, ◌++◌, length, arith, take, drop, take-append-drop, append_assoc, Some, None, refl, ap, sym, subst, ◌∙◌, true≢false}
use Rattle.std.proofs.lemmas.List.{append-nil, append_cancel_left}
use Rattle.std.specs.Global.{Box}
use Rattle.sr_resp.specs.{Words, Progress}
use Rattle.sr_resp.specs.Stream.{Stands}
use Rattle.sr_resp.specs.Reply.{ReplyParts, reply_text}
use Rattle.sr_args.specs.declared.call.Command.{Command}
use Rattle.sr_args.specs.declared.call.Command.TheVariants as commands
use Rattle.sr_args.specs.{IsCommand}
use Rattle.sr_waiters.specs.{has_session}
use Rattle.sr_book.specs.{Given, letter_of, Recorded}
use Rattle.sr_book.specs.Server.{Server}
use Rattle.sr_book.specs.Records.{addressed}
use Rattle.sr_session.specs.{AreAnswered, protocol_text}
use Rattle.sr_session.proofs.AnsweredLemmas.{AreAnswered-push}
use Rattle.sr_session.proofs.LetterLemmas.{HasNone}
use Rattle.sr_book.specs.declared.event.Event.{Event}
use Rattle.sr_hub.specs.OneRequest.{AreOf, IsAnsweredInRecords, IsSilent, broke_off, is_full, refused, replied, spoken}
use Rattle.sr_hub.specs.Line.{ConnectionState, IsAskingFor, IsFree, IsJoined, IsLine, IsLost, IsResting, IsWaitingFor, Stays, is_ended, last_text, said_nothing, was_begun}
use Rattle.sr_hub.specs.declared.stage.Recovery.{Recovery}
use Rattle.sr_hub.specs.declared.stage.Stage.{Stage}
use Rattle.sr_hub.specs.declared.stage.Stage.TheVariants as stages
use Rattle.sr_hub.specs.steps.Moves.{IsHolding}
use Rattle.sr_hub.proofs.FrameLemmas.{addressed-append, spoken-append}

-- ---- what the session says and gets

-- after silence
pub spoken-after : (session : ℕ) (a b : List Recorded) → IsSilent session a → spoken session (a ++ b) ≡ spoken session b
spoken-after session a b silent = spoken-append session a b ∙ ap (λ (l : List Event). l ++ spoken session b) silent.says_nothing

pub addressed-after : (session : ℕ) (a b : List Recorded) → IsSilent session a → addressed session (a ++ b) ≡ addressed session b
addressed-after session a b silent = addressed-append session a b ∙ ap (λ (l : List ReplyParts). l ++ addressed session b) silent.gets_nothing

pub IsSilent-append : (session : ℕ) (a b : List Recorded) → IsSilent session a → IsSilent session b → IsSilent session (a ++ b)
IsSilent-append session a b first second = record {
  says_nothing = spoken-after session a b first ∙ second.says_nothing;
  gets_nothing = addressed-after session a b first ∙ second.gets_nothing;
}

-- ---- a request that is begun

-- the words were handed out, and are not answered
pub record IsBegun (words : Words) (records : List Recorded) (taken given : List ℕ) (line : ConnectionState) : Type 0 where
  pub found : List Recorded
  pub told : List Recorded
  pub more : List Recorded
  pub answered : List Words
  pub joined : IsJoined line.session found
  pub stands : Stands taken (answered ++ words ∷ []) line.requests
  pub tells : AreAnswered (IsAnsweredInRecords line.session) found answered (given ++ line.unsent) told
  pub whole : records ≡ told ++ more

abbrev pub IsBegun-held : (words : Words) (records : List Recorded) (server : Server) (taken given : List ℕ) (line : ConnectionState)
    → IsHolding words records server taken given line → IsBegun words records taken given line
IsBegun-held words records server taken given line h = record {
  found = h.found;
  told = h.told;
  more = h.more;
  answered = h.answered;
  joined = h.joined;
  stands = h.stands;
  tells = h.tells;
  whole = h.whole;
}

-- a line that is not at its end has looked at all bytes that were taken
pub all-looked : (records : List Recorded) (server : Server) (taken given : List ℕ) (line : ConnectionState) (l : IsLine records server taken given line) → is_ended line.stage ≡ false
    → l.looked_at ≡ taken
all-looked records server taken given line l goes =
    sym (l.bytes ∙ ap (λ (b : List ℕ). l.looked_at ++ b) (l.none_passed goes) ∙ append-nil l.looked_at)

-- so is the one request that a line holds
abbrev pub IsBegun-line : (words : Words) (records : List Recorded) (server : Server) (taken given : List ℕ) (line : ConnectionState) (l : IsLine records server taken given line)
    → l.held ≡ words ∷ [] → is_ended line.stage ≡ false → last_text line.stage ≡ [] → IsBegun words records taken given line
IsBegun-line words records server taken given line l one goes no_last = record {
  found = l.found;
  told = l.told;
  more = l.more;
  answered = l.answered;
  joined = l.joined;
  stands = subst (λ (b : List ℕ). Stands b (l.answered ++ words ∷ []) line.requests) (all-looked records server taken given line l goes)
      (subst (λ (r : List Words). Stands l.looked_at (l.answered ++ r) line.requests) one l.stands);
  tells = subst (λ (t : List ℕ). AreAnswered (IsAnsweredInRecords line.session) l.found l.answered t l.told) (sym (l.spelled ∙ ap (λ (t : List ℕ). l.text ++ t) no_last ∙ append-nil l.text)) l.tells;
  whole = l.whole;
}

module _ (words : Words) (records : List Recorded) (taken given : List ℕ) (line : ConnectionState) (begun : IsBegun words records taken given line) (more : List Recorded) (server : Server) where
  -- it is told its answer
  pub told-line : (text : List ℕ) → IsAnsweredInRecords line.session begun.told words text (records ++ more) → IsFree line.session server
      → IsLine (records ++ more) server taken given (record line { unsent = line.unsent ++ text; stage = stages.Idle })
  told-line text told free = record {
    found = begun.found;
    told = records ++ more;
    more = [];
    answered = begun.answered ++ words ∷ [];
    held = [];
    text = (given ++ line.unsent) ++ text;
    looked_at = taken;
    passed_over = [];
    joined = begun.joined;
    bytes = sym (append-nil taken);
    none_passed = λ goes. refl;
    stands = subst (λ (r : List Words). Stands taken r line.requests) (sym (append-nil (begun.answered ++ words ∷ []))) begun.stands;
    tells = AreAnswered-push (IsAnsweredInRecords line.session) begun.found begun.answered (given ++ line.unsent) begun.told words text (records ++ more) begun.tells told;
    spelled = sym (append_assoc given line.unsent text) ∙ sym (append-nil ((given ++ line.unsent) ++ text));
    whole = sym (append-nil (records ++ more));
    stays = record { none = refl; silent = record { says_nothing = refl; gets_nothing = refl }; free = free };
  }

  -- it is held
  pub held-line : (stage : Stage) → last_text stage ≡ [] → Stays line.session server (begun.more ++ more) (words ∷ []) line.requests stage
      → IsLine (records ++ more) server taken given (record line { stage = stage })
  held-line stage no_last stays = record {
    found = begun.found;
    told = begun.told;
    more = begun.more ++ more;
    answered = begun.answered;
    held = words ∷ [];
    text = given ++ line.unsent;
    looked_at = taken;
    passed_over = [];
    joined = begun.joined;
    bytes = sym (append-nil taken);
    none_passed = λ goes. refl;
    stands = begun.stands;
    tells = begun.tells;
    spelled = sym (append-nil (given ++ line.unsent)) ∙ ap (λ (t : List ℕ). (given ++ line.unsent) ++ t) (sym no_last);
    whole = ap (λ (r : List Recorded). r ++ more) begun.whole ∙ append_assoc begun.told begun.more more;
    stays = stays;
  }

  pub whole-more : records ++ more ≡ begun.told ++ (begun.more ++ more)
  whole-more = ap (λ (r : List Recorded). r ++ more) begun.whole ∙ append_assoc begun.told begun.more more

-- ---- a request whose reply is lost

few-held : (held : List Words) → held ≡ [] → length held ≤ 1
few-held held none = subst (λ (h : List Words). length h ≤ 1) (sym none) (let zero_few : 0 ≤ 1 = omega arith in zero_few)

one-held : (held : List Words) (words : Words) → held ≡ words ∷ [] → length held ≤ 1
one-held held words one = subst (λ (h : List Words). length h ≤ 1) (sym one) (let one_few : 1 ≤ 1 = omega arith in one_few)

-- wherever it stands, it can be cut off
lost-stays : (session : ℕ) (server : Server) (more : List Recorded) (held : List Words) (requests : Progress) (stage : Stage) → Stays session server more held requests stage
    → IsLost session more held
lost-stays session server more held requests stages.Idle stays = said_nothing (few-held held stays.none) stays.silent.says_nothing
lost-stays session server more held requests stages.Waiting stays = was_begun stays.words (commands.Call stays.call) stays.one stays.is stays.said
lost-stays session server more held requests (stages.Asks asked) stays = said_nothing (one-held held stays.words stays.one) stays.silent.says_nothing
lost-stays session server more held requests (stages.Judges judging) stays =
    was_begun stays.words (commands.Recover judging.apply stays.tries stays.key stays.group stays.dead) stays.one stays.is (stays.verdicts, stays.said, stays.rounds)
lost-stays session server more held requests stages.Broken stays = said_nothing (few-held held stays.0.none) stays.0.silent.says_nothing
lost-stays session server more held requests stages.CutOff stays = stays

-- it was answered, and its text is lost
pub lost-answered : (session : ℕ) (old more new : List Recorded) (words : Words) (text : List ℕ) → IsAnsweredInRecords session old words text new → new ≡ old ++ more
    → IsLost session more (words ∷ [])
lost-answered session old more new words text answered grown = by answered
  where
    same : (these : List Recorded) → new ≡ old ++ these → these ≡ more
    same these is = append_cancel_left old these more (sym is ∙ grown)

    silent : (these : List Recorded) → new ≡ old ++ these → IsSilent session these → IsLost session more (words ∷ [])
    silent these is none = said_nothing (one-held (words ∷ []) words refl) (subst (λ (r : List Recorded). spoken session r ≡ []) (same these is) none.says_nothing)

    begun : (asked : Command) (these : List Recorded) → new ≡ old ++ these → IsCommand words asked → AreOf session asked (spoken session these) → IsLost session more (words ∷ [])
    begun asked these is command of = was_begun words asked refl command (subst (λ (r : List Recorded). AreOf session asked (spoken session r)) (same these is) of)

    by : IsAnsweredInRecords session old words text new → IsLost session more (words ∷ [])
    by (refused fault these refuses told is none) = silent these is none
    by (is_full asked these command full told is none) = silent these is none
    by (replied asked reply these command told is of one) = begun asked these is command of
    by (broke_off apply tries key group dead code these command broken told is of none) = begun (commands.Recover apply tries key group dead) these is command of

-- ---- a line without a new record

module _ (records : List Recorded) (server : Server) (taken given : List ℕ) (line : ConnectionState) (l : IsLine records server taken given line) where
  -- what it stands at, by its stage
  stays-at : (stage : Stage) → line.stage ≡ stage → Stays line.session server l.more l.held line.requests stage
  stays-at stage is = subst (Stays line.session server l.more l.held line.requests) is l.stays

  spelled-at : (stage : Stage) → line.stage ≡ stage → last_text stage ≡ [] → l.text ≡ given ++ line.unsent
  spelled-at stage is none = sym (l.spelled ∙ ap (λ (t : List ℕ). l.text ++ t) (ap last_text is ∙ none) ∙ append-nil l.text)

  -- the next request is handed out
  pub next-held : (words : Words) (next : Progress) → line.stage ≡ stages.Idle
      → ((taken : List ℕ) (given : List Words) → Stands taken given line.requests → Stands taken (given ++ words ∷ []) next)
      → IsHolding words records server taken given (record line { requests = next })
  next-held words next idle hands_out =
      let rests : IsResting line.session server l.more l.held = stays-at stages.Idle idle in
      let looked : l.looked_at ≡ taken = all-looked records server taken given line l (ap is_ended idle) in
      let none : l.answered ++ l.held ≡ l.answered = ap (λ (h : List Words). l.answered ++ h) rests.none ∙ append-nil l.answered in
      record {
        found = l.found;
        told = l.told;
        more = l.more;
        answered = l.answered;
        joined = l.joined;
        stands = hands_out taken l.answered (subst (λ (b : List ℕ). Stands b l.answered line.requests) looked
            (subst (λ (r : List Words). Stands l.looked_at r line.requests) none l.stands));
        tells = subst (λ (t : List ℕ). AreAnswered (IsAnsweredInRecords line.session) l.found l.answered t l.told) (spelled-at stages.Idle idle refl) l.tells;
        whole = l.whole;
        silent = rests.silent;
        free = rests.free;
      }

  -- the recovery that it asks for is begun
  pub asked-held : (asked : Box Recovery) → line.stage ≡ stages.Asks asked
      → (words : Words) × IsCommand words (commands.Recover asked.value.apply asked.value.tries asked.value.key asked.value.group asked.value.dead)
      × IsHolding words records server taken given (record line { stage = stages.Idle })
  asked-held asked is =
      let asks : IsAskingFor line.session server l.more l.held asked.value = stays-at (stages.Asks asked) is in
      let begun : IsBegun asks.words records taken given line =
      IsBegun-line asks.words records server taken given line l asks.one (ap is_ended is) (ap last_text is) in (
        asks.words,
        asks.is,
        record {
          found = begun.found;
          told = begun.told;
          more = begun.more;
          answered = begun.answered;
          joined = begun.joined;
          stands = begun.stands;
          tells = begun.tells;
          whole = begun.whole;
          silent = asks.silent;
          free = asks.free;
        },
      )

  -- it is cut off
  pub cut_off-line : last_text line.stage ≡ [] → IsLine records server taken given (record line { stage = stages.CutOff })
  cut_off-line none = record {
    found = l.found;
    told = l.told;
    more = l.more;
    answered = l.answered;
    held = l.held;
    text = l.text;
    looked_at = l.looked_at;
    passed_over = l.passed_over;
    joined = l.joined;
    bytes = l.bytes;
    none_passed = λ goes. absurd (true≢false goes);
    stands = l.stands;
    tells = l.tells;
    spelled = l.spelled ∙ ap (λ (t : List ℕ). l.text ++ t) none;
    whole = l.whole;
    stays = lost-stays line.session server l.more l.held line.requests line.stage l.stays;
  }

  -- it is told that its bytes went wrong
  pub fault-line : line.stage ≡ stages.Idle → line.requests.waiting ≡ [] → line.requests.failed ≡ true
      → IsLine records server taken given (record line { unsent = line.unsent ++ protocol_text; stage = stages.Broken })
  fault-line idle none_wait failed =
      let rests : IsResting line.session server l.more l.held = stays-at stages.Idle idle in
      record {
        found = l.found;
        told = l.told;
        more = l.more;
        answered = l.answered;
        held = l.held;
        text = l.text;
        looked_at = l.looked_at;
        passed_over = l.passed_over;
        joined = l.joined;
        bytes = l.bytes;
        none_passed = λ goes. absurd (true≢false goes);
        stands = l.stands;
        tells = l.tells;
        spelled = sym (append_assoc given line.unsent protocol_text) ∙ ap (λ (t : List ℕ). t ++ protocol_text) (sym (spelled-at stages.Idle idle refl));
        whole = l.whole;
        stays = (rests, failed, none_wait);
      }

  -- its first bytes are sent
  pub sent-line : (count : ℕ) → IsLine records server taken (given ++ take count line.unsent) (record line { unsent = drop count line.unsent })
  sent-line count = record {
    found = l.found;
    told = l.told;
    more = l.more;
    answered = l.answered;
    held = l.held;
    text = l.text;
    looked_at = l.looked_at;
    passed_over = l.passed_over;
    joined = l.joined;
    bytes = l.bytes;
    none_passed = l.none_passed;
    stands = l.stands;
    tells = l.tells;
    spelled = append_assoc given (take count line.unsent) (drop count line.unsent) ∙ ap (λ (t : List ℕ). given ++ t) (take-append-drop count line.unsent) ∙ l.spelled;
    whole = l.whole;
    stays = l.stays;
  }

  -- a piece is taken
  fed-stays : (session : ℕ) (more : List Recorded) (held : List Words) (old next : Progress) (stage : Stage) → is_ended stage ≡ false
      → Stays session server more held old stage → Stays session server more held next stage
  fed-stays session more held old next stages.Idle goes stays = stays
  fed-stays session more held old next stages.Waiting goes stays = stays
  fed-stays session more held old next (stages.Asks asked) goes stays = stays
  fed-stays session more held old next (stages.Judges judging) goes stays = stays
  fed-stays session more held old next stages.Broken goes stays = absurd (true≢false goes)
  fed-stays session more held old next stages.CutOff goes stays = absurd (true≢false goes)

  pub fed-line : (piece : List ℕ) (next : Progress) → is_ended line.stage ≡ false
      → ((taken : List ℕ) (given : List Words) → Stands taken given line.requests → Stands (taken ++ piece) given next)
      → IsLine records server (taken ++ piece) given (record line { requests = next })
  fed-line piece next goes advances = record {
    found = l.found;
    told = l.told;
    more = l.more;
    answered = l.answered;
    held = l.held;
    text = l.text;
    looked_at = taken ++ piece;
    passed_over = [];
    joined = l.joined;
    bytes = sym (append-nil (taken ++ piece));
    none_passed = λ still. refl;
    stands = advances taken (l.answered ++ l.held)
        (subst (λ (b : List ℕ). Stands b (l.answered ++ l.held) line.requests) (all-looked records server taken given line l goes) l.stands);
    tells = l.tells;
    spelled = l.spelled;
    whole = l.whole;
    stays = fed-stays line.session l.more l.held line.requests next line.stage goes l.stays;
  }

  -- a piece is passed over
  passed-bytes : (piece : List ℕ) → taken ++ piece ≡ l.looked_at ++ (l.passed_over ++ piece)
  passed-bytes piece = ap (λ (b : List ℕ). b ++ piece) l.bytes ∙ append_assoc l.looked_at l.passed_over piece

  pub ended-line : (piece : List ℕ) → is_ended line.stage ≡ true → IsLine records server (taken ++ piece) given line
  ended-line piece ended = record {
    found = l.found;
    told = l.told;
    more = l.more;
    answered = l.answered;
    held = l.held;
    text = l.text;
    looked_at = l.looked_at;
    passed_over = l.passed_over ++ piece;
    joined = l.joined;
    bytes = passed-bytes piece;
    none_passed = λ goes. absurd (true≢false (sym ended ∙ goes));
    stands = l.stands;
    tells = l.tells;
    spelled = l.spelled;
    whole = l.whole;
    stays = l.stays;
  }

  -- a piece is refused, and it is cut off
  pub unfed-line : (piece : List ℕ) (looked : ℕ) → is_ended line.stage ≡ false
      → IsLine records server (taken ++ piece) given (record line { requests = record line.requests { looked = looked }; stage = stages.CutOff })
  unfed-line piece looked goes = record {
    found = l.found;
    told = l.told;
    more = l.more;
    answered = l.answered;
    held = l.held;
    text = l.text;
    looked_at = l.looked_at;
    passed_over = l.passed_over ++ piece;
    joined = l.joined;
    bytes = passed-bytes piece;
    none_passed = λ still. absurd (true≢false still);
    stands = record { rest = l.stands.rest; stream = l.stands.stream; end = l.stands.end };
    tells = l.tells;
    spelled = l.spelled ∙ ap (λ (t : List ℕ). l.text ++ t) (no_last line.stage goes);
    whole = l.whole;
    stays = lost-stays line.session server l.more l.held line.requests line.stage l.stays;
  }
    where
      no_last : (stage : Stage) → is_ended stage ≡ false → last_text stage ≡ []
      no_last stages.Idle goes = refl
      no_last stages.Waiting goes = refl
      no_last (stages.Asks asked) goes = refl
      no_last (stages.Judges judging) goes = refl
      no_last stages.Broken goes = absurd (true≢false goes)
      no_last stages.CutOff goes = refl

  -- it waits, and its letter is told
  pub lettered-line : (given_to : Given) → line.stage ≡ stages.Waiting → HasNone line.session server → letter_of line.session server.sessions ≡ Some given_to
      → IsLine records server taken given (record line { unsent = line.unsent ++ reply_text given_to.reply; stage = stages.Idle })
  lettered-line given_to is none letter = by (waits.stands)
    where
      waits : IsWaitingFor line.session server l.more l.held
      waits = stays-at stages.Waiting is

      begun : IsBegun waits.words records taken given line
      begun = IsBegun-line waits.words records server taken given line l waits.one (ap is_ended is) (ap last_text is)

      After : List Recorded → Type 0
      After r = IsLine r server taken given (record line { unsent = line.unsent ++ reply_text given_to.reply; stage = stages.Idle })

      by : ((has_session line.session server.waiting ≡ true) × (addressed line.session l.more ≡ []))
          ⊎ ((other : Given) × (has_session line.session server.waiting ≡ false)
          × (letter_of line.session server.sessions ≡ Some other) × (addressed line.session l.more ≡ other.reply ∷ []))
          → After records
      by (inl there) = absurd (let it : Some given_to ≡ None = sym letter ∙ none there.0 in cc)
      by (inr told) =
          let both : Some told.0 ≡ Some given_to = sym told.2 ∙ letter in
          let same : told.0 ≡ given_to = cc in
          let is_told : IsAnsweredInRecords line.session l.told waits.words (reply_text given_to.reply) (records ++ []) =
          replied (commands.Call waits.call) given_to.reply l.more waits.is refl (append-nil records ∙ l.whole) waits.said (told.3 ∙ ap (λ (g : Given). g.reply ∷ []) same) in
          subst After (append-nil records)
          (told-line waits.words records taken given line begun [] server (reply_text given_to.reply) is_told (record { opened = waits.opened; absent = told.1 }))
