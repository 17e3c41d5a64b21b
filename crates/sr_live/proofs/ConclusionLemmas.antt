-- What comes of a call of the script, and of the two by which it is called.
use Rattle.std.proofs.Common.{◌≡◌, ℕ, List, [], ◌∷◌, ◌++◌, codes, IfErr, IfOk, Option, Result, Ok, Err, ap, inl, inr, refl}
use Rattle.std.proofs.Common.{append-nil, subst, sym}
use Rattle.std.proofs.lemmas.Result.{IfErr-weaker, IfOk-at_ok, IfOk-weaker, err_from_is_err_and}
use Rattle.std.specs.Io.KnownBytes.{Appends}
use Rattle.std.specs.Result.{IsErrAnd}
use Rattle.sr_policy.specs.{Text}
use Rattle.sr_peer.specs.{Part, request_text}
use Rattle.sr_peer.specs.Exchange.{SendsPart}
use Rattle.sr_peer.specs.declared.peer.PeerFault.{PeerFault}
use Rattle.sr_live.specs.declared.conclusion.Concluded.{Concluded}
use Rattle.sr_live.specs.declared.fault.LiveCall.TheVariants.{Script}
use Rattle.sr_live.specs.declared.fault.LiveFault.{LiveFault}
use Rattle.sr_live.specs.declared.fault.LiveFault.TheVariants as fault
use Rattle.sr_live.specs.declared.said.Misread.{Misread}
use Rattle.sr_live.specs.declared.said.Misread.TheVariants.{ErrorReply, Memory, Shape}
use Rattle.sr_live.specs.Conclusion.{HasNoConclusion, IsCalled, IsUnanswered, SaysConcluded, digest_call, text_call}
use Rattle.sr_live.specs.Looking.{Exchange, Talks}
use Rattle.sr_live.specs.steps.Misread.{Conclude, IsMisread, IsToldBy, fault_of}
use Rattle.sr_live.proofs.ReadingLemmas.{sends-whole}
use Rattle.sr_live.proofs.TalkLemmas.{Talks-none, Talks-trans}

-- the call and the reply say this
abbrev pub IsSaid : List Text → Option (List ℕ) → Option (List ℕ) → Option (List ℕ) → Option (List ℕ) → Concluded → Type 0
IsSaid call sent got sent_then got_then concluded =
    (parts : List Part) × Talks sent got sent_then got_then ((call, parts) ∷ []) × SaysConcluded parts concluded

-- the script was called, after none or one other call, and the reply says this
abbrev pub IsSaidLast : Text → List Text → Option (List ℕ) → Option (List ℕ) → Option (List ℕ) → Option (List ℕ)
    → Concluded → Type 0
IsSaidLast key words sent got sent_then got_then concluded =
    (before : List Exchange) × (call : List Text) × (parts : List Part) × IsCalled key words before call
    × Talks sent got sent_then got_then (before ++ (call, parts) ∷ []) × SaysConcluded parts concluded

module _ (call : List Text) (sent got sent_then got_then : Option (List ℕ)) where
  -- a part of the request was sent
  pub unanswered-part : (why : PeerFault) (request : List ℕ) → request ≡ request_text call
      → SendsPart sent sent_then request → IsUnanswered call sent got sent_then got_then (fault.Unknown why)
  unanswered-part why request is part = subst (SendsPart sent sent_then) is part

  -- a reply says nothing
  unanswered-misread : (parts : List Part) (misread : Misread) → Talks sent got sent_then got_then ((call, parts) ∷ [])
      → IsMisread (Conclude parts) parts misread → IsUnanswered call sent got sent_then got_then (fault_of misread)
  unanswered-misread parts Memory talks says =
      sends-whole sent sent_then (request_text call)
      (subst (Appends sent sent_then) (append-nil (request_text call)) talks.asked)
  unanswered-misread parts (ErrorReply text) talks says = (parts, talks, says)
  unanswered-misread parts Shape talks (no_conclusion, no_error) = (
    parts,
    talks,
    record { no_conclusion = λ concluded says. no_conclusion (concluded, says); no_error = no_error },
  )

  pub unanswered-said : (parts : List Part) (said : Result Concluded Misread) (told : LiveFault)
      → Talks sent got sent_then got_then ((call, parts) ∷ []) → IfErr said (IsMisread (Conclude parts) parts)
      → IsToldBy said told
      → IsUnanswered call sent got sent_then got_then told
  unanswered-said parts (Ok concluded) told talks says is = absurd is
  unanswered-said parts (Err misread) told talks says is =
      subst (IsUnanswered call sent got sent_then got_then) (sym is) (unanswered-misread parts misread talks says)

  pub unanswered-result : (parts : List Part) → Talks sent got sent_then got_then ((call, parts) ∷ [])
      → (said : Result Concluded Misread) (told : Result Concluded LiveFault) → IfErr told (IsToldBy said)
      → IfErr said (IsMisread (Conclude parts) parts) → IfErr told (IsUnanswered call sent got sent_then got_then)
  unanswered-result parts talks said told is says =
      IfErr-weaker told (IsToldBy said) _ (λ one by_said. unanswered-said parts said one talks says by_said) is

  -- a reply says something
  pub said-known : (parts : List Part) → Talks sent got sent_then got_then ((call, parts) ∷ [])
      → (said : Result Concluded Misread) (told : Result Concluded LiveFault)
      → IfOk told (λ concluded. said ≡ Ok concluded) → IfOk said (SaysConcluded parts)
      → IfOk told (IsSaid call sent got sent_then got_then)
  said-known parts talks said told is says =
      IfOk-weaker told (λ concluded. said ≡ Ok concluded) _
      (λ concluded same. (parts, talks, IfOk-at_ok (SaysConcluded parts) same says)) is

-- without memory for the request nothing is sent
pub unanswered-memory : (call : List Text) (sent got : Option (List ℕ)) (result : Result Concluded LiveFault)
    → IsErrAnd result (λ told. told ≡ fault.Memory) → IfErr result (IsUnanswered call sent got sent got)
unanswered-memory call sent got result is =
    let told = err_from_is_err_and result is in
    subst (λ (r : Result Concluded LiveFault). IfErr r (IsUnanswered call sent got sent got)) (sym told.1)
    (subst (IsUnanswered call sent got sent got) (sym told.2) (Talks-none sent got))

-- by its digest
module _ (key : Text) (words call : List Text) (is : call ≡ digest_call key words)
    (sent got sent_then got_then : Option (List ℕ)) where
  pub first-said : (result : Result Concluded LiveFault) → IfOk result (IsSaid call sent got sent_then got_then)
      → IfOk result (IsSaidLast key words sent got sent_then got_then)
  first-said result =
      IfOk-weaker result _ _ (λ concluded (parts, talks, says). ([], call, parts, inl (refl, is), talks, says))

  first-unsaid : (told : LiveFault) → IsUnanswered call sent got sent_then got_then told
      → HasNoConclusion key words sent got sent_then got_then told
  first-unsaid told unanswered = record {
    sent_by_then = sent;
    got_by_then = got;
    before = [];
    call = call;
    called = inl (refl, is);
    talks = Talks-none sent got;
    unanswered = unanswered;
  }

  pub first-failed : (result : Result Concluded LiveFault)
      → IfErr result (IsUnanswered call sent got sent_then got_then)
      → IfErr result (HasNoConclusion key words sent got sent_then got_then)
  first-failed result = IfErr-weaker result _ _ first-unsaid

-- without memory for its digest
pub failed-memory : (key : Text) (words : List Text) (sent got : Option (List ℕ)) (result : Result Concluded LiveFault)
    → IsErrAnd result (λ told. told ≡ fault.Memory) → IfErr result (HasNoConclusion key words sent got sent got)
failed-memory key words sent got result is =
    let call = digest_call key words in
    first-failed key words call refl sent got sent got result (unanswered-memory call sent got result is)

-- by its text, after Redis replied that it does not have it
module _ (key : Text) (words first second : List Text) (is : first ≡ digest_call key words)
    (then : second ≡ text_call key words) (sent got sent_then got_then : Option (List ℕ)) (rest : Text)
    (before : IsUnanswered first sent got sent_then got_then (fault.ErrorReply Script (codes "NOSCRIPT" ++ rest)))
    (sent_last got_last : Option (List ℕ)) where
  abbrev missing : List Exchange
  missing = (first, before.0) ∷ []

  called-second : IsCalled key words missing second
  called-second =
      inr (before.0, (rest, before.2), ap (λ (call : List Text). (call, before.0) ∷ []) is, then)

  pub second-said : (result : Result Concluded LiveFault)
      → IfOk result (IsSaid second sent_then got_then sent_last got_last)
      → IfOk result (IsSaidLast key words sent got sent_last got_last)
  second-said result =
      IfOk-weaker result _ _ (λ concluded (parts, talks, says). (
        missing,
        second,
        parts,
        called-second,
        Talks-trans sent got sent_then got_then sent_last got_last missing ((second, parts) ∷ []) before.1 talks,
        says,
      ))

  pub second-failed : (result : Result Concluded LiveFault)
      → IfErr result (IsUnanswered second sent_then got_then sent_last got_last)
      → IfErr result (HasNoConclusion key words sent got sent_last got_last)
  second-failed result =
      IfErr-weaker result _ _ (λ told unanswered. record {
        sent_by_then = sent_then;
        got_by_then = got_then;
        before = missing;
        call = second;
        called = called-second;
        talks = before.1;
        unanswered = unanswered;
      })
