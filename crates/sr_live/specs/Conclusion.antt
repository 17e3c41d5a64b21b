-- How Redis is asked to carry out a plan, and what it answers: a script is called by its digest, and by its text if
-- Redis does not have it.
-- Source: Redis documentation, commands EVALSHA and EVAL.

use Rattle.std.specs.Prelude.{◌≡◌, ◌⊎◌, ℕ, List, [], ◌∷◌, ◌++◌, Option, codes, pos}
use Rattle.hex.specs.Hex.{encode_lower}
use Rattle.sha1.specs.Sha1.{sha1}
use Rattle.sr_policy.specs.{Text}
use Rattle.sr_peer.specs.{Part, Array, Bulk, Int, request_text}
use Rattle.sr_peer.specs.Exchange.{SendsPart}
use Rattle.sr_peer.specs.Reply as wire
use Rattle.sr_live.specs.declared.conclusion.Concluded.{Concluded}
use Rattle.sr_live.specs.declared.conclusion.Concluded.TheVariants.{Done, Stale}
use Rattle.sr_live.specs.declared.fault.LiveCall.TheVariants.{Script}
use Rattle.sr_live.specs.declared.fault.LiveFault.{LiveFault}
use Rattle.sr_live.specs.declared.fault.LiveFault.TheVariants.{Memory, ErrorReply, Shape, Unknown}
use Rattle.sr_live.specs.declared.script.TheConstants.{SCRIPT}
use Rattle.sr_live.specs.Looking.{Exchange, Talks}

-- the text of the script, and what Redis knows it by: its SHA-1 digest in hexadecimal digits
unfoldable pub script_text : Text
script_text = SCRIPT.now

unfoldable pub script_digest : Text
script_digest = encode_lower (sha1 script_text)

-- a script is called by a word and what names it, for one key, with these words
abbrev pub script_call : Text → Text → Text → List Text → List Text
script_call by script key words = by ∷ script ∷ codes "1" ∷ key ∷ words

abbrev pub digest_call : Text → List Text → List Text
digest_call key words = script_call (codes "EVALSHA") script_digest key words

abbrev pub text_call : Text → List Text → List Text
text_call key words = script_call (codes "EVAL") script_text key words

-- the reply is an error of this text
abbrev pub SaysError : List Part → Text → Type 0
SaysError parts text = (rest : List Part) × (parts ≡ wire.Error text ∷ rest)

-- the reply is that Redis does not have the script
abbrev pub SaysMissing : List Part → Type 0
SaysMissing parts = (rest : Text) × SaysError parts (codes "NOSCRIPT" ++ rest)

-- the script is called with these words, after these calls: after none by its digest; or by its text, after Redis
-- replied to the digest that it does not have it
abbrev pub IsCalled : Text → List Text → List Exchange → List Text → Type 0
IsCalled key words before call =
    ((before ≡ []) × (call ≡ digest_call key words))
    ⊎ ((missing : List Part) × SaysMissing missing × (before ≡ (digest_call key words, missing) ∷ [])
    × (call ≡ text_call key words))

-- the reply says that the plan was carried out, how many entries were claimed, and the gap; or that nothing was
-- changed, and why
abbrev pub SaysConcluded : List Part → Concluded → Type 0
SaysConcluded parts (Done claimed gap) =
    parts ≡ Array 3 ∷ Bulk (codes "done") ∷ Int (pos claimed) ∷ Int (pos gap) ∷ []
SaysConcluded parts (Stale what of) = parts ≡ Array 3 ∷ Bulk (codes "stale") ∷ Bulk what ∷ Bulk of ∷ []

-- the reply is neither a conclusion nor an error
pub record SaysNothing (parts : List Part) : Type 0 where
  pub no_conclusion : (concluded : Concluded) → SaysConcluded parts concluded → ⊥
  pub no_error : (text : Text) → SaysError parts text → ⊥

-- this call of the script brought no conclusion, for this reason: nothing of it was sent; some of it was, perhaps all,
-- and no whole reply was read; or the reply is an error, or neither that nor a conclusion
abbrev pub IsUnanswered : List Text → Option (List ℕ) → Option (List ℕ) → Option (List ℕ) → Option (List ℕ) → LiveFault
    → Type 0
IsUnanswered call sent got sent_then got_then Memory = Talks sent got sent_then got_then []
IsUnanswered call sent got sent_then got_then (Unknown fault) = SendsPart sent sent_then (request_text call)
IsUnanswered call sent got sent_then got_then (ErrorReply Script text) =
    (parts : List Part) × Talks sent got sent_then got_then ((call, parts) ∷ []) × SaysError parts text
IsUnanswered call sent got sent_then got_then (Shape Script) =
    (parts : List Part) × Talks sent got sent_then got_then ((call, parts) ∷ []) × SaysNothing parts
IsUnanswered call sent got sent_then got_then fault = ⊥

-- the script was called with these words after none or one other call, and no conclusion came
pub record HasNoConclusion (key : Text) (words : List Text) (sent got sent_then got_then : Option (List ℕ))
    (fault : LiveFault) : Type 0 where
  pub sent_by_then : Option (List ℕ)
  pub got_by_then : Option (List ℕ)
  pub before : List Exchange
  pub call : List Text
  pub called : IsCalled key words before call
  pub talks : Talks sent got sent_by_then got_by_then before
  pub unanswered : IsUnanswered call sent_by_then got_by_then sent_then got_then fault
