-- The requests of one read: each is read in its turn, and then each is handed out to be carried out.
use Rattle.std.proofs.Common.{◌≡◌, ℕ, List, [], ◌∷◌, ◌++◌, length, refl, sym, ap, ◌∙◌, subst, append_assoc, arith}
use Rattle.std.specs.Prelude.{Result, Ok, Err, IfOk, IfErr}
use Rattle.sr_resp.specs.{Words, Progress}
use Rattle.sr_resp.specs.Stream.{Stands, Splits}
use Rattle.sr_args.specs.declared.fault.CallFault.{CallFault}
use Rattle.sr_args.specs.declared.call.Command.{Command}
use Rattle.sr_args.specs.{IsCommand, Refuses}
use Rattle.sr_session.specs.steps.Asked.{IsAsked, AreAsked}
use Rattle.sr_session.specs.steps.Underway.{IsAnswering}

-- the same stream with these requests waiting
abbrev pub with_waiting : List Words → Progress → Progress
with_waiting requests progress = record { waiting = requests; rest = progress.rest; failed = progress.failed; looked = progress.looked }

-- what was read of the words of one request
pub IsAsked-read : (words : Words) (one : Result Command CallFault) → IfOk one (IsCommand words) → IfErr one (Refuses words) → IsAsked words one
IsAsked-read words (Ok command) is refuses = is
IsAsked-read words (Err fault) is refuses = refuses

-- one request more is read
pub AreAsked-push : (requests : List Words) (asked : List (Result Command CallFault)) (words : Words) (one : Result Command CallFault)
    → AreAsked requests asked → IsAsked words one → AreAsked (requests ++ words ∷ []) (asked ++ one ∷ [])
AreAsked-push [] [] words one all is = (is, all)
AreAsked-push [] (other ∷ asked) words one all is = absurd all
AreAsked-push (first ∷ requests) [] words one all is = absurd all
AreAsked-push (first ∷ requests) (other ∷ asked) words one all is = (all.0, AreAsked-push requests asked words one all.1 is)

-- the first request of some
pub record Splits-first (requests : List Words) (one : Result Command CallFault) (asked : List (Result Command CallFault)) : Type 0 where
  pub words : Words
  pub others : List Words
  pub is : requests ≡ words ∷ others
  pub asks : IsAsked words one
  pub rest : AreAsked others asked

pub AreAsked-first : (requests : List Words) (one : Result Command CallFault) (asked : List (Result Command CallFault)) → AreAsked requests (one ∷ asked) → Splits-first requests one asked
AreAsked-first [] one asked all = absurd all
AreAsked-first (words ∷ others) one asked all = record { words = words; others = others; is = refl; asks = all.0; rest = all.1 }

pub AreAsked-none : (requests : List Words) (asked : List (Result Command CallFault)) → AreAsked requests asked → length asked ≡ 0 → requests ≡ []
AreAsked-none [] asked all none = refl
AreAsked-none (words ∷ requests) [] all none = absurd all
AreAsked-none (words ∷ requests) (one ∷ asked) all none = absurd (omega (arith, none))

-- the first request that waits is handed out
pub Stands-next : (progress : Progress) (words : Words) (others : List Words) → progress.waiting ≡ words ∷ others
    → (taken : List ℕ) (given : List Words) → Stands taken given progress → Stands taken (given ++ words ∷ []) (with_waiting others progress)
Stands-next progress words others is taken given stands = record {
  rest = stands.rest;
  stream = subst (λ (r : List Words). Splits taken r stands.rest) (ap (λ (r : List Words). given ++ r) is ∙ sym (append_assoc given (words ∷ []) others)) stands.stream;
  end = stands.end;
}

-- no request waits any more
pub IsAnswering-all : {S : Type 0} (Answers : S → Words → List ℕ → S → Type 0) (found : S) (taken written gathered : List ℕ) (sent : ℕ) (left : List Words) (progress : Progress) (now : S)
    → left ≡ [] → IsAnswering Answers found taken written gathered sent (with_waiting left progress) now → IsAnswering Answers found taken written gathered sent (with_waiting [] progress) now
IsAnswering-all Answers found taken written gathered sent left progress now none a =
    subst (λ (l : List Words). IsAnswering Answers found taken written gathered sent (with_waiting l progress) now) none a
