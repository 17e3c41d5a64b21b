-- What a round makes, what came of all rounds, and what is known after a fault.
-- Source: docs/LIVE.md.

use Rattle.std.specs.Prelude.{⊤, ◌≡◌, ◌⊎◌, ℕ, zero, suc, ◌+◌, ◌<◌, ◌≤◌, List, [], ◌∷◌, ◌++◌, length, Option, Some, None}
use Rattle.sr_ids.specs.declared.id.Id.{Id}
use Rattle.sr_check.specs.PlanAnswer.{short}
use Rattle.sr_policy.specs.{Text}
use Rattle.sr_policy.specs.Rules.{Rules}
use Rattle.sr_policy.specs.Snapshot.{IsSnapshot}
use Rattle.sr_peer.specs.{Part}
use Rattle.sr_live.specs.declared.conclusion.Concluded.{Concluded}
use Rattle.sr_live.specs.declared.conclusion.Concluded.TheVariants as concluded
use Rattle.sr_live.specs.declared.fault.LiveFault.{LiveFault}
use Rattle.sr_live.specs.declared.fault.LiveFault.TheVariants.{Changed, Unfit}
use Rattle.sr_live.specs.declared.looked.Asked.{Asked}
use Rattle.sr_live.specs.declared.looked.Row.{Row}
use Rattle.sr_live.specs.declared.rounds.Planned.{Planned}
use Rattle.sr_live.specs.declared.rounds.Ran.{Ran}
use Rattle.sr_live.specs.declared.rounds.Ran.TheVariants.{Done, Impossible, Stale}
use Rattle.sr_live.specs.declared.rounds.Terms.{Terms}
use Rattle.sr_live.specs.Conclusion.{IsCalled, IsUnanswered, SaysConcluded}
use Rattle.sr_live.specs.Looked.{shown_of}
use Rattle.sr_live.specs.Looking.{Exchange, IsLooked, Talks}
use Rattle.sr_live.specs.Reading.{BreaksOff}
use Rattle.sr_live.specs.Spare.{in_64_bits, with_spare, worth_by}
use Rattle.sr_live.specs.Words.{last_word, words_for}

-- this was looked up in this talk, and the verdict is of the snapshot of it, with lower limits where places are to be
-- left free
pub record IsPlanned (rules : Rules) (asked : Asked) (at_most : Option ℕ) (talk : List Exchange) (planned : Planned)
    : Type 0 where
  pub looked : IsLooked asked at_most talk planned.looked.idles.items planned.looked.numbers.items
      planned.looked.rows.items planned.looked.last planned.looked.removed
  pub live : planned.live.items ≡ (shown_of rules asked planned.looked.idles.items planned.looked.numbers.items
      planned.looked.rows.items).live
  pub snapshot : planned.verdict.snapshot ≡ with_spare asked.spare (shown_of rules asked planned.looked.idles.items
      planned.looked.numbers.items planned.looked.rows.items)
  pub worth : planned.worth
      ≡ worth_by asked.spare planned.live.items planned.verdict.snapshot planned.verdict.answer

-- what was looked up in this talk is of no one moment: it makes no snapshot
pub record HasChanged (rules : Rules) (asked : Asked) (at_most : Option ℕ) (talk : List Exchange) : Type 0 where
  pub idles : List (Text × ℕ)
  pub numbers : List (Text × ℕ)
  pub rows : List Row
  pub last : Option Id
  pub removed : ℕ
  pub looked : IsLooked asked at_most talk idles numbers rows last removed
  pub none : IsSnapshot (shown_of rules asked idles numbers rows) → ⊥

abbrev pub IsJudged : Rules → Asked → Option ℕ → List Exchange → Option Planned → Type 0
IsJudged rules asked at_most talk None = HasChanged rules asked at_most talk
IsJudged rules asked at_most talk (Some planned) = IsPlanned rules asked at_most talk planned

-- the gap at which a plan may be carried out: what was asked for, beside what free places may come to be worth
abbrev pub within_of : Terms → Planned → ℕ
within_of terms planned = in_64_bits (terms.within + planned.worth)

-- a round up to this call of its script: the plan is of what was looked up, and the words are exactly those of the plan
pub record IsReady (rules : Rules) (asked : Asked) (terms : Terms) (talk : List Exchange) (planned : Planned)
    (call : List Text) : Type 0 where
  pub look : List Exchange
  pub before : List Exchange
  pub words : List Text
  pub planned_so : IsPlanned rules asked terms.at_most look planned
  pub are_words : words_for planned.verdict.snapshot.group (within_of terms planned) (last_word planned.looked.last)
      asked.claimable planned.looked.removed planned.looked.rows.items planned.live.items planned.verdict.snapshot
      planned.verdict.answer ≡ Some words
  pub called : IsCalled asked.key words before call
  pub spelled : talk ≡ look ++ before

-- a round whose last reply, to the call of the script, says this
pub record IsConcluded (rules : Rules) (asked : Asked) (terms : Terms) (talk : List Exchange) (planned : Planned)
    (told : Concluded) : Type 0 where
  pub first : List Exchange
  pub call : List Text
  pub parts : List Part
  pub ready : IsReady rules asked terms first planned call
  pub says : SaysConcluded parts told
  pub spelled : talk ≡ first ++ (call, parts) ∷ []

-- all entries of the plan were claimed, and the gap is one at which it may be carried out
pub record FitsPlan (terms : Terms) (planned : Planned) (claimed gap : ℕ) : Type 0 where
  pub whole : claimed ≡ length planned.verdict.snapshot.stranded
  pub within : gap ≤ within_of terms planned

-- the plan was carried out
pub record IsDone (rules : Rules) (asked : Asked) (terms : Terms) (talk : List Exchange) (planned : Planned)
    (claimed gap : ℕ) : Type 0 where
  pub concluded : IsConcluded rules asked terms talk planned (concluded.Done claimed gap)
  pub fits : FitsPlan terms planned claimed gap

-- there is no plan for what was looked up: too few places, without those that are to be left free
pub record IsImpossible (rules : Rules) (asked : Asked) (at_most : Option ℕ) (talk : List Exchange) (planned : Planned)
    : Type 0 where
  pub planned_so : IsPlanned rules asked at_most talk planned
  pub set : List ℕ
  pub shortage : planned.verdict.answer ≡ short set

-- the group is not as it was looked up, and nothing was carried out
pub record IsStale (rules : Rules) (asked : Asked) (terms : Terms) (talk : List Exchange) (what of : Text) : Type 0
  where
    pub planned : Planned
    pub concluded : IsConcluded rules asked terms talk planned (concluded.Stale what of)

-- what one round made; nothing, if what was looked up is of no one moment
abbrev pub HasMade : Rules → Asked → Terms → List Exchange → Option Ran → Type 0
HasMade rules asked terms talk None = HasChanged rules asked terms.at_most talk
HasMade rules asked terms talk (Some (Done planned claimed gap)) = IsDone rules asked terms talk planned claimed gap
HasMade rules asked terms talk (Some (Impossible planned)) = IsImpossible rules asked terms.at_most talk planned
HasMade rules asked terms talk (Some (Stale what of)) = IsStale rules asked terms talk what of

-- nothing was carried out in this round, and another one may come
abbrev pub IsPassed : Rules → Asked → Terms → List Exchange → Type 0
IsPassed rules asked terms talk =
    HasChanged rules asked terms.at_most talk ⊎ ((what : Text) × (of : Text) × IsStale rules asked terms talk what of)

-- this many such rounds, one after another
abbrev pub ArePassed : Rules → Asked → Terms → ℕ → List Exchange → Type 0
ArePassed rules asked terms zero talk = talk ≡ []
ArePassed rules asked terms (suc tried) talk =
    (earlier : List Exchange) × (last : List Exchange) × ArePassed rules asked terms tried earlier
    × IsPassed rules asked terms last × (talk ≡ earlier ++ last)

abbrev pub EndsAll : Ran → ℕ → ℕ → Type 0
EndsAll (Stale what of) rounds tries = rounds ≡ tries
EndsAll ran rounds tries = rounds ≤ tries

-- since these bytes: rounds in which nothing was carried out, and one that made this. They are at most as many as were
-- asked for, and as many if it is stale
pub record HasRun (rules : Rules) (asked : Asked) (terms : Terms) (sent got sent_then got_then : Option (List ℕ))
    (ran : Ran) : Type 0 where
  pub tried : ℕ
  pub earlier : List Exchange
  pub last : List Exchange
  pub passed : ArePassed rules asked terms tried earlier
  pub made : HasMade rules asked terms last (Some ran)
  pub rounds : EndsAll ran (tried + 1) terms.tries
  pub talks : Talks sent got sent_then got_then (earlier ++ last)

-- ---- faults

-- why there is no plan: looking the group up broke off, or what was looked up is of no one moment
abbrev pub HasNoPlan : Rules → Asked → Option ℕ → Option (List ℕ) → Option (List ℕ) → Option (List ℕ)
    → Option (List ℕ) → LiveFault → Type 0
HasNoPlan rules asked at_most sent got sent_then got_then fault =
    BreaksOff sent got sent_then got_then fault
    ⊎ ((fault ≡ Changed) × ((talk : List Exchange) × Talks sent got sent_then got_then talk
    × HasChanged rules asked at_most talk))

-- a round that came as far as this call of its script, which brought no conclusion
pub record BreaksAtScript (rules : Rules) (asked : Asked) (terms : Terms)
    (sent got sent_then got_then : Option (List ℕ)) (fault : LiveFault) : Type 0 where
  pub sent_by_then : Option (List ℕ)
  pub got_by_then : Option (List ℕ)
  pub talk : List Exchange
  pub planned : Planned
  pub call : List Text
  pub ready : IsReady rules asked terms talk planned call
  pub talks : Talks sent got sent_by_then got_by_then talk
  pub unanswered : IsUnanswered call sent_by_then got_by_then sent_then got_then fault

-- a round whose script says that it carried out something else than the plan
pub record IsUnfit (rules : Rules) (asked : Asked) (terms : Terms) (sent got sent_then got_then : Option (List ℕ))
    (fault : LiveFault) : Type 0 where
  pub talk : List Exchange
  pub planned : Planned
  pub claimed : ℕ
  pub gap : ℕ
  pub concluded : IsConcluded rules asked terms talk planned (concluded.Done claimed gap)
  pub unfit : FitsPlan terms planned claimed gap → ⊥
  pub talks : Talks sent got sent_then got_then talk
  pub told : fault ≡ Unfit

-- why a round made nothing. Before its script is called, nothing was sent but calls that change nothing
abbrev pub HasBroken : Rules → Asked → Terms → Option (List ℕ) → Option (List ℕ) → Option (List ℕ) → Option (List ℕ)
    → LiveFault → Type 0
HasBroken rules asked terms sent got sent_then got_then fault =
    BreaksOff sent got sent_then got_then fault
    ⊎ (BreaksAtScript rules asked terms sent got sent_then got_then fault
    ⊎ IsUnfit rules asked terms sent got sent_then got_then fault)

-- what was looked up in the last of this many rounds is of no one moment, if there was one
abbrev pub EndsChanged : Rules → Asked → Terms → ℕ → List Exchange → Type 0
EndsChanged rules asked terms zero talk = ⊤
EndsChanged rules asked terms (suc tried) talk =
    (earlier : List Exchange) × (last : List Exchange) × HasChanged rules asked terms.at_most last
    × (talk ≡ earlier ++ last)

-- since these bytes: rounds in which nothing was carried out, and a fault in the next one; or all rounds that were
-- asked for, and what was looked up last is of no one moment
pub record HasFailed (rules : Rules) (asked : Asked) (terms : Terms) (sent got sent_then got_then : Option (List ℕ))
    (fault : LiveFault) : Type 0 where
  pub tried : ℕ
  pub earlier : List Exchange
  pub sent_by_then : Option (List ℕ)
  pub got_by_then : Option (List ℕ)
  pub passed : ArePassed rules asked terms tried earlier
  pub talks : Talks sent got sent_by_then got_by_then earlier
  pub so : ((tried < terms.tries) × HasBroken rules asked terms sent_by_then got_by_then sent_then got_then fault)
      ⊎ ((tried ≡ terms.tries) × (fault ≡ Changed) × EndsChanged rules asked terms tried earlier
      × (sent_then ≡ sent_by_then) × (got_then ≡ got_by_then))
