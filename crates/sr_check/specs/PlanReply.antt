-- How a verdict is replied.
-- Source: docs/COMMANDS.md, RECOVER.PLAN and RECOVER.RUN.

use Rattle.std.specs.Prelude.{ℕ, ◌+◌, pos, List, [], ◌∷◌, ◌++◌, map, codes, Bool, true, false, if◌then◌else◌}
use Rattle.sr_ids.specs.declared.id.Id.{Id}
use Rattle.sr_ids.specs.{spelling}
use Rattle.sr_policy.specs.declared.live.Live.{Live}
use Rattle.sr_policy.specs.{problem_of, room_at, Text, SnapshotState}
use Rattle.sr_resp.specs.Reply.{ReplyParts, array_of, bulk_string, integer}
use Rattle.sr_transport.specs.Certificate.{is_reached, places_of}
use Rattle.sr_transport.specs.{Tiered}
use Rattle.sr_check.specs.PlanAnswer.{PlanAnswer, best, short, id_at, moves_of, prices_by}

abbrev pub id_answer : Id → ReplyParts
id_answer id = bulk_string (spelling id)

-- [id, consumer]
abbrev pub move_answer : Id × Text → ReplyParts
move_answer move = array_of (id_answer move.0 ∷ bulk_string move.1 ∷ [])

-- [consumer, price], or [consumer, price, price] for one with two tiers
abbrev pub price_answer : Text × List ℕ → ReplyParts
price_answer share = array_of (bulk_string share.0 ∷ map (λ price. integer (pos price)) share.1)

-- [consumer, room]
abbrev pub share_answer : Text × ℕ → ReplyParts
share_answer share = array_of (bulk_string share.0 ∷ integer (pos share.1) ∷ [])

-- whether the plan was carried out
abbrev pub plan_word : Bool → List ℕ
plan_word true = codes "done"
plan_word false = codes "plan"

-- the names of consumers and their rooms, of those from number c on that some entry of the set is allowed
abbrev pub reached_from : Tiered → List ℕ → ℕ → List Live → List (Text × ℕ)
reached_from p set c [] = []
reached_from p set c (consumer ∷ live) =
    (if is_reached p set c then (consumer.name, room_at consumer) ∷ [] else [])
    ++ reached_from p set (c + 1) live

-- the ids of the entries that are gone
abbrev pub gone_answer : SnapshotState → ReplyParts
gone_answer shown = array_of (map (λ gone. id_answer gone.0) shown.gone)

-- [plan or done, total, moves, prices, gone]; or [none, the entries without places, the rooms of those that they are
-- allowed, places]
abbrev pub verdict_answer : SnapshotState → PlanAnswer → Bool → ReplyParts
verdict_answer shown (best assign prices total) applied = array_of (
    bulk_string (plan_word applied)
    ∷ integer (pos total)
    ∷ array_of (map move_answer (moves_of shown assign))
    ∷ array_of (map price_answer (prices_by shown.live prices))
    ∷ gone_answer shown
    ∷ [])
verdict_answer shown (short set) applied = array_of (
    bulk_string (codes "none")
    ∷ array_of (map (λ i. id_answer (id_at shown.stranded i)) set)
    ∷ array_of (map share_answer (reached_from (problem_of shown) set 0 shown.live))
    ∷ integer (pos (places_of (problem_of shown) set))
    ∷ [])
