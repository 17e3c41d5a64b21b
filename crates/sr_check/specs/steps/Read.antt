-- What is read from the front of a text, and what is left of it. Only private clauses cite this.
-- Source: RESP2 protocol specification, "RESP protocol description".

use Rattle.std.specs.Prelude.{◌≡◌, ℕ, ◌+◌, ◌<◌, ◌^◌, pos, Bool, true, false}
use Rattle.std.specs.Prelude.{List, [], ◌∷◌, ◌++◌, All, decimal, length, map}
use Rattle.std.specs.List.{flat_map}
use Rattle.std.specs.List.Sorted.{IsStrictlyIncreasing}
use Rattle.sr_ids.specs.declared.id.Id.{Id}
use Rattle.sr_transport.specs.Certificate.{places_of}
use Rattle.sr_transport.specs.{Tiered}
use Rattle.sr_policy.specs.declared.live.Live.{Live}
use Rattle.sr_policy.specs.declared.stranded.Stranded.{Stranded}
use Rattle.sr_policy.specs.{problem_of, tier_count, Text, SnapshotState}
use Rattle.sr_resp.specs.{ReplyParts, Bulk, array_header, array_of, integer, reply_text}
use Rattle.sr_resp.specs.Reply.{Int, Array}
use Rattle.sr_resp.specs.steps.Decoding.{HasPart}
use Rattle.sr_check.specs.PlanAnswer.{AreTold, id_at, name_at}
use Rattle.sr_check.specs.PlanReply.{id_answer, move_answer, price_answer, reached_from, share_answer}

-- the text begins with this mark and this number in a line, and these bytes come after the line
pub record HasNumber (text : List ℕ) (sign n : ℕ) (after : List ℕ) : Type 0 where
  pub whole : text ≡ sign ∷ (decimal n ++ 13 ∷ 10 ∷ after)
  pub small : n < 2 ^ 64

-- the text begins with the spelling of these parts, and these bytes come after it
pub record Begins (text : List ℕ) (parts : ReplyParts) (after : List ℕ) : Type 0 where
  pub whole : text ≡ reply_text parts ++ after

-- the text begins with the move of the entry to the consumer with this number
pub record HasMove (live : List Live) (entry : Stranded) (text : List ℕ) (c : ℕ) (after : List ℕ) : Type 0 where
  pub is_live : c < length live
  pub named : length (name_at live c) < 2 ^ 64
  pub begins : Begins text (move_answer (entry.id, name_at live c)) after

-- the text begins with these prices of the consumer, one for each of its tiers
pub record HasPrices (consumer : Live) (text prices after : List ℕ) : Type 0 where
  pub each : length prices ≡ tier_count consumer
  pub told : AreTold prices
  pub begins : Begins text (price_answer (consumer.name, prices)) after

-- the text begins with the id of the entry; or it does not, and nothing of it is read
abbrev pub HasFlag : Stranded → List ℕ → Bool → List ℕ → Type 0
HasFlag entry text true after = Begins text (id_answer entry.id) after
HasFlag entry text false after = (text ≡ after) × ((others : List ℕ) → Begins text (id_answer entry.id) others → ⊥)

-- the text begins with what these keys have, one after another, which gives these values
abbrev pub AreRead : {K V : Type 0} → (K → List ℕ → V → List ℕ → Type 0) → List K → List ℕ → List V → List ℕ
    → Type 0
AreRead Has [] text [] after = text ≡ after
AreRead Has (key ∷ keys) text (value ∷ values) after =
    (between : List ℕ) × Has key text value between × AreRead Has keys between values after
AreRead Has [] text (value ∷ values) after = ⊥
AreRead Has (key ∷ keys) text [] after = ⊥

-- the same after the header of an array with an item for each key
pub record HasArray {K V : Type 0} (Has : K → List ℕ → V → List ℕ
    → Type 0) (keys : List K) (text : List ℕ) (values : List V) (after : List ℕ) : Type 0 where
  pub items : List ℕ
  pub header : Begins text (array_header (length keys)) items
  pub read : AreRead Has keys items values after

-- the text begins with an array of the prices of each consumer, which are these in turn
pub record ArePrices (live : List Live) (text prices after : List ℕ) : Type 0 where
  pub grouped : List (List ℕ)
  pub shares : HasArray HasPrices live text grouped after
  pub in_turn : prices ≡ flat_map (λ own. own) grouped

-- the ids of the entries that are gone
abbrev pub gone_ids : List (Id × Text) → ReplyParts
gone_ids gone = array_of (map (λ entry. id_answer entry.0) gone)

-- after the word, the text is this plan
pub record IsPlanText (shown : SnapshotState) (text assign prices : List ℕ) (total : ℕ) : Type 0 where
  pub moves_at : List ℕ
  pub prices_at : List ℕ
  pub gone_at : List ℕ
  pub cost : HasPart text (Int (pos total)) moves_at
  pub moves : HasArray (HasMove shown.live) shown.stranded moves_at assign prices_at
  pub shares : ArePrices shown.live prices_at prices gone_at
  pub gone : Begins gone_at (gone_ids shown.gone) []

-- the numbers from this one on that are flagged
abbrev pub flagged_from : ℕ → List Bool → List ℕ
flagged_from n [] = []
flagged_from n (true ∷ flags) = n ∷ flagged_from (n + 1) flags
flagged_from n (false ∷ flags) = flagged_from (n + 1) flags

-- the ids of the entries with these numbers
abbrev pub ids_of : List Stranded → List ℕ → List ReplyParts
ids_of stranded set = map (λ i. id_answer (id_at stranded i)) set

-- the text begins with the ids of the entries with these numbers, which rise, and then with no bulk string
pub record HasChosen (stranded : List Stranded) (text set after : List ℕ) : Type 0 where
  pub rising : IsStrictlyIncreasing set
  pub within : All (λ i. i < length stranded) set
  pub ids : Begins text (flat_map (λ item. item) (ids_of stranded set)) after
  pub ended : (string others : List ℕ) → HasPart after (Bulk string) others → ⊥

-- the rooms of the consumers that some entry of the set is allowed
abbrev pub rooms_answer : Tiered → List ℕ → List Live → ReplyParts
rooms_answer p set live = array_of (map share_answer (reached_from p set 0 live))

-- after the word, the text is the shortage of this set
pub record IsShortageText (shown : SnapshotState) (text set : List ℕ) : Type 0 where
  pub ids_at : List ℕ
  pub rooms_at : List ℕ
  pub places_at : List ℕ
  pub header : HasPart text (Array (length set)) ids_at
  pub ids : Begins ids_at (flat_map (λ item. item) (ids_of shown.stranded set)) rooms_at
  pub rooms : Begins rooms_at (rooms_answer (problem_of shown) set shown.live) places_at
  pub places : Begins places_at (integer (pos (places_of (problem_of shown) set))) []
