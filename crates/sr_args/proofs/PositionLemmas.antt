-- A word says one position, and one part of a stream that a consumer reads.
use Rattle.std.proofs.Common.{◌≡◌, ℕ, List, [], codes, refl, ap, arith}
use Rattle.sr_ids.proofs.SpellingLemmas.{SpellsId-one, SpellsId-begins_not}
use Rattle.sr_ids.specs.declared.id.Id.{Id}
use Rattle.sr_ids.specs.{SpellsId}
use Rattle.sr_args.specs.declared.call.Position.{Position}
use Rattle.sr_args.specs.declared.call.Position.TheVariants.{Last, At}
use Rattle.sr_args.specs.declared.reads.ReadAsked.{ReadAsked}
use Rattle.sr_args.specs.declared.reads.ReadAsked.TheVariants.{New, PendingAfter}
use Rattle.sr_args.specs.Position.{SpellsPosition, SpellsRead}

pub SpellsId-no_dollar : (word : List ℕ) (id : Id) → word ≡ codes "$" → SpellsId 0 word id → ⊥
SpellsId-no_dollar word id e s = SpellsId-begins_not 0 36 word [] id (omega arith) e s

pub SpellsPosition-one : (word : List ℕ) (a b : Position) → SpellsPosition word a → SpellsPosition word b → a ≡ b
SpellsPosition-one word Last Last p q = refl
SpellsPosition-one word (At i) (At j) p q = ap At (SpellsId-one 0 word i j p q)
SpellsPosition-one word Last (At j) p q = absurd (SpellsId-no_dollar word j p q)
SpellsPosition-one word (At i) Last p q = absurd (SpellsId-no_dollar word i q p)

SpellsId-no_greater : (word : List ℕ) (id : Id) → word ≡ codes ">" → SpellsId 0 word id → ⊥
SpellsId-no_greater word id e s = SpellsId-begins_not 0 62 word [] id (omega arith) e s

pub SpellsRead-one : (word : List ℕ) (a b : ReadAsked) → SpellsRead word a → SpellsRead word b → a ≡ b
SpellsRead-one word New New p q = refl
SpellsRead-one word (PendingAfter i) (PendingAfter j) p q = ap PendingAfter (SpellsId-one 0 word i j p q)
SpellsRead-one word New (PendingAfter j) p q = absurd (SpellsId-no_greater word j p q)
SpellsRead-one word (PendingAfter i) New p q = absurd (SpellsId-no_greater word i q p)
