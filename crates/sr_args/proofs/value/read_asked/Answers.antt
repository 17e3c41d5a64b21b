use Rattle.std.proofs.Common.{rules, ◌≡◌, ℕ, List, codes}
use Rattle.sr_ids.specs.declared.id.Id.{Id}
use Rattle.sr_ids.specs.{SpellsId}
use Rattle.sr_args.specs.declared.reads.ReadAsked.{ReadAsked}
use Rattle.sr_args.specs.declared.reads.ReadAsked.TheVariants.{New, PendingAfter}
use Rattle.sr_args.specs.Position.{SpellsRead}
use Rattle.sr_args.proofs.value.read_asked.Goals as goal

neither : (word : List ℕ) (asked : ReadAsked) → (word ≡ codes ">" → ⊥) → ((id : Id) → SpellsId 0 word id → ⊥) → SpellsRead word asked → ⊥
neither word New new after p = new p
neither word (PendingAfter id) new after p = after id p

pub returns-in_err-parse_strict-clause-none : goal.returns-in_err-parse_strict-clause-none
returns-in_err-parse_strict-clause-none c =
    let other : c.args.word.now ≡ codes ">" → ⊥ = search rules in
    rw c.from_residual.ensures (λ asked p. neither c.args.word.now asked other c.in_err-parse_strict.ensures.none p)
