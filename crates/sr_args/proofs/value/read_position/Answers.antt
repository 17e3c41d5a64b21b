use Rattle.std.proofs.Common.{rules, ◌≡◌, ℕ, List, codes}
use Rattle.sr_ids.specs.declared.id.Id.{Id}
use Rattle.sr_ids.specs.{SpellsId}
use Rattle.sr_args.specs.declared.call.Position.{Position}
use Rattle.sr_args.specs.declared.call.Position.TheVariants.{Last, At}
use Rattle.sr_args.specs.Position.{SpellsPosition}
use Rattle.sr_args.proofs.value.read_position.Goals as goal

neither : (word : List ℕ) (from : Position) → (word ≡ codes "$" → ⊥) → ((id : Id) → SpellsId 0 word id → ⊥) → SpellsPosition word from → ⊥
neither word Last last at p = last p
neither word (At id) last at p = at id p

pub returns-in_err-parse_strict-clause-none : goal.returns-in_err-parse_strict-clause-none
returns-in_err-parse_strict-clause-none c =
    let other : c.args.word.now ≡ codes "$" → ⊥ = search rules in
    rw c.from_residual.ensures (λ from p. neither c.args.word.now from other c.in_err-parse_strict.ensures.none p)
