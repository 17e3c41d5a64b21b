use Rattle.std.proofs.Common.{◌≡◌, ℕ, ◌+◌, ◌<◌, ◌⊎◌, List, sym, ap, ◌∙◌, subst, inl, inr, arith, eq-eqb}
use Rattle.std.proofs.lemmas.Bool.{eqb-true}
use Rattle.sr_transport.specs.declared.problem.Tier.{Tier}
use Rattle.sr_transport.specs.Problem.{IsOneOfTwo, first_in, tier_at}
use Rattle.sr_transport.proofs.tiers.is_one_of_two.Goals as goal

-- where the tiers of the tier's consumer begin
begins : (tiers : List Tier) (t first : ℕ) (tier : Tier) → tier_at tiers t ≡ tier → first ≡ first_in tiers tier.consumer
    → first_in tiers (tier_at tiers t).consumer ≡ first
begins tiers t first tier here is = ap (λ (x : Tier). first_in tiers x.consumer) here ∙ sym is

is_one : (takers : ℕ) (tiers : List Tier) (t first : ℕ) (tier : Tier) → tier_at tiers t ≡ tier
    → first ≡ first_in tiers tier.consumer
    → tier.consumer < takers → (t ≡ first) ⊎ (t ≡ first + 1) → IsOneOfTwo takers tiers t
is_one takers tiers t first tier here is taker one = (
  subst (λ (x : Tier). x.consumer < takers) (sym here) taker,
  subst (λ n. (t ≡ n) ⊎ (t ≡ n + 1)) (sym (begins tiers t first tier here is)) one,
)

one_is : (takers : ℕ) (tiers : List Tier) (t first : ℕ) (tier : Tier) → tier_at tiers t ≡ tier
    → first ≡ first_in tiers tier.consumer
    → IsOneOfTwo takers tiers t → (t ≡ first) ⊎ (t ≡ first + 1)
one_is takers tiers t first tier here is near =
    subst (λ n. (t ≡ n) ⊎ (t ≡ n + 1)) (begins tiers t first tier here is) near.1

not_first : (t first : ℕ) → (t ≡ first → ⊥) → (t ≡ first) ⊎ (t ≡ first + 1) → t ≡ first + 1
not_first t first other (inl same) = absurd (other same)
not_first t first other (inr next) = next

pub returns-then-number-first : goal.returns-then-number-first
returns-then-number-first c =
    let tiers = c.args.tiers.now in
    let first = c.first_in-first.result in (
      λ same. is_one c.args.consumers tiers c.args.number first c.args.tier c.requires c.first_in-first.ensures.value
          (omega arith) (inl (omega arith)),
      λ near. eq-eqb c.args.number first (omega arith),
    )

pub returns-else-number-first : goal.returns-else-number-first
returns-else-number-first c =
    let tiers = c.args.tiers.now in
    let first = c.first_in-first.result in (
      λ same. is_one c.args.consumers tiers c.args.number first c.args.tier c.requires c.first_in-first.ensures.value
          (omega arith)
          (inr (eqb-true c.args.number (first + 1) same)),
      λ near. eq-eqb c.args.number (first + 1) (not_first c.args.number first c.if-number-first.false
          (one_is c.args.consumers tiers c.args.number first c.args.tier c.requires
          c.first_in-first.ensures.value near)),
    )
