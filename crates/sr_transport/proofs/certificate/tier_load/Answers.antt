use Rattle.std.proofs.Common.{◌≡◌, ℕ, ◌<◌, ◌-◌, min, List, length, sym, ap, ◌∙◌, arith}
use Rattle.sr_transport.specs.declared.problem.Tier.{Tier}
use Rattle.sr_transport.specs.Problem.{Tiered, AreTiers, first_in, tier_at}
use Rattle.sr_transport.specs.Assignment.{load, tiers_of, IsPlacement}
use Rattle.sr_transport.proofs.TierLemmas.{load-at_first, load-at_next}
use Rattle.sr_transport.proofs.certificate.tier_load.Goals as goal

-- what was read of the tier, its consumer and the consumer's first tier
record IsRead (p : Tiered) (xs : List ℕ) (tiers : List Tier) (t first many in_first : ℕ) : Type 0 where
  pub tiers_are : tiers ≡ p.tiers
  pub first_is : first ≡ first_in p.tiers (tier_at tiers t).consumer
  pub many_are : many ≡ load xs (tier_at tiers t).consumer
  pub least_is : in_first ≡ min many (tier_at tiers first).room

-- the same by the problem's tiers
record IsKnown (p : Tiered) (xs : List ℕ) (t first many in_first : ℕ) : Type 0 where
  pub first_is : first ≡ first_in p.tiers (tier_at p.tiers t).consumer
  pub many_are : many ≡ load xs (tier_at p.tiers t).consumer
  pub least_is : in_first ≡ min many (tier_at p.tiers (first_in p.tiers (tier_at p.tiers t).consumer)).room

known : (p : Tiered) (xs : List ℕ) (tiers : List Tier) (t first many in_first : ℕ)
    → IsRead p xs tiers t first many in_first
    → IsKnown p xs t first many in_first
known p xs tiers t first many in_first read =
    let own : (tier_at tiers t).consumer ≡ (tier_at p.tiers t).consumer =
    ap (λ ts. (tier_at ts t).consumer) read.tiers_are in
    let first_is : first ≡ first_in p.tiers (tier_at p.tiers t).consumer = read.first_is ∙ ap (first_in p.tiers) own in
    record {
      first_is = first_is;
      many_are = read.many_are ∙ ap (load xs) own;
      least_is =
          read.least_is
          ∙ ap (λ ts. min many (tier_at ts first).room) read.tiers_are
          ∙ ap (λ i. min many (tier_at p.tiers i).room) first_is;
    }

load_first : (p : Tiered) (xs : List ℕ) (t first many in_first : ℕ) → AreTiers p.takers p.tiers → IsPlacement p xs
    → t < length p.tiers
    → IsKnown p xs t first many in_first → t ≡ first → in_first ≡ load (tiers_of p xs) t
load_first p xs t first many in_first are placed lt is same =
    omega (arith, is.many_are, is.least_is, load-at_first p xs t are placed lt (same ∙ is.first_is))

load_next : (p : Tiered) (xs : List ℕ) (t first many in_first : ℕ) → AreTiers p.takers p.tiers → IsPlacement p xs
    → t < length p.tiers
    → IsKnown p xs t first many in_first → (t ≡ first → ⊥) → many - in_first ≡ load (tiers_of p xs) t
load_next p xs t first many in_first are placed lt is other =
    omega (arith, is.many_are, is.least_is, load-at_next p xs t are placed lt (λ e. other (e ∙ sym is.first_is)))

pub bounds-tiers-first : goal.bounds-tiers-first
bounds-tiers-first c =
    let p = c.args.problem.now in
    let read = (tier_at c.tiers-tiers.result.now c.args.tier).consumer in
    let own : read ≡ (tier_at p.tiers c.args.tier).consumer =
    ap (λ ts. (tier_at ts c.args.tier).consumer) c.tiers-tiers.ensures in
    let are = c.sound.ensures.are_tiers in
    let first = are.first read (omega (arith, own, (are.near c.args.tier c.requires.tier).0)) in
    omega (arith, c.first_tier-first.ensures, ap length c.tiers-tiers.ensures, first.here)

pub returns-then-tier-first : goal.returns-then-tier-first
returns-then-tier-first c =
    let p = c.args.problem.now in
    let xs = c.args.assign.now in
    let first = c.first_tier-first.result in
    let many = c.load_of-load.result in
    let in_first = c.min-in_first.result in
    let is = known p xs c.tiers-tiers.result.now c.args.tier first many in_first (record {
      tiers_are = c.tiers-tiers.ensures;
      first_is = c.first_tier-first.ensures;
      many_are = c.load_of-load.ensures;
      least_is = c.min-in_first.ensures;
    }) in
    load_first p xs c.args.tier first many in_first c.sound.ensures.are_tiers c.requires.assignment.placement
    c.requires.tier is c.if-tier-first.true

pub returns-else-tier-first : goal.returns-else-tier-first
returns-else-tier-first c =
    let p = c.args.problem.now in
    let xs = c.args.assign.now in
    let first = c.first_tier-first.result in
    let many = c.load_of-load.result in
    let in_first = c.min-in_first.result in
    let is = known p xs c.tiers-tiers.result.now c.args.tier first many in_first (record {
      tiers_are = c.tiers-tiers.ensures;
      first_is = c.first_tier-first.ensures;
      many_are = c.load_of-load.ensures;
      least_is = c.min-in_first.ensures;
    }) in
    load_next p xs c.args.tier first many in_first c.sound.ensures.are_tiers c.requires.assignment.placement
    c.requires.tier is c.if-tier-first.false
