-- How entries leave a consumer in a search: what it means that one comes nearer, or no nearer.
use Rattle.std.proofs.Common.{◌≡◌, ℕ, ◌+◌, ◌<◌, ◌≤◌, ◌⊎◌, true, List, get_or, Option, Some, None, inl, inr, arith}
use Rattle.sr_transport.specs.{greatest_charge, Transport}
use Rattle.sr_transport.specs.plain.Problem.{IsWithinLimits, cost_of, IsAllowed}
use Rattle.sr_transport.specs.plain.Certificate.{IsLeast}
use Rattle.sr_solver.specs.declared.front.Exit.{Exit}
use Rattle.sr_solver.specs.declared.label.Label.{Label}
use Rattle.sr_solver.specs.declared.table.Bound.{Bound}
use Rattle.sr_solver.specs.Limits.{greatest_way, far}
use Rattle.sr_solver.specs.Labels.{label_at, priced, IsFarOrReached}
use Rattle.sr_solver.specs.Cutoff.{IsBeyond}
use Rattle.sr_solver.specs.Exits.{IsExit, IsMost, IsNoNearer, ComesNoNearer, HasNoMover}
use Rattle.sr_solver.specs.Search.{IsCovered}
use Rattle.sr_solver.specs.Table.{IsAt, IsKnown, IsTight}
use Rattle.sr_solver.proofs.SearchLemmas.{cost_small}

-- an entry comes no nearer than a bound that comes no nearer
pub bound_no_nearer : (p : Transport) (at : ℕ → Type 0) (t b price : ℕ) (known : Bound) (exit : Exit) (label : Label)
    → exit.consumer ≡ t → IsKnown p at t b known → IsNoNearer exit known.low price label
    → HasNoMover p at exit b price label
bound_no_nearer p at t b price known exit label is known_is none i here allowed =
    let below : known.low + cost_of p i exit.consumer ≤ cost_of p i b + greatest_charge = rw is (known_is.below i here allowed) in
    elim none [
      | inl closed ↦ inl closed
      | inr (inl near) ↦ inr (inl (omega (arith, near, below)))
      | inr (inr past) ↦ inr (inr (omega (arith, past, below)))
    ]

-- no entry may go there
pub none_no_nearer : (p : Transport) (at : ℕ → Type 0) (b price : ℕ) (exit : Exit) (label : Label)
    → ((i : ℕ) → at i → IsAllowed p i b → ⊥) → HasNoMover p at exit b price label
none_no_nearer p at b price exit label none i here allowed = absurd (none i here allowed)

-- what comes no nearer than the cutoff lies beyond it
beyond_past : (cutoff : Option ℕ) (exit : Exit) (here from there to : ℕ) → IsMost cutoff exit
    → exit.base ≡ from + greatest_charge → there ≤ greatest_charge → to ≤ greatest_way
    → exit.most + here ≤ there + greatest_charge + to → IsBeyond cutoff (here + from) (exit.dist + (there + to))
beyond_past None exit here from there to most base small low past = absurd (omega (arith, most, small, low, past))
beyond_past (Some end) exit here from there to most base small low past = omega (arith, most, base, past)

-- a consumer to which an entry comes no nearer is within its reach, or the entry comes no nearer than the cutoff
pub covered_no_nearer : (p : Transport) (prices : List ℕ) (t b i : ℕ) (cutoff : Option ℕ) (labels : List Label)
    (exit : Exit)
    → IsWithinLimits p.rooms p.entries p.costs
    → IsExit t (label_at labels t).dist (get_or prices t 0) cutoff exit → exit.dist ≤ greatest_way
    → get_or prices b 0 ≤ greatest_way → IsFarOrReached (label_at labels b)
    → ComesNoNearer p exit i b (get_or prices b 0) (label_at labels b)
    → ((label_at labels b).closed ≡ true)
    ⊎ IsCovered p prices cutoff labels (label_at labels t).dist (priced p prices i t) i b
covered_no_nearer p prices t b i cutoff labels exit limits is near low marked none =
    let here : ℕ = cost_of p i t in
    elim none [
      | inl closed ↦ inl closed
      | inr (inl no_nearer) ↦ elim marked [
        | inl far ↦ absurd (
            omega (arith, no_nearer, far.1, near, low, cost_small p limits i b)
            )
        | inr reached ↦ inr (inl (reached.0, omega (arith, rw is.consumer at no_nearer, is.dist, is.base)))
      ]
      | inr (inr past) ↦ inr (inr (
          rw is.dist at (
          beyond_past cutoff exit here (get_or prices t 0) (cost_of p i b) (get_or prices b 0) is.most is.base
          (cost_small p limits i b) low (rw is.consumer at past)
          )
          ))
    ]

-- the best that is known costs least more, and leaves with a path that is no shorter than none
pub record IsLeaving (p : Transport) (k : ℕ) (xs prices : List ℕ) (t b : ℕ) (known : Bound) : Type 0 where
  pub stands : get_or xs known.best 0 ≡ t
  pub allowed : IsAllowed p known.best b
  pub tight : known.low + cost_of p known.best t ≡ cost_of p known.best b + greatest_charge
  pub least : IsLeast p prices known.best t
  pub above : get_or prices t 0 + greatest_charge ≤ known.low + get_or prices b 0

pub leaving : (p : Transport) (k : ℕ) (xs prices : List ℕ) (t b : ℕ) (known : Bound)
    → IsKnown p (IsAt xs p.entries t) t b known → known.best < p.entries
    → ((i : ℕ) → IsAt xs p.entries t i → IsLeast p prices i t) → IsLeaving p k xs prices t b known
leaving p k xs prices t b known is lt least =
    let best : IsTight p (IsAt xs p.entries t) t b known.low known.best = is.best lt in
    let here : IsLeast p prices known.best t = least known.best best.stands in
    record {
      stands = best.stands.1;
      allowed = best.allowed;
      tight = best.tight;
      least = here;
      above = omega (arith, best.tight, here b best.allowed);
    }
