use Rattle.std.proofs.Common.{◌≡◌, ◌⊎◌, ◌<◌, ◌≤◌, ℕ, Result, Ok, Err, sym, ◌∙◌, arith}
use Rattle.std.specs.Prelude.{◌↔◌}
use Rattle.std.specs.Result.{IsErrOf}
use Rattle.sr_seats.specs.declared.fault.HoldFault.{HoldFault}
use Rattle.sr_seats.specs.declared.fault.HoldFault.TheVariants as faults
use Rattle.sr_seats.proofs.seating.hold.Goals as goal

-- from 1 to 65 seats: whatever comes of them, their number is not refused
few_enough : {T : Type 0} (made : Result T HoldFault) (n : ℕ) → (made ≡ Err faults.Count → ⊥) → 0 < n → n ≤ 65 → IsErrOf made faults.Count ↔ ((n ≡ 0) ⊎ (65 < n))
few_enough made n other some few = (λ e. absurd (other e), λ wrong. absurd (counts wrong))
  where
    counts : (n ≡ 0) ⊎ (65 < n) → ⊥
    counts wrong = omega arith

not_count : {T : Type 0} (made : T) → Ok made ≡ Err faults.Count → ⊥
not_count made e = let no = e in cc

pub new-requires-clause-some : goal.new-requires-clause-some
new-requires-clause-some g c = omega arith

pub seats_of-requires-clause-parts : goal.seats_of-requires-clause-parts
seats_of-requires-clause-parts g c = c.requires.parts (omega arith) c.if-n-gt65.false

pub new-requires-clause-all : goal.new-requires-clause-all
new-requires-clause-all g c = sym (c.requires.parts (omega arith) c.if-n-gt65.false) ∙ c.requires.whole

pub returns-clause-count : goal.returns-clause-count
returns-clause-count g c = few_enough _ c.args.n (λ e. not_count _ e) (omega arith) c.if-n-gt65.false

pub returns-in_default-clause-count : goal.returns-in_default-clause-count
returns-in_default-clause-count g c = few_enough _ c.args.n (λ e. absurd (let no = e in cc)) (omega arith) c.if-n-gt65.false
