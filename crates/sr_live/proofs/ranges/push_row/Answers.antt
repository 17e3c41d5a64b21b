use Rattle.std.proofs.Common.{rules, ◌≡◌, ◌++◌, ◌∷◌, [], ℕ, ap, subst, sym}
use Rattle.sr_policy.specs.{Text}
use Rattle.sr_live.specs.declared.looked.Row.{Row}
use Rattle.sr_live.specs.Looking.{listed_as}
use Rattle.sr_live.specs.steps.Listing.{Finds}
use Rattle.sr_live.proofs.FirstLemmas.{Finds-one}
use Rattle.sr_live.proofs.ranges.push_row.Goals as goal

pub returns : goal.returns
returns c =
    let row : Row = record {
      id = c.args.one.now.0;
      owner = c.in_ok-copy.field-0;
      fields = c.in_ok-fields.fields;
    } in
    let same : listed_as row ≡ c.args.one.now =
    ap (λ (owner : Text). (c.args.one.now.0, owner)) c.in_ok-copy.ensures in
    let pushed : c.push.new.self.items ≡ c.args.found.now.rows.items ++ row ∷ [] = search rules in (
      row,
      same,
      c.in_ok-fields.ensures,
      pushed,
      subst (λ (left : ℕ). Finds c.args.found.now.wanted (row ∷ []) left) (sym c.left_after-found.ensures)
          (Finds-one c.args.found.now.wanted row c.requires),
    )
