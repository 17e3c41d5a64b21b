use Rattle.std.proofs.Common.{◌≡◌, true, sym, subst, rules}
use Rattle.sr_resp.specs.contracts.piece.PiecePartialEq.TheImpl.{eq-value}
use Rattle.sr_resp.specs.Reply.{Part}
use Rattle.sr_resp.specs.steps.Forms.{parts_of_form}
use Rattle.sr_resp.specs.steps.Pieces.{part_of, AreHeldAs}
use Rattle.sr_resp.proofs.EqualityLemmas.{piece_eq-Decides, same_others}
use Rattle.sr_resp.proofs.form.Form.is_same.Goals as goal

pub returns-then-eq : goal.returns-then-eq
returns-then-eq c =
    let first = c.split.result.0 in
    let other = c.split-2.result.0 in
    let parts = parts_of_form c.args.other.now in
    let equal : eq-value.it first other ≡ true = search rules in
    let same : part_of first ≡ part_of other = (piece_eq-Decides first other).0 equal in
    let held = subst (λ (part : Part). AreHeldAs parts part c.split-2.result.1.now) (sym same) c.split-2.ensures in
    same_others (part_of first) (parts_of_form c.args.self.now) parts c.split.result.1.now c.split-2.result.1.now c.eq-then-eq.result c.split.ensures held (search rules)
