use Rattle.std.proofs.Common.{◌≡◌, ◌≢◌, [], Some, refl}
use Rattle.std.proofs.lemmas.Result.{err_from_is_err_and}
use Rattle.std.proofs.lemmas.Bool.{false≢true}
use Rattle.sr_args.specs.Form.{Values}
use Rattle.sr_args.specs.commands.Xpending.{listing, asked, asked_if}
use Rattle.sr_args.proofs.GivesLemmas.{maybe_call, maybe_fault}
use Rattle.sr_args.proofs.commands.xpending.read_maybe_listing.Goals as goal

made : (values : Values listing) → asked_if (Some values) ≡ Some (asked values)
made values = refl

pub returns-in_err-listing : goal.returns-in_err-listing
returns-in_err-listing c =
    let p = err_from_is_err_and c.from_residual.result c.from_residual.ensures.1 in
    let some : c.args.words ≢ [] = λ e. false≢true (c.if-is_empty.ensures.1 e) in
    rw (p.1, p.2) (maybe_fault listing asked asked_if c.args.words c.in_err-listing.field-0.0 some made c.in_err-listing.ensures)

pub returns : goal.returns
returns c =
    let some : c.args.words ≢ [] = λ e. false≢true (c.if-is_empty.ensures.1 e) in
    maybe_call listing asked asked_if c.args.words c.in_ok-listing.listing some made c.in_ok-listing.ensures
