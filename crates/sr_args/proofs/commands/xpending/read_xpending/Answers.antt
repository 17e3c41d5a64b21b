use Rattle.std.proofs.Common.{◌≡◌, Option, refl}
use Rattle.std.proofs.lemmas.Result.{err_from_is_err_and}
use Rattle.sr_args.specs.declared.call.Call.{Call}
use Rattle.sr_args.specs.declared.call.Call.TheVariants.{Xpending}
use Rattle.sr_args.specs.declared.commands.xpending.PendingAsked.{PendingAsked}
use Rattle.sr_args.specs.FormWord.{Word}
use Rattle.sr_args.specs.Form.{maybe, Values}
use Rattle.sr_args.specs.commands.Xpending.{listing, asked_if, call}
use Rattle.sr_args.proofs.GivesLemmas.{in_group_call, in_group_fault}
use Rattle.sr_args.proofs.commands.xpending.read_xpending.Goals as goal

abbrev made : Word → Word → Option PendingAsked → Call
made key group wanted = Xpending (record { key = key; group = group; listing = wanted })

same : (key group : Word) (values : Values (maybe listing)) → call (key, (group, values)) ≡ made key group (asked_if values)
same key group values = refl

pub returns-in_err-listing : goal.returns-in_err-listing
returns-in_err-listing c =
    let p = err_from_is_err_and c.from_residual.result c.from_residual.ensures.1 in
    rw (p.1, p.2) (in_group_fault (maybe listing) asked_if call made c.args.words c.next.new.self c.next-2.new.self c.in-Some.key.now c.in-Some-next.group.now c.in_err-listing.field-0.0 same c.in-Some.ensures.some c.in-Some-next.ensures.some c.in_err-listing.ensures)

pub returns-in_err-key : goal.returns-in_err-key
returns-in_err-key c =
    let p = err_from_is_err_and c.from_residual-in_err-key.result c.from_residual-in_err-key.ensures.1 in
    rw (p.1, p.2) (_, in_group_call (maybe listing) asked_if call made c.args.words c.next.new.self c.next-2.new.self c.in-Some.key.now c.in-Some-next.group.now c.in-Some.key.now c.in-Some-next.group.now c.in_ok-listing.listing same c.in-Some.ensures.some c.in-Some-next.ensures.some refl refl c.in_ok-listing.ensures)

pub returns-in_err-group : goal.returns-in_err-group
returns-in_err-group c =
    let p = err_from_is_err_and c.from_residual-in_err-group.result c.from_residual-in_err-group.ensures.1 in
    rw (p.1, p.2) (_, in_group_call (maybe listing) asked_if call made c.args.words c.next.new.self c.next-2.new.self c.in-Some.key.now c.in-Some-next.group.now c.in_ok-key.key c.in-Some-next.group.now c.in_ok-listing.listing same c.in-Some.ensures.some c.in-Some-next.ensures.some c.in_ok-key.ensures refl c.in_ok-listing.ensures)

pub returns : goal.returns
returns c = in_group_call (maybe listing) asked_if call made c.args.words c.next.new.self c.next-2.new.self c.in-Some.key.now c.in-Some-next.group.now c.in_ok-key.key c.in_ok-group.group c.in_ok-listing.listing same c.in-Some.ensures.some c.in-Some-next.ensures.some c.in_ok-key.ensures c.in_ok-group.ensures c.in_ok-listing.ensures
