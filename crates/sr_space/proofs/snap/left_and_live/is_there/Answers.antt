use Rattle.std.proofs.Common.{List, sym, ap, ◌∙◌}
use Rattle.sr_entries.specs.{entry_with}
use Rattle.sr_entries.specs.declared.entry.Entry.{Entry}
use Rattle.sr_group.proofs.FoundLemmas.{has_id-found, has_id-not_found}
use Rattle.sr_space.proofs.snap.left_and_live.is_there.Goals as goal

pub returns-in-Some : goal.returns-in-Some
returns-in-Some c =
    let found = c.get.ensures ∙ ap (λ (list : List Entry). entry_with c.args.id list) c.entries.ensures.entries in
    sym (has_id-found c.args.id c.args.stream.now.shown.entries c.in-Some._entry (sym found ∙ c.in-Some.is))

pub returns-in-None : goal.returns-in-None
returns-in-None c =
    let found = c.get.ensures ∙ ap (λ (list : List Entry). entry_with c.args.id list) c.entries.ensures.entries in
    sym (has_id-not_found c.args.id c.args.stream.now.shown.entries (sym found ∙ c.in-None.is))
