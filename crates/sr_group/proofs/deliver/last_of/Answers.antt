use Rattle.std.proofs.Common.{List, sym, ap, ◌∙◌}
use Rattle.sr_entries.specs.declared.entry.Entry.{Entry}
use Rattle.sr_entries.specs.{last_id_or}
use Rattle.sr_group.proofs.DeliveryLemmas.{last_id_or-end}
use Rattle.sr_group.proofs.deliver.last_of.Goals as goal

pub returns-in-Some : goal.returns-in-Some
returns-in-Some c =
    c.id.ensures ∙ sym (last_id_or-end c.args.last c.next_back.new.self c.in-Some.entry) ∙ ap (λ (l : List Entry). last_id_or c.args.last l) (sym c.in-Some.ensures.some)
