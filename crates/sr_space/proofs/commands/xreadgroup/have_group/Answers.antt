use Rattle.std.proofs.Common.{rules, tests, ◌∙◌}
use Rattle.std.proofs.lemmas.Iterator.Search.{all_from_yields_List}
use Rattle.std.proofs.lemmas.Iterator.{YieldsList-from_slice}
use Rattle.sr_args.specs.declared.reads.ReadAsked.{ReadAsked}
use Rattle.sr_space.specs.Keys.{Key, stream_at}
use Rattle.sr_space.specs.commands.Xreadgroup.{has_group_in}
use Rattle.sr_space.proofs.ReadGroupLemmas.{all-have_group}
use Rattle.sr_space.proofs.commands.xreadgroup.have_group.Goals as goal

pub returns : goal.returns
returns c =
    let name = c.args.name.now in
    let keys = c.args.space.now in
    all_from_yields_List (λ (stream : Key × ReadAsked). has_group_in name (stream_at keys stream.0)) _ _ c.all.result c.all.ensures.ran (YieldsList-from_slice c.args.streams.now cc) (λ x b q k. search (rules, tests))
    ∙ all-have_group name keys c.args.streams.now
