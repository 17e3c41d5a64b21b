use Rattle.std.proofs.lemmas.Result.{IfOk-weaker}
use Rattle.sr_space.proofs.ReadGroupLemmas.{room-lent, shown-lent}
use Rattle.sr_space.proofs.commands.xreadgroup.prepare.Goals as goal

pub returns-clause-shown : goal.returns-clause-shown
returns-clause-shown c =
    shown-lent c.args.read.now.group.now c.args.stream.now.shown c.args.stream.now c.entries_and_group-group.result.1.now c.prepare_group.new.group c.sound.ensures.in_order c.entries_and_group-group.ensures.shown c.prepare_group.ensures.shown

pub returns-clause-room : goal.returns-clause-room
returns-clause-room c =
    let name = c.args.read.now.group.now in
    let lent = c.entries_and_group-group.result.1.now in
    let now = c.prepare_group.new.group in
    let same = shown-lent name c.args.stream.now.shown c.args.stream.now lent now c.sound.ensures.in_order c.entries_and_group-group.ensures.shown c.prepare_group.ensures.shown in
    IfOk-weaker c.prepare_group.result _ _ (λ shown room. room-lent name c.args.stream.now.shown c.args.stream.now lent now shown same c.requires.there room) c.prepare_group.ensures.room
