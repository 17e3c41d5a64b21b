use Rattle.std.proofs.Common.{List, ap, sym, ◌∙◌}
use Rattle.std.proofs.lemmas.Result.{IfOk-weaker}
use Rattle.sr_resp.specs.{ReplyParts, array_of}
use Rattle.sr_space.proofs.InfoLemmas.{group_lines-shown}
use Rattle.sr_space.proofs.commands.xinfo.tell_groups.Goals as goal

pub returns-in_ok-groups_reply-in-Some : goal.returns-in_ok-groups_reply-in-Some
returns-in_ok-groups_reply-in-Some c =
    let lines = rw c.groups.ensures.shown at (group_lines-shown c.groups.result.now) in
    let told = c.in_ok-groups_reply-in-Some.ensures ∙ ap (λ (l : List ReplyParts). array_of l) (sym lines) in
    rw c.in-Some.is (IfOk-weaker c.replied.result _ _ (λ outcome is. is ∙ told) c.replied.ensures)
