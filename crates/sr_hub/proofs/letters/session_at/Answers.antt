use Rattle.std.proofs.Common.{rules, ◌<◌, length}
use Rattle.sr_hub.proofs.LetterLemmas.{session-there}
use Rattle.sr_hub.proofs.letters.session_at.Goals as goal

pub returns-then-place-replies-clause-some : goal.returns-then-place-replies-clause-some
returns-then-place-replies-clause-some c =
    let within : c.args.place < length c.args.replies.now = search rules in
    session-there c.args.replies.now c.args.place c.index-replies-place.result within
