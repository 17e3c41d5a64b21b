use Rattle.std.proofs.Common.{rules}
use Rattle.sr_resp.specs.steps.Decoding.{AreSpelledReplies}
use Rattle.sr_resp.proofs.DecodingLemmas.{no_items}
use Rattle.sr_resp.proofs.form.Form.read.Goals as goal
use Rattle.sr_resp.proofs.form.Form.read.Goals.{in-Simple, in-Error, in-Int, in-Bulk+in_ok-of-in-Bulk, in-NullBulk, in-NullArray, in-Array+in_ok-read-in-Array}

pub returns : goal.returns
returns c = λ parts spells.
    let alone = λ (none : AreSpelledReplies 0 c.args.items.now). no_items c.args.items.now parts none spells in
    elim c.match-first.branch [
      | in-Simple w ↦ rw (alone (rw w.in-Simple.is at c.requires)) (search rules)
      | in-Error w ↦ rw (alone (rw w.in-Error.is at c.requires)) (search rules)
      | in-Int w ↦ rw (alone (rw w.in-Int.is at c.requires)) (search rules)
      | in-Bulk+in_ok-of-in-Bulk w ↦ rw (alone (rw w.in-Bulk.is at c.requires)) (search rules)
      | in-NullBulk w ↦ rw (alone (rw w.in-NullBulk.is at c.requires)) (search rules)
      | in-NullArray w ↦ rw (alone (rw w.in-NullArray.is at c.requires)) (search rules)
      | in-Array+in_ok-read-in-Array w ↦ rw w.result-is (rw w.in-Array.is (w.in_ok-read-in-Array.ensures parts spells))
    ]
