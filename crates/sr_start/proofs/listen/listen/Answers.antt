use Rattle.std.proofs.Common.{◌∙◌, [], refl}
use Rattle.std.proofs.KnownBytes.{Appends-nil}
use Rattle.sr_book.specs.Records.{empty_book}
use Rattle.sr_start.specs.Listening.{begins_not, binds_not, ends, opens_not}
use Rattle.sr_start.proofs.ListenLemmas.{may_end_so, said_unless_failed}
use Rattle.sr_start.proofs.listen.listen.Goals as goal

pub returns-in-Err : goal.returns-in-Err
returns-in-Err g c = record { listened = ([], Appends-nil _, opens_not c.requires.files c.in-Err.ensures.book refl) }

pub returns-in-Ok-begin : goal.returns-in-Ok-begin
returns-in-Ok-begin g c =
    let said = said_unless_failed c.announce.result _ _ _ _ c.announce.ensures.ok c.announce.ensures.err c.announce.ensures.failed in
    let opened = c.in-Ok.ensures.book in
    let begun = c.in-Ok-begin.ensures in
    let end = may_end_so g.N.Network.may_end _ _ _ _ _ _ _ (empty_book opened.0) c.end.result
    (begun.address ∙ c.in-Ok-listen.ensures.ok) begun.way begun.keep (begun.book ∙ opened.2) c.end.ensures in
    record { listened = (said.0, said.1, ends opened.0 c.end.result c.requires.files opened.1 end said.2 c.serving_fault.ensures) }

pub returns-in-Err-begin : goal.returns-in-Err-begin
returns-in-Err-begin g c =
    let opened = c.in-Ok.ensures.book in
    let end = may_end_so g.N.Network.may_not_begin _ _ _ _ _ _ _ (empty_book opened.0) c.in-Err-begin.fault
    c.in-Ok-listen.ensures.ok refl refl opened.2 c.in-Err-begin.ensures.err in
    record {
      listened =
          ([], Appends-nil _, begins_not opened.0 c.in-Err-begin.fault c.requires.files opened.1 end refl c.serving_fault-in-Err-begin.ensures);
    }

pub returns-in-Err-listen : goal.returns-in-Err-listen
returns-in-Err-listen g c =
    let opened = c.in-Ok.ensures.book in
    record {
      listened = (
        [],
        Appends-nil _,
        binds_not opened.0 c.in-Err-listen.fault c.requires.files opened.1 c.in-Err-listen.ensures.err refl c.listening_fault.ensures,
      );
    }
