use Rattle.std.proofs.Common.{[], ◌∙◌, Err, arith, inl, inr, refl, subst, sym, true≢false}
use Rattle.std.proofs.KnownBytes.{Consumes-nil, Appends-nil}
use Rattle.sr_start.specs.declared.fault.Fault.TheVariants.{StartMemory}
use Rattle.sr_options.specs.{AsksForNothing, AsksForStdio, AsksToListen}
use Rattle.sr_start.specs.Fault.{Runs, starts_not}
use Rattle.sr_start.specs.Moment.{any_moment}
use Rattle.sr_start.specs.Listening.{Listens, starts_not as listens_not}
use Rattle.sr_options.specs.Options.{Asked}
use Rattle.sr_options.proofs.CommandLemmas.{not_both}
use Rattle.sr_start.proofs.ServeLemmas.{ended-failed, ended-not_2, ended-ok, none_failed, refused-not_0, refused-some}
use Rattle.sr_start.proofs.program.start.Goals as goal

-- ---- the options are refused

pub returns-in-Err-clause-served : goal.returns-in-Err-clause-served
returns-in-Err-clause-served g c = λ name flags words_are once asks.
    let is_1 = c.refuse.ensures.memory (c.in-Err.ensures.err name flags words_are once) in
    ([], [], Consumes-nil _, Appends-nil _, Err StartMemory, starts_not refl refl (inl refl), is_1, refl, (λ e. (refl, refl)), (λ e. refl))

pub returns-in-Err-clause-listened : goal.returns-in-Err-clause-listened
returns-in-Err-clause-listened g c = λ name flags words_are once asks other.
    let is_1 = c.refuse.ensures.memory (c.in-Err.ensures.err name flags words_are once) in
    (asks.0, asks.1, asks.2, asks.3, asks.4, [], Appends-nil _, StartMemory, listens_not refl refl, is_1, refl)

pub returns-in-Err-clause-files : goal.returns-in-Err-clause-files
returns-in-Err-clause-files g c = λ name flags words_are once asks is.
    let is_1 = c.refuse.ensures.memory (c.in-Err.ensures.err name flags words_are once) in
    absurd (omega (arith, is_1, is))

pub returns-in-Err-clause-both : goal.returns-in-Err-clause-both
returns-in-Err-clause-both g c = λ name flags words_are once nothing. (refused-some _ c.refuse.ensures.status, refl, refl, refl, refl)

pub returns-in-Err-clause-ok : goal.returns-in-Err-clause-ok
returns-in-Err-clause-ok g c = (λ e. absurd (refused-not_0 _ c.refuse.ensures.status e), λ e. absurd (true≢false (sym e ∙ c.requires.unread.0)))

pub returns-in-Err-clause-failed : goal.returns-in-Err-clause-failed
returns-in-Err-clause-failed g c = λ e. absurd (none_failed _ _ c.requires.unread.1 c.requires.unwritten e)

pub returns-in-Err-clause-refused : goal.returns-in-Err-clause-refused
returns-in-Err-clause-refused g c = λ e. (refl, refl, refl, refl)

-- ---- they ask for standard input and output

pub returns-in-Ok-Stdio-clause-served : goal.returns-in-Ok-Stdio-clause-served
returns-in-Ok-Stdio-clause-served g c = λ name flags words_are once asks.
    let s = c.connect.ensures.served in
    let read = c.in-Ok.ensures.ok name flags words_are once in
    let runs = subst (λ (asked : Asked). Runs any_moment (g.F.TextFiles.may_hold c.args.files.now) asked.policy s.0 s.1 c.connect.result) read s.4 in
    (s.0, s.1, s.2, s.3, c.connect.result, runs, c.report.ensures, refl, c.connect.ensures.refused, c.connect.ensures.random)

pub returns-in-Ok-Stdio-clause-listened : goal.returns-in-Ok-Stdio-clause-listened
returns-in-Ok-Stdio-clause-listened g c = λ name flags words_are once asks other.
    let stdio = subst AsksForStdio (c.in-Ok.ensures.ok name flags words_are once) (rw c.in-Ok-Stdio.field-0-is at c.in-Ok-Stdio.ensures.ok) in
    absurd (not_both _ stdio asks)

pub returns-in-Ok-Stdio-clause-both : goal.returns-in-Ok-Stdio-clause-both
returns-in-Ok-Stdio-clause-both g c = λ name flags words_are once nothing.
    let stdio = subst AsksForStdio (c.in-Ok.ensures.ok name flags words_are once) (rw c.in-Ok-Stdio.field-0-is at c.in-Ok-Stdio.ensures.ok) in
    absurd (nothing.no_stdio stdio)

pub returns-in-Ok-Stdio-clause-ok : goal.returns-in-Ok-Stdio-clause-ok
returns-in-Ok-Stdio-clause-ok g c = ended-ok c.connect.result _ _ c.report.ensures c.connect.ensures.ok

pub returns-in-Ok-Stdio-clause-failed : goal.returns-in-Ok-Stdio-clause-failed
returns-in-Ok-Stdio-clause-failed g c = ended-failed c.connect.result _ _ _ c.report.ensures c.connect.ensures.read c.connect.ensures.write

pub returns-in-Ok-Stdio-clause-refused : goal.returns-in-Ok-Stdio-clause-refused
returns-in-Ok-Stdio-clause-refused g c = λ e. absurd (ended-not_2 c.connect.result _ c.report.ensures e)

-- ---- they ask for an address, and there are too few files

pub returns-in-Some-clause-served : goal.returns-in-Some-clause-served
returns-in-Some-clause-served g c = λ name flags words_are once asks.
    let asked = c.in-Ok-Listen.asked in
    let read = c.in-Ok.ensures.ok name flags words_are once in
    let listen = subst (λ (read : Asked). AsksToListen read asked.text.now asked.address asked.way asked.keep)
    read (rw c.in-Ok-Listen.field-0-is at c.in-Ok-Listen.ensures.ok) in
    absurd (not_both _ asks (asked.text.now, asked.address, asked.way, asked.keep, listen))

pub returns-in-Some-clause-files : goal.returns-in-Some-clause-files
returns-in-Some-clause-files g c = λ name flags words_are once asks is.
    let asked = c.in-Ok-Listen.asked in
    let read = c.in-Ok.ensures.ok name flags words_are once in
    let listen = subst (λ (read : Asked). AsksToListen read asked.text.now asked.address asked.way asked.keep)
    read (rw c.in-Ok-Listen.field-0-is at c.in-Ok-Listen.ensures.ok) in
    (asked.text.now, asked.address, asked.way, asked.keep, listen, c.in-Some.ensures.some refl)

-- ---- they ask for an address

pub returns-in-None-clause-served : goal.returns-in-None-clause-served
returns-in-None-clause-served g c = λ name flags words_are once asks.
    let asked = c.in-Ok-Listen.asked in
    let read = c.in-Ok.ensures.ok name flags words_are once in
    let listen = subst (λ (read : Asked). AsksToListen read asked.text.now asked.address asked.way asked.keep)
    read (rw c.in-Ok-Listen.field-0-is at c.in-Ok-Listen.ensures.ok) in
    absurd (not_both _ asks (asked.text.now, asked.address, asked.way, asked.keep, listen))

pub returns-in-None-clause-listened : goal.returns-in-None-clause-listened
returns-in-None-clause-listened g c = λ name flags words_are once asks other.
    let asked = c.in-Ok-Listen.asked in
    let read = c.in-Ok.ensures.ok name flags words_are once in
    let listen = subst (λ (read : Asked). AsksToListen read asked.text.now asked.address asked.way asked.keep)
    read (rw c.in-Ok-Listen.field-0-is at c.in-Ok-Listen.ensures.ok) in
    let l = c.listen-fault.ensures.listened in
    let listens = subst (λ (read : Asked). Listens (g.F.TextFiles.may_hold c.args.files.now) g.N.Network.may_open g.N.Network.may_refuse
    g.N.Network.may_not_begin g.N.Network.may_end read.policy asked.text.now asked.address asked.way asked.keep l.0 (g.O.Sink.failed c.listen-fault.new.writer) c.listen-fault.result) read l.2 in
    (asked.text.now, asked.address, asked.way, asked.keep, listen, l.0, l.1, c.listen-fault.result, listens, c.report-in-None.ensures, refl)

pub returns-in-None-clause-both : goal.returns-in-None-clause-both
returns-in-None-clause-both g c = λ name flags words_are once nothing.
    let asked = c.in-Ok-Listen.asked in
    let read = c.in-Ok.ensures.ok name flags words_are once in
    let listen = subst (λ (read : Asked). AsksToListen read asked.text.now asked.address asked.way asked.keep)
    read (rw c.in-Ok-Listen.field-0-is at c.in-Ok-Listen.ensures.ok) in
    absurd (nothing.no_address (asked.text.now, asked.address, asked.way, asked.keep, listen))

pub returns-in-None-clause-ok : goal.returns-in-None-clause-ok
returns-in-None-clause-ok g c =
    (λ e. absurd (refused-not_0 _ (inl c.report-in-None.ensures) e), λ e. absurd (true≢false (sym e ∙ c.requires.unread.0)))

pub returns-in-None-clause-failed : goal.returns-in-None-clause-failed
returns-in-None-clause-failed g c = λ e. c.report-in-None.ensures

pub returns-in-None-clause-refused : goal.returns-in-None-clause-refused
returns-in-None-clause-refused g c = λ e. absurd (ended-not_2 (Err c.listen-fault.result) _ c.report-in-None.ensures e)

-- ---- they ask for nothing

pub returns-in-Err-request_of-clause-served : goal.returns-in-Err-request_of-clause-served
returns-in-Err-request_of-clause-served g c = λ name flags words_are once asks.
    let nothing = subst AsksForNothing (c.in-Ok.ensures.ok name flags words_are once) c.in-Err-request_of.ensures.err in
    absurd (nothing.no_stdio asks)

pub returns-in-Err-request_of-clause-listened : goal.returns-in-Err-request_of-clause-listened
returns-in-Err-request_of-clause-listened g c = λ name flags words_are once asks other.
    let nothing = subst AsksForNothing (c.in-Ok.ensures.ok name flags words_are once) c.in-Err-request_of.ensures.err in
    absurd (nothing.no_address asks)

pub returns-in-Err-request_of-clause-files : goal.returns-in-Err-request_of-clause-files
returns-in-Err-request_of-clause-files g c = λ name flags words_are once asks is.
    let nothing = subst AsksForNothing (c.in-Ok.ensures.ok name flags words_are once) c.in-Err-request_of.ensures.err in
    absurd (nothing.no_address asks)

pub returns-in-Err-request_of-clause-both : goal.returns-in-Err-request_of-clause-both
returns-in-Err-request_of-clause-both g c = λ name flags words_are once nothing. (refused-some _ (inr c.refuse_usage.ensures), refl, refl, refl, refl)

pub returns-in-Err-request_of-clause-ok : goal.returns-in-Err-request_of-clause-ok
returns-in-Err-request_of-clause-ok g c =
    (λ e. absurd (refused-not_0 _ (inr c.refuse_usage.ensures) e), λ e. absurd (true≢false (sym e ∙ c.requires.unread.0)))

pub returns-in-Err-request_of-clause-failed : goal.returns-in-Err-request_of-clause-failed
returns-in-Err-request_of-clause-failed g c = λ e. absurd (none_failed _ _ c.requires.unread.1 c.requires.unwritten e)

pub returns-in-Err-request_of-clause-refused : goal.returns-in-Err-request_of-clause-refused
returns-in-Err-request_of-clause-refused g c = λ e. (refl, refl, refl, refl)
