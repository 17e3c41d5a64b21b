use Rattle.std.proofs.Common.{◌≡◌, length, map, ap, ◌∙◌, arith}
use Rattle.std.proofs.lemmas.Result.{IfOk-from_err, err_from_is_err_and}
use Rattle.sr_run.proofs.WorkedLemmas.{Close≢Count, Memory≢Count, Skipped≢Count, crew_has_not_run, crew_of_scripts, receipts_by_sizes, whole_run}
use Rattle.sr_run.proofs.workers.run_over.Goals as goal

pub returns-in_err-seats-clause-err : goal.returns-in_err-seats-clause-err
returns-in_err-seats-clause-err g c =
    let p = err_from_is_err_and c.from_residual.result c.from_residual.ensures.1 in
    rw (p.1, p.2) (crew_has_not_run (map (λ script. script.items) c.args.scripts.items) c.new.result c.in_err-seats.field-0.0 c.new.ensures.first c.new.ensures.scripts c.in_err-seats.ensures).0

pub returns-in_default : goal.returns-in_default
returns-in_default g c = record { ok = tt; err = tt; counted = Memory≢Count }

pub returns-in_default-open : goal.returns-in_default-open
returns-in_default-open g c = record { ok = tt; err = tt; counted = Memory≢Count }

pub returns : goal.returns
returns g c = record { ok = tt; err = tt; counted = Memory≢Count }

pub by_script-requires : goal.by_script-requires
by_script-requires g c =
    let finished = c.in_ok-seats.field-0 in
    let sizes : c.as_slice-3.result.now ≡ map (λ script. length script.items) c.args.scripts.items =
    c.as_slice-3.ensures.value ∙ c.in-Ok.ensures ∙ ap (λ scripts. map (λ script. length script.items) scripts) c.as_slice.ensures.value in
    let same = receipts_by_sizes (λ script. script.items) c.new.result c.args.scripts.items c.as_slice-3.result.now finished.seats.items finished.receipts.items c.in_ok-seats.ensures c.new.ensures.scripts sizes in
    omega (arith, same, finished.receipts.ok.0)

pub returns-in-Ok-by_script-clause-ok : goal.returns-in-Ok-by_script-clause-ok
returns-in-Ok-by_script-clause-ok g c =
    let finished = c.in_ok-seats.field-0 in
    let sizes : c.as_slice-3.result.now ≡ map (λ script. length script.items) c.args.scripts.items =
    c.as_slice-3.ensures.value ∙ c.in-Ok.ensures ∙ ap (λ scripts. map (λ script. length script.items) scripts) c.as_slice.ensures.value in
    whole_run (λ script. script.items) (λ group. group.items) c.new.result c.args.scripts.items c.as_slice-3.result.now c.in-Ok-by_script.receipts.items finished.seats.items finished.receipts.items
    c.as_slice-2.result.now c.in-Ok-close.closed.book c.in-Ok-close.closed.acts c.in-Ok-close.closed.skipped c.in_ok-seats.ensures c.new.ensures.first c.new.ensures.scripts sizes c.in-Ok-by_script.ensures.sizes
    c.in-Ok-by_script.ensures.same c.as_slice-2.ensures.value c.in-Ok-close.ensures.ok (omega (arith, c.if-closed-gt0.false)) c.in-Ok-close.ensures.acts

pub returns-in_err-seats-clause-ok : goal.returns-in_err-seats-clause-ok
returns-in_err-seats-clause-ok g c = IfOk-from_err _ _ c.from_residual.ensures.0

pub returns-in_err-seats-clause-counted : goal.returns-in_err-seats-clause-counted
returns-in_err-seats-clause-counted g c =
    let p = err_from_is_err_and c.from_residual.result c.from_residual.ensures.1 in
    rw (p.1, p.2) (crew_has_not_run (map (λ script. script.items) c.args.scripts.items) c.new.result c.in_err-seats.field-0.0 c.new.ensures.first c.new.ensures.scripts c.in_err-seats.ensures).1

pub returns-in-Err-clause-err : goal.returns-in-Err-clause-err
returns-in-Err-clause-err g c = λ e.
    let scripts = c.args.scripts in
    let finished = c.in_ok-seats.field-0 in
    let many = crew_of_scripts (λ script. script.items) c.new.result scripts.items scripts.len c.new.ensures.scripts (omega (arith, scripts.ok.0)) in
    omega (arith, c.in-Err.ensures.short.0 e, c.in_ok-seats.ensures.all, many, c.requires.parts, c.requires.whole, finished.seats.ok.0)

pub returns-in-Err-clause-ok : goal.returns-in-Err-clause-ok
returns-in-Err-clause-ok g c = tt

pub returns-in-Err-clause-counted : goal.returns-in-Err-clause-counted
returns-in-Err-clause-counted g c = Close≢Count _
