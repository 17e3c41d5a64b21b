use Rattle.std.proofs.Common.{rules}
use Rattle.sr_policy.specs.Snapshot.{IsSnapshot}
use Rattle.sr_live.specs.Looked.{shown_of}
use Rattle.sr_live.proofs.ReadingLemmas.{IsLooked-reads, breaks-memory, breaks-passed, reads-whole}
use Rattle.sr_live.proofs.rounds.judged.Goals as goal

pub returns-in_err-looked-clause-err : goal.returns-in_err-looked-clause-err
returns-in_err-looked-clause-err g c =
    let broken = c.in_err-looked.ensures.err in
    breaks-passed c.from_residual.result _ _ _ _ _ c.from_residual.ensures.1 broken

pub returns-in_err-live-clause-err : goal.returns-in_err-live-clause-err
returns-in_err-live-clause-err g c =
    let seen = c.in_ok-looked.ensures.ok in
    breaks-memory c.from_residual-in_err-live.result _ _ _ _ c.from_residual-in_err-live.ensures.1
    (reads-whole _ _ _ _ seen.0 seen.1 (IsLooked-reads c.args.asked.now _ _ _ _ _ _ _ seen.2))

pub returns-in-Err-Memory-clause-err : goal.returns-in-Err-Memory-clause-err
returns-in-Err-Memory-clause-err g c =
    let seen = c.in_ok-looked.ensures.ok in
    record {
      looking = tt;
      read = reads-whole _ _ _ _ seen.0 seen.1 (IsLooked-reads c.args.asked.now _ _ _ _ _ _ _ seen.2);
      told = tt;
    }

pub returns-in-Err-TooMany-clause-err : goal.returns-in-Err-TooMany-clause-err
returns-in-Err-TooMany-clause-err g c =
    let seen = c.in_ok-looked.ensures.ok in
    record {
      looking = tt;
      read = reads-whole _ _ _ _ seen.0 seen.1 (IsLooked-reads c.args.asked.now _ _ _ _ _ _ _ seen.2);
      told = tt;
    }

pub returns-in-Err-Changed-clause-ok : goal.returns-in-Err-Changed-clause-ok
returns-in-Err-Changed-clause-ok g c =
    let seen = c.in_ok-looked.ensures.ok in
    let looked = c.in_ok-looked.looked in
    let none : IsSnapshot (shown_of c.args.policy.now c.args.asked.now looked.idles.items looked.numbers.items
    looked.rows.items) → ⊥ =
    search rules in (
      seen.0,
      seen.1,
      record {
        idles = looked.idles.items;
        numbers = looked.numbers.items;
        rows = looked.rows.items;
        last = looked.last;
        removed = looked.removed;
        looked = seen.2;
        none = none;
      },
    )

pub returns-in_err-verdict-clause-err : goal.returns-in_err-verdict-clause-err
returns-in_err-verdict-clause-err g c =
    let seen = c.in_ok-looked.ensures.ok in
    breaks-memory c.from_residual-in_err-verdict.result _ _ _ _ c.from_residual-in_err-verdict.ensures.1
    (reads-whole _ _ _ _ seen.0 seen.1 (IsLooked-reads c.args.asked.now _ _ _ _ _ _ _ seen.2))

pub returns-in_err-worth-clause-err : goal.returns-in_err-worth-clause-err
returns-in_err-worth-clause-err g c =
    let seen = c.in_ok-looked.ensures.ok in
    breaks-memory c.from_residual-in_err-worth.result _ _ _ _ c.from_residual-in_err-worth.ensures.1
    (reads-whole _ _ _ _ seen.0 seen.1 (IsLooked-reads c.args.asked.now _ _ _ _ _ _ _ seen.2))
