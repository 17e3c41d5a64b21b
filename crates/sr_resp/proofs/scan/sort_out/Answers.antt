use Rattle.std.proofs.Common.{◌∙◌, ap, length, arith, take_all}
use Rattle.std.proofs.lemmas.List.{take_rest}
use Rattle.std.proofs.lemmas.Result.{IfOk-from_err}
use Rattle.sr_resp.proofs.SortLemmas.{Examined-from, tail_examined, kept_more, kept_on, waiting_kept, in_more, found_is, looked_on, shorter, some_place, Sorting-nothing, Sorting-request, Sorting-empty, SortsOut-part, SortsOut-fault}
use Rattle.sr_resp.proofs.scan.sort_out.Goals as goal

pub loop-found-init : goal.loop-found-init
loop-found-init c = record {
  sorting = Sorting-nothing c.args.bytes.now c.args.from c.args.entered c.args.places.now.items c.args.waiting.now.items c.requires;
  kept = take_all (length c.args.places.now.items) c.args.places.now.items (omega arith);
  rises = omega arith;
  looked = omega arith;
}

pub returns-in-Part-clause-ok : goal.returns-in-Part-clause-ok
returns-in-Part-clause-ok c =
    let s = c.loop-found.invariant.sorting in
    let scans = c.in_ok-found.ensures.ok in
    let e = Examined-from _ _ _ _ _ _ _ s.first_in s.stands scans in
    SortsOut-part _ _ _ _ _ _ _ _ _ _ s (in_more _ _ _ _ s.first_in scans.whole) (found_is _ _ _ _ e c.in-Part.is)

pub returns-in-Fault-clause-ok : goal.returns-in-Fault-clause-ok
returns-in-Fault-clause-ok c =
    let s = c.loop-found.invariant.sorting in
    let scans = c.in_ok-found.ensures.ok in
    let e = Examined-from _ _ _ _ _ _ _ s.first_in s.stands scans in
    SortsOut-fault _ _ _ _ _ _ _ _ _ _ s (in_more _ _ _ _ s.first_in scans.whole) (found_is _ _ _ _ e c.in-Fault.is)

pub gather-requires-clause-some : goal.gather-requires-clause-some
gather-requires-clause-some c =
    let s = c.loop-found.invariant.sorting in
    let e = Examined-from _ _ _ _ _ _ _ s.first_in s.stands c.in_ok-found.ensures.ok in
    some_place _ _ _ (tail_examined _ _ c.deref.result.now _ _ _ e c.deref.ensures.value c.in-Request.is)

pub gather-requires-clause-within : goal.gather-requires-clause-within
gather-requires-clause-within c =
    let s = c.loop-found.invariant.sorting in
    let e = Examined-from _ _ _ _ _ _ _ s.first_in s.stands c.in_ok-found.ensures.ok in
    (tail_examined _ _ c.deref.result.now _ _ _ e c.deref.ensures.value c.in-Request.is).before

pub loop-found-preserved-in-Request : goal.loop-found-preserved-in-Request
loop-found-preserved-in-Request c =
    let s = c.loop-found.invariant.sorting in
    let scans = c.in_ok-found.ensures.ok in
    let e = Examined-from _ _ _ _ _ _ _ s.first_in s.stands scans in
    let examined = tail_examined _ _ c.deref.result.now _ _ _ e c.deref.ensures.value c.in-Request.is in
    let once = rw c.in-Request.is at c.in_ok-found.ensures.once in
    let tail = take_rest c.loop-found.item.now c.in-Request.end in
    record {
      sorting = Sorting-request _ _ _ _ _ _ _ _ _ _ _ _ _ _ _ s examined c.in_ok-request-in-Request.ensures tail (omega (arith, c.len-first.ensures, c.scan.new.places.ok)) c.in_ok-push_back-in-Request.ensures.items;
      kept = kept_more _ _ _ scans.added c.loop-found.invariant.kept scans.whole;
      rises = omega (arith, c.loop-found.invariant.rises, c.in_ok-found.ensures.looked.0);
      looked = looked_on _ _ _ _ _ _ _ tail once c.loop-found.invariant.looked;
    }

pub loop-found-preserved : goal.loop-found-preserved
loop-found-preserved c =
    let s = c.loop-found.invariant.sorting in
    let scans = c.in_ok-found.ensures.ok in
    let e = Examined-from _ _ _ _ _ _ _ s.first_in s.stands scans in
    let examined = found_is _ _ _ _ e c.in-Empty.is in
    let once = rw c.in-Empty.is at c.in_ok-found.ensures.once in
    let tail = take_rest c.loop-found.item.now c.in-Empty.end in
    record {
      sorting = Sorting-empty _ _ _ _ _ _ _ _ _ _ _ _ _ s examined tail (omega (arith, c.len-first-in-Empty.ensures, c.scan.new.places.ok));
      kept = kept_more _ _ _ scans.added c.loop-found.invariant.kept scans.whole;
      rises = omega (arith, c.loop-found.invariant.rises, c.in_ok-found.ensures.looked.0);
      looked = looked_on _ _ _ _ _ _ _ tail once c.loop-found.invariant.looked;
    }

pub returns-in_err-found-clause-places : goal.returns-in_err-found-clause-places
returns-in_err-found-clause-places c = kept_on _ _ _ c.loop-found.invariant.kept c.in_err-found.ensures.kept

pub returns-in_err-found-clause-waiting : goal.returns-in_err-found-clause-waiting
returns-in_err-found-clause-waiting c = waiting_kept _ _ _ c.loop-found.invariant.sorting.waiting

pub returns-in_err-request-in-Request-clause-places : goal.returns-in_err-request-in-Request-clause-places
returns-in_err-request-in-Request-clause-places c = kept_on _ _ _ c.loop-found.invariant.kept c.in_ok-found.ensures.kept

pub returns-in_err-request-in-Request-clause-waiting : goal.returns-in_err-request-in-Request-clause-waiting
returns-in_err-request-in-Request-clause-waiting c = waiting_kept _ _ _ c.loop-found.invariant.sorting.waiting

pub returns-in_err-push_back-in-Request-clause-places : goal.returns-in_err-push_back-in-Request-clause-places
returns-in_err-push_back-in-Request-clause-places c = kept_on _ _ _ c.loop-found.invariant.kept c.in_ok-found.ensures.kept

pub returns-in_err-push_back-in-Request-clause-waiting : goal.returns-in_err-push_back-in-Request-clause-waiting
returns-in_err-push_back-in-Request-clause-waiting c = waiting_kept _ _ _ (c.in_err-push_back-in-Request.ensures.items ∙ c.loop-found.invariant.sorting.waiting)

pub returns-in-Part-clause-places : goal.returns-in-Part-clause-places
returns-in-Part-clause-places c = kept_on _ _ _ c.loop-found.invariant.kept c.in_ok-found.ensures.kept

pub returns-in-Part-clause-waiting : goal.returns-in-Part-clause-waiting
returns-in-Part-clause-waiting c = waiting_kept _ _ _ c.loop-found.invariant.sorting.waiting

pub returns-in-Fault-clause-places : goal.returns-in-Fault-clause-places
returns-in-Fault-clause-places c = kept_on _ _ _ c.loop-found.invariant.kept c.in_ok-found.ensures.kept

pub returns-in-Fault-clause-waiting : goal.returns-in-Fault-clause-waiting
returns-in-Fault-clause-waiting c = waiting_kept _ _ _ c.loop-found.invariant.sorting.waiting

pub scan-requires-clause-within : goal.scan-requires-clause-within
scan-requires-clause-within c = c.loop-found.invariant.sorting.stands.within

pub scan-requires-clause-sound : goal.scan-requires-clause-sound
scan-requires-clause-sound c = c.loop-found.invariant.sorting.stands.sound

pub returns-in_err-found-clause-ok : goal.returns-in_err-found-clause-ok
returns-in_err-found-clause-ok c = IfOk-from_err _ _ c.from_residual.ensures.0

pub returns-in_err-request-in-Request-clause-ok : goal.returns-in_err-request-in-Request-clause-ok
returns-in_err-request-in-Request-clause-ok c = IfOk-from_err _ _ c.from_residual-in_err-request-in-Request.ensures.0

pub returns-in_err-push_back-in-Request-clause-ok : goal.returns-in_err-push_back-in-Request-clause-ok
returns-in_err-push_back-in-Request-clause-ok c = IfOk-from_err _ _ c.from_residual-in_err-push_back-in-Request.ensures.0

pub returns-in_err-found-clause-looked : goal.returns-in_err-found-clause-looked
returns-in_err-found-clause-looked c = (omega (arith, c.loop-found.invariant.rises, c.in_err-found.ensures.looked.0), omega (arith, c.in_err-found.ensures.looked.1, c.loop-found.invariant.looked))

pub returns-in_err-request-in-Request-clause-looked : goal.returns-in_err-request-in-Request-clause-looked
returns-in_err-request-in-Request-clause-looked c = (omega (arith, c.loop-found.invariant.rises, c.in_ok-found.ensures.looked.0), omega (arith, c.in_ok-found.ensures.looked.1, c.loop-found.invariant.looked))

pub returns-in_err-push_back-in-Request-clause-looked : goal.returns-in_err-push_back-in-Request-clause-looked
returns-in_err-push_back-in-Request-clause-looked c = (omega (arith, c.loop-found.invariant.rises, c.in_ok-found.ensures.looked.0), omega (arith, c.in_ok-found.ensures.looked.1, c.loop-found.invariant.looked))

pub returns-in-Part-clause-looked : goal.returns-in-Part-clause-looked
returns-in-Part-clause-looked c = (omega (arith, c.loop-found.invariant.rises, c.in_ok-found.ensures.looked.0), omega (arith, c.in_ok-found.ensures.looked.1, c.loop-found.invariant.looked))

pub returns-in-Fault-clause-looked : goal.returns-in-Fault-clause-looked
returns-in-Fault-clause-looked c = (omega (arith, c.loop-found.invariant.rises, c.in_ok-found.ensures.looked.0), omega (arith, c.in_ok-found.ensures.looked.1, c.loop-found.invariant.looked))

pub slice_bounds-gather-count : goal.slice_bounds-gather-count
slice_bounds-gather-count c =
    let first = in_more _ _ _ _ c.loop-found.invariant.sorting.first_in c.in_ok-found.ensures.ok.whole in
    omega (arith, first, ap length c.deref.ensures.value)

pub slice_bounds-item-count : goal.slice_bounds-item-count
slice_bounds-item-count c = (rw c.in-Request.is at c.in_ok-found.ensures.ok.sound).1

pub loop-found-smaller-in-Request : goal.loop-found-smaller-in-Request
loop-found-smaller-in-Request c =
    let sound = rw c.in-Request.is at c.in_ok-found.ensures.ok.sound in
    shorter _ _ _ sound.0 sound.1 (take_rest c.loop-found.item.now c.in-Request.end)

pub loop-found-smaller : goal.loop-found-smaller
loop-found-smaller c =
    let sound = rw c.in-Empty.is at c.in_ok-found.ensures.ok.sound in
    shorter _ _ _ sound.0 sound.1 (take_rest c.loop-found.item.now c.in-Empty.end)

pub overflow_sub-result : goal.overflow_sub-result
overflow_sub-result c = c.loop-found.invariant.sorting.shorter

pub overflow_sub-result-in-Fault : goal.overflow_sub-result-in-Fault
overflow_sub-result-in-Fault c = c.loop-found.invariant.sorting.shorter

pub slice_bounds-item-count-in-Empty : goal.slice_bounds-item-count-in-Empty
slice_bounds-item-count-in-Empty c = (rw c.in-Empty.is at c.in_ok-found.ensures.ok.sound).1
