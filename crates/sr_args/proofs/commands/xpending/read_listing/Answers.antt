use Rattle.std.proofs.Common.{refl}
use Rattle.std.specs.Option.{option_copied}
use Rattle.std.proofs.lemmas.Result.{err_from_is_err_and}
use Rattle.sr_args.specs.steps.Pending.{listing_reading}
use Rattle.sr_args.proofs.PendingLemmas.{listing-no_idle, listing-no_count, listing-numbers, listing-no_start, listing-no_end, listing-gives}
use Rattle.sr_args.proofs.commands.xpending.read_listing.Goals as goal

pub returns-in_default-read_maybe_int : goal.returns-in_default-read_maybe_int
returns-in_default-read_maybe_int c =
    let read = c.in-Some.read in
    (listing_reading (option_copied read.least_idle) read.start.now read.end.now read.count.now (option_copied read.consumer), c.in-Some.ensures.found, listing-no_idle (option_copied read.least_idle) read.start.now read.end.now read.count.now (option_copied read.consumer) c.in_default-read_maybe_int.ensures.none)

pub returns-in_default-read_int : goal.returns-in_default-read_int
returns-in_default-read_int c =
    let read = c.in-Some.read in
    (listing_reading (option_copied read.least_idle) read.start.now read.end.now read.count.now (option_copied read.consumer), c.in-Some.ensures.found, listing-no_count (option_copied read.least_idle) read.start.now read.end.now read.count.now (option_copied read.consumer) c.in_default-read_int.ensures.none)

pub returns-in_default-parse_start : goal.returns-in_default-parse_start
returns-in_default-parse_start c =
    let read = c.in-Some.read in
    (listing_reading (option_copied read.least_idle) read.start.now read.end.now read.count.now (option_copied read.consumer), c.in-Some.ensures.found, listing-numbers (option_copied read.least_idle) read.start.now read.end.now read.count.now (option_copied read.consumer) c.in-Some-read_maybe_int.least_idle c.in-Some-read_int.count c.in-Some-read_maybe_int.ensures.found c.in-Some-read_int.ensures.found, listing-no_start (option_copied read.least_idle) read.start.now read.end.now read.count.now (option_copied read.consumer) c.in_default-parse_start.ensures.none)

pub returns-in_default-parse_end : goal.returns-in_default-parse_end
returns-in_default-parse_end c =
    let read = c.in-Some.read in
    (listing_reading (option_copied read.least_idle) read.start.now read.end.now read.count.now (option_copied read.consumer), c.in-Some.ensures.found, listing-numbers (option_copied read.least_idle) read.start.now read.end.now read.count.now (option_copied read.consumer) c.in-Some-read_maybe_int.least_idle c.in-Some-read_int.count c.in-Some-read_maybe_int.ensures.found c.in-Some-read_int.ensures.found, listing-no_end (option_copied read.least_idle) read.start.now read.end.now read.count.now (option_copied read.consumer) c.in_default-parse_end.ensures.none)

pub returns-in_err-consumer : goal.returns-in_err-consumer
returns-in_err-consumer c =
    let p = err_from_is_err_and c.from_residual.result c.from_residual.ensures.1 in
    let read = c.in-Some.read in
    rw (p.1, p.2) (_, listing-gives c.args.words (option_copied read.least_idle) read.start.now read.end.now read.count.now (option_copied read.consumer) (option_copied read.consumer) c.in-Some-read_maybe_int.least_idle c.in-Some-parse_start.start c.in-Some-parse_end.end c.in-Some-read_int.count c.in-Some.ensures.found c.in-Some-read_maybe_int.ensures.found c.in-Some-parse_start.ensures.found c.in-Some-parse_end.ensures.found c.in-Some-read_int.ensures.found refl)

pub returns : goal.returns
returns c =
    let read = c.in-Some.read in
    listing-gives c.args.words (option_copied read.least_idle) read.start.now read.end.now read.count.now (option_copied read.consumer) c.in_ok-consumer.consumer c.in-Some-read_maybe_int.least_idle c.in-Some-parse_start.start c.in-Some-parse_end.end c.in-Some-read_int.count c.in-Some.ensures.found c.in-Some-read_maybe_int.ensures.found c.in-Some-parse_start.ensures.found c.in-Some-parse_end.ensures.found c.in-Some-read_int.ensures.found c.in_ok-consumer.ensures
