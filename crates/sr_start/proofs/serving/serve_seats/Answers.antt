use Rattle.std.proofs.Common.{◌≡◌, ◌+◌, ◌<◌, ◌∙◌, ap, arith, length, sym, true≢false, vec_len}
use Rattle.sr_start.proofs.SeatLemmas.{length-new_seats}
use Rattle.sr_start.proofs.serving.serve_seats.Goals as goal

-- one of this many seats and one more was taken
pub serve_timed-requires-clause-some : goal.serve_timed-requires-clause-some
serve_timed-requires-clause-some g c κs within =
    let made : length c.in-Ok.opened.1.items ≡ c.args.serving.workers + 1 = ap length c.in-Ok.ensures.seats ∙ length-new_seats _ (c.args.serving.workers + 1) in
    let one_less : vec_len c.pop.new.self + 1 ≡ vec_len c.in-Ok.opened.1 = c.in-Some.ensures.cases in
    omega (arith, c.requires.workers)

-- there is at least one
pub unreachable-requires-in_default : goal.unreachable-requires-in_default
unreachable-requires-in_default g c =
    let made : length c.in-Ok.opened.1.items ≡ c.args.serving.workers + 1 = ap length c.in-Ok.ensures.seats ∙ length-new_seats _ (c.args.serving.workers + 1) in
    let some : 0 < vec_len c.in-Ok.opened.1 = omega arith in
    true≢false (sym (c.in_default.ensures.variant.1 some))
