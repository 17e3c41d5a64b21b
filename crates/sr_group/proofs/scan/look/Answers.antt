use Rattle.std.proofs.Common.{◌≡◌, ◌/◌, ◌<◌, ◌≤◌, ◌*◌, ◌-◌, length, ap, sym, arith, rules}
use Rattle.sr_group.specs.Claim.{id_behind}
use Rattle.sr_group.proofs.ScanLemmas.{IsLooked-next, IsScan-ended, up_to_taken-looked, up_to_taken-there, up_to_taken-wanted}
use Rattle.sr_group.proofs.scan.look.Goals as goal
use Rattle.sr_group.proofs.scan.look.Goals.{then-loop-left-test+else-len-count, else-loop-left-test}

pub returns-in_default : goal.returns-in_default
returns-in_default c =
    let call = c.args.call.now in
    let ids = c.loop-left.ids.items in
    let rest = c.loop-left.rest in
    let none = up_to_taken-there call.claim call.claimer.now call.moment call.entries.now.entries c.loop-left.left (10 * c.args.count - length ids) rest c.in_default.ensures.none in
    IsScan-ended call.claim call.claimer.now call.moment call.entries.now.entries c.args.count c.args.found ids c.loop-left.left rest _ c.loop-left.invariant none (ap (id_behind 0) (sym c.in_default.ensures.none))

pub loop-left-preserved : goal.loop-left-preserved
loop-left-preserved c =
    let call = c.args.call.now in
    let ids = c.loop-left.ids.items in
    let within : length ids / 10 < c.args.count = search rules in
    IsLooked-next call.claim call.claimer.now call.moment call.entries.now.entries c.args.count c.args.found ids c.push.new.self.items c.loop-left.left c.left_after-left.result c.loop-left.rest c.next.new.self c.in-Some.nack.now c.loop-left-test.true within c.in-Some.ensures.some c.in_ok-push.ensures.items c.left_after-left.ensures c.loop-left.invariant

pub returns : goal.returns
returns c =
    let call = c.args.call.now in
    let ids = c.loop-left.ids.items in
    let rest = c.loop-left.rest in
    let looks = 10 * c.args.count - length ids in
    let ended = IsScan-ended call.claim call.claimer.now call.moment call.entries.now.entries c.args.count c.args.found ids c.loop-left.left rest c.first_id-next.result c.loop-left.invariant in
    elim c.loop-left-test.branch [
      | then-loop-left-test+else-len-count w ↦
          let past : c.args.count ≤ length ids / 10 = search rules in
          let over : looks ≡ 0 = omega arith in
          ended (up_to_taken-looked call.claim call.claimer.now call.moment call.entries.now.entries c.loop-left.left looks rest over) c.first_id-next.ensures
      | else-loop-left-test w ↦
          let over : c.loop-left.left ≡ 0 = omega arith in
          ended (up_to_taken-wanted call.claim call.claimer.now call.moment call.entries.now.entries c.loop-left.left looks rest over) c.first_id-next.ensures
    ]
