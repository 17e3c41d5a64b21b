use Rattle.std.proofs.Common.{◌≡◌, sym, subst}
use Rattle.sr_policy.specs.Snapshot.{IsSnapshot}
use Rattle.sr_space.specs.Snap.{gone_in, live_in, rates_in, stranded_in}
use Rattle.sr_space.proofs.SnapLemmas.{gathered, is_snapshot}
use Rattle.sr_space.proofs.snap.snap_few.Goals as goal

pub of-requires : goal.of-requires
of-requires c =
    let rules = c.args.policy.now in
    let entries = c.args.stream.now.shown.entries in
    let nacks = c.args.group.now.shown.nacks in
    let dead = c.args.dead.items in
    let left = c.in_ok-left.left in
    let stranded : left.stranded.items ≡ stranded_in rules dead entries nacks = rw c.as_slice.ensures.value at c.in_ok-left.ensures.stranded in
    let gone : left.gone.items ≡ gone_in dead entries nacks = rw c.as_slice.ensures.value at c.in_ok-left.ensures.gone in
    let live : c.in_ok-live.live.items ≡ live_in rules dead nacks = rw c.as_slice-2.ensures.value at c.in_ok-live.ensures in
    let rates : c.in_ok-rates.rates.items ≡ rates_in rules c.in_ok-live.live.items left.stranded.items =
    rw (c.as_slice-3.ensures.value, c.as_slice-4.ensures.value) at c.in_ok-rates.ensures in
    let parts = gathered rules c.args.key.now c.args.name.now dead entries nacks c.in_ok-key.key c.in_ok-name.name
    left.stranded.items left.gone.items c.in_ok-live.live.items c.in_ok-rates.rates.items c.in_ok-key.ensures c.in_ok-name.ensures stranded gone live rates in
    subst IsSnapshot (sym parts) (is_snapshot rules c.args.key.now c.args.name.now dead entries nacks c.sound.ensures c.sound-2.ensures.rising c.requires.order c.requires.few)
