use Rattle.std.proofs.Common.{◌≡◌, ℕ, ◌+◌, ◌<◌, List, [], ◌∷◌, ◌++◌, length, get_or, map, take, ap, sym, ◌∙◌}
use Rattle.std.proofs.lemmas.List.{map_more, take_all}
use Rattle.sr_pending.specs.declared.nack.Nack.{Nack}
use Rattle.sr_pending.specs.{owned_by}
use Rattle.sr_group.specs.declared.consumer.Consumer.{Consumer}
use Rattle.sr_group.specs.Group.{counts_of}
use Rattle.sr_group.proofs.listing.counts_for.Goals as goal

step : (consumers : List Consumer) (i : ℕ) (consumer : Consumer) (nacks : List Nack) (count : ℕ) (old new : List ℕ) → i < length consumers → consumer ≡ get_or consumers i consumer → count ≡ length (owned_by consumer.name nacks) → new ≡ old ++ count ∷ [] → old ≡ counts_of (take i consumers) nacks
    → new ≡ counts_of (take (i + 1) consumers) nacks
step consumers i consumer nacks count old new within read is pushed so_far =
    let counted : Consumer → ℕ = λ (one : Consumer). length (owned_by one.name nacks) in
    pushed
    ∙ ap (λ (l : List ℕ). l ++ count ∷ []) so_far
    ∙ ap (λ (n : ℕ). map counted (take i consumers) ++ n ∷ []) (is ∙ ap counted read)
    ∙ sym (map_more counted consumers i consumer within)

pub loop-consumer-preserved : goal.loop-consumer-preserved
loop-consumer-preserved c =
    step c.args.consumers.now c.loop-consumer.consumer-index c.consumer-item.result c.args.pending.now.nacks c.count_of.result c.loop-consumer.counts.items c.push.new.self.items c.loop-consumer-test.true c.consumer-item.is c.count_of.ensures.value c.in_ok-push.ensures.items c.loop-consumer.invariant

pub returns : goal.returns
returns c =
    c.loop-consumer.invariant
    ∙ ap (λ (l : List Consumer). counts_of l c.args.pending.now.nacks) (take_all c.loop-consumer.consumer-index c.args.consumers.now c.loop-consumer-test.false)
