use Rattle.std.proofs.Common.{◌≡◌, [], refl}
use Rattle.std.proofs.lemmas.Bool.{false≢true}
use Rattle.std.specs.Option.{option_copied}
use Rattle.sr_args.proofs.PendingLemmas.{listing-reads, listing-word_left}
use Rattle.sr_args.proofs.commands.xpending.listing_words.Goals as goal

pub returns-then-not-is_empty-clause-none : goal.returns-then-not-is_empty-clause-none
returns-then-not-is_empty-clause-none c =
    let more : c.next-consumer.new.self ≡ [] → ⊥ = λ e. false≢true (c.if-not-is_empty.ensures.1 e) in
    listing-word_left (λ b. b.now) c.next-consumer.result c.args.words c.idle_word.new.words c.next.new.self c.next-2.new.self c.next-3.new.self c.next-consumer.new.self (option_copied c.in_ok-least_idle.least_idle) c.in_ok-start.start.now c.in_ok-end.end.now c.in_ok-count.count.now c.in_ok-least_idle.ensures.found c.in_ok-start.ensures.some c.in_ok-end.ensures.some c.in_ok-count.ensures.some c.next-consumer.ensures.some c.next-consumer.ensures.same more

pub returns-clause-found : goal.returns-clause-found
returns-clause-found c =
    listing-reads c.args.words c.idle_word.new.words c.next.new.self c.next-2.new.self c.next-3.new.self c.next-consumer.new.self (option_copied c.in_ok-least_idle.least_idle) c.in_ok-start.start.now c.in_ok-end.end.now c.in_ok-count.count.now c.next-consumer.result c.in_ok-least_idle.ensures.found c.in_ok-least_idle.ensures.past c.in_ok-start.ensures.some c.in_ok-end.ensures.some c.in_ok-count.ensures.some c.next-consumer.ensures.some c.next-consumer.ensures.none (c.if-not-is_empty.ensures.0 refl)
