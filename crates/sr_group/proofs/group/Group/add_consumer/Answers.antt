use Rattle.std.proofs.Common.{◌≡◌, ℕ, false, not, List, inr, refl, sym, ap, ◌∙◌, arith}
use Rattle.std.specs.Bool.{⊤}
use Rattle.std.proofs.lemmas.Result.{IfOk-from_err, MatchResult-from_err}
use Rattle.sr_ids.specs.declared.id.Id.{Id}
use Rattle.sr_pending.specs.declared.nack.Nack.{Nack}
use Rattle.sr_group.specs.declared.consumer.Consumer.{Consumer}
use Rattle.sr_group.specs.Group.{GroupState, KeptGroup, has_consumer, made_at, seen_at}
use Rattle.sr_group.proofs.GroupLemmas.{IsGroup-seen}
use Rattle.sr_group.proofs.MovingLemmas.{IsGroup-same, shown-same}
use Rattle.sr_group.proofs.group.Group.add_consumer.Goals as goal

made-absent : (name : List ℕ) (moment : ℕ) (consumers : List Consumer) → has_consumer name consumers ≡ false → seen_at name moment consumers ≡ made_at name moment consumers
made-absent name moment consumers absent = rw absent

made-shown : (name other : List ℕ) (moment : ℕ) (last : Id) (consumers seen : List Consumer) (nacks : List Nack) (group : GroupState) → has_consumer name consumers ≡ false → other ≡ name
    → seen ≡ seen_at other moment consumers → record { last = last; consumers = consumers; nacks = nacks } ≡ group
    → record { last = last; consumers = seen; nacks = nacks } ≡ record group { consumers = made_at name moment group.consumers }
made-shown name other moment last consumers seen nacks group absent same at is =
    let made : seen ≡ made_at name moment consumers = at ∙ ap (λ (l : List ℕ). seen_at l moment consumers) same ∙ made-absent name moment consumers absent in
    rw (← is) (ap (λ (l : List Consumer). record { last = last; consumers = l; nacks = nacks }) made)

pub invariant_of-self : goal.invariant_of-self
invariant_of-self c = IsGroup-same _ _ _ _ _ c.reserve.ensures.items refl c.self.invariant

pub invariant_of-self-2 : goal.invariant_of-self-2
invariant_of-self-2 c =
    let group = c.self.inside in
    let name = c.in_ok-name.name in
    let seen : c.see.new.consumers.items ≡ seen_at name c.args.moment group.consumers.items = c.see.ensures.items ∙ ap (λ (l : List Consumer). seen_at name c.args.moment l) c.reserve.ensures.items in
    IsGroup-seen name c.args.moment group.last group.consumers.items c.see.new.consumers.items group.pending.nacks c.self.invariant c.requires seen

pub see-requires-clause-room : goal.see-requires-clause-room
see-requires-clause-room c = inr (let room = c.in_ok-reserve.ensures.ok in omega (arith, room))

pub returns-in_err-reserve-clause-shown : goal.returns-in_err-reserve-clause-shown
returns-in_err-reserve-clause-shown c = IfOk-from_err _ _ c.from_residual-in_err-reserve.ensures.0

pub returns-in_err-reserve-clause-made : goal.returns-in_err-reserve-clause-made
returns-in_err-reserve-clause-made c = IfOk-from_err _ _ c.from_residual-in_err-reserve.ensures.0

pub returns-in_err-reserve-clause-err : goal.returns-in_err-reserve-clause-err
returns-in_err-reserve-clause-err c =
    MatchResult-from_err _ (λ _. ⊤) _ c.from_residual-in_err-reserve.ensures.0 (λ _. shown-same _ _ _ _ _ _ c.reserve.ensures.items refl (ap (λ (g : KeptGroup). g.shown) c.self.view_is))

pub returns-clause-shown : goal.returns-clause-shown
returns-clause-shown c =
    let group = c.self.inside in
    let absent : has_consumer c.args.name.now group.consumers.items ≡ false =
    ap (has_consumer c.args.name.now) (sym c.as_slice.ensures.value) ∙ sym c.is_there.ensures ∙ c.if-is_there.false in
    let seen : c.see.new.consumers.items ≡ seen_at c.in_ok-name.name c.args.moment group.consumers.items =
    c.see.ensures.items ∙ ap (λ (l : List Consumer). seen_at c.in_ok-name.name c.args.moment l) c.reserve.ensures.items in
    made-shown c.args.name.now c.in_ok-name.name c.args.moment group.last group.consumers.items c.see.new.consumers.items group.pending.nacks c.args.self.now.shown absent c.in_ok-name.ensures seen (ap (λ (g : KeptGroup). g.shown) c.self.view_is)

pub returns-clause-made : goal.returns-clause-made
returns-clause-made c =
    let absent : has_consumer c.args.name.now c.args.self.now.shown.consumers ≡ false =
    ap (λ (g : KeptGroup). has_consumer c.args.name.now g.shown.consumers) (sym c.self.view_is)
    ∙ ap (has_consumer c.args.name.now) (sym c.as_slice.ensures.value) ∙ sym c.is_there.ensures ∙ c.if-is_there.false in
    sym (ap not absent)
