use Rattle.std.proofs.Common.{◌≡◌, List, [], ◌∷◌, refl}
use Rattle.std.proofs.lemmas.Result.{err_from_is_err_and}
use Rattle.sr_args.specs.declared.commands.named.ConsumerNamed.{ConsumerNamed}
use Rattle.sr_args.specs.FormWord.{Word}
use Rattle.sr_args.specs.steps.Gives.{GivesCall}
use Rattle.sr_args.specs.steps.Named.{consumer_form, consumer_of}
use Rattle.sr_args.proofs.NamedLemmas.{consumer-none}
use Rattle.sr_args.proofs.commands.named.read_consumer.Goals as goal

gives : (words left : List Word) (key group consumer : Word) (named : ConsumerNamed) → words ≡ key ∷ group ∷ consumer ∷ left → left ≡ [] → named.key ≡ key → named.group ≡ group → named.consumer ≡ consumer → GivesCall consumer_form consumer_of words named
gives words left key group consumer named e f same_key same_group same_consumer = record {
  reading = (key, (group, (consumer, tt)));
  reads = record { fits = rw e (refl, (refl, (refl, rw f tt))); fit = tt };
  values = (named.key, (named.group, (named.consumer, tt)));
  means = (same_key, (same_group, (same_consumer, tt)));
  is = refl;
}

pub returns-in_default : goal.returns-in_default
returns-in_default c = λ reading r. consumer-none c.args.words reading.0 reading.1.0 reading.1.1.0 [] r.fits c.in_default.ensures.none

pub returns-in_err-named : goal.returns-in_err-named
returns-in_err-named c =
    let p = err_from_is_err_and c.from_residual.result c.from_residual.ensures.1 in
    let read = c.in-Some.read in
    rw (p.1, p.2) (_, gives c.args.words c.consumer_words.new.words read.key.now read.group.now read.consumer.now (record { key = read.key.now; group = read.group.now; consumer = read.consumer.now }) c.in-Some.ensures.found c.in_default-next.ensures.none refl refl refl)

pub returns : goal.returns
returns c =
    let read = c.in-Some.read in
    gives c.args.words c.consumer_words.new.words read.key.now read.group.now read.consumer.now c.in_ok-named.named c.in-Some.ensures.found c.in_default-next.ensures.none c.in_ok-named.ensures.key c.in_ok-named.ensures.group c.in_ok-named.ensures.consumer
