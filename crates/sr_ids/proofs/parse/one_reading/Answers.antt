use Rattle.sr_ids.proofs.SpellingLemmas.{SpellsId-one}
use Rattle.sr_ids.proofs.StartLemmas.{IsStart-one}
use Rattle.sr_ids.proofs.EndLemmas.{IsEnd-one}
use Rattle.sr_ids.proofs.SpecLemmas.{IsSpec-one}
use Rattle.sr_ids.proofs.parse.one_reading.Goals as goal

pub returns-clause-written : goal.returns-clause-written
returns-clause-written c = SpellsId-one

pub returns-clause-start : goal.returns-clause-start
returns-clause-start c = IsStart-one

pub returns-clause-end : goal.returns-clause-end
returns-clause-end c = IsEnd-one

pub returns-clause-spec : goal.returns-clause-spec
returns-clause-spec c = IsSpec-one
