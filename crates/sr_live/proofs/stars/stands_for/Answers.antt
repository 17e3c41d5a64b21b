use Rattle.std.proofs.Common.{◌≡◌, ◌++◌, ◌∷◌, ◌∙◌, [], List, ℕ, Some, ap, sym, drop, length}
use Rattle.std.proofs.lemmas.Bool.Decides.{Decides-eqb}
use Rattle.std.proofs.lemmas.Slice.Eq.{starts_is, strip_suffix_is}
use Rattle.sr_live.proofs.StarsLemmas.{start-is}
use Rattle.sr_live.proofs.stars.stands_for.Goals as goal

pub returns-in-Some-clause-yes : goal.returns-in-Some-clause-yes
returns-in-Some-clause-yes c = λ yes.
    let start = c.in-Some.start.now in
    let begins = starts_is Decides-eqb c.args.consumer.now start c.starts_with.result c.starts_with.ensures.value in
    let ends = strip_suffix_is Decides-eqb c.args.key.now (42 ∷ []) (Some c.in-Some.start) c.in-Some.ensures.cases in
    (start, drop (length start) c.args.consumer.now, ends, begins.0 yes)

pub returns-in-Some-clause-no : goal.returns-in-Some-clause-no
returns-in-Some-clause-no c = λ stands.
    let start = c.in-Some.start.now in
    let begins = starts_is Decides-eqb c.args.consumer.now start c.starts_with.result c.starts_with.ensures.value in
    let ends = strip_suffix_is Decides-eqb c.args.key.now (42 ∷ []) (Some c.in-Some.start) c.in-Some.ensures.cases in
    begins.1 stands.1 (stands.3 ∙ ap (λ (l : List ℕ). l ++ stands.1) (start-is c.args.key.now stands.0 start stands.2 ends))
