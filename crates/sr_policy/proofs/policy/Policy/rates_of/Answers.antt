use Rattle.std.proofs.Common.{◌≡◌, All, List, Option, ℕ, [], ◌∷◌, ◌++◌, map, ap, sym, subst, refl, ◌∙◌}
use Rattle.std.proofs.lemmas.List.{map_push}
use Rattle.sr_policy.specs.declared.live.Live.{Live}
use Rattle.sr_policy.specs.declared.rows.Column.{Column}
use Rattle.sr_policy.specs.Rules.{Text, consumers_of, rate_of}
use Rattle.sr_policy.specs.steps.Rows.{IsColumn}
use Rattle.sr_policy.proofs.policy.Policy.rates_of.Goals as goal

-- what depends on names alone is the same for lists of the same names
by_names : {X Y : Type 0} (f : Text → Option ℕ) (g : X → Text) (h : Y → Text) (xs : List X) (ys : List Y) → map g xs ≡ map h ys
    → map (λ x. f (g x)) xs ≡ map (λ y. f (h y)) ys
by_names f g h [] [] same = refl
by_names f g h [] (y ∷ ys) same = absurd (cc same)
by_names f g h (x ∷ xs) [] same = absurd (cc same)
by_names f g h (x ∷ xs) (y ∷ ys) same =
    let first : g x ≡ h y = cc in
    let later : map g xs ≡ map h ys = cc in
    let head : f (g x) ≡ f (h y) = ap f first in
    let rest : map (λ x. f (g x)) xs ≡ map (λ y. f (h y)) ys = by_names f g h xs ys later in
    cc

pub rates_at-requires : goal.rates_at-requires
rates_at-requires c =
    subst (λ (l : List Column). All (IsColumn (consumers_of c.args.self.now)) l) (sym c.as_slice.ensures.value)
    (subst (λ (names : List Text). All (IsColumn names) c.in_ok-columns.columns.items) c.consumers.ensures.value
    c.in_ok-columns.ensures.places)

pub loop-class-preserved : goal.loop-class-preserved
loop-class-preserved c =
    let rules = c.args.self.now in
    let class = c.in-Some.class in
    let line : Text → Text × List (Option ℕ) = λ class. (class, map (λ (consumer : Live). rate_of rules class consumer.name) c.args.live.now) in
    let columns = c.in_ok-columns.columns.items in
    let rates : c.in_ok-rates.rates ≡ map (λ (column : Column). rate_of rules class column.consumer.now) columns =
    c.in_ok-rates.ensures ∙ ap (map (λ (column : Column). rate_of rules class column.consumer.now)) c.as_slice.ensures.value in
    let all : c.in_ok-rates.rates ≡ map (λ (consumer : Live). rate_of rules class consumer.name) c.args.live.now =
    rates ∙ by_names (rate_of rules class) (λ (column : Column). column.consumer.now) (λ (consumer : Live). consumer.name) columns c.args.live.now
    c.in_ok-columns.ensures.names in
    c.in_ok-push.ensures.items ∙ ap (λ (l : List (Text × List (Option ℕ))). l ++ (class, c.in_ok-rates.rates) ∷ []) c.loop-class.invariant
    ∙ ap (λ (rates : List (Option ℕ)). map line c.loop-class.yielded ++ (class, rates) ∷ []) all
    ∙ sym (map_push line c.loop-class.yielded class)
