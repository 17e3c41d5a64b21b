use Rattle.std.proofs.Common.{◌≡◌, ◌≢◌, Bool, true, false, ◌&&◌, List, ◌∷◌, Result, Ok, Err, OnErr, ◌++◌, [], length, append-nil, inl, arith, refl, ap, sym, subst, ◌∙◌, true≢false, rules}
use Rattle.std.proofs.lemmas.Result.{IfOk-from_err, MatchResult-from_err}
use Rattle.sr_args.specs.{AreDifferent, IsAmong}
use Rattle.sr_args.specs.declared.reads.ReadAsked.{ReadAsked}
use Rattle.sr_space.specs.Keys.{Key, Keys, shown_keys}
use Rattle.sr_space.specs.steps.Reading.{StayBesideAll, keys_after, listed_by, named_by}
use Rattle.sr_space.specs.commands.Xread.{listed_or_null}
use Rattle.sr_space.specs.commands.Xreadgroup.{have_group}
use Rattle.sr_space.proofs.ReadGroupLemmas.{first-listed, first-read, others-read, others-shown}
use Rattle.sr_space.proofs.commands.xreadgroup.+read_all.Goals as goal

-- both of two tests that hold together hold
first_of : (a b : Bool) → a && b ≡ true → a ≡ true
first_of true b both = refl
first_of false b both = both

second_of : (a b : Bool) → a && b ≡ true → b ≡ true
second_of true b both = both
second_of false b both = absurd (true≢false (sym both))

-- a key that is not among those that are named is not the first of them
apart_first : (other first : Key) (rest all : List Key) → all ≡ first ∷ rest → (IsAmong other all → ⊥) → other ≢ first
apart_first other first rest all named apart is = apart (rw (named, is) (inl refl))

none_named : (streams : List (Key × ReadAsked)) → length streams ≡ 0 → streams ≡ []
none_named [] none = refl
none_named (stream ∷ streams) none = absurd (omega arith)

pub prepare_at-requires : goal.prepare_at-requires
prepare_at-requires t c =
    let name = c.args.read.now.group.now in
    let keys = shown_keys c.args.keys.now.entries in
    let first = c.in-Some.first.now in
    let rest = c.in-Some.rest.now in
    let streams : c.args.streams.now ≡ first ∷ rest = c.in-Some.ensures.cases.0 in
    let there : have_group name keys (first ∷ rest) ≡ true = rw streams at c.requires.there in
    record { array = c.requires.array; there = first_of _ (have_group name keys rest) there }

pub read_all-requires : goal.read_all-requires
read_all-requires t c =
    let name = c.args.read.now.group.now in
    let keys = shown_keys c.args.keys.now.entries in
    let first = c.in-Some.first.now in
    let rest = c.in-Some.rest.now in
    let streams : c.args.streams.now ≡ first ∷ rest = c.in-Some.ensures.cases.0 in
    let different : AreDifferent (named_by (first ∷ rest)) = rw streams at c.requires.different in
    let there : have_group name keys (first ∷ rest) ≡ true = rw streams at c.requires.there in
    let others : have_group name keys rest ≡ true = second_of _ (have_group name keys rest) there in
    (search rules, ((_, c.in_ok-shown.ensures.listed c.requires.array.0 c.requires.array.1), (different.1, ap (λ (k : Keys). have_group name k rest) c.prepare_at.ensures.keys ∙ others)))

pub show_at-requires : goal.show_at-requires
show_at-requires t c =
    let first = c.in-Some.first.now in
    let rest = c.in-Some.rest.now in
    let streams : c.args.streams.now ≡ first ∷ rest = c.in-Some.ensures.cases.0 in
    let different : AreDifferent (named_by (first ∷ rest)) = rw streams at c.requires.different in
    let room = c.in_ok-shown.ensures.room in
    record { kept = room.kept; there = c.read_all.ensures.others first.0 different.0 ∙ room.there; room = room.room }

pub returns-clause-keys : goal.returns-clause-keys
returns-clause-keys t c =
    let r = c.args.read.now in
    let first = c.in-Some.first.now in
    let rest = c.in-Some.rest.now in
    let begun = c.args.keys.now.entries in
    let streams : c.args.streams.now ≡ first ∷ rest = c.in-Some.ensures.cases.0 in
    let different : AreDifferent (named_by (first ∷ rest)) = rw streams at c.requires.different in
    let read = first-read r first.1 first.0 rest c.in_ok-shown.shown begun c.prepare_at.new.keys.entries c.read_all.new.keys.entries c.show_at.new.keys.entries c.prepare_at.ensures.keys c.in_ok-shown.ensures.room c.in_ok-shown.ensures.written c.in_ok-read_all.ensures.keys c.read_all.ensures.others different.0 c.show_at.ensures.keys in
    read ∙ ap (λ (l : List (Key × ReadAsked)). keys_after r (shown_keys begun) l) (sym streams)

pub returns-clause-send : goal.returns-clause-send
returns-clause-send t c =
    let r = c.args.read.now in
    let first = c.in-Some.first.now in
    let rest = c.in-Some.rest.now in
    let begun = c.args.keys.now.entries in
    let streams : c.args.streams.now ≡ first ∷ rest = c.in-Some.ensures.cases.0 in
    let listed = first-listed r first.1 first.0 rest c.in_ok-shown.shown begun c.prepare_at.new.keys.entries c.read_all.new.keys.entries c.show_at.new.keys.entries c.args.send.now c.prepare_at.new.listed c.read_all.new.send c.prepare_at.ensures.keys c.in_ok-shown.ensures.listed c.in_ok-read_all.ensures.send in
    λ items is. listed items is ∙ ap (λ (l : List (Key × ReadAsked)). listed_or_null (items ++ listed_by r (shown_keys begun) l)) (sym streams)

pub returns-clause-keep : goal.returns-clause-keep
returns-clause-keep t c = c.in_ok-read_all.ensures.keep

pub returns-clause-others : goal.returns-clause-others
returns-clause-others t c =
    let r = c.args.read.now in
    let first = c.in-Some.first.now in
    let rest = c.in-Some.rest.now in
    let begun = c.args.keys.now.entries in
    let ended = c.show_at.new.keys.entries in
    let streams : c.args.streams.now ≡ first ∷ rest = c.in-Some.ensures.cases.0 in
    let before = others-read r first.1 first.0 rest c.in_ok-shown.shown begun c.prepare_at.new.keys.entries c.read_all.new.keys.entries ended c.prepare_at.ensures.others c.read_all.ensures.others in
    let all = others-shown r first.1 first.0 rest c.in_ok-shown.shown begun c.prepare_at.new.keys.entries c.read_all.new.keys.entries ended before c.show_at.ensures.others in
    subst (λ (l : List (Key × ReadAsked)). StayBesideAll (named_by l) begun ended) (sym streams) all

kept : {T E P : Type 0} (result : Result T E) → P → OnErr result P
kept (Ok x) p = tt
kept (Err e) p = p

pub returns-in_err-read_all-clause-err : goal.returns-in_err-read_all-clause-err
returns-in_err-read_all-clause-err t c = kept c.from_residual-in_err-read_all.result (c.in_err-read_all.ensures.err ∙ c.prepare_at.ensures.keys)

pub returns-in_err-keep : goal.returns-in_err-keep
returns-in_err-keep t c =
    let failed = c.from_residual.ensures.0 in
    record { keys = IfOk-from_err _ _ failed; send = IfOk-from_err _ _ failed; keep = IfOk-from_err _ _ failed; err = MatchResult-from_err _ _ _ failed (λ _. refl); others = λ _ _. refl }

pub returns-in_default : goal.returns-in_default
returns-in_default t c =
    let r = c.args.read.now in
    let keys = shown_keys c.args.keys.now.entries in
    let none = sym (none_named c.args.streams.now c.in_default.ensures.cases) in
    record {
      keys = ap (keys_after r keys) none;
      send = λ items is. c.null_if_empty.ensures items is ∙ ap listed_or_null (sym (append-nil items)) ∙ ap (λ (l : List (Key × ReadAsked)). listed_or_null (items ++ listed_by r keys l)) none;
      keep = c.in_ok-keep.ensures;
      err = tt;
      others = λ _ _. refl;
    }

pub returns-in_err-shown : goal.returns-in_err-shown
returns-in_err-shown t c =
    let failed = c.from_residual-in_err-shown.ensures.0 in
    let first = c.in-Some.first.now.0 in
    let streams = ap named_by c.in-Some.ensures.cases.0 in
    record {
      keys = IfOk-from_err _ _ failed;
      send = IfOk-from_err _ _ failed;
      keep = IfOk-from_err _ _ failed;
      err = MatchResult-from_err _ _ _ failed (λ _. c.prepare_at.ensures.keys);
      others = λ other apart. c.prepare_at.ensures.others other (apart_first other first _ _ streams apart);
    }
