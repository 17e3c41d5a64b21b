use Rattle.std.proofs.Common.{◌≡◌, ◌∙◌, ℕ, pos, true, [], List, All, ◌<◌, length, sym, ap, subst, true≢false, arith}
use Rattle.std.proofs.lemmas.Result.{IfOk-from_err}
use Rattle.sr_ids.specs.{IsBelow}
use Rattle.sr_policy.specs.{AreInOrder}
use Rattle.sr_policy.specs.declared.stranded.Stranded.{Stranded}
use Rattle.sr_resp.specs.{integer}
use Rattle.sr_resp.proofs.DecodingLemmas.{empty-true, true-empty}
use Rattle.sr_transport.specs.Certificate.{places_of}
use Rattle.sr_check.specs.steps.Read.{Begins, HasChosen, ids_of, rooms_answer}
use Rattle.sr_check.proofs.BeginsLemmas.{Begins-one}
use Rattle.sr_check.proofs.ListLemmas.{flat}
use Rattle.sr_check.proofs.ShortageLemmas.{IsShortageText-read, shortage-known, within-entries}
use Rattle.sr_check.proofs.shortage.shortage_of.Goals as goal

pub returns-then-len-entries-clause-none : goal.returns-then-len-entries-clause-none
returns-then-len-entries-clause-none c = λ set shows is.
    let shown = c.args.snapshot.now in
    let p = c.args.problem.now in
    let ids = c.in-Some.ids.now in
    let read = c.in_ok-set.set.items in
    let rooms = c.in_ok-set.rooms.now in
    let chosen = λ (other after : List ℕ) (has : HasChosen shown.stranded ids other after).
    c.in_ok-set.ensures.same other after
    (subst (λ (s : List Stranded). HasChosen s ids other after) (sym c.stranded.ensures) has) in
    let known = shortage-known shown p c.args.bytes.now ids read rooms set c.in-Some.entries c.requires
    c.in-Some.ensures.found chosen shows is in
    absurd (omega (arith, c.len.ensures, known.counted, ap length known.same, c.if-len-entries.true))

pub returns-in_default-after_rooms-clause-none : goal.returns-in_default-after_rooms-clause-none
returns-in_default-after_rooms-clause-none c = λ set shows is.
    let shown = c.args.snapshot.now in
    let p = c.args.problem.now in
    let ids = c.in-Some.ids.now in
    let read = c.in_ok-set.set.items in
    let rooms = c.in_ok-set.rooms.now in
    let chosen = λ (other after : List ℕ) (has : HasChosen shown.stranded ids other after).
    c.in_ok-set.ensures.same other after
    (subst (λ (s : List Stranded). HasChosen s ids other after) (sym c.stranded.ensures) has) in
    let known = shortage-known shown p c.args.bytes.now ids read rooms set c.in-Some.entries c.requires
    c.in-Some.ensures.found chosen shows is in
    c.in_default-after_rooms.ensures.none known.places_at
    (subst (λ (ns : List ℕ). Begins rooms (rooms_answer p ns shown.live) known.places_at) (sym c.as_slice.ensures.value)
    known.rooms_are)

pub returns-in_default-after_integer-clause-none : goal.returns-in_default-after_integer-clause-none
returns-in_default-after_integer-clause-none c = λ set shows is.
    let shown = c.args.snapshot.now in
    let p = c.args.problem.now in
    let ids = c.in-Some.ids.now in
    let read = c.in_ok-set.set.items in
    let rooms = c.in_ok-set.rooms.now in
    let chosen = λ (other after : List ℕ) (has : HasChosen shown.stranded ids other after).
    c.in_ok-set.ensures.same other after
    (subst (λ (s : List Stranded). HasChosen s ids other after) (sym c.stranded.ensures) has) in
    let known = shortage-known shown p c.args.bytes.now ids read rooms set c.in-Some.entries c.requires
    c.in-Some.ensures.found chosen shows is in
    let answer = λ (ns : List ℕ). rooms_answer p ns shown.live in
    let places = c.in-Some-after_rooms.places.now in
    let roomy = subst (λ (ns : List ℕ). Begins rooms (answer ns) places) c.as_slice.ensures.value
    c.in-Some-after_rooms.ensures.found in
    let at : places ≡ known.places_at = Begins-one rooms places known.places_at (answer read) roomy known.rooms_are in
    let count : c.places.result ≡ places_of p read =
    c.places.ensures.value ∙ ap (places_of p) c.as_slice-2.ensures.value in
    let begins = subst (λ (t : List ℕ). Begins t (integer (pos (places_of p read))) []) (sym at) known.places_are in
    let last = subst (λ (n : ℕ). Begins places (integer (pos n)) []) (sym count) begins in
    c.in_default-after_integer.ensures.none [] last

pub returns-then-not-is_empty-clause-none : goal.returns-then-not-is_empty-clause-none
returns-then-not-is_empty-clause-none c = λ set shows is.
    let shown = c.args.snapshot.now in
    let p = c.args.problem.now in
    let ids = c.in-Some.ids.now in
    let read = c.in_ok-set.set.items in
    let rooms = c.in_ok-set.rooms.now in
    let chosen = λ (other after : List ℕ) (has : HasChosen shown.stranded ids other after).
    c.in_ok-set.ensures.same other after
    (subst (λ (s : List Stranded). HasChosen s ids other after) (sym c.stranded.ensures) has) in
    let known = shortage-known shown p c.args.bytes.now ids read rooms set c.in-Some.entries c.requires
    c.in-Some.ensures.found chosen shows is in
    let answer = λ (ns : List ℕ). rooms_answer p ns shown.live in
    let places = c.in-Some-after_rooms.places.now in
    let roomy = subst (λ (ns : List ℕ). Begins rooms (answer ns) places) c.as_slice.ensures.value
    c.in-Some-after_rooms.ensures.found in
    let at : places ≡ known.places_at = Begins-one rooms places known.places_at (answer read) roomy known.rooms_are in
    let count : c.places.result ≡ places_of p read =
    c.places.ensures.value ∙ ap (places_of p) c.as_slice-2.ensures.value in
    let begins = subst (λ (t : List ℕ). Begins t (integer (pos (places_of p read))) []) (sym at) known.places_are in
    let last = subst (λ (n : ℕ). Begins places (integer (pos n)) []) (sym count) begins in
    let left = c.in-Some-after_integer.left.now in
    let ended : left ≡ [] =
    Begins-one places left [] (integer (pos c.places.result)) c.in-Some-after_integer.ensures.found last in
    let yes : c.is_empty.result ≡ true = true-empty left c.is_empty.result c.is_empty.ensures ended in
    true≢false (sym yes ∙ c.if-not-is_empty.true)

pub returns-clause-same : goal.returns-clause-same
returns-clause-same c = λ set shows is.
    let shown = c.args.snapshot.now in
    let p = c.args.problem.now in
    let ids = c.in-Some.ids.now in
    let read = c.in_ok-set.set.items in
    let rooms = c.in_ok-set.rooms.now in
    let chosen = λ (other after : List ℕ) (has : HasChosen shown.stranded ids other after).
    c.in_ok-set.ensures.same other after
    (subst (λ (s : List Stranded). HasChosen s ids other after) (sym c.stranded.ensures) has) in
    let known = shortage-known shown p c.args.bytes.now ids read rooms set c.in-Some.entries c.requires
    c.in-Some.ensures.found chosen shows is in
    known.same

pub chosen-requires : goal.chosen-requires
chosen-requires c =
    subst (λ (s : List Stranded). AreInOrder (λ a b. IsBelow a.id b.id) s)
    (sym c.stranded.ensures) c.sound.ensures.ids.stranded

pub returns-in_default-clause-found : goal.returns-in_default-clause-found
returns-in_default-clause-found c = tt

pub returns-in_default-clause-same : goal.returns-in_default-clause-same
returns-in_default-clause-same c = tt

pub returns-in_default-clause-within : goal.returns-in_default-clause-within
returns-in_default-clause-within c = tt

pub returns-in_default-clause-none : goal.returns-in_default-clause-none
returns-in_default-clause-none c = λ set shows is. c.in_default.ensures.none (length set) is.ids_at is.header

pub returns-in_err-set-clause-found : goal.returns-in_err-set-clause-found
returns-in_err-set-clause-found c = IfOk-from_err _ _ c.from_residual.ensures.0

pub returns-in_err-set-clause-same : goal.returns-in_err-set-clause-same
returns-in_err-set-clause-same c = IfOk-from_err _ _ c.from_residual.ensures.0

pub returns-in_err-set-clause-none : goal.returns-in_err-set-clause-none
returns-in_err-set-clause-none c = IfOk-from_err _ _ c.from_residual.ensures.0

pub returns-in_err-set-clause-within : goal.returns-in_err-set-clause-within
returns-in_err-set-clause-within c = IfOk-from_err _ _ c.from_residual.ensures.0

pub returns-then-len-entries-clause-found : goal.returns-then-len-entries-clause-found
returns-then-len-entries-clause-found c = tt

pub returns-then-len-entries-clause-same : goal.returns-then-len-entries-clause-same
returns-then-len-entries-clause-same c = tt

pub returns-then-len-entries-clause-within : goal.returns-then-len-entries-clause-within
returns-then-len-entries-clause-within c = tt

pub after_rooms-requires-clause-problem : goal.after_rooms-requires-clause-problem
after_rooms-requires-clause-problem c = c.requires

pub after_rooms-requires-clause-entries : goal.after_rooms-requires-clause-entries
after_rooms-requires-clause-entries c =
    subst (λ (set : List ℕ). All (λ i. i < c.args.problem.now.entries) set) (sym c.as_slice.ensures.value)
    (within-entries c.args.snapshot.now c.args.problem.now c.stranded.result.now
    c.in_ok-set.set.items c.requires c.stranded.ensures c.in_ok-set.ensures.within)

pub returns-in_default-after_rooms-clause-found : goal.returns-in_default-after_rooms-clause-found
returns-in_default-after_rooms-clause-found c = tt

pub returns-in_default-after_rooms-clause-same : goal.returns-in_default-after_rooms-clause-same
returns-in_default-after_rooms-clause-same c = tt

pub returns-in_default-after_rooms-clause-within : goal.returns-in_default-after_rooms-clause-within
returns-in_default-after_rooms-clause-within c = tt

pub places-requires : goal.places-requires
places-requires c =
    subst (λ (set : List ℕ). All (λ i. i < c.args.problem.now.entries) set) (sym c.as_slice-2.ensures.value)
    (within-entries c.args.snapshot.now c.args.problem.now c.stranded.result.now
    c.in_ok-set.set.items c.requires c.stranded.ensures c.in_ok-set.ensures.within)

pub after_integer-requires : goal.after_integer-requires
after_integer-requires c = omega (arith, c.places.ensures.small)

pub returns-in_default-after_integer-clause-found : goal.returns-in_default-after_integer-clause-found
returns-in_default-after_integer-clause-found c = tt

pub returns-in_default-after_integer-clause-same : goal.returns-in_default-after_integer-clause-same
returns-in_default-after_integer-clause-same c = tt

pub returns-in_default-after_integer-clause-within : goal.returns-in_default-after_integer-clause-within
returns-in_default-after_integer-clause-within c = tt

pub returns-then-not-is_empty-clause-found : goal.returns-then-not-is_empty-clause-found
returns-then-not-is_empty-clause-found c = tt

pub returns-then-not-is_empty-clause-same : goal.returns-then-not-is_empty-clause-same
returns-then-not-is_empty-clause-same c = tt

pub returns-then-not-is_empty-clause-within : goal.returns-then-not-is_empty-clause-within
returns-then-not-is_empty-clause-within c = tt

pub returns-clause-found : goal.returns-clause-found
returns-clause-found c =
    let shown = c.args.snapshot.now in
    let p = c.args.problem.now in
    let ids = c.in-Some.ids.now in
    let set = c.in_ok-set.set.items in
    let rooms = c.in_ok-set.rooms.now in
    let places = c.in-Some-after_rooms.places.now in
    let left = c.in-Some-after_integer.left.now in
    let counted : length set ≡ c.in-Some.entries = omega (arith, c.len.ensures, c.if-len-entries.false) in
    let listed = subst (λ (s : List Stranded). Begins ids (flat (ids_of s set)) rooms) c.stranded.ensures
    c.in_ok-set.ensures.found in
    let roomy = subst (λ (ns : List ℕ). Begins rooms (rooms_answer p ns shown.live) places) c.as_slice.ensures.value
    c.in-Some-after_rooms.ensures.found in
    let count : c.places.result ≡ places_of p set =
    c.places.ensures.value ∙ ap (places_of p) c.as_slice-2.ensures.value in
    let ended : left ≡ [] = empty-true left c.is_empty.result c.is_empty.ensures c.if-not-is_empty.false in
    let begins = subst (λ (n : ℕ). Begins places (integer (pos n)) left) count c.in-Some-after_integer.ensures.found in
    let last = subst (λ (after : List ℕ). Begins places (integer (pos (places_of p set))) after) ended begins in
    IsShortageText-read shown p c.args.bytes.now ids rooms places set c.in-Some.entries c.requires
    c.in-Some.ensures.found counted
    listed roomy last

pub returns-clause-none : goal.returns-clause-none
returns-clause-none c = tt

pub returns-clause-within : goal.returns-clause-within
returns-clause-within c =
    within-entries c.args.snapshot.now c.args.problem.now c.stranded.result.now c.in_ok-set.set.items c.requires
    c.stranded.ensures
    c.in_ok-set.ensures.within
