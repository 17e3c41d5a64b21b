-- All connections of a hub: one goes on, the others are left alone, and no two have one session.
use Rattle.std.proofs.Common.{◌≡◌, ◌≢◌, ◌==◌, ◌⊎◌, ◌↔◌, inl, inr, ℕ, Bool, true, false, cond, List, [], ◌++◌, take, drop, Option, Some, None, option_map, IfSome, IsSome, IsSomeAnd, IsTrue, Result, Ok, Err, IfErr, OnOk, OnErr, IsErrOf, refl, ap, sym, subst, ◌∙◌, true≢false}
use Rattle.std.proofs.lemmas.Bool.{eq-eqb, eqb-true, ne_eqb}
use Rattle.std.proofs.lemmas.List.{append-nil}
use Rattle.slab.specs.Slab.{ContainsKey, Slab, Updates, get, with_value}
use Rattle.slab.proofs.SlabLemmas.{Updates-with_value}
use Rattle.sr_book.specs.{is_open, BookState, Recorded}
use Rattle.sr_book.specs.Server.{Server}
use Rattle.sr_book.specs.Records.{rebased}
use Rattle.sr_hub.specs.declared.hub.TakeFault.{TakeFault}
use Rattle.sr_hub.specs.declared.hub.TakeFault.TheVariants as take_faults
use Rattle.sr_hub.specs.declared.stage.Stage.TheVariants as stages
use Rattle.sr_hub.specs.OneRequest.{spoken}
use Rattle.sr_hub.specs.Line.{Begins, ConnectionState, IsAtRest, IsLine, is_ended}
use Rattle.sr_hub.specs.Lines.{AreAll, AreApart, AreLines, GoOn, HubState, session_at, with_more}
use Rattle.sr_hub.specs.Said.{Says, SaysOf}
use Rattle.sr_hub.specs.steps.Calls.{BeginsAt, Changes, IsRefusedAt, MovesAt, SendsAt, TakesAt, hub_of, is_gone, is_there}
use Rattle.sr_hub.specs.steps.Moves.{Adds, KeepsOpen, Moves, Takes}
use Rattle.sr_hub.specs.steps.Telling.{Feeds, FeedsNot, IsUntaken, ended, unfed}
use Rattle.sr_hub.proofs.FrameLemmas.{all-grows, all-rebased, line-passes, others-say}
use Rattle.sr_hub.proofs.LineLemmas.{ended-line, fed-line, sent-line, unfed-line}
use Rattle.sr_hub.proofs.MoveLemmas.{takes-then}

-- ---- one connection changes

same_or_not : (a b : ℕ) → (a ≡ b) ⊎ (a ≢ b)
same_or_not a b = by (a == b) refl
  where
    by : (test : Bool) → (a == b) ≡ test → (a ≡ b) ⊎ (a ≢ b)
    by true e = inl (eqb-true a b e)
    by false e = inr (λ same. true≢false (sym (eq-eqb a b same) ∙ e))

some-same : {A : Type 0} (x y : A) → Some x ≡ Some y → x ≡ y
some-same x y e = cc

pub apart-changes : (token : ℕ) (old new : HubState) (before after : ConnectionState) → Changes token old new before after → KeepsOpen old.book.server new.book.server → AreApart old → AreApart new
apart-changes token old new before after changes opened apart = record {
  own = λ a b first second at_a at_b same.
      let x = earlier a first at_a in
      let y = earlier b second at_b in
      apart.own a b x.0 y.0 x.1 y.1 (sym x.2 ∙ same ∙ y.2);
  opened = λ at line is.
      let x = earlier at line is in
      subst (λ (s : ℕ). is_open s new.book.server.sessions ≡ true) (sym x.2) (opened x.0.session (apart.opened at x.0 x.1));
}
  where
    -- what it was before, with the same session
    earlier : (at : ℕ) (line : ConnectionState) → new.at at ≡ Some line → (it : ConnectionState) × (old.at at ≡ Some it) × (line.session ≡ it.session)
    earlier at line is = by (same_or_not at token)
      where
        by : (at ≡ token) ⊎ (at ≢ token) → (it : ConnectionState) × (old.at at ≡ Some it) × (line.session ≡ it.session)
        by (inl here) =
            let one : line ≡ after = some-same line after (sym is ∙ ap new.at here ∙ changes.is) in
            (before, ap old.at here ∙ changes.was, ap (λ (c : ConnectionState). c.session) one ∙ changes.same)
        by (inr away) = (line, sym (changes.others at away) ∙ is, refl)

-- another connection of the hub has another session
pub apart-other : (hub : HubState) (a b : ℕ) (first second : ConnectionState) → AreApart hub → hub.at a ≡ Some first → hub.at b ≡ Some second → b ≢ a → (first.session == second.session) ≡ false
apart-other hub a b first second apart at_a at_b away = ne_eqb first.session second.session (λ same. away (sym (apart.own a b first second at_a at_b same)))

-- a connection changes in its slot
pub slot-changes : (before : Slab ConnectionState) (book after_book : BookState) (token : ℕ) (first last : ConnectionState)
    → Some first ≡ get before token → last.session ≡ first.session
    → Changes token (hub_of book before) (hub_of after_book (with_value before token last)) first last
slot-changes before book after_book token first last there same =
    let present : ContainsKey before token = subst (λ (o : Option ConnectionState). IsSome o) there refl in
    let updates : Updates before (with_value before token last) token (Some last) = Updates-with_value before token last present in
    record {
      was = sym there;
      is = updates.changed;
      same = same;
      others = updates.others;
    }

-- records are added whose events are of its session: each connection is a line
pub lines-change : (token : ℕ) (old new : HubState) (before after : ConnectionState) (more records : List Recorded) (taken then given after_given : ℕ → List ℕ)
    → Changes token old new before after → AreApart old → Adds before.session old.book more new.book
    → ((other : ℕ) → other ≢ token → (then other ≡ taken other) × (after_given other ≡ given other))
    → AreLines records taken given old
    → IsLine (records ++ more) new.book.server (then token) (after_given token) after
    → AreLines (records ++ more) then after_given new
lines-change token old new before after more records taken then given after_given changes apart adds same lines this = (
  all-grows records more old.book new.book lines.0 adds.same_base adds.grown adds.legal,
  λ at line is. by at line is (same_or_not at token),
)
  where
    by : (at : ℕ) (line : ConnectionState) → new.at at ≡ Some line → (at ≡ token) ⊎ (at ≢ token) → IsLine (records ++ more) new.book.server (then at) (after_given at) line
    by at line is (inl here) =
        let one : line ≡ after = some-same line after (sym is ∙ ap new.at here ∙ changes.is) in
        subst (λ (t : ℕ). IsLine (records ++ more) new.book.server (then t) (after_given t) line) (sym here)
        (subst (λ (c : ConnectionState). IsLine (records ++ more) new.book.server (then token) (after_given token) c) (sym one) this)
    by at line is (inr away) =
        let was : old.at at ≡ Some line = sym (changes.others at away) ∙ is in
        let says : spoken line.session more ≡ [] = others-say line.session before.session more (apart-other old token at before line apart changes.was was away) adds.own in
        let goes : IsLine (records ++ more) new.book.server (taken at) (given at) line =
        line-passes records more old.book new.book.server (taken at) (given at) line lines.0 adds.legal says (lines.1 at line was) in
        subst (λ (t : List ℕ). IsLine (records ++ more) new.book.server t (after_given at) line) (sym (same at away).0)
        (subst (λ (g : List ℕ). IsLine (records ++ more) new.book.server (taken at) g line) (sym (same at away).1) goes)

-- ---- bytes at one token

more-at : (token : ℕ) (bytes : List ℕ) (all : ℕ → List ℕ) → with_more token bytes all token ≡ all token ++ bytes
more-at token bytes all = ap (λ (b : Bool). cond b (all token ++ bytes) (all token)) (eq-eqb token token refl)

more-other : (token : ℕ) (bytes : List ℕ) (all : ℕ → List ℕ) (other : ℕ) → other ≢ token → with_more token bytes all other ≡ all other
more-other token bytes all other away = ap (λ (b : Bool). cond b (all other ++ bytes) (all other)) (ne_eqb other token away)

-- ---- what the book records

-- nothing
says-none : (session : ℕ) (old new : BookState) → new ≡ old → Says session old new
says-none session old new same = record {
  added = [];
  same_base = ap (λ (b : BookState). b.base) same;
  grown = ap (λ (b : BookState). b.records) same ∙ sym (append-nil old.records);
  own = tt;
}

-- whatever is at a token, nothing
pub says-same : (at : Option ConnectionState) (old new : BookState) → new ≡ old → SaysOf at old new
says-same None old new same = same
says-same (Some line) old new same = says-none line.session old new same

-- what the connection there has it record
pub says-at : (at : Option ConnectionState) (line : ConnectionState) (old new : BookState) (more : List Recorded) → at ≡ Some line → Adds line.session old more new → SaysOf at old new
says-at at line old new more was adds =
    let says : Says line.session old new = record { added = more; same_base = adds.same_base; grown = adds.grown; own = adds.own } in
    subst (λ (o : Option ConnectionState). SaysOf o old new) (sym was) says

-- ---- the calls of a hub

-- a connection goes on
pub go_on-lines : (token : ℕ) (old new : HubState) (before after : ConnectionState) → Changes token old new before after → AreApart old → Moves old.book before new.book after
    → (records : List Recorded) (taken given : ℕ → List ℕ) → AreLines records taken given old → GoOn records taken given new
go_on-lines token old new before after changes apart moves records taken given lines = record {
  added = moves.more;
  lines = lines-change token old new before after moves.more records taken taken given given changes apart moves.adds (λ other away. (refl, refl)) lines
      (moves.goes_on records (taken token) (given token) lines.0 (lines.1 token before changes.was));
}

-- it takes a piece, and goes on
pub take-lines : (token : ℕ) (piece : List ℕ) (old new : HubState) (before after : ConnectionState) → Changes token old new before after → AreApart old → Takes piece old.book before new.book after
    → (records : List Recorded) (taken given : ℕ → List ℕ) → AreLines records taken given old → GoOn records (with_more token piece taken) given new
take-lines token piece old new before after changes apart takes records taken given lines = record {
  added = takes.more;
  lines = lines-change token old new before after takes.more records taken (with_more token piece taken) given given changes apart takes.adds
      (λ other away. (more-other token piece taken other away, refl)) lines
      (subst (λ (t : List ℕ). IsLine (records ++ takes.more) new.book.server t (given token) after) (sym (more-at token piece taken))
      (takes.goes_on records (taken token) (given token) lines.0 (lines.1 token before changes.was)));
}

-- it changes, and the book does not
pub alone-lines : (token : ℕ) (old new : HubState) (before after : ConnectionState) → Changes token old new before after → new.book ≡ old.book
    → (records : List Recorded) (taken then given after_given : ℕ → List ℕ)
    → ((other : ℕ) → other ≢ token → (then other ≡ taken other) × (after_given other ≡ given other))
    → (IsLine records old.book.server (taken token) (given token) before → IsLine records old.book.server (then token) (after_given token) after)
    → AreLines records taken given old → AreLines records then after_given new
alone-lines token old new before after changes same records taken then given after_given others goes lines = (
  subst (AreAll records) (sym same) lines.0,
  λ at line is. subst (λ (b : BookState). IsLine records b.server (then at) (after_given at) line) (sym same) (by at line is (same_or_not at token)),
)
  where
    by : (at : ℕ) (line : ConnectionState) → new.at at ≡ Some line → (at ≡ token) ⊎ (at ≢ token) → IsLine records old.book.server (then at) (after_given at) line
    by at line is (inl here) =
        let one : line ≡ after = some-same line after (sym is ∙ ap new.at here ∙ changes.is) in
        subst (λ (t : ℕ). IsLine records old.book.server (then t) (after_given t) line) (sym here)
        (subst (λ (c : ConnectionState). IsLine records old.book.server (then token) (after_given token) c) (sym one) (goes (lines.1 token before changes.was)))
    by at line is (inr away) =
        subst (λ (t : List ℕ). IsLine records old.book.server t (after_given at) line) (sym (others at away).0)
        (subst (λ (g : List ℕ). IsLine records old.book.server (taken at) g line) (sym (others at away).1)
        (lines.1 at line (sym (changes.others at away) ∙ is)))

-- its first bytes are sent
pub sent-lines : (token : ℕ) (bytes : List ℕ) (old new : HubState) (before after : ConnectionState) → Changes token old new before after → new.book ≡ old.book
    → ((records : List Recorded) (taken given : List ℕ) → IsLine records old.book.server taken given before → IsLine records old.book.server taken (given ++ bytes) after)
    → (records : List Recorded) (taken given : ℕ → List ℕ) → AreLines records taken given old → AreLines records taken (with_more token bytes given) new
sent-lines token bytes old new before after changes same goes records taken given lines =
    alone-lines token old new before after changes same records taken taken given (with_more token bytes given)
    (λ other away. (refl, more-other token bytes given other away))
    (λ l. subst (λ (g : List ℕ). IsLine records old.book.server (taken token) g after) (sym (more-at token bytes given)) (goes records (taken token) (given token) l))
    lines

-- the records are dropped
pub compact-lines : (old new : HubState) → new.book ≡ rebased old.book → ((token : ℕ) → new.at token ≡ old.at token)
    → (records : List Recorded) (taken given : ℕ → List ℕ) → AreLines records taken given old → AreLines records taken given new
compact-lines old new book same records taken given lines = (
  subst (AreAll records) (sym book) (all-rebased records old.book lines.0),
  λ at line is. subst (λ (b : BookState). IsLine records b.server (taken at) (given at) line) (sym book) (lines.1 at line (sym (same at) ∙ is)),
)

-- a hub as it is shown
pub lines-shown : (shown hub new : HubState) (records : List Recorded) (taken given after_given : ℕ → List ℕ) → shown ≡ hub
    → (AreLines records taken given shown → GoOn records taken after_given new) → AreLines records taken given hub → GoOn records taken after_given new
lines-shown shown hub new records taken given after_given same goes lines = goes (subst (AreLines records taken given) (sym same) lines)

-- ---- what each call promises

-- a connection goes on
pub moved-lines : (token : ℕ) (old new : HubState) → AreApart old → MovesAt token old new → (records : List Recorded) (taken given : ℕ → List ℕ) → AreLines records taken given old
    → GoOn records taken given new
moved-lines token old new apart m = go_on-lines token old new m.before m.after m.changes apart m.moves

pub moved-apart : (token : ℕ) (old new : HubState) → AreApart old → MovesAt token old new → AreApart new
moved-apart token old new apart m = apart-changes token old new m.before m.after m.changes m.moves.opened apart

pub moved-rest : (token : ℕ) (old new : HubState) → MovesAt token old new → IsSomeAnd (new.at token) (λ line. IsAtRest 65536 new.book.server line line.stage)
moved-rest token old new m =
    let P : Option ConnectionState → Type 0 = λ o. IsSomeAnd o (λ line. IsAtRest 65536 new.book.server line line.stage) in
    subst P (sym m.changes.is) m.rests

-- it takes a piece
pub took-lines : (token : ℕ) (piece : List ℕ) (old new : HubState) → AreApart old → TakesAt token piece old new → (records : List Recorded) (taken given : ℕ → List ℕ)
    → AreLines records taken given old → GoOn records (with_more token piece taken) given new
took-lines token piece old new apart t = take-lines token piece old new t.before t.after t.changes apart t.takes

pub took-apart : (token : ℕ) (piece : List ℕ) (old new : HubState) → AreApart old → TakesAt token piece old new → AreApart new
took-apart token piece old new apart t = apart-changes token old new t.before t.after t.changes t.takes.opened apart

pub took-rest : (token : ℕ) (piece : List ℕ) (old new : HubState) → TakesAt token piece old new → IsSomeAnd (new.at token) (λ line. IsAtRest 65536 new.book.server line line.stage)
took-rest token piece old new t =
    let P : Option ConnectionState → Type 0 = λ o. IsSomeAnd o (λ line. IsAtRest 65536 new.book.server line line.stage) in
    subst P (sym t.changes.is) t.rests

-- it refuses one
untaken-line : (piece : List ℕ) (fault : TakeFault) (records : List Recorded) (server : Server) (taken given : List ℕ) (before after : ConnectionState) → IsUntaken fault before after
    → IsLine records server taken given before → IsLine records server (taken ++ piece) given after
untaken-line piece fault records server taken given before after (ended is stage same) l =
    subst (IsLine records server (taken ++ piece) given) (sym same) (ended-line records server taken given before l piece stage)
untaken-line piece fault records server taken given before after (unfed looked is goes same) l =
    subst (IsLine records server (taken ++ piece) given) (sym same) (unfed-line records server taken given before l piece looked goes)

-- there is no connection whose bytes they are
pub gone-lines : (token : ℕ) (piece : List ℕ) (hub : HubState) → hub.at token ≡ None → (records : List Recorded) (taken given : ℕ → List ℕ)
    → AreLines records taken given hub → AreLines records (with_more token piece taken) given hub
gone-lines token piece hub none records taken given lines = (lines.0, λ at line is. by at line is (same_or_not at token))
  where
    by : (at : ℕ) (line : ConnectionState) → hub.at at ≡ Some line → (at ≡ token) ⊎ (at ≢ token) → IsLine records hub.book.server (with_more token piece taken at) (given at) line
    by at line is (inl here) = absurd (let it : Some line ≡ None = sym is ∙ ap hub.at here ∙ none in cc)
    by at line is (inr away) =
        subst (λ (t : List ℕ). IsLine records hub.book.server t (given at) line) (sym (more-other token piece taken at away)) (lines.1 at line is)

-- nothing was recorded
pub none-added : (records : List Recorded) (taken given : ℕ → List ℕ) (hub : HubState) → AreLines records taken given hub → GoOn records taken given hub
none-added records taken given hub lines = record {
  added = [];
  lines = subst (λ (r : List Recorded). AreLines r taken given hub) (sym (append-nil records)) lines;
}

pub refused-lines : (token : ℕ) (piece : List ℕ) (fault : TakeFault) (old new : HubState) → IsRefusedAt token fault old new → (records : List Recorded) (taken given : ℕ → List ℕ)
    → AreLines records taken given old → GoOn records (with_more token piece taken) given new
refused-lines token piece fault old new (is_gone is none same) records taken given lines =
    none-added records (with_more token piece taken) given new
    (subst (AreLines records (with_more token piece taken) given) (sym same) (gone-lines token piece old none records taken given lines))
refused-lines token piece fault old new (is_there before after changes book untaken) records taken given lines =
    none-added records (with_more token piece taken) given new
    (alone-lines token old new before after changes book records taken (with_more token piece taken) given given
    (λ other away. (more-other token piece taken other away, refl))
    (λ l. subst (λ (t : List ℕ). IsLine records old.book.server t (given token) after) (sym (more-at token piece taken))
    (untaken-line piece fault records old.book.server (taken token) (given token) before after untaken l)) lines)

pub refused-apart : (token : ℕ) (fault : TakeFault) (old new : HubState) → AreApart old → IsRefusedAt token fault old new → AreApart new
refused-apart token fault old new apart (is_gone is none same) = subst AreApart (sym same) apart
refused-apart token fault old new apart (is_there before after changes book untaken) =
    apart-changes token old new before after changes (subst (λ (b : BookState). KeepsOpen old.book.server b.server) (sym book) (λ session opened. opened)) apart

pub refused-book : (token : ℕ) (fault : TakeFault) (old new : HubState) → IsRefusedAt token fault old new → new.book ≡ old.book
refused-book token fault old new (is_gone is none same) = ap (λ (h : HubState). h.book) same
refused-book token fault old new (is_there before after changes book untaken) = book

pub refused-others : (token : ℕ) (fault : TakeFault) (old new : HubState) → IsRefusedAt token fault old new → (other : ℕ) → other ≢ token → new.at other ≡ old.at other
refused-others token fault old new (is_gone is none same) other away = ap (λ (h : HubState). h.at other) same
refused-others token fault old new (is_there before after changes book untaken) other away = changes.others other away

pub refused-cut_off : (token : ℕ) (old new : HubState) → IsRefusedAt token take_faults.Memory old new → IsSomeAnd (new.at token) (λ line. line.stage ≡ stages.CutOff)
refused-cut_off token old new (is_gone is none same) = absurd (cc)
refused-cut_off token old new (is_there before after changes book (ended is stage same)) = absurd (cc)
refused-cut_off token old new (is_there before after changes book (unfed looked is goes same)) =
    let P : Option ConnectionState → Type 0 = λ o. IsSomeAnd o (λ line. line.stage ≡ stages.CutOff) in
    subst P (sym changes.is) (ap (λ (c : ConnectionState). c.stage) same)

-- there is no such connection
pub refused-gone : (token : ℕ) (fault : TakeFault) (old new : HubState) → IsRefusedAt token fault old new → (fault ≡ take_faults.Gone) ↔ (old.at token ≡ None)
refused-gone token fault old new (is_gone is none same) = ((λ here. none), (λ here. is))
refused-gone token fault old new (is_there before after changes book untaken) = (
  (λ here. absurd (not_gone untaken here)),
  (λ none. absurd (let it : Some before ≡ None = sym changes.was ∙ none in cc)),
)
  where
    not_gone : IsUntaken fault before after → fault ≡ take_faults.Gone → ⊥
    not_gone (ended is stage same) here = cc
    not_gone (unfed looked is goes same) here = cc

-- it is at its end
pub refused-ended : (token : ℕ) (fault : TakeFault) (old new : HubState) → IsRefusedAt token fault old new
    → (fault ≡ take_faults.Ended) ↔ IsSomeAnd (old.at token) (λ line. is_ended line.stage ≡ true)
refused-ended token fault old new (is_gone is none same) = (
  (λ here. absurd (cc)),
  (λ some. absurd (let P : Option ConnectionState → Type 0 = λ o. IsSomeAnd o (λ line. is_ended line.stage ≡ true) in subst P none some)),
)
refused-ended token fault old new (is_there before after changes book untaken) = by untaken
  where
    P : Option ConnectionState → Type 0
    P o = IsSomeAnd o (λ line. is_ended line.stage ≡ true)

    by : IsUntaken fault before after → (fault ≡ take_faults.Ended) ↔ P (old.at token)
    by (ended is stage same) = ((λ here. subst P (sym changes.was) stage), (λ some. is))
    by (unfed looked is goes same) = (
      (λ here. absurd (cc)),
      (λ some. absurd (true≢false (sym (subst P changes.was some) ∙ goes))),
    )

pub took-going : (token : ℕ) (piece : List ℕ) (old new : HubState) → TakesAt token piece old new → IsSomeAnd (old.at token) (λ line. is_ended line.stage ≡ true) → ⊥
took-going token piece old new t some =
    let P : Option ConnectionState → Type 0 = λ o. IsSomeAnd o (λ line. is_ended line.stage ≡ true) in
    true≢false (sym (subst P t.changes.was some) ∙ t.goes)

pub took-there : (token : ℕ) (piece : List ℕ) (old new : HubState) → TakesAt token piece old new → old.at token ≡ None → ⊥
took-there token piece old new t none = let it : Some t.before ≡ None = sym t.changes.was ∙ none in cc

-- its first bytes are sent
pub sends-apart : (token count : ℕ) (old new : HubState) → AreApart old → SendsAt token count old new → AreApart new
sends-apart token count old new apart s =
    apart-changes token old new s.before (record s.before { unsent = drop count s.before.unsent }) s.changes (subst (λ (b : BookState). KeepsOpen old.book.server b.server) (sym s.same) (λ session opened. opened)) apart

pub sends-lines : (token count : ℕ) (old new : HubState) → SendsAt token count old new → IfSome (old.at token) (λ line. (records : List Recorded) (taken given : ℕ → List ℕ)
    → AreLines records taken given old → AreLines records taken (with_more token (take count line.unsent) given) new)
sends-lines token count old new s =
    let P : Option ConnectionState → Type 0 = λ o. IfSome o (λ line. (records : List Recorded) (taken given : ℕ → List ℕ)
    → AreLines records taken given old → AreLines records taken (with_more token (take count line.unsent) given) new) in
    subst P (sym s.changes.was) (sent-lines token (take count s.before.unsent) old new s.before (record s.before { unsent = drop count s.before.unsent }) s.changes s.same
    (λ records taken given l. sent-line records old.book.server taken given s.before l count))

pub sends-at : (token count : ℕ) (old new : HubState) → SendsAt token count old new → new.at token ≡ option_map (λ (line : ConnectionState). record line { unsent = drop count line.unsent }) (old.at token)
sends-at token count old new s =
    s.changes.is ∙ sym (ap (λ (o : Option ConnectionState). option_map {U = ConnectionState} (λ (line : ConnectionState). record line { unsent = drop count line.unsent }) o) s.changes.was)

-- it has the session that it had
pub changes-session : (token : ℕ) (old new : HubState) (before after : ConnectionState) → Changes token old new before after → session_at new token ≡ session_at old token
changes-session token old new before after changes =
    let of : Option ConnectionState → Option ℕ = λ o. option_map (λ (line : ConnectionState). line.session) o in
    ap of changes.is ∙ ap (λ (n : ℕ). Some n) changes.same ∙ sym (ap of changes.was)

refused-session : (token : ℕ) (fault : TakeFault) (old new : HubState) → IsRefusedAt token fault old new → session_at new token ≡ session_at old token
refused-session token fault old new (is_gone at none same) = ap (λ (h : HubState). session_at h token) same
refused-session token fault old new (is_there before after changes same untaken) = changes-session token old new before after changes

-- all that a call of take promises
pub record TakeClauses (token : ℕ) (piece : List ℕ) (result : Result (Unit {0}) TakeFault) (old new : HubState) : Type 0 where
  pub lines : (records : List Recorded) (taken given : ℕ → List ℕ) → AreLines records taken given old → GoOn records (with_more token piece taken) given new
  pub rest : OnOk result (IsSomeAnd (new.at token) (λ line. IsAtRest 65536 new.book.server line line.stage))
  pub session : session_at new token ≡ session_at old token
  pub others : (other : ℕ) → other ≢ token → new.at other ≡ old.at other
  pub gone : IsErrOf result take_faults.Gone ↔ (old.at token ≡ None)
  pub ended : IsErrOf result take_faults.Ended ↔ IsSomeAnd (old.at token) (λ line. is_ended line.stage ≡ true)
  pub stays : OnErr result (new.book ≡ old.book)
  pub cut_off : IsErrOf result take_faults.Memory → IsSomeAnd (new.at token) (λ line. line.stage ≡ stages.CutOff)
  pub said : SaysOf (old.at token) old.book new.book

err-same : (one other : TakeFault) → ◌≡◌ {A = Result (Unit {0}) TakeFault} (Err one) (Err other) → one ≡ other
err-same one other is = cc

no-err : (done : Unit {0}) (fault : TakeFault) → ◌≡◌ {A = Result (Unit {0}) TakeFault} (Ok done) (Err fault) → ⊥
no-err done fault is = cc

pub take-clauses : (token : ℕ) (piece : List ℕ) (result : Result (Unit {0}) TakeFault) (old new : HubState) → AreApart old → OnOk result (TakesAt token piece old new)
    → IfErr result (λ fault. IsRefusedAt token fault old new) → TakeClauses token piece result old new
take-clauses token piece (Ok done) old new apart takes refused = record {
  lines = took-lines token piece old new apart takes;
  rest = took-rest token piece old new takes;
  session = changes-session token old new takes.before takes.after takes.changes;
  others = takes.changes.others;
  gone = ((λ is. absurd (no-err done take_faults.Gone is)), (λ none. absurd (took-there token piece old new takes none)));
  ended = ((λ is. absurd (no-err done take_faults.Ended is)), (λ some. absurd (took-going token piece old new takes some)));
  stays = tt;
  cut_off = λ is. absurd (no-err done take_faults.Memory is);
  said = says-at (old.at token) takes.before old.book new.book takes.takes.more takes.changes.was takes.takes.adds;
}
take-clauses token piece (Err fault) old new apart takes refused =
    let gone = refused-gone token fault old new refused in
    let ended = refused-ended token fault old new refused in
    record {
      lines = refused-lines token piece fault old new refused;
      rest = tt;
      session = refused-session token fault old new refused;
      others = refused-others token fault old new refused;
      gone = ((λ is. gone.0 (err-same fault take_faults.Gone is)), (λ none. ap (λ (f : TakeFault). Err f) (gone.1 none)));
      ended = ((λ is. ended.0 (err-same fault take_faults.Ended is)), (λ some. ap (λ (f : TakeFault). Err f) (ended.1 some)));
      stays = refused-book token fault old new refused;
      cut_off = λ is. refused-cut_off token old new (subst (λ (f : TakeFault). IsRefusedAt token f old new) (err-same fault take_faults.Memory is) refused);
      said = says-same (old.at token) old.book new.book (refused-book token fault old new refused);
    }

pub take-apart : (token : ℕ) (piece : List ℕ) (result : Result (Unit {0}) TakeFault) (old new : HubState) → AreApart old → OnOk result (TakesAt token piece old new)
    → IfErr result (λ fault. IsRefusedAt token fault old new) → AreApart new
take-apart token piece (Ok done) old new apart takes refused = took-apart token piece old new apart takes
take-apart token piece (Err fault) old new apart takes refused = refused-apart token fault old new apart refused

-- all that a call of go_on promises
pub record GoOnClauses (token : ℕ) (result : Bool) (old new : HubState) : Type 0 where
  pub lines : (records : List Recorded) (taken given : ℕ → List ℕ) → AreLines records taken given old → GoOn records taken given new
  pub rest : IsTrue result → IsSomeAnd (new.at token) (λ line. IsAtRest 65536 new.book.server line line.stage)
  pub others : (other : ℕ) → other ≢ token → new.at other ≡ old.at other
  pub none : result ≡ false → new ≡ old
  pub session : session_at new token ≡ session_at old token
  pub said : SaysOf (old.at token) old.book new.book
  pub apart : AreApart new

pub same-lines : (old new : HubState) → new ≡ old → (records : List Recorded) (taken given : ℕ → List ℕ) → AreLines records taken given old → GoOn records taken given new
same-lines old new same records taken given lines =
    let P : HubState → Type 0 = λ h. AreLines (records ++ []) taken given h in
    record { added = []; lines = subst P (sym same) (subst (λ (r : List Recorded). AreLines r taken given old) (sym (append-nil records)) lines) }

pub go_on-clauses : (token : ℕ) (result : Bool) (old new : HubState) → AreApart old → (IsTrue result → MovesAt token old new) → (result ≡ false → new ≡ old) → GoOnClauses token result old new
go_on-clauses token true old new apart moves none = record {
  lines = moved-lines token old new apart (moves refl);
  rest = λ is. moved-rest token old new (moves refl);
  others = (moves refl).changes.others;
  none = none;
  session = changes-session token old new (moves refl).before (moves refl).after (moves refl).changes;
  said = says-at (old.at token) (moves refl).before old.book new.book (moves refl).moves.more (moves refl).changes.was (moves refl).moves.adds;
  apart = moved-apart token old new apart (moves refl);
}
go_on-clauses token false old new apart moves none = record {
  lines = same-lines old new (none refl);
  rest = λ is. absurd (true≢false (sym is));
  others = λ other away. ap (λ (h : HubState). h.at other) (none refl);
  none = none;
  session = ap (λ (h : HubState). session_at h token) (none refl);
  said = says-same (old.at token) old.book new.book (ap (λ (h : HubState). h.book) (none refl));
  apart = subst AreApart (sym (none refl)) apart;
}

-- a recovery that was asked for was begun
pub begins-clause : (token : ℕ) (result : Bool) (old new : HubState) → (IsTrue result → BeginsAt token old new) → (result ≡ false → old.at token ≡ None)
    → IfSome (old.at token) (λ before. IfSome (new.at token) (Begins before))
begins-clause token true old new begins none =
    let b : BeginsAt token old new = begins refl in
    subst (λ (o : Option ConnectionState). IfSome o (λ before. IfSome (new.at token) (Begins before))) (sym b.was)
    (subst (λ (o : Option ConnectionState). IfSome o (Begins b.before)) (sym b.is) b.begins)
begins-clause token false old new begins none =
    subst (λ (o : Option ConnectionState). IfSome o (λ before. IfSome (new.at token) (Begins before))) (sym (none refl)) tt

-- a slab and a book make a hub
pub hub-same : (old_book book : BookState) (before slab : Slab ConnectionState) → book ≡ old_book → slab ≡ before → hub_of book slab ≡ hub_of old_book before
hub-same old_book book before slab one two = ap (λ (b : BookState). hub_of b slab) one ∙ ap (λ (s : Slab ConnectionState). hub_of old_book s) two

-- ---- a connection changes in its slot

module _ (before : Slab ConnectionState) (old_book book : BookState) (token : ℕ) (first last : ConnectionState) (there : Some first ≡ get before token) where
  pub begins-at : Begins first last → BeginsAt token (hub_of old_book before) (hub_of book (with_value before token last))
  begins-at begins =
      let present : ContainsKey before token = subst (λ (o : Option ConnectionState). IsSome o) there refl in
      let updates : Updates before (with_value before token last) token (Some last) = Updates-with_value before token last present in
      record { before = first; after = last; was = sym there; is = updates.changed; begins = begins }

  pub moves-at : Moves old_book first book last → IsAtRest 65536 book.server last last.stage → MovesAt token (hub_of old_book before) (hub_of book (with_value before token last))
  moves-at moves rests = record {
    before = first;
    after = last;
    changes = slot-changes before old_book book token first last there moves.same;
    moves = moves;
    rests = rests;
  }

  pub takes-at : (piece : List ℕ) (result : Result (Unit {0}) TakeFault) → OnOk result (is_ended first.stage ≡ false) → OnOk result (Takes piece old_book first book last)
      → OnOk result (IsAtRest 65536 book.server last last.stage) → OnOk result (TakesAt token piece (hub_of old_book before) (hub_of book (with_value before token last)))
  takes-at piece (Ok done) goes takes rests = record {
    before = first;
    after = last;
    changes = slot-changes before old_book book token first last there takes.same;
    goes = goes;
    takes = takes;
    rests = rests;
  }
  takes-at piece (Err fault) goes takes rests = tt

  untaken-same : (fault : TakeFault) → IsUntaken fault first last → last.session ≡ first.session
  untaken-same fault (ended why stage same) = ap (λ (c : ConnectionState). c.session) same
  untaken-same fault (unfed looked why goes same) = ap (λ (c : ConnectionState). c.session) same

  pub refuses-at : (result : Result (Unit {0}) TakeFault) → IfErr result (λ fault. IsUntaken fault first last) → OnErr result (book ≡ old_book)
      → IfErr result (λ fault. IsRefusedAt token fault (hub_of old_book before) (hub_of book (with_value before token last)))
  refuses-at (Ok done) untaken same = tt
  refuses-at (Err fault) untaken same =
      is_there first last (slot-changes before old_book book token first last there (untaken-same fault untaken)) same untaken

-- ---- a piece is taken

pub fed-takes : (piece : List ℕ) (old : BookState) (line fed : ConnectionState) (new : BookState) (after : ConnectionState) → is_ended line.stage ≡ false → Feeds piece line fed
    → Moves old fed new after → Takes piece old line new after
fed-takes piece old line fed new after goes feeds moves =
    takes-then piece old line fed new after (ap (λ (c : ConnectionState). c.session) feeds.same)
    (λ records taken given l. subst (IsLine records old.server (taken ++ piece) given) (sym feeds.same) (fed-line records old.server taken given line l piece fed.requests goes feeds.advances))
    moves

pub unfed-after : (line between after : ConnectionState) → FeedsNot line between → after ≡ record between { stage = stages.CutOff } → is_ended line.stage ≡ false
    → IsUntaken take_faults.Memory line after
unfed-after line between after not_fed is goes =
    unfed not_fed.looked refl goes (is ∙ ap (λ (c : ConnectionState). record c { stage = stages.CutOff }) not_fed.same)

-- all that a call promises after which a connection has gone on
pub record MovedClauses (token : ℕ) (old new : HubState) : Type 0 where
  pub lines : (records : List Recorded) (taken given : ℕ → List ℕ) → AreLines records taken given old → GoOn records taken given new
  pub rest : IsSomeAnd (new.at token) (λ line. IsAtRest 65536 new.book.server line line.stage)
  pub session : session_at new token ≡ session_at old token
  pub others : (other : ℕ) → other ≢ token → new.at other ≡ old.at other
  pub said : SaysOf (old.at token) old.book new.book

pub moved-clauses : (token : ℕ) (old new : HubState) → AreApart old → MovesAt token old new → MovedClauses token old new
moved-clauses token old new apart moves = record {
  lines = moved-lines token old new apart moves;
  rest = moved-rest token old new moves;
  session = changes-session token old new moves.before moves.after moves.changes;
  others = moves.changes.others;
  said = says-at (old.at token) moves.before old.book new.book moves.moves.more moves.changes.was moves.moves.adds;
}

pub record SentClauses (token count : ℕ) (old new : HubState) : Type 0 where
  pub lines : IfSome (old.at token) (λ line. (records : List Recorded) (taken given : ℕ → List ℕ)
      → AreLines records taken given old → AreLines records taken (with_more token (take count line.unsent) given) new)
  pub at : new.at token ≡ option_map (λ (line : ConnectionState). record line { unsent = drop count line.unsent }) (old.at token)
  pub others : (other : ℕ) → other ≢ token → new.at other ≡ old.at other
  pub book : new.book ≡ old.book

pub sent-clauses : (token count : ℕ) (old new : HubState) → SendsAt token count old new → SentClauses token count old new
sent-clauses token count old new s = record {
  lines = sends-lines token count old new s;
  at = sends-at token count old new s;
  others = s.changes.others;
  book = s.same;
}

-- the first bytes of a connection are sent
pub sends-to : (before : Slab ConnectionState) (book : BookState) (token count : ℕ) (first last : ConnectionState) → Some first ≡ get before token
    → last ≡ record first { unsent = drop count first.unsent } → SendsAt token count (hub_of book before) (hub_of book (with_value before token last))
sends-to before book token count first last there sends =
    let sent : ConnectionState = record first { unsent = drop count first.unsent } in
    let at_once : SendsAt token count (hub_of book before) (hub_of book (with_value before token sent)) = record {
      before = first;
      changes = slot-changes before book book token first sent there refl;
      same = refl;
    } in
    subst (λ (l : ConnectionState). SendsAt token count (hub_of book before) (hub_of book (with_value before token l))) (sym sends) at_once
