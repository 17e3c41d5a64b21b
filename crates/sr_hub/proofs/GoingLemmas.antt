-- What a hub promises of a connection that comes or goes, and of reads that expire.
use Rattle.std.proofs.Common.{◌≡◌, ◌≢◌, ℕ, Bool, true, false, List, [], Option, Some, None, IfSome, IsSomeAnd, IsTrue, Result, Ok, Err, IfOk, IfErr, OnOk, OnErr, refl, ap, sym, subst, ◌∙◌, true≢false}
use Rattle.std.specs.List.{list_any}
use Rattle.sr_waiters.specs.{is_due}
use Rattle.slab.specs.Slab.{Slab, Updates, get}
use Rattle.sr_resp.specs.Stream.{Stands}
use Rattle.sr_book.specs.{is_open, BookState, Recorded, next_index, next_moment}
use Rattle.sr_book.specs.Server.{refusal}
use Rattle.sr_book.specs.Records.{IsRefusal, Steps, rebased}
use Rattle.sr_book.specs.declared.event.BookFault.{BookFault}
use Rattle.sr_book.specs.declared.event.Event.TheVariants as events
use Rattle.sr_book.proofs.SessionLaws.{left-closed}
use Rattle.sr_hub.specs.declared.stage.Stage.TheVariants as stages
use Rattle.sr_hub.specs.Line.{ConnectionState}
use Rattle.sr_hub.specs.Lines.{AreApart, AreLines, GoOn, HubState, with_none}
use Rattle.sr_hub.specs.Said.{LeavesOf, Occurs}
use Rattle.sr_hub.specs.steps.Calls.{ComesAt, ComesNot, GoesAt, GoesNot, hub_of, no_one, some_one}
use Rattle.sr_hub.specs.steps.Telling.{Happens}
use Rattle.sr_hub.proofs.ComingLemmas.{expired-apart, expired-lines, joined-apart, joined-lines, left-apart, left-lines}
use Rattle.sr_hub.proofs.HubLemmas.{compact-lines, same-lines}

-- ---- a connection comes

pub record ConnectClauses (moment : ℕ) (result : Result ℕ BookFault) (old new : HubState) : Type 0 where
  pub free : IfOk result (λ token. old.at token ≡ None)
  pub session : IfOk result (λ token. IsSomeAnd (new.at token) (λ line. line.session ≡ next_index old.book))
  pub others : IfOk result (λ token. (other : ℕ) → other ≢ token → new.at other ≡ old.at other)
  pub lines : IfOk result (λ token. (records : List Recorded) (taken given : ℕ → List ℕ) → AreLines records taken given old
      → GoOn records (with_none token taken) (with_none token given) new)
  pub event : OnOk result (Occurs old.book moment events.Join new.book)
  pub refused : IfErr result (λ fault. IsRefusal (refusal old.book.server (next_index old.book) events.Join) fault)
  pub err : OnErr result (new ≡ old)
  pub apart : AreApart new

pub connect-clauses : (moment : ℕ) (result : Result ℕ BookFault) (old new : HubState) → AreApart old → IfOk result (λ token. ComesAt token moment old new)
    → IfErr result (λ fault. ComesNot fault old new) → ConnectClauses moment result old new
connect-clauses moment (Ok token) old new apart comes refused =
    let P : Option ConnectionState → Type 0 = λ o. IsSomeAnd o (λ line. line.session ≡ next_index old.book) in
    record {
      free = comes.absent;
      session = subst P (sym comes.there) comes.number;
      others = comes.others;
      lines = λ records taken given lines.
          joined-lines token old new comes.fresh moment comes.happens.answer comes.happens.stepped comes.there comes.others comes.number records taken given comes.stands comes.unsent comes.idle lines;
      event = record { answer = comes.happens.answer; stepped = comes.happens.stepped };
      refused = tt;
      err = tt;
      apart = joined-apart token old new comes.fresh moment comes.happens.answer comes.happens.stepped comes.there comes.others comes.number comes.happens.history apart;
    }
connect-clauses moment (Err fault) old new apart comes refused = record {
  free = tt;
  session = tt;
  others = tt;
  lines = tt;
  event = tt;
  refused = refused.refused;
  err = refused.same;
  apart = subst AreApart (sym refused.same) apart;
}

-- ---- a connection goes

pub record CloseClauses (token moment : ℕ) (result : Result (Unit {0}) BookFault) (old new : HubState) : Type 0 where
  pub gone : OnOk result (new.at token ≡ None)
  pub left : OnOk result (IfSome (old.at token) (λ line. is_open line.session new.book.server.sessions ≡ false))
  pub others : (other : ℕ) → other ≢ token → new.at other ≡ old.at other
  pub lines : OnOk result ((records : List Recorded) (taken given : ℕ → List ℕ) → AreLines records taken given old → GoOn records taken given new)
  pub event : OnOk result (LeavesOf (old.at token) old.book moment new.book)
  pub none : old.at token ≡ None → new ≡ old
  pub refused : IfErr result (λ fault. IfSome (old.at token) (λ line. IsRefusal (refusal old.book.server (next_index old.book) (events.Leave line.session)) fault))
  pub err : OnErr result (new ≡ old)
  pub apart : AreApart new

close-ok : (token moment : ℕ) (done : Unit {0}) (old new : HubState) → AreApart old → GoesAt token moment old new → CloseClauses token moment (Ok done) old new
close-ok token moment done old new apart (no_one none same) =
    let P : Option ConnectionState → Type 0 = λ o. IfSome o (λ line. is_open line.session new.book.server.sessions ≡ false) in
    record {
      gone = ap (λ (h : HubState). h.at token) same ∙ none;
      left = subst P (sym none) tt;
      others = λ other away. ap (λ (h : HubState). h.at other) same;
      lines = same-lines old new same;
      event = subst (λ (o : Option ConnectionState). LeavesOf o old.book moment new.book) (sym none) (ap (λ (h : HubState). h.book) same);
      none = λ is. same;
      refused = tt;
      err = tt;
      apart = subst AreApart (sym same) apart;
    }
close-ok token moment done old new apart (some_one gone was happens none others) =
    let P : Option ConnectionState → Type 0 = λ o. IfSome o (λ line. is_open line.session new.book.server.sessions ≡ false) in
    record {
      gone = none;
      left = subst P (sym was) (left-closed old.book moment gone.session happens.answer new.book happens.stepped).1;
      others = others;
      lines = left-lines token old new gone moment happens.answer was happens.stepped none others apart;
      event =
          let occurs : Occurs old.book moment (events.Leave gone.session) new.book = record { answer = happens.answer; stepped = happens.stepped } in
          subst (λ (o : Option ConnectionState). LeavesOf o old.book moment new.book) (sym was) occurs;
      none = λ is. absurd (let it : Some gone ≡ None = sym was ∙ is in cc);
      refused = tt;
      err = tt;
      apart = left-apart token old new gone moment happens.answer was happens.stepped none others apart happens.history;
    }

pub close-clauses : (token moment : ℕ) (result : Result (Unit {0}) BookFault) (old new : HubState) → AreApart old → OnOk result (GoesAt token moment old new)
    → IfErr result (λ fault. GoesNot token fault old new) → CloseClauses token moment result old new
close-clauses token moment (Ok done) old new apart goes refused = close-ok token moment done old new apart goes
close-clauses token moment (Err fault) old new apart goes refused =
    let P : Option ConnectionState → Type 0 = λ o. IfSome o (λ line. IsRefusal (refusal old.book.server (next_index old.book) (events.Leave line.session)) fault) in
    record {
      gone = tt;
      left = tt;
      others = λ other away. ap (λ (h : HubState). h.at other) refused.same;
      lines = tt;
      event = tt;
      none = λ is. refused.same;
      refused = subst P (sym refused.was) refused.refused;
      err = refused.same;
      apart = subst AreApart (sym refused.same) apart;
    }

-- ---- a slab that a connection was put into, or taken out of

pub comes-at : (before room new : Slab ConnectionState) (old_book book : BookState) (token moment : ℕ) (fresh : ConnectionState)
    → ((at : ℕ) → get room at ≡ get before at) → get room token ≡ None → Updates room new token (Some fresh) → Happens old_book moment events.Join book
    → fresh.session ≡ next_index old_book → Stands [] [] fresh.requests → fresh.unsent ≡ [] → fresh.stage ≡ stages.Idle
    → ComesAt token moment (hub_of old_book before) (hub_of book new)
comes-at before room new old_book book token moment fresh same vacant puts happens number stands unsent idle = record {
  fresh = fresh;
  absent = sym (same token) ∙ vacant;
  there = puts.changed;
  others = λ other away. puts.others other away ∙ same other;
  happens = happens;
  number = number;
  stands = stands;
  unsent = unsent;
  idle = idle;
}

pub goes-at : (before new : Slab ConnectionState) (old_book book : BookState) (token moment : ℕ) (gone : ConnectionState) → Some gone ≡ get before token
    → Happens old_book moment (events.Leave gone.session) book → Updates before new token None → GoesAt token moment (hub_of old_book before) (hub_of book new)
goes-at before new old_book book token moment gone there happens takes = some_one gone (sym there) happens takes.changed takes.others

-- ---- reads that expire

pub record TickClauses (moment : ℕ) (result : Result Bool BookFault) (old new : HubState) : Type 0 where
  pub due : IfOk result (λ done. done ≡ list_any (is_due (next_moment old.book moment)) old.book.server.waiting)
  pub lines : (records : List Recorded) (taken given : ℕ → List ℕ) → AreLines records taken given old → GoOn records taken given new
  pub event : IfOk result (λ done. IsTrue done → Occurs old.book moment events.Expire new.book)
  pub none : IfOk result (λ done. done ≡ false → new ≡ old)
  pub same : (token : ℕ) → new.at token ≡ old.at token
  pub refused : IfErr result (λ fault. IsRefusal (refusal old.book.server (next_index old.book) events.Expire) fault)
  pub err : OnErr result (new ≡ old)
  pub apart : AreApart new

pub tick-clauses : (moment : ℕ) (result : Result Bool BookFault) (slab : Slab ConnectionState) (old_book book : BookState) → AreApart (hub_of old_book slab)
    → IfOk result (λ done. done ≡ list_any (is_due (next_moment old_book moment)) old_book.server.waiting) → IfOk result (λ done. IsTrue done → Happens old_book moment events.Expire book)
    → IfOk result (λ done. done ≡ false → book ≡ old_book) → IfErr result (λ fault. Steps old_book moment events.Expire (Err fault) book)
    → TickClauses moment result (hub_of old_book slab) (hub_of book slab)
tick-clauses moment (Ok true) slab old_book book apart due happens none refused =
    let h = happens refl in
    record {
      due = due;
      lines = expired-lines (hub_of old_book slab) (hub_of book slab) moment h.answer h.stepped (λ token. refl);
      event = λ is. record { answer = h.answer; stepped = h.stepped };
      none = λ is. absurd (true≢false is);
      same = λ token. refl;
      refused = tt;
      err = tt;
      apart = expired-apart (hub_of old_book slab) (hub_of book slab) moment h.answer h.stepped (λ token. refl) h.history apart;
    }
tick-clauses moment (Ok false) slab old_book book apart due happens none refused =
    let same : hub_of book slab ≡ hub_of old_book slab = ap (λ (b : BookState). hub_of b slab) (none refl) in
    record {
      due = due;
      lines = same-lines (hub_of old_book slab) (hub_of book slab) same;
      event = λ is. absurd (true≢false (sym is));
      none = λ is. same;
      same = λ token. refl;
      refused = tt;
      err = tt;
      apart = subst AreApart (sym same) apart;
    }
tick-clauses moment (Err fault) slab old_book book apart due happens none refused =
    let same : hub_of book slab ≡ hub_of old_book slab = ap (λ (b : BookState). hub_of b slab) refused.1 in
    record {
      due = tt;
      lines = same-lines (hub_of old_book slab) (hub_of book slab) same;
      event = tt;
      none = tt;
      same = λ token. refl;
      refused = refused.0;
      err = same;
      apart = subst AreApart (sym same) apart;
    }

-- ---- a checkpoint

pub record CompactClauses (result : Bool) (old new : HubState) : Type 0 where
  pub book : IsTrue result → new.book ≡ rebased old.book
  pub none : result ≡ false → new ≡ old
  pub same : (token : ℕ) → new.at token ≡ old.at token
  pub lines : (records : List Recorded) (taken given : ℕ → List ℕ) → AreLines records taken given old → AreLines records taken given new
  pub apart : AreApart new

pub compacts : (result : Bool) (slab : Slab ConnectionState) (old_book book : BookState) → AreApart (hub_of old_book slab) → (IsTrue result → book ≡ rebased old_book) → (result ≡ false → book ≡ old_book)
    → CompactClauses result (hub_of old_book slab) (hub_of book slab)
compacts true slab old_book book apart made none = record {
  book = made;
  none = λ is. absurd (true≢false is);
  same = λ token. refl;
  lines = compact-lines (hub_of old_book slab) (hub_of book slab) (made refl) (λ token. refl);
  apart = record {
    own = apart.own;
    opened = λ token line is. ap (λ (b : BookState). is_open line.session b.server.sessions) (made refl) ∙ apart.opened token line is;
  };
}
compacts false slab old_book book apart made none =
    let same : hub_of book slab ≡ hub_of old_book slab = ap (λ (b : BookState). hub_of b slab) (none refl) in
    record {
      book = made;
      none = λ is. same;
      same = λ token. refl;
      lines = λ records taken given lines. subst (AreLines records taken given) (sym same) lines;
      apart = subst AreApart (sym same) apart;
    }
