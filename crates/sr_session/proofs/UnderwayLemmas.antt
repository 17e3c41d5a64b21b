-- A session goes on: one request more answered, one piece more taken, and each way to end on the way.
use Rattle.std.proofs.Common.{◌≡◌, ℕ, ◌⊎◌, inl, inr, List, [], ◌∷◌, ◌++◌, length, take, drop, min, Bool, true, false, MatchBool, refl, sym, ap, ◌∙◌, subst, append_assoc, arith}
use Rattle.std.proofs.lemmas.List.{append-nil, take-append-drop, length-append, length-take, length-drop}
use Rattle.sr_resp.specs.{Words, Progress}
use Rattle.sr_resp.specs.Stream.{Stands, Advances, Splits, IsPartial, IsFault}
use Rattle.sr_session.specs.declared.run.End.{End}
use Rattle.sr_session.specs.Session.{AreAnswered, IsAnswered, IsBroken, IsStopped, IsCutOff, IsFront, IsHeld, EndsAs, protocol_text}
use Rattle.sr_session.specs.steps.Gathered.{Moves, stay, go, BreaksOff, Gathers, Stops, silent, breaks, waits, counted}
use Rattle.sr_session.specs.steps.Underway.{IsAnswering, GoesOn, IsPieceEnd}
use Rattle.sr_session.proofs.AnsweredLemmas.{AreAnswered-push, AreAnswered-append}

-- more bytes after the rest
pub Splits-more : (taken piece : List ℕ) (requests : List Words) (rest : List ℕ) → Splits taken requests rest → Splits (taken ++ piece) requests (rest ++ piece)
Splits-more taken piece requests rest s = record {
  items = s.items;
  spelled = s.spelled;
  each = s.each;
  only = s.only;
  whole = ap (λ (t : List ℕ). t ++ piece) s.whole ∙ append_assoc s.spelled rest piece;
}

-- a stream that went wrong stands at a fault
pub IsFault-from_stands : (taken : List ℕ) (requests : List Words) (now : Progress) (s : Stands taken requests now) → now.failed ≡ true → IsFault s.rest
IsFault-from_stands taken requests now s broken =
    subst (λ (b : Bool). MatchBool b (IsFault s.rest) ((now.rest ≡ s.rest) × IsPartial s.rest)) broken s.end

-- one that did not stands at what may become another request
pub IsPartial-from_stands : (taken : List ℕ) (requests : List Words) (now : Progress) (s : Stands taken requests now) → now.failed ≡ false → IsPartial s.rest
IsPartial-from_stands taken requests now s sound =
    (subst (λ (b : Bool). MatchBool b (IsFault s.rest) ((now.rest ≡ s.rest) × IsPartial s.rest)) sound s.end).1

-- no request waits
pub Splits-none_wait : (taken : List ℕ) (requests : List Words) (now : Progress) (s : Stands taken requests now) → now.waiting ≡ [] → Splits taken requests s.rest
Splits-none_wait taken requests now s none =
    subst (λ (r : List Words). Splits taken r s.rest) (ap (λ (w : List Words). requests ++ w) none ∙ append-nil requests) s.stream

module _ {S : Type 0} (Answers : S → Words → List ℕ → S → Type 0) where
  -- all answers so far are those that were written, and those that are gathered
  pub all_answered : (found : S) (taken written gathered : List ℕ) (sent : ℕ) (progress : Progress) (now : S)
      → (a : IsAnswering Answers found taken written gathered sent progress now) → AreAnswered Answers found (a.told ++ a.held) (written ++ gathered) now
  all_answered found taken written gathered sent progress now a =
      AreAnswered-append Answers found a.told written a.between a.held gathered now a.answered a.kept

  -- the gathered replies stay, or go to the writer
  pub IsAnswering-moved : (found : S) (taken written gathered gets left : List ℕ) (sent total : ℕ) (progress : Progress) (now : S)
      → IsAnswering Answers found taken written gathered sent progress now → Moves gathered sent gets left total → IsAnswering Answers found taken (written ++ gets) left total progress now
  IsAnswering-moved found taken written gathered gets left sent total progress now a (stay none same kept) = record {
    told = a.told;
    held = a.held;
    between = a.between;
    stands = a.stands;
    answered = subst (λ (w : List ℕ). AreAnswered Answers found a.told w a.between) (sym (ap (λ (x : List ℕ). written ++ x) none ∙ append-nil written)) a.answered;
    kept = subst (λ (x : List ℕ). AreAnswered Answers a.between a.held x now) (sym same) a.kept;
    count = omega (arith, kept, a.count, length-append written gets, ap (length {A = ℕ}) none);
  }
  IsAnswering-moved found taken written gathered gets left sent total progress now a (go all none counts) = record {
    told = a.told ++ a.held;
    held = [];
    between = now;
    stands = subst (λ (r : List Words). Stands taken r progress) (sym (append-nil (a.told ++ a.held))) a.stands;
    answered = subst (λ (x : List ℕ). AreAnswered Answers found (a.told ++ a.held) (written ++ x) now) (sym all) (all_answered found taken written gathered sent progress now a);
    kept = (none, refl);
    count = omega (arith, counts, a.count, length-append written gets, ap (length {A = ℕ}) all);
  }

  -- nothing was written yet
  pub IsAnswering-start : (found : S) (taken written gathered : List ℕ) (sent : ℕ) (progress : Progress) (now : S)
      → IsAnswering Answers found taken written gathered sent progress now → IsAnswering Answers found taken (written ++ []) gathered sent progress now
  IsAnswering-start found taken written gathered sent progress now a =
      IsAnswering-moved found taken written gathered [] gathered sent sent progress now a (stay refl refl refl)

  -- one request more is answered
  pub IsAnswering-next : (found : S) (taken written gathered gets new : List ℕ) (sent total : ℕ) (old next : Progress) (before after : S) (words : Words)
      → ((taken : List ℕ) (given : List Words) → Stands taken given old → Stands taken (given ++ words ∷ []) next)
      → Gathers Answers gathered sent before words gets new total after
      → IsAnswering Answers found taken written gathered sent old before → IsAnswering Answers found taken (written ++ gets) new total next after
  IsAnswering-next found taken written gathered gets new sent total old next before after words hands_out one a =
      let m = IsAnswering-moved found taken written gathered gets one.left sent total old before a one.moves in
      record {
        told = m.told;
        held = m.held ++ words ∷ [];
        between = m.between;
        stands = subst (λ (r : List Words). Stands taken r next) (append_assoc m.told m.held (words ∷ [])) (hands_out taken (m.told ++ m.held) m.stands);
        answered = m.answered;
        kept = subst (λ (x : List ℕ). AreAnswered Answers m.between (m.held ++ words ∷ []) x after) (sym one.appended) (AreAnswered-push Answers m.between m.held one.left before words one.text after m.kept one.answers);
        count = m.count;
      }

  -- the answers to the requests so far are whole, and those that wait are passed over
  pub IsStopped-from_answering : (found : S) (taken written gathered : List ℕ) (sent : ℕ) (progress : Progress) (now : S)
      → IsAnswering Answers found taken written gathered sent progress now → IsStopped Answers found taken (written ++ gathered) now
  IsStopped-from_answering found taken written gathered sent progress now a = record {
    requests = a.told ++ a.held;
    passed_over = progress.waiting;
    rest = a.stands.rest;
    stream = a.stands.stream;
    answered = all_answered found taken written gathered sent progress now a;
  }

  -- memory ran out with replies gathered
  pub IsCutOff-from_answering : (found : S) (taken written gathered : List ℕ) (sent : ℕ) (progress : Progress) (now : S)
      → IsAnswering Answers found taken written gathered sent progress now → IsCutOff Answers found taken written now
  IsCutOff-from_answering found taken written gathered sent progress now a = record {
    requests = a.told;
    silent = a.held;
    passed_over = progress.waiting;
    rest = a.stands.rest;
    between = a.between;
    stream = a.stands.stream;
    answered = a.answered;
    afterwards = record { unsent = gathered; carried_out = a.kept };
  }

  -- the same after others, whose answers went out as far as these bytes
  pub IsAnswering-more : (found : S) (taken written so_far gathered gets new : List ℕ) (sent total : ℕ) (old next : Progress) (before after : S) (words : Words)
      → ((taken : List ℕ) (given : List Words) → Stands taken given old → Stands taken (given ++ words ∷ []) next)
      → Gathers Answers gathered sent before words gets new total after
      → IsAnswering Answers found taken (written ++ so_far) gathered sent old before → IsAnswering Answers found taken (written ++ (so_far ++ gets)) new total next after
  IsAnswering-more found taken written so_far gathered gets new sent total old next before after words hands_out one a =
      subst (λ (w : List ℕ). IsAnswering Answers found taken w new total next after) (append_assoc written so_far gets) (IsAnswering-next found taken (written ++ so_far) gathered gets new sent total old next before after words hands_out one a)

  -- a piece is taken
  pub IsAnswering-begin : (found : S) (taken written piece gathered : List ℕ) (sent : ℕ) (old new : Progress) (now : S)
      → gathered ≡ [] → Advances old new piece → GoesOn Answers found taken written sent old now → IsAnswering Answers found (taken ++ piece) written gathered sent new now
  IsAnswering-begin found taken written piece gathered sent old new now none advances start = record {
    told = start.requests;
    held = [];
    between = now;
    stands = subst (λ (r : List Words). Stands (taken ++ piece) r new) (sym (append-nil start.requests)) (advances taken start.requests start.stands);
    answered = start.answered;
    kept = (none, refl);
    count = start.count;
  }

  -- memory ran out before the piece was taken
  pub IsCutOff-before : (found : S) (taken written piece : List ℕ) (sent : ℕ) (progress : Progress) (now : S)
      → GoesOn Answers found taken written sent progress now → IsCutOff Answers found (taken ++ piece) (written ++ []) now
  IsCutOff-before found taken written piece sent progress now start =
      let none : (start.requests ++ []) ++ [] ≡ start.requests = append-nil (start.requests ++ []) ∙ append-nil start.requests in
      record {
        requests = start.requests;
        silent = [];
        passed_over = [];
        rest = start.stands.rest ++ piece;
        between = now;
        stream = subst (λ (r : List Words). Splits (taken ++ piece) r (start.stands.rest ++ piece)) (sym none) (Splits-more taken piece start.requests start.stands.rest (Splits-none_wait taken start.requests progress start.stands start.none_wait));
        answered = subst (λ (w : List ℕ). AreAnswered Answers found start.requests w now) (sym (append-nil written)) start.answered;
        afterwards = record { unsent = []; carried_out = (refl, refl) };
      }

  -- all replies to a piece were sent
  pub GoesOn-sent : (found : S) (taken written so_far gathered : List ℕ) (sent total : ℕ) (progress : Progress) (now : S)
      → progress.waiting ≡ [] → progress.failed ≡ false → total ≡ counted sent (length gathered)
      → IsAnswering Answers found taken (written ++ so_far) gathered sent progress now → GoesOn Answers found taken (written ++ (so_far ++ gathered)) total progress now
  GoesOn-sent found taken written so_far gathered sent total progress now none sound counts a = record {
    requests = a.told ++ a.held;
    stands = a.stands;
    answered = subst (λ (w : List ℕ). AreAnswered Answers found (a.told ++ a.held) w now) (append_assoc written so_far gathered) (all_answered found taken (written ++ so_far) gathered sent progress now a);
    none_wait = none;
    sound = sound;
    count = omega (arith, counts, a.count, length-append (written ++ so_far) gathered, ap (length {A = ℕ}) (append_assoc written so_far gathered));
  }

  -- the stream went wrong, and the error for it is the last reply
  pub IsBroken-from_answering : (found : S) (taken written gathered whole : List ℕ) (sent : ℕ) (progress : Progress) (now : S)
      → progress.waiting ≡ [] → progress.failed ≡ true → whole ≡ gathered ++ protocol_text
      → IsAnswering Answers found taken written gathered sent progress now → IsBroken Answers found taken (written ++ whole) now
  IsBroken-from_answering found taken written gathered whole sent progress now none broken is a = record {
    requests = a.told ++ a.held;
    rest = a.stands.rest;
    text = written ++ gathered;
    stream = Splits-none_wait taken (a.told ++ a.held) progress a.stands none;
    fault = IsFault-from_stands taken (a.told ++ a.held) progress a.stands broken;
    answered = all_answered found taken written gathered sent progress now a;
    last = ap (λ (w : List ℕ). written ++ w) is ∙ sym (append_assoc written gathered protocol_text);
  }

  -- all of it was sent
  pub IsBroken-sent : (found : S) (taken written so_far gathered whole : List ℕ) (sent : ℕ) (progress : Progress) (now : S)
      → progress.waiting ≡ [] → progress.failed ≡ true → whole ≡ gathered ++ protocol_text
      → IsAnswering Answers found taken (written ++ so_far) gathered sent progress now → IsBroken Answers found taken (written ++ (so_far ++ whole)) now
  IsBroken-sent found taken written so_far gathered whole sent progress now none broken is a =
      subst (λ (w : List ℕ). IsBroken Answers found taken w now) (append_assoc written so_far whole) (IsBroken-from_answering found taken (written ++ so_far) gathered whole sent progress now none broken is a)

  -- between two pieces every request of the bytes taken is answered
  pub IsAnswered-from_goes_on : (found : S) (taken written : List ℕ) (sent : ℕ) (progress : Progress) (now : S)
      → GoesOn Answers found taken written sent progress now → IsAnswered Answers found taken written now
  IsAnswered-from_goes_on found taken written sent progress now goes = record {
    requests = goes.requests;
    rest = goes.stands.rest;
    stream = Splits-none_wait taken goes.requests progress goes.stands goes.none_wait;
    partial = IsPartial-from_stands taken goes.requests progress goes.stands goes.sound;
    answered = goes.answered;
  }

module _ {S : Type 0} (Answers : S → Words → List ℕ → S → Type 0) (Holds : S → Words → S → Type 0) where
  -- the writer fails before it has all replies
  pub EndsAs-broken_off : (found : S) (taken written gathered gets : List ℕ) (sent : ℕ) (now : S) (end : End)
      → IsStopped Answers found taken (written ++ gathered) now ⊎ IsBroken Answers found taken (written ++ gathered) now
      → sent ≡ min (length written) 0xffff_ffff_ffff_ffff → BreaksOff gathered sent gets end → EndsAs Answers Holds found taken (written ++ gets) now end
  EndsAs-broken_off found taken written gathered gets sent now end whole count b =
      let joined : written ++ gathered ≡ (written ++ gets) ++ drop b.count gathered =
      ap (λ (x : List ℕ). written ++ x) (sym (take-append-drop b.count gathered)) ∙ sym (append_assoc written (take b.count gathered) (drop b.count gathered)) ∙ ap (λ (x : List ℕ). (written ++ x) ++ drop b.count gathered) (sym b.part) in
      let front : IsFront Answers found taken (written ++ gets) now (counted sent b.count) = record {
        lacking = drop b.count gathered;
        some_lack = λ none. absurd (omega (arith, b.short, length-drop b.count gathered, ap (length {A = ℕ}) none));
        whole = subst (λ (x : List ℕ). IsStopped Answers found taken x now ⊎ IsBroken Answers found taken x now) joined whole;
        count = omega (arith, count, b.short, length-append written gets, ap (length {A = ℕ}) b.part, length-take b.count gathered);
      } in
      subst (EndsAs Answers Holds found taken (written ++ gets) now) (sym b.told) front

  -- the session ends at a request
  pub EndsAs-stopped : (found : S) (taken written gathered gets : List ℕ) (sent : ℕ) (old next : Progress) (before after : S) (words : Words) (end : End)
      → ((taken : List ℕ) (given : List Words) → Stands taken given old → Stands taken (given ++ words ∷ []) next)
      → Stops Answers Holds gathered sent before words gets end after
      → IsAnswering Answers found taken written gathered sent old before → EndsAs Answers Holds found taken (written ++ gets) after end
  EndsAs-stopped found taken written gathered gets sent old next before after words end hands_out (silent left total text moves answers is_memory) a =
      let one : Gathers Answers gathered sent before words gets (left ++ text) total after = record { left = left; text = text; moves = moves; answers = answers; appended = refl } in
      let now = IsAnswering-next Answers found taken written gathered gets (left ++ text) sent total old next before after words hands_out one a in
      subst (EndsAs Answers Holds found taken (written ++ gets) after) (sym is_memory) (IsCutOff-from_answering Answers found taken (written ++ gets) (left ++ text) total next after now)
  EndsAs-stopped found taken written gathered gets sent old next before after words end hands_out (waits left total moves held is_desk) a =
      let now = IsAnswering-moved Answers found taken written gathered gets left sent total old before a moves in
      let stands = hands_out taken (now.told ++ now.held) now.stands in
      let one : IsHeld Answers Holds found taken (written ++ gets) after = record {
        requests = now.told;
        silent = now.held;
        words = words;
        passed_over = next.waiting;
        rest = stands.rest;
        between = now.between;
        behind = before;
        stream = stands.stream;
        answered = now.answered;
        afterwards = record { unsent = left; carried_out = now.kept };
        held = held;
      } in
      subst (EndsAs Answers Holds found taken (written ++ gets) after) (sym is_desk) one
  EndsAs-stopped found taken written gathered gets sent old next before after words end hands_out (breaks b unchanged) a =
      subst (λ (s : S). EndsAs Answers Holds found taken (written ++ gets) s end) (sym unchanged) (EndsAs-broken_off found taken written gathered gets sent before end (inl (IsStopped-from_answering Answers found taken written gathered sent old before a)) a.count b)

  pub EndsAs-more : (found : S) (taken written so_far gathered gets : List ℕ) (sent : ℕ) (old next : Progress) (before after : S) (words : Words) (end : End)
      → ((taken : List ℕ) (given : List Words) → Stands taken given old → Stands taken (given ++ words ∷ []) next)
      → Stops Answers Holds gathered sent before words gets end after
      → IsAnswering Answers found taken (written ++ so_far) gathered sent old before → EndsAs Answers Holds found taken (written ++ (so_far ++ gets)) after end
  EndsAs-more found taken written so_far gathered gets sent old next before after words end hands_out stop a =
      subst (λ (w : List ℕ). EndsAs Answers Holds found taken w after end) (append_assoc written so_far gets) (EndsAs-stopped found taken (written ++ so_far) gathered gets sent old next before after words end hands_out stop a)

  pub IsPieceEnd-from_stops : (gathered gets : List ℕ) (sent : ℕ) (before after : S) (words : Words) (end : End) → Stops Answers Holds gathered sent before words gets end after → IsPieceEnd end
  IsPieceEnd-from_stops gathered gets sent before after words end (silent left total text moves answers is_memory) = subst IsPieceEnd (sym is_memory) tt
  IsPieceEnd-from_stops gathered gets sent before after words end (waits left total moves held is_desk) = subst IsPieceEnd (sym is_desk) tt
  IsPieceEnd-from_stops gathered gets sent before after words end (breaks b unchanged) = subst IsPieceEnd (sym b.told) tt

  -- the writer fails with some of them
  pub EndsAs-unsent : (found : S) (taken written so_far gathered gets : List ℕ) (sent : ℕ) (progress : Progress) (now : S) (end : End)
      → BreaksOff gathered sent gets end → IsAnswering Answers found taken (written ++ so_far) gathered sent progress now → EndsAs Answers Holds found taken (written ++ (so_far ++ gets)) now end
  EndsAs-unsent found taken written so_far gathered gets sent progress now end b a =
      subst (λ (w : List ℕ). EndsAs Answers Holds found taken w now end) (append_assoc written so_far gets) (EndsAs-broken_off found taken (written ++ so_far) gathered gets sent now end (inl (IsStopped-from_answering Answers found taken (written ++ so_far) gathered sent progress now a)) a.count b)

  -- the writer fails with some of it
  pub EndsAs-broken_unsent : (found : S) (taken written so_far gathered whole gets : List ℕ) (sent total : ℕ) (progress : Progress) (now : S) (end : End)
      → progress.waiting ≡ [] → progress.failed ≡ true → whole ≡ gathered ++ protocol_text → total ≡ sent
      → BreaksOff whole total gets end → IsAnswering Answers found taken (written ++ so_far) gathered sent progress now → EndsAs Answers Holds found taken (written ++ (so_far ++ gets)) now end
  EndsAs-broken_unsent found taken written so_far gathered whole gets sent total progress now end none broken is same b a =
      subst (λ (w : List ℕ). EndsAs Answers Holds found taken w now end) (append_assoc written so_far gets) (EndsAs-broken_off found taken (written ++ so_far) whole gets total now end (inr (IsBroken-from_answering Answers found taken (written ++ so_far) gathered whole sent progress now none broken is a)) (same ∙ a.count) b)
