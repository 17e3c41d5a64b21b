-- Streams, read request by request.
use Rattle.std.proofs.Common.{◌≡◌, ◌⊎◌, inl, inr, ℕ, ◌<◌, Bool, true, false, List, [], ◌∷◌, ◌++◌, length, Option, Some, None, Ok, Err, codes, refl, sym, ap, subst, ◌∙◌, arith}
use Rattle.std.specs.Prelude.{MatchBool}
use Rattle.std.proofs.lemmas.Bool.{MatchBool-at_false}
use Rattle.std.proofs.lemmas.List.{append_assoc, append-nil, append_cancel_left, append_cancel_right}
use Rattle.sr_resp.specs.Request.{Words, header, Spells}
use Rattle.sr_resp.specs.Stream.{AreSpelled, requests_in, Splits, IsPartial, IsFault, Progress, Stands, Advances}
use Rattle.sr_resp.specs.Reading.{More, Bad, item_at, Sorts}
use Rattle.sr_resp.proofs.Exact.{same_read, nil_left}
use Rattle.sr_resp.proofs.RequestGrammar.{item_exact}

-- ---- one spelling

pub one_spelling : (a b x y : List ℕ) (m n : Option Words) → Spells a m → Spells b n → a ++ x ≡ b ++ y → (a ≡ b) × (m ≡ n)
one_spelling a b x y m n p q same =
    let one : item_at (a ++ x) ≡ Ok (m, x) = item_exact.again a m x p in
    let other : item_at (a ++ x) ≡ Ok (n, y) = ap item_at same ∙ item_exact.again b n y q in
    let both = same_read (Option Words) m n x y (item_at (a ++ x)) one other in
    (append_cancel_right a b x (same ∙ ap (λ (t : List ℕ). b ++ t) (sym both.1)), both.0)

some_byte : (item : Option Words) (text : List ℕ) → Spells text item → 0 < length text
some_byte None text q = let e : length text ≡ length (header (codes "*") q.digits) = ap length q.spelled in omega (arith, e)
some_byte (Some words) text q = let e : length text ≡ length (header (codes "*") q.digits ++ q.body) = ap length q.spelled in omega (arith, e)

pub partial_from_more : (rest : List ℕ) → item_at rest ≡ Err More → IsPartial rest
partial_from_more rest e = let l = item_exact.waits rest e in record { more = l.more; item = l.value; whole = l.is; lacking = l.lacking }

pub fault_from_bad : (rest : List ℕ) → item_at rest ≡ Err Bad → IsFault rest
fault_from_bad rest e = item_exact.refuses rest e

-- ---- one stream behind another

AreSpelled-append : (s t : List ℕ) (xs ys : List (Option Words)) → AreSpelled s xs → AreSpelled t ys → AreSpelled (s ++ t) (xs ++ ys)
AreSpelled-append s t [] ys p q = subst (λ (b : List ℕ). AreSpelled (b ++ t) ys) (sym p) q
AreSpelled-append s t (x ∷ xs) ys p q =
    (p.0, p.1 ++ t, p.2, AreSpelled-append p.1 t xs ys p.3 q, ap (λ (b : List ℕ). b ++ t) p.4 ∙ append_assoc p.0 p.1 t)

requests_in-append : (xs ys : List (Option Words)) → requests_in (xs ++ ys) ≡ requests_in xs ++ requests_in ys
requests_in-append [] ys = refl
requests_in-append (None ∷ xs) ys = requests_in-append xs ys
requests_in-append (Some words ∷ xs) ys = ap (λ (rs : List Words). words ∷ rs) (requests_in-append xs ys)

pub Splits-append : (stream piece : List ℕ) (xs ys : List Words) (u v : List ℕ) → Splits stream xs u → Splits (u ++ piece) ys v → Splits (stream ++ piece) (xs ++ ys) v
Splits-append stream piece xs ys u v p q =
    let ends : (p.spelled ++ u) ++ piece ≡ (p.spelled ++ q.spelled) ++ v =
    append_assoc p.spelled u piece ∙ ap (λ (t : List ℕ). p.spelled ++ t) q.whole ∙ sym (append_assoc p.spelled q.spelled v) in
    let requests : requests_in p.items ++ requests_in q.items ≡ xs ++ ys = ap (λ (rs : List Words). rs ++ requests_in q.items) p.only ∙ ap (λ (rs : List Words). xs ++ rs) q.only in
    record {
      items = p.items ++ q.items;
      spelled = p.spelled ++ q.spelled;
      each = AreSpelled-append p.spelled q.spelled p.items q.items p.each q.each;
      only = requests_in-append p.items q.items ∙ requests;
      whole = ap (λ (t : List ℕ). t ++ piece) p.whole ∙ ends;
    }

-- nothing was read yet
pub Splits-nothing : (stream : List ℕ) → Splits stream [] stream
Splits-nothing stream = record { items = []; spelled = []; each = refl; only = refl; whole = refl }

-- one item more was read
Splits-more : (stream : List ℕ) (xs : List Words) (rest : List ℕ) (item : Option Words) (after : List ℕ) → Splits stream xs rest → item_at rest ≡ Ok (item, after)
    → Splits stream (xs ++ requests_in (item ∷ [])) after
Splits-more stream xs rest item after p e =
    let f = item_exact.reads rest item after e in
    let one : Splits (rest ++ []) (requests_in (item ∷ [])) after = record {
      items = item ∷ [];
      spelled = f.front;
      each = (f.front, [], f.is, refl, sym (append-nil f.front));
      only = refl;
      whole = append-nil rest ∙ f.whole;
    } in
    subst (λ (t : List ℕ). Splits t (xs ++ requests_in (item ∷ [])) after) (append-nil stream) (Splits-append stream [] xs (requests_in (item ∷ [])) rest after p one)

pub Splits-request : (stream : List ℕ) (xs : List Words) (rest : List ℕ) (item : Option Words) (words : Words) (after : List ℕ) → Splits stream xs rest
    → item_at rest ≡ Ok (item, after) → item ≡ Some words → Splits stream (xs ++ words ∷ []) after
Splits-request stream xs rest item words after p e is =
    subst (λ (i : Option Words). Splits stream (xs ++ requests_in (i ∷ [])) after) is (Splits-more stream xs rest item after p e)

pub Splits-empty : (stream : List ℕ) (xs : List Words) (rest : List ℕ) (item : Option Words) (after : List ℕ) → Splits stream xs rest
    → item_at rest ≡ Ok (item, after) → item ≡ None → Splits stream xs after
Splits-empty stream xs rest item after p e is =
    let more : Splits stream (xs ++ []) after = subst (λ (i : Option Words). Splits stream (xs ++ requests_in (i ∷ [])) after) is (Splits-more stream xs rest item after p e) in
    subst (λ (ws : List Words). Splits stream ws after) (append-nil xs) more

-- ---- a reader

end_stands : (failed : Bool) (rest : List ℕ) → MatchBool failed (IsFault rest) (IsPartial rest) → MatchBool failed (IsFault rest) ((rest ≡ rest) × IsPartial rest)
end_stands true rest fault = fault
end_stands false rest partial = (refl, partial)

pub Sorts-advances : (old new : Progress) (piece : List ℕ) → old.failed ≡ false → Sorts (record old { rest = old.rest ++ piece }) new → Advances old new piece
Sorts-advances old new piece working s = λ taken given st.
    let end : (old.rest ≡ st.rest) × IsPartial st.rest = MatchBool-at_false (IsFault st.rest) ((old.rest ≡ st.rest) × IsPartial st.rest) working st.end in
    let found : Splits (st.rest ++ piece) s.requests new.rest = subst (λ (t : List ℕ). Splits (t ++ piece) s.requests new.rest) end.0 s.found.stream in
    let whole = Splits-append taken piece (given ++ old.waiting) s.requests st.rest new.rest st.stream found in
    let waiting : (given ++ old.waiting) ++ s.requests ≡ given ++ new.waiting = append_assoc given old.waiting s.requests ∙ ap (λ (ws : List Words). given ++ ws) (sym s.waiting) in
    record { rest = new.rest; stream = subst (λ (ws : List Words). Splits (taken ++ piece) ws new.rest) waiting whole; end = end_stands new.failed new.rest s.found.end }

pub Stands-nothing : Stands [] [] (record { waiting = []; rest = []; failed = false; looked = 0 })
unfolding item_at
Stands-nothing = record { rest = []; stream = Splits-nothing []; end = (refl, partial_from_more [] refl) }

-- the oldest waiting request is handed out
pub Stands-given : (old new : Progress) (words : Words) (taken : List ℕ) (given : List Words) → old ≡ record new { waiting = words ∷ new.waiting } → Stands taken given old
    → Stands taken (given ++ words ∷ []) new
Stands-given old new words taken given is stood =
    let before : Stands taken given (record new { waiting = words ∷ new.waiting }) = subst (λ (o : Progress). Stands taken given o) is stood in
    record { rest = before.rest; stream = subst (λ (ws : List Words). Splits taken ws before.rest) (sym (append_assoc given (words ∷ []) new.waiting)) before.stream; end = before.end }

-- ---- one reading

no_spelling : (rest : List ℕ) → IsPartial rest ⊎ IsFault rest → (front after : List ℕ) (item : Option Words) → Spells front item → rest ≡ front ++ after → ⊥
no_spelling rest (inl partial) front after item q same =
    let joined : front ++ (after ++ partial.more) ≡ (rest ++ partial.more) ++ [] = sym (append_assoc front after partial.more) ∙ ap (λ (t : List ℕ). t ++ partial.more) (sym same) ∙ sym (append-nil (rest ++ partial.more)) in
    let one = one_spelling front (rest ++ partial.more) (after ++ partial.more) [] item partial.item q partial.whole joined in
    let nothing : front ++ (after ++ partial.more) ≡ front ++ [] = joined ∙ append-nil (rest ++ partial.more) ∙ sym one.0 ∙ sym (append-nil front) in
    let none : after ++ partial.more ≡ [] = append_cancel_left front (after ++ partial.more) [] nothing in
    let after_none : after ≡ [] = nil_left after partial.more none in
    partial.lacking (ap (λ (t : List ℕ). t ++ partial.more) (sym after_none) ∙ none)
no_spelling rest (inr fault) front after item q same = fault [] front after item q (append-nil rest ∙ same)

requests_in-same : (item : Option Words) (xs ys : List (Option Words)) → requests_in xs ≡ requests_in ys → requests_in (item ∷ xs) ≡ requests_in (item ∷ ys)
requests_in-same None xs ys e = e
requests_in-same (Some words) xs ys e = ap (λ (rs : List Words). words ∷ rs) e

readings : (xs ys : List (Option Words)) (s t u v : List ℕ) → AreSpelled s xs → AreSpelled t ys → s ++ u ≡ t ++ v
    → IsPartial u ⊎ IsFault u → IsPartial v ⊎ IsFault v → (requests_in xs ≡ requests_in ys) × (u ≡ v)
readings [] [] s t u v p q same hu hv = (refl, ap (λ (b : List ℕ). b ++ u) (sym p) ∙ same ∙ ap (λ (b : List ℕ). b ++ v) q)
readings [] (y ∷ ys) s t u v p q same hu hv =
    let whole : u ≡ q.0 ++ (q.1 ++ v) = ap (λ (b : List ℕ). b ++ u) (sym p) ∙ same ∙ ap (λ (b : List ℕ). b ++ v) q.4 ∙ append_assoc q.0 q.1 v in
    absurd (no_spelling u hu q.0 (q.1 ++ v) y q.2 whole)
readings (x ∷ xs) [] s t u v p q same hu hv =
    let whole : v ≡ p.0 ++ (p.1 ++ u) = ap (λ (b : List ℕ). b ++ v) (sym q) ∙ sym same ∙ ap (λ (b : List ℕ). b ++ u) p.4 ∙ append_assoc p.0 p.1 u in
    absurd (no_spelling v hv p.0 (p.1 ++ u) x p.2 whole)
readings (x ∷ xs) (y ∷ ys) s t u v p q same hu hv =
    let whole : p.0 ++ (p.1 ++ u) ≡ q.0 ++ (q.1 ++ v) =
    sym (append_assoc p.0 p.1 u) ∙ ap (λ (b : List ℕ). b ++ u) (sym p.4) ∙ same ∙ ap (λ (b : List ℕ). b ++ v) q.4 ∙ append_assoc q.0 q.1 v in
    let one = one_spelling p.0 q.0 (p.1 ++ u) (q.1 ++ v) x y p.2 q.2 whole in
    let others : p.1 ++ u ≡ q.1 ++ v = append_cancel_left q.0 (p.1 ++ u) (q.1 ++ v) (ap (λ (b : List ℕ). b ++ (p.1 ++ u)) (sym one.0) ∙ whole) in
    let r = readings xs ys p.1 q.1 u v p.3 q.3 others hu hv in
    (ap (λ (i : Option Words). requests_in (i ∷ xs)) one.1 ∙ requests_in-same y xs ys r.0, r.1)

pub one_reading : (stream : List ℕ) (xs ys : List Words) (u v : List ℕ) → Splits stream xs u → IsPartial u ⊎ IsFault u → Splits stream ys v → IsPartial v ⊎ IsFault v → (xs ≡ ys) × (u ≡ v)
one_reading stream xs ys u v p hu q hv =
    let r = readings p.items q.items p.spelled q.spelled u v p.each q.each (sym p.whole ∙ q.whole) hu hv in
    (sym p.only ∙ r.0 ∙ q.only, r.1)
