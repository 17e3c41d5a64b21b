-- The parts of a request that are read in one go: a text, a number's line, and so many bytes.
use Rattle.std.proofs.Common.{lit<, lit≤, ◌≡◌, ◌≢◌, ◌⊎◌, inl, inr, ℕ, ◌+◌, ◌-◌, ◌*◌, ◌<◌, ◌≤◌, Bool, true, false, cond, eqb, ltb, List, [], ◌∷◌, ◌++◌, length, take, drop, Result, Ok, Err, refl, sym, ap, ◌∙◌, arith}
use Rattle.std.proofs.lemmas.Bool.{cases_lt, cases_eq, ltb-true, ltb-false, eqb-true, eqb-false, eq-eqb, le-ltb}
use Rattle.std.proofs.lemmas.List.{length-append, length-take, length-replicate, take-append-drop, take_at, drop_at}
use Rattle.std.proofs.Math.ListN.{replicate}
use Rattle.std.specs.Char.{digit_value}
use Rattle.std.specs.Str.Parse.{AllDigits, digits_value_after}
use Rattle.sr_resp.specs.Reply.{line_end}
use Rattle.sr_resp.specs.Reading.{Halt, More, Bad, literal_at, digits_at, bytes_at}
use Rattle.sr_resp.proofs.Exact.{Front, Lacks, Exact, bind_ok, bind_err, same_read, done_at, ok_or_err, more_or_bad}
use Rattle.sr_resp.proofs.ReadingSteps.{step_digit, step_too_many, step_none, step_end}

-- ---- a text

abbrev pub IsText : List ℕ → List ℕ → Unit {0} → Type 0
IsText text bytes u = bytes ≡ text

guard_ok : {A : Type 0} (b : Bool) (r : Result A Halt) (y : A) → cond b r (Err Bad) ≡ Ok y → (b ≡ true) × (r ≡ Ok y)
guard_ok true r y e = (refl, e)
guard_ok false r y e = absurd cc

guard_more : {A : Type 0} (b : Bool) (r : Result A Halt) → cond b r (Err Bad) ≡ Err More → (b ≡ true) × (r ≡ Err More)
guard_more true r e = (refl, e)
guard_more false r e = absurd cc

guard_bad : {A : Type 0} (b : Bool) (r : Result A Halt) → cond b r (Err Bad) ≡ Err Bad → (b ≡ false) ⊎ ((b ≡ true) × (r ≡ Err Bad))
guard_bad true r e = inr (refl, e)
guard_bad false r e = inl refl

literal_reads : (text bytes : List ℕ) (u : Unit {0}) (rest : List ℕ) → literal_at text bytes ≡ Ok (u, rest) → bytes ≡ text ++ rest
literal_reads [] bytes u rest e = (same_read (Unit {0}) tt u bytes rest (literal_at [] bytes) refl e).1
literal_reads (c ∷ text) [] u rest e = absurd cc
literal_reads (c ∷ text) (b ∷ bytes) u rest e =
    let g = guard_ok (eqb b c) (literal_at text bytes) (u, rest) e in
    let same : b ≡ c = eqb-true b c g.0 in
    let others : bytes ≡ text ++ rest = literal_reads text bytes u rest g.1 in
    cc

literal_again : (text rest : List ℕ) → literal_at text (text ++ rest) ≡ Ok (tt, rest)
literal_again [] rest = refl
literal_again (c ∷ text) rest = rw (eq-eqb c c refl) (literal_again text rest)

literal_refuses : (text bytes : List ℕ) → literal_at text bytes ≡ Err Bad → (more after : List ℕ) → bytes ++ more ≡ text ++ after → ⊥
literal_refuses [] bytes e more after same = absurd cc
literal_refuses (c ∷ text) [] e more after same = absurd cc
literal_refuses (c ∷ text) (b ∷ bytes) e more after same =
    let heads : b ≡ c = cc in
    let tails : bytes ++ more ≡ text ++ after = cc in
    elim (guard_bad (eqb b c) (literal_at text bytes) e) [
      | inl differs ↦ eqb-false b c differs heads
      | inr g ↦ literal_refuses text bytes g.1 more after tails
    ]

literal_waits : (text bytes : List ℕ) → literal_at text bytes ≡ Err More → (more : List ℕ) × (bytes ++ more ≡ text) × (more ≢ [])
literal_waits [] bytes e = absurd cc
literal_waits (c ∷ text) [] e = (c ∷ text, refl, λ none. absurd cc)
literal_waits (c ∷ text) (b ∷ bytes) e =
    let g = guard_more (eqb b c) (literal_at text bytes) e in
    let same : b ≡ c = eqb-true b c g.0 in
    let l = literal_waits text bytes g.1 in
    let others : bytes ++ l.0 ≡ text = l.1 in
    let whole : b ∷ (bytes ++ l.0) ≡ c ∷ text = cc in
    (l.0, whole, l.2)

pub literal_exact : (text : List ℕ) → Exact (Unit {0}) (IsText text) (literal_at text)
literal_exact text = record {
  reads = λ bytes u rest e. record { front = text; is = refl; whole = literal_reads text bytes u rest e };
  again = λ front u rest q. ap (λ (t : List ℕ). literal_at text (t ++ rest)) q ∙ literal_again text rest;
  refuses = λ bytes e more front after u q same. literal_refuses text bytes e more after (same ∙ ap (λ (t : List ℕ). t ++ after) q);
  waits = λ bytes e. let l = literal_waits text bytes e in record { more = l.0; value = tt; is = l.1; lacking = l.2 };
  some = record { text = text; value = tt; is = refl };
}

-- ---- so many bytes

pub record AreBytes (n : ℕ) (text bytes : List ℕ) : Type 0 where
  pub count : length bytes ≡ n
  pub same : text ≡ bytes

guard_long : {A : Type 0} (b : Bool) (x y : A) → cond b (Err More) (Ok x) ≡ Ok y → (b ≡ false) × (x ≡ y)
guard_long true x y e = absurd cc
guard_long false x y e = (refl, cc)

guard_short : {A : Type 0} (b : Bool) (x : A) → cond b (Err More) (Ok x) ≡ Err More → b ≡ true
guard_short true x e = refl
guard_short false x e = absurd cc

guard_never : {A : Type 0} (b : Bool) (x : A) → cond b (Err More) (Ok x) ≡ Err Bad → ⊥
guard_never true x e = absurd cc
guard_never false x e = absurd cc

bytes_again : (n : ℕ) (front rest : List ℕ) → length front ≡ n → bytes_at n (front ++ rest) ≡ Ok (front, rest)
bytes_again n front rest len =
    let long : ltb (length (front ++ rest)) n ≡ false = le-ltb _ _ (omega (arith, length-append front rest)) in
    rw (long, take_at front rest n len, drop_at front rest n len) refl

bytes_read : (n : ℕ) (bytes x rest : List ℕ) → bytes_at n bytes ≡ Ok (x, rest) → Front (List ℕ) (AreBytes n) bytes x rest
bytes_read n bytes x rest e =
    let g = guard_long (ltb (length bytes) n) (take n bytes, drop n bytes) (x, rest) e in
    let x-is : take n bytes ≡ x = ap (λ (p : List ℕ × List ℕ). p.0) g.1 in
    let rest-is : drop n bytes ≡ rest = ap (λ (p : List ℕ × List ℕ). p.1) g.1 in
    let long : n ≤ length bytes = ltb-false _ _ g.0 in
    record {
      front = take n bytes;
      is = record { count = rw (← x-is) (omega (arith, length-take n bytes)); same = x-is };
      whole = rw (← rest-is) (sym (take-append-drop n bytes));
    }

bytes_wait : (n : ℕ) (bytes : List ℕ) → bytes_at n bytes ≡ Err More → Lacks (List ℕ) (AreBytes n) bytes
bytes_wait n bytes e =
    let short : length bytes < n = ltb-true _ _ (guard_short (ltb (length bytes) n) (take n bytes, drop n bytes) e) in
    let more : List ℕ = replicate (n - length bytes) 0 in
    let many : length more ≡ n - length bytes = length-replicate (n - length bytes) 0 in
    record {
      more = more;
      value = bytes ++ more;
      is = record { count = omega (arith, length-append bytes more); same = refl };
      lacking = λ none. let empty : length more ≡ 0 = ap length none in omega arith;
    }

pub bytes_exact : (n : ℕ) → Exact (List ℕ) (AreBytes n) (bytes_at n)
bytes_exact n = record {
  reads = bytes_read n;
  again = λ front x rest q. ap (λ (t : List ℕ). bytes_at n (t ++ rest)) q.same ∙ bytes_again n x rest q.count;
  refuses = λ bytes e more text after x q same. guard_never (ltb (length bytes) n) (take n bytes, drop n bytes) e;
  waits = bytes_wait n;
  some = record { text = replicate n 0; value = replicate n 0; is = record { count = length-replicate n 0; same = refl } };
}

-- ---- a number's line

-- what is left of the line behind so many digits with this value
pub record IsLine (most count value : ℕ) (text : List ℕ) (n : ℕ) : Type 0 where
  pub digits : List ℕ
  pub some : 0 < count + length digits
  pub few : count + length digits ≤ 10
  pub each : AllDigits 10 digits
  pub value_is : digits_value_after 10 value digits ≡ n
  pub small : n ≤ most
  pub spelled : text ≡ digits ++ line_end

-- what the digits so far leave room for
pub record HasRoom (most count value : ℕ) : Type 0 where
  pub few : count ≤ 10
  pub small : value ≤ most
  pub none : count ≡ 0 → value ≡ 0

-- where the byte b leads from there
data Step (most count value b : ℕ) : Type 0 where
  fits : digit_value b < 10 → count < 10 → value * 10 + digit_value b ≤ most → Step most count value b
  too_many : digit_value b < 10 → (10 ≤ count) ⊎ (most < value * 10 + digit_value b) → Step most count value b
  none_yet : 10 ≤ digit_value b → count ≡ 0 → Step most count value b
  ends : 10 ≤ digit_value b → (count ≡ 0 → ⊥) → Step most count value b

step_of : (most count value b : ℕ) → Step most count value b
step_of most count value b =
    elim (cases_lt (digit_value b) 10) [
      | inl digit ↦
          elim (cases_lt count 10) [
            | inl few ↦
                elim (cases_lt most (value * 10 + digit_value b)) [
                  | inl large ↦ too_many digit (inr large)
                  | inr small ↦ fits digit few small
                ]
            | inr many ↦ too_many digit (inl many)
          ]
      | inr other ↦ elim (cases_eq count 0) [ inl none ↦ none_yet other none | inr some ↦ ends other some ]
    ]

digits_value_after-ge : (n : ℕ) (ds : List ℕ) → n ≤ digits_value_after 10 n ds
digits_value_after-ge n [] = omega arith
digits_value_after-ge n (d ∷ ds) = omega (arith, digits_value_after-ge (n * 10 + digit_value d) ds)

line_reads : (most count value : ℕ) (bytes : List ℕ) (n : ℕ) (rest : List ℕ) → HasRoom most count value → digits_at most count value bytes ≡ Ok (n, rest)
    → Front ℕ (IsLine most count value) bytes n rest
unfolding digits_at
line_reads most count value [] n rest room e = absurd cc
line_reads most count value (b ∷ bytes) n rest room e =
    elim (step_of most count value b) [
      | fits digit few small ↦
          let room_left : HasRoom most (count + 1) (value * 10 + digit_value b) = record { few = omega arith; small = small; none = λ z. absurd (omega arith) } in
          let f = line_reads most (count + 1) (value * 10 + digit_value b) bytes n rest room_left (sym (step_digit most count value b bytes digit few small) ∙ e) in
          record {
            front = b ∷ f.front;
            is = record {
              digits = b ∷ f.is.digits;
              some = omega arith;
              few = omega (arith, f.is.few);
              each = (digit, f.is.each);
              value_is = f.is.value_is;
              small = f.is.small;
              spelled = ap (λ (t : List ℕ). b ∷ t) f.is.spelled;
            };
            whole = ap (λ (t : List ℕ). b ∷ t) f.whole;
          }
      | too_many digit many ↦ absurd (ok_or_err (digits_at most count value (b ∷ bytes)) (n, rest) Bad e (step_too_many most count value b bytes digit many))
      | none_yet other none ↦ absurd (ok_or_err (digits_at most count value (b ∷ bytes)) (n, rest) Bad e (step_none most count value b bytes other none))
      | ends other some ↦
          let p = bind_ok (literal_at line_end (b ∷ bytes)) (λ x. Ok (value, x.1)) (n, rest) (sym (step_end most count value b bytes other some) ∙ e) in
          let read : ℕ × List ℕ → Result (ℕ × List ℕ) Halt = λ a. Ok a in
          let both = same_read ℕ value n p.0.1 rest (read (value, p.0.1)) refl p.2 in
          record {
            front = line_end;
            is = record { digits = []; some = omega arith; few = omega (arith, room.few); each = tt; value_is = both.0; small = omega (arith, both.0, room.small); spelled = refl };
            whole = literal_reads line_end (b ∷ bytes) p.0.0 p.0.1 p.1 ∙ ap (λ (t : List ℕ). line_end ++ t) both.1;
          }
    ]

line_again : (most count value : ℕ) (digits rest : List ℕ) → 0 < count + length digits → count + length digits ≤ 10 → AllDigits 10 digits → digits_value_after 10 value digits ≤ most
    → digits_at most count value ((digits ++ line_end) ++ rest) ≡ Ok (digits_value_after 10 value digits, rest)
unfolding digits_at
line_again most count value [] rest some few each small = step_end most count value 13 (10 ∷ rest) (lit≤ tt) (λ none. absurd (omega arith)) ∙ refl
line_again most count value (d ∷ ds) rest some few each small =
    let front : value * 10 + digit_value d ≤ most = omega (arith, small, digits_value_after-ge (value * 10 + digit_value d) ds) in
    step_digit most count value d ((ds ++ line_end) ++ rest) each.0 (omega arith) front
    ∙ line_again most (count + 1) (value * 10 + digit_value d) ds rest (omega arith) (omega arith) each.1 small

line_refuses : (most count value : ℕ) (bytes : List ℕ) → digits_at most count value bytes ≡ Err Bad
    → (more digits after : List ℕ) → 0 < count + length digits → count + length digits ≤ 10 → AllDigits 10 digits → digits_value_after 10 value digits ≤ most
    → bytes ++ more ≡ (digits ++ line_end) ++ after → ⊥
unfolding digits_at
line_refuses most count value [] e more digits after some few each small same = absurd cc
line_refuses most count value (b ∷ bytes) e more [] after some few each small same =
    let heads : b ≡ 13 = cc in
    let no_digit : 10 ≤ digit_value b = rw heads (lit≤ tt) in
    elim (step_of most count value b) [
      | fits digit few' small' ↦ omega arith
      | too_many digit many ↦ omega arith
      | none_yet other none ↦ omega arith
      | ends other some' ↦
          elim (bind_err (literal_at line_end (b ∷ bytes)) (λ x. Ok (value, x.1)) Bad (sym (step_end most count value b bytes other some') ∙ e)) [
            | inl bad ↦ literal_refuses line_end (b ∷ bytes) bad more after same
            | inr p ↦ cc
          ]
    ]
line_refuses most count value (b ∷ bytes) e more (d ∷ ds) after some few each small same =
    let heads : b ≡ d = cc in
    let tails : bytes ++ more ≡ (ds ++ line_end) ++ after = cc in
    let digit_b : digit_value b < 10 = rw heads each.0 in
    let values : value * 10 + digit_value b ≡ value * 10 + digit_value d = ap (λ (k : ℕ). value * 10 + digit_value k) heads in
    let small_b : digits_value_after 10 (value * 10 + digit_value b) ds ≤ most = rw values small in
    elim (step_of most count value b) [
      | fits digit few' small' ↦
          line_refuses most (count + 1) (value * 10 + digit_value b) bytes (sym (step_digit most count value b bytes digit few' small') ∙ e) more ds after (omega arith) (omega arith) each.1 small_b tails
      | too_many digit many ↦
          let ge = digits_value_after-ge (value * 10 + digit_value b) ds in
          elim many [ inl full ↦ omega arith | inr large ↦ omega arith ]
      | none_yet other none ↦ omega arith
      | ends other some' ↦ omega arith
    ]

line_waits : (most count value : ℕ) (bytes : List ℕ) → HasRoom most count value → digits_at most count value bytes ≡ Err More → Lacks ℕ (IsLine most count value) bytes
unfolding digits_at
line_waits most count value [] room e =
    elim (cases_eq count 0) [
      | inl none ↦
          let start : value ≡ 0 = room.none none in
          record {
            more = 48 ∷ line_end;
            value = value * 10 + digit_value 48;
            is = record { digits = 48 ∷ []; some = omega arith; few = omega arith; each = (lit< tt, tt); value_is = refl; small = omega (arith, room.small); spelled = refl };
            lacking = λ none. absurd cc;
          }
      | inr some ↦
          record {
            more = line_end;
            value = value;
            is = record { digits = []; some = omega arith; few = omega (arith, room.few); each = tt; value_is = refl; small = room.small; spelled = refl };
            lacking = λ none. absurd cc;
          }
    ]
line_waits most count value (b ∷ bytes) room e =
    elim (step_of most count value b) [
      | fits digit few small ↦
          let room_left : HasRoom most (count + 1) (value * 10 + digit_value b) = record { few = omega arith; small = small; none = λ z. absurd (omega arith) } in
          let l = line_waits most (count + 1) (value * 10 + digit_value b) bytes room_left (sym (step_digit most count value b bytes digit few small) ∙ e) in
          record {
            more = l.more;
            value = l.value;
            is = record {
              digits = b ∷ l.is.digits;
              some = omega arith;
              few = omega (arith, l.is.few);
              each = (digit, l.is.each);
              value_is = l.is.value_is;
              small = l.is.small;
              spelled = ap (λ (t : List ℕ). b ∷ t) l.is.spelled;
            };
            lacking = l.lacking;
          }
      | too_many digit many ↦ absurd (more_or_bad (digits_at most count value (b ∷ bytes)) e (step_too_many most count value b bytes digit many))
      | none_yet other none ↦ absurd (more_or_bad (digits_at most count value (b ∷ bytes)) e (step_none most count value b bytes other none))
      | ends other some ↦
          elim (bind_err (literal_at line_end (b ∷ bytes)) (λ x. Ok (value, x.1)) More (sym (step_end most count value b bytes other some) ∙ e)) [
            | inl lacks ↦
                let l = literal_waits line_end (b ∷ bytes) lacks in
                record {
                  more = l.0;
                  value = value;
                  is = record { digits = []; some = omega arith; few = omega (arith, room.few); each = tt; value_is = refl; small = room.small; spelled = l.1 };
                  lacking = l.2;
                }
            | inr p ↦ absurd cc
          ]
    ]

pub line_exact : (most : ℕ) → Exact ℕ (IsLine most 0 0) (digits_at most 0 0)
unfolding digits_at
line_exact most =
    let room : HasRoom most 0 0 = record { few = omega arith; small = omega arith; none = λ _. refl } in
    let l = line_waits most 0 0 [] room refl in
    record {
      reads = λ bytes n rest e. line_reads most 0 0 bytes n rest room e;
      again = λ front n rest q.
          ap (λ (t : List ℕ). digits_at most 0 0 (t ++ rest)) q.spelled
          ∙ line_again most 0 0 q.digits rest q.some q.few q.each (omega (arith, q.value_is, q.small))
          ∙ ap (λ (k : ℕ). done_at k rest) q.value_is;
      refuses = λ bytes e more text after n q same.
          line_refuses most 0 0 bytes e more q.digits after q.some q.few q.each (omega (arith, q.value_is, q.small)) (same ∙ ap (λ (t : List ℕ). t ++ after) q.spelled);
      waits = λ bytes e. line_waits most 0 0 bytes room e;
      some = record { text = l.more; value = l.value; is = l.is };
    }
