-- Readers that are exact for what texts mean. What they read is such a text, and such a text is read. Where they refuse,
-- no such text comes, and where they wait, one can come. Two of them in a row are exact for two texts in a row.
use Rattle.std.proofs.Common.{◌≡◌, ◌≢◌, ◌⊎◌, inl, inr, List, [], ◌∷◌, ◌++◌, Result, Ok, Err, ℕ, refl, sym, ap, subst, ◌∙◌, append_assoc}
use Rattle.sr_resp.specs.Reading.{Halt, More, Bad, ◌>>=◌}

-- a text with this meaning at the front, and what is behind it
pub record Front (X : Type 0) (R : List ℕ → X → Type 0) (bytes : List ℕ) (x : X) (rest : List ℕ) : Type 0 where
  pub front : List ℕ
  pub is : R front x
  pub whole : bytes ≡ front ++ rest

-- bytes with which it is a text
pub record Lacks (X : Type 0) (R : List ℕ → X → Type 0) (bytes : List ℕ) : Type 0 where
  pub more : List ℕ
  pub value : X
  pub is : R (bytes ++ more) value
  pub lacking : more ≢ []

pub record Example (X : Type 0) (R : List ℕ → X → Type 0) : Type 0 where
  pub text : List ℕ
  pub value : X
  pub is : R text value

pub record Exact (X : Type 0) (R : List ℕ → X → Type 0) (read : List ℕ → Result (X × List ℕ) Halt) : Type 0 where
  pub reads : (bytes : List ℕ) (x : X) (rest : List ℕ) → read bytes ≡ Ok (x, rest) → Front X R bytes x rest
  pub again : (front : List ℕ) (x : X) (rest : List ℕ) → R front x → read (front ++ rest) ≡ Ok (x, rest)
  pub refuses : (bytes : List ℕ) → read bytes ≡ Err Bad → (more text after : List ℕ) (x : X) → R text x → bytes ++ more ≡ text ++ after → ⊥
  pub waits : (bytes : List ℕ) → read bytes ≡ Err More → Lacks X R bytes
  pub some : Example X R

-- ---- tools

-- the value of a step that did not fail
pub bind_ok : {A B : Type 0} (r : Result A Halt) (f : A → Result B Halt) (y : B) → (r >>= f) ≡ Ok y → (x : A) × (r ≡ Ok x) × (f x ≡ Ok y)
bind_ok (Ok x) f y e = (x, refl, e)
bind_ok (Err d) f y e = absurd cc

-- a step fails, or the one behind it
pub bind_err : {A B : Type 0} (r : Result A Halt) (f : A → Result B Halt) (d : Halt) → (r >>= f) ≡ Err d → (r ≡ Err d) ⊎ ((x : A) × (r ≡ Ok x) × (f x ≡ Err d))
bind_err (Ok x) f d e = inr (x, refl, e)
bind_err (Err h) f d e = inl cc

-- both parts of what was read
pub same_read : (X : Type 0) (x y : X) (u v : List ℕ) (r : Result (X × List ℕ) Halt) → r ≡ Ok (x, u) → r ≡ Ok (y, v) → (x ≡ y) × (u ≡ v)
same_read X x y u v r p q =
    let done : X × List ℕ → Result (X × List ℕ) Halt = λ a. Ok a in
    let e : done (x, u) ≡ done (y, v) = sym p ∙ q in
    let both : let a : X × List ℕ = (x, u) in let b : X × List ℕ = (y, v) in a ≡ b = cc in
    (ap (λ (a : X × List ℕ). a.0) both, ap (λ (a : X × List ℕ). a.1) both)

pub ok_or_err : {A : Type 0} (r : Result A Halt) (x : A) (d : Halt) → r ≡ Ok x → r ≡ Err d → ⊥
ok_or_err r x d p q = cc

pub more_or_bad : {A : Type 0} (r : Result A Halt) → r ≡ Err More → r ≡ Err Bad → ⊥
more_or_bad r p q = cc

pub nil_left : (xs ys : List ℕ) → xs ++ ys ≡ [] → xs ≡ []
nil_left [] ys e = refl
nil_left (x ∷ xs) ys e = absurd cc

-- ---- one reader and then another

abbrev pub then_at : {X Z : Type 0} → (List ℕ → Result (X × List ℕ) Halt) → (X → List ℕ → Result (Z × List ℕ) Halt) → List ℕ → Result (Z × List ℕ) Halt
then_at r s bytes = r bytes >>= λ a. s a.0 a.1

pub record Joined (X Z : Type 0) (R : List ℕ → X → Type 0) (S : X → List ℕ → Z → Type 0) (text : List ℕ) (z : Z) : Type 0 where
  pub front : List ℕ
  pub behind : List ℕ
  pub first : X
  pub is_first : R front first
  pub is_second : S first behind z
  pub spelled : text ≡ front ++ behind

joined_reads : (X Z : Type 0) (R : List ℕ → X → Type 0) (S : X → List ℕ → Z → Type 0) (r : List ℕ → Result (X × List ℕ) Halt) (s : X → List ℕ → Result (Z × List ℕ) Halt)
    → Exact X R r → ((x : X) → Exact Z (S x) (s x))
    → (bytes : List ℕ) (z : Z) (rest : List ℕ) → then_at r s bytes ≡ Ok (z, rest) → Front Z (Joined X Z R S) bytes z rest
joined_reads X Z R S r s er es bytes z rest e =
    let b = bind_ok (r bytes) (λ a. s a.0 a.1) (z, rest) e in
    let f = er.reads bytes b.0.0 b.0.1 b.1 in
    let g = (es b.0.0).reads b.0.1 z rest b.2 in
    record {
      front = f.front ++ g.front;
      is = record { front = f.front; behind = g.front; first = b.0.0; is_first = f.is; is_second = g.is; spelled = refl };
      whole = f.whole ∙ ap (λ (t : List ℕ). f.front ++ t) g.whole ∙ sym (append_assoc f.front g.front rest);
    }

joined_again : (X Z : Type 0) (R : List ℕ → X → Type 0) (S : X → List ℕ → Z → Type 0) (r : List ℕ → Result (X × List ℕ) Halt) (s : X → List ℕ → Result (Z × List ℕ) Halt)
    → Exact X R r → ((x : X) → Exact Z (S x) (s x))
    → (front : List ℕ) (z : Z) (rest : List ℕ) → Joined X Z R S front z → then_at r s (front ++ rest) ≡ Ok (z, rest)
joined_again X Z R S r s er es front z rest j =
    let regrouped : front ++ rest ≡ j.front ++ (j.behind ++ rest) = ap (λ (t : List ℕ). t ++ rest) j.spelled ∙ append_assoc j.front j.behind rest in
    ap (then_at r s) regrouped
    ∙ ap (λ (y : Result (X × List ℕ) Halt). y >>= λ a. s a.0 a.1) (er.again j.front j.first (j.behind ++ rest) j.is_first)
    ∙ (es j.first).again j.behind z rest j.is_second

joined_refuses : (X Z : Type 0) (R : List ℕ → X → Type 0) (S : X → List ℕ → Z → Type 0) (r : List ℕ → Result (X × List ℕ) Halt) (s : X → List ℕ → Result (Z × List ℕ) Halt)
    → Exact X R r → ((x : X) → Exact Z (S x) (s x))
    → (bytes : List ℕ) → then_at r s bytes ≡ Err Bad → (more text after : List ℕ) (z : Z) → Joined X Z R S text z → bytes ++ more ≡ text ++ after → ⊥
joined_refuses X Z R S r s er es bytes e more text after z j same =
    let regrouped : bytes ++ more ≡ j.front ++ (j.behind ++ after) = same ∙ ap (λ (t : List ℕ). t ++ after) j.spelled ∙ append_assoc j.front j.behind after in
    elim (bind_err (r bytes) (λ a. s a.0 a.1) Bad e) [
      | inl first ↦ er.refuses bytes first more j.front (j.behind ++ after) j.first j.is_first regrouped
      | inr b ↦
          let f = er.reads bytes b.0.0 b.0.1 b.1 in
          let split : bytes ++ more ≡ f.front ++ (b.0.1 ++ more) = ap (λ (t : List ℕ). t ++ more) f.whole ∙ append_assoc f.front b.0.1 more in
          let one : r (bytes ++ more) ≡ Ok (b.0.0, b.0.1 ++ more) = ap r split ∙ er.again f.front b.0.0 (b.0.1 ++ more) f.is in
          let other : r (bytes ++ more) ≡ Ok (j.first, j.behind ++ after) = ap r regrouped ∙ er.again j.front j.first (j.behind ++ after) j.is_first in
          let both = same_read X b.0.0 j.first (b.0.1 ++ more) (j.behind ++ after) (r (bytes ++ more)) one other in
          (es b.0.0).refuses b.0.1 b.2 more j.behind after z (subst (λ (x : X). S x j.behind z) (sym both.0) j.is_second) both.1
    ]

joined_waits : (X Z : Type 0) (R : List ℕ → X → Type 0) (S : X → List ℕ → Z → Type 0) (r : List ℕ → Result (X × List ℕ) Halt) (s : X → List ℕ → Result (Z × List ℕ) Halt)
    → Exact X R r → ((x : X) → Exact Z (S x) (s x))
    → (bytes : List ℕ) → then_at r s bytes ≡ Err More → Lacks Z (Joined X Z R S) bytes
joined_waits X Z R S r s er es bytes e =
    elim (bind_err (r bytes) (λ a. s a.0 a.1) More e) [
      | inl first ↦
          let l = er.waits bytes first in
          let x = (es l.value).some in
          record {
            more = l.more ++ x.text;
            value = x.value;
            is = record { front = bytes ++ l.more; behind = x.text; first = l.value; is_first = l.is; is_second = x.is; spelled = sym (append_assoc bytes l.more x.text) };
            lacking = λ none. l.lacking (nil_left l.more x.text none);
          }
      | inr b ↦
          let f = er.reads bytes b.0.0 b.0.1 b.1 in
          let l = (es b.0.0).waits b.0.1 b.2 in
          record {
            more = l.more;
            value = l.value;
            is = record {
              front = f.front;
              behind = b.0.1 ++ l.more;
              first = b.0.0;
              is_first = f.is;
              is_second = l.is;
              spelled = ap (λ (t : List ℕ). t ++ l.more) f.whole ∙ append_assoc f.front b.0.1 l.more;
            };
            lacking = l.lacking;
          }
    ]

pub joined : (X Z : Type 0) (R : List ℕ → X → Type 0) (S : X → List ℕ → Z → Type 0) (r : List ℕ → Result (X × List ℕ) Halt) (s : X → List ℕ → Result (Z × List ℕ) Halt)
    → Exact X R r → ((x : X) → Exact Z (S x) (s x)) → Exact Z (Joined X Z R S) (then_at r s)
joined X Z R S r s er es =
    let x = er.some in
    let z = (es x.value).some in
    record {
      reads = joined_reads X Z R S r s er es;
      again = joined_again X Z R S r s er es;
      refuses = joined_refuses X Z R S r s er es;
      waits = joined_waits X Z R S r s er es;
      some = record {
        text = x.text ++ z.text;
        value = z.value;
        is = record { front = x.text; behind = z.text; first = x.value; is_first = x.is; is_second = z.is; spelled = refl };
      };
    }

-- ---- the same texts, told otherwise

pub exact_as : (X : Type 0) (R Q : List ℕ → X → Type 0) (r : List ℕ → Result (X × List ℕ) Halt)
    → Exact X R r → ((text : List ℕ) (x : X) → R text x → Q text x) → ((text : List ℕ) (x : X) → Q text x → R text x) → Exact X Q r
exact_as X R Q r er to back = record {
  reads = λ bytes x rest e. let f = er.reads bytes x rest e in record { front = f.front; is = to f.front x f.is; whole = f.whole };
  again = λ front x rest q. er.again front x rest (back front x q);
  refuses = λ bytes e more text after x q same. er.refuses bytes e more text after x (back text x q) same;
  waits = λ bytes e. let l = er.waits bytes e in record { more = l.more; value = l.value; is = to (bytes ++ l.more) l.value l.is; lacking = l.lacking };
  some = let x = er.some in record { text = x.text; value = x.value; is = to x.text x.value x.is };
}

-- ---- a reader that reads alike

pub exact_along : (X : Type 0) (R : List ℕ → X → Type 0) (r s : List ℕ → Result (X × List ℕ) Halt) → ((bytes : List ℕ) → r bytes ≡ s bytes) → Exact X R s → Exact X R r
exact_along X R r s same es = record {
  reads = λ bytes x rest e. es.reads bytes x rest (sym (same bytes) ∙ e);
  again = λ front x rest q. same (front ++ rest) ∙ es.again front x rest q;
  refuses = λ bytes e. es.refuses bytes (sym (same bytes) ∙ e);
  waits = λ bytes e. es.waits bytes (sym (same bytes) ∙ e);
  some = es.some;
}

-- ---- nothing more to read

pub record IsDone (X : Type 0) (x : X) (text : List ℕ) (y : X) : Type 0 where
  pub nothing : text ≡ []
  pub value : y ≡ x

abbrev pub done_at : {X : Type 0} → X → List ℕ → Result (X × List ℕ) Halt
done_at x bytes = Ok (x, bytes)

pub done : (X : Type 0) (x : X) → Exact X (IsDone X x) (done_at x)
done X x = record {
  reads = λ bytes y rest e.
      let both = same_read X x y bytes rest (done_at x bytes) refl e in
      record { front = []; is = record { nothing = refl; value = sym both.0 }; whole = both.1 };
  again = λ front y rest q. ap (λ (t : List ℕ). done_at x (t ++ rest)) q.nothing ∙ ap (λ (v : X). done_at v rest) (sym q.value);
  refuses = λ bytes e more text after y q same. absurd cc;
  waits = λ bytes e. absurd cc;
  some = record { text = []; value = x; is = record { nothing = refl; value = refl } };
}
