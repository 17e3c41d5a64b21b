-- Of two readers, the first byte decides which one reads.
use Rattle.std.proofs.Common.{◌≡◌, ◌⊎◌, inl, inr, ℕ, cond, eqb, List, [], ◌∷◌, ◌++◌, Result, Ok, Err, refl, sym, ap, ◌∙◌}
use Rattle.std.proofs.lemmas.Bool.{cases_eq, eq-eqb, ne_eqb}
use Rattle.sr_resp.specs.Reading.{Halt, More, Bad}
use Rattle.sr_resp.proofs.Exact.{Front, Lacks, Exact, ok_or_err, more_or_bad}

abbrev pub choose_at : {X : Type 0} → ℕ → (List ℕ → Result (X × List ℕ) Halt) → (List ℕ → Result (X × List ℕ) Halt) → List ℕ → Result (X × List ℕ) Halt
choose_at c r s [] = s []
choose_at c r s (b ∷ bytes) = cond (eqb b c) (r (b ∷ bytes)) (s (b ∷ bytes))

abbrev pub Either : (X : Type 0) → (List ℕ → X → Type 0) → (List ℕ → X → Type 0) → List ℕ → X → Type 0
Either X R S text x = R text x ⊎ S text x

-- a text that begins with c
pub record BeginsWith (c : ℕ) (text : List ℕ) : Type 0 where
  pub behind : List ℕ
  pub spelled : text ≡ c ∷ behind

-- a text that begins otherwise
pub record BeginsWithOther (c : ℕ) (text : List ℕ) : Type 0 where
  pub first : ℕ
  pub behind : List ℕ
  pub spelled : text ≡ first ∷ behind
  pub other : first ≡ c → ⊥

-- two readers, of which c tells which one it is
pub record Choice (X : Type 0) (c : ℕ) (R S : List ℕ → X → Type 0) (r s : List ℕ → Result (X × List ℕ) Halt) : Type 0 where
  pub one : Exact X R r
  pub two : Exact X S s
  pub one_begins : (text : List ℕ) (x : X) → R text x → BeginsWith c text
  pub two_begins : (text : List ℕ) (x : X) → S text x → BeginsWithOther c text
  pub waits : s [] ≡ Err More

chosen_one : {X : Type 0} (c b : ℕ) (bytes : List ℕ) (r s : List ℕ → Result (X × List ℕ) Halt) → b ≡ c → choose_at c r s (b ∷ bytes) ≡ r (b ∷ bytes)
chosen_one c b bytes r s e = rw (eq-eqb b c e) refl

chosen_two : {X : Type 0} (c b : ℕ) (bytes : List ℕ) (r s : List ℕ → Result (X × List ℕ) Halt) → (b ≡ c → ⊥) → choose_at c r s (b ∷ bytes) ≡ s (b ∷ bytes)
chosen_two c b bytes r s ne = rw (ne_eqb b c ne) refl

choice_reads : (X : Type 0) (c : ℕ) (R S : List ℕ → X → Type 0) (r s : List ℕ → Result (X × List ℕ) Halt) → Choice X c R S r s
    → (bytes : List ℕ) (x : X) (rest : List ℕ) → choose_at c r s bytes ≡ Ok (x, rest) → Front X (Either X R S) bytes x rest
choice_reads X c R S r s h [] x rest e = absurd (ok_or_err (s []) (x, rest) More e h.waits)
choice_reads X c R S r s h (b ∷ bytes) x rest e =
    elim (cases_eq b c) [
      | inl same ↦ let f = h.one.reads (b ∷ bytes) x rest (sym (chosen_one c b bytes r s same) ∙ e) in record { front = f.front; is = inl f.is; whole = f.whole }
      | inr other ↦ let f = h.two.reads (b ∷ bytes) x rest (sym (chosen_two c b bytes r s other) ∙ e) in record { front = f.front; is = inr f.is; whole = f.whole }
    ]

choice_again : (X : Type 0) (c : ℕ) (R S : List ℕ → X → Type 0) (r s : List ℕ → Result (X × List ℕ) Halt) → Choice X c R S r s
    → (front : List ℕ) (x : X) (rest : List ℕ) → Either X R S front x → choose_at c r s (front ++ rest) ≡ Ok (x, rest)
choice_again X c R S r s h front x rest (inl q) =
    let b = h.one_begins front x q in
    let whole : c ∷ (b.behind ++ rest) ≡ front ++ rest = sym (ap (λ (t : List ℕ). t ++ rest) b.spelled) in
    ap (choose_at c r s) (sym whole) ∙ chosen_one c c (b.behind ++ rest) r s refl ∙ ap r whole ∙ h.one.again front x rest q
choice_again X c R S r s h front x rest (inr q) =
    let b = h.two_begins front x q in
    let whole : b.first ∷ (b.behind ++ rest) ≡ front ++ rest = sym (ap (λ (t : List ℕ). t ++ rest) b.spelled) in
    ap (choose_at c r s) (sym whole) ∙ chosen_two c b.first (b.behind ++ rest) r s b.other ∙ ap s whole ∙ h.two.again front x rest q

choice_refuses : (X : Type 0) (c : ℕ) (R S : List ℕ → X → Type 0) (r s : List ℕ → Result (X × List ℕ) Halt) → Choice X c R S r s
    → (bytes : List ℕ) → choose_at c r s bytes ≡ Err Bad → (more text after : List ℕ) (x : X) → Either X R S text x → bytes ++ more ≡ text ++ after → ⊥
choice_refuses X c R S r s h [] e more text after x q same = more_or_bad (s []) h.waits e
choice_refuses X c R S r s h (b ∷ bytes) e more text after x (inl q) same =
    let begins = h.one_begins text x q in
    let whole : b ∷ (bytes ++ more) ≡ c ∷ (begins.behind ++ after) = same ∙ ap (λ (t : List ℕ). t ++ after) begins.spelled in
    let heads : b ≡ c = cc in
    h.one.refuses (b ∷ bytes) (sym (chosen_one c b bytes r s heads) ∙ e) more text after x q same
choice_refuses X c R S r s h (b ∷ bytes) e more text after x (inr q) same =
    let begins = h.two_begins text x q in
    let whole : b ∷ (bytes ++ more) ≡ begins.first ∷ (begins.behind ++ after) = same ∙ ap (λ (t : List ℕ). t ++ after) begins.spelled in
    let heads : b ≡ begins.first = cc in
    h.two.refuses (b ∷ bytes) (sym (chosen_two c b bytes r s (λ is. begins.other (sym heads ∙ is))) ∙ e) more text after x q same

choice_waits : (X : Type 0) (c : ℕ) (R S : List ℕ → X → Type 0) (r s : List ℕ → Result (X × List ℕ) Halt) → Choice X c R S r s
    → (bytes : List ℕ) → choose_at c r s bytes ≡ Err More → Lacks X (Either X R S) bytes
choice_waits X c R S r s h [] e = let l = h.two.waits [] h.waits in record { more = l.more; value = l.value; is = inr l.is; lacking = l.lacking }
choice_waits X c R S r s h (b ∷ bytes) e =
    elim (cases_eq b c) [
      | inl same ↦ let l = h.one.waits (b ∷ bytes) (sym (chosen_one c b bytes r s same) ∙ e) in record { more = l.more; value = l.value; is = inl l.is; lacking = l.lacking }
      | inr other ↦ let l = h.two.waits (b ∷ bytes) (sym (chosen_two c b bytes r s other) ∙ e) in record { more = l.more; value = l.value; is = inr l.is; lacking = l.lacking }
    ]

pub choice : (X : Type 0) (c : ℕ) (R S : List ℕ → X → Type 0) (r s : List ℕ → Result (X × List ℕ) Halt) → Choice X c R S r s → Exact X (Either X R S) (choose_at c r s)
choice X c R S r s h = record {
  reads = choice_reads X c R S r s h;
  again = choice_again X c R S r s h;
  refuses = choice_refuses X c R S r s h;
  waits = choice_waits X c R S r s h;
  some = record { text = h.one.some.text; value = h.one.some.value; is = inl h.one.some.is };
}
