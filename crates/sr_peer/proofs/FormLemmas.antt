-- A part at the front of a text: its mark, its line, and what comes after the line.
use Rattle.std.proofs.Common.{◌≡◌, ℕ, ◌+◌, ◌-◌, ◌^◌, ◌<◌, ◌≤◌, suc, List, [], ◌∷◌, ◌++◌, length, get_or, replicate}
use Rattle.std.proofs.Common.{refl, sym, ap, ◌∙◌, subst, arith, length-append, append_assoc}
use Rattle.std.specs.Prelude.{decimal}
use Rattle.std.proofs.lemmas.Fmt.{decimal_injective}
use Rattle.sr_resp.specs.steps.Decoding.{IsLine}
use Rattle.sr_resp.specs.steps.OneSpelling.{IsAbove-decimal}
use Rattle.sr_peer.specs.declared.first.End.TheVariants as ends
use Rattle.sr_peer.specs.declared.line.Header.{Header}
use Rattle.sr_peer.specs.Reply.{Part, Bulk, NullBulk, part_text}
use Rattle.sr_peer.specs.steps.OneSpelling.{mark, line, tail, part_text-lines, IsLine-line, IsLine-above, same_line}
use Rattle.sr_peer.specs.steps.OneSpelling.{same_front, no_minus}
use Rattle.sr_peer.specs.steps.Lines.{HasForm, IsLineAlone, Says, SaysNothing, BeginsLine, Ends}
use Rattle.sr_peer.specs.steps.Reading.{HasPart, IsWrong, IsBegun}
use Rattle.sr_peer.proofs.FrontLemmas.{said-part, replicated}

-- ---- the end of a line that has not come, or by half

pub end-none : (bytes : List ℕ) → length bytes < 1 → Ends bytes (ends.Begun 2)
end-none [] few = (omega arith, (13 ∷ 10 ∷ [], refl, refl))
end-none (b ∷ bytes) few = absurd (omega arith)

pub end-one : (bytes : List ℕ) → 1 ≤ length bytes → length bytes < 2 → get_or bytes 0 0 ≡ 13 → Ends bytes (ends.Begun 1)
end-one [] some few first = absurd (omega arith)
end-one (b ∷ []) some few first = (omega arith, (10 ∷ [], refl, ap (λ (c : ℕ). c ∷ 10 ∷ []) first))
end-one (b ∷ c ∷ bytes) some few first = absurd (omega arith)

-- ---- after a mark and a line

-- the part has this mark and this line, and is followed by these bytes
pub record IsFormed (sign : ℕ) (text rest : List ℕ) (part : Part) (after : List ℕ) : Type 0 where
  pub form : HasForm sign text part
  pub ended : rest ≡ 13 ∷ 10 ∷ tail part after

pub formed-part : (sign : ℕ) (text rest : List ℕ) (part : Part) (after : List ℕ) → IsFormed sign text rest part after
    → HasPart (sign ∷ (text ++ rest)) part after
formed-part sign text rest part after is =
    let end : List ℕ = 13 ∷ 10 ∷ tail part after in
    let spelled : part_text part ++ after ≡ sign ∷ (text ++ rest) =
    part_text-lines part after ∙ ap (λ (m : ℕ). m ∷ (line part ++ end)) is.form.marked
    ∙ ap (λ (l : List ℕ). sign ∷ (l ++ end)) is.form.lined ∙ ap (λ (r : List ℕ). sign ∷ (text ++ r)) (sym is.ended) in
    record { whole = sym spelled; fits = is.form.fits }

-- the same, where the rest comes in two pieces
pub formed-more : (sign : ℕ) (text rest more : List ℕ) (part : Part) (after : List ℕ)
    → IsFormed sign text (rest ++ more) part after → HasPart ((sign ∷ text ++ rest) ++ more) part after
formed-more sign text rest more part after is =
    subst (λ (t : List ℕ). HasPart (sign ∷ t) part after) (sym (append_assoc text rest more))
    (formed-part sign text (rest ++ more) part after is)

-- what a part at the front of a text is made of
shape-of : (sign : ℕ) (text : List ℕ) (part : Part) (after : List ℕ) → HasPart (sign ∷ text) part after
    → (mark part ≡ sign) × (text ≡ line part ++ 13 ∷ 10 ∷ tail part after)
shape-of sign text part after has =
    let shape : sign ∷ text ≡ mark part ∷ (line part ++ 13 ∷ 10 ∷ tail part after) =
    has.whole ∙ part_text-lines part after in
    (sym (cc shape), cc shape)

pub part-formed : (sign : ℕ) (text rest more behind : List ℕ) (part : Part) (after : List ℕ) → IsLine text
    → rest ≡ 13 ∷ behind → HasPart ((sign ∷ text ++ rest) ++ more) part after
    → IsFormed sign text (rest ++ more) part after
part-formed sign text rest more behind part after one is has =
    let shape = shape-of sign ((text ++ rest) ++ more) part after has in
    let flat : text ++ 13 ∷ (behind ++ more) ≡ line part ++ 13 ∷ 10 ∷ tail part after =
    ap (λ (t : List ℕ). text ++ (t ++ more)) (sym is) ∙ sym (append_assoc text rest more) ∙ shape.1 in
    let same = same_line text (line part) (behind ++ more) (10 ∷ tail part after) one
    (IsLine-line part has.fits) flat in
    record {
      form = record { marked = shape.0; lined = sym same.0; fits = has.fits };
      ended = ap (λ (t : List ℕ). t ++ more) is ∙ ap (λ (t : List ℕ). 13 ∷ t) same.1;
    }

-- ---- a line that has not ended

pub IsLine-all : (text : List ℕ) → ((k : ℕ) → k < length text → get_or text k 0 ≡ 13 → ⊥) → IsLine text
IsLine-all [] none = tt
IsLine-all (b ∷ text) none = (none 0 (omega arith), IsLine-all text (λ k lt. none (suc k) (omega arith)))

-- it is a front of the part's line
line-after : (text more front after : List ℕ) → IsLine text → text ++ more ≡ front ++ 13 ∷ after
    → (rest : List ℕ) × (front ≡ text ++ rest)
line-after [] more front after one e = (front, refl)
line-after (b ∷ text) more [] after one e =
    let same : b ≡ 13 = cc e in
    absurd (one.0 same)
line-after (b ∷ text) more (c ∷ front) after one e =
    let heads : b ≡ c = cc e in
    let tails : text ++ more ≡ front ++ 13 ∷ after = cc e in
    let rest = line-after text more front after one.1 tails in
    (rest.0, cc (heads, rest.1))

-- so more has to come
line-needs : (text more front after : List ℕ) → IsLine text → text ++ more ≡ front ++ 13 ∷ after → 1 ≤ length more
line-needs text [] front after one e =
    let rest = line-after text [] front after one e in
    let lengths = ap length e in
    omega (
      arith,
      lengths,
      length-append text [],
      length-append front (13 ∷ after),
      ap length rest.1,
      length-append text rest.0,
    )
line-needs text (b ∷ more) front after one e = omega arith

pub line-wrong : (sign : ℕ) (text : List ℕ) → IsLine text → (BeginsLine sign text → ⊥) → IsWrong (sign ∷ text)
line-wrong sign text one none = λ more part after has.
    let shape = shape-of sign (text ++ more) part after has in
    let rest = line-after text more (line part) (10 ∷ tail part after) one shape.1 in
    none (record {
      more = rest.0;
      part = part;
      form = record { marked = shape.0; lined = rest.1; fits = has.fits };
    })

pub line-begun : (sign : ℕ) (text : List ℕ) → IsLine text → BeginsLine sign text → IsBegun (sign ∷ text) 1
line-begun sign text one begins =
    let end : List ℕ = 13 ∷ 10 ∷ tail begins.part [] in
    let has : HasPart (sign ∷ ((text ++ begins.more) ++ end)) begins.part [] =
    formed-part sign (text ++ begins.more) end begins.part [] (record { form = begins.form; ended = refl }) in
    record {
      more = begins.more ++ end;
      part = begins.part;
      whole = subst (λ (t : List ℕ). HasPart (sign ∷ t) begins.part []) (append_assoc text begins.more end) has;
      some = omega arith;
      needed = λ more part after has.
          line-needs text more (line part) (10 ∷ tail part after) one (shape-of sign (text ++ more) part after has).1;
    }

pub nothing-begun : (bytes : List ℕ) → length bytes ≡ 0 → IsBegun bytes 1
nothing-begun (b ∷ bytes) none = absurd (omega arith)
nothing-begun [] none = record {
  more = part_text NullBulk ++ [];
  part = NullBulk;
  whole = record { whole = refl; fits = tt };
  some = omega arith;
  needed = λ more part after has.
      let shape : more ≡ mark part ∷ (line part ++ 13 ∷ 10 ∷ tail part after) =
      has.whole ∙ part_text-lines part after in
      omega (arith, ap length shape);
}

-- ---- a line that has ended, or nearly

pub nothing-wrong : (sign : ℕ) (text rest behind : List ℕ) → IsLine text → rest ≡ 13 ∷ behind → SaysNothing sign text
    → IsWrong (sign ∷ text ++ rest)
nothing-wrong sign text rest behind one is nothing = λ more part after has.
    nothing part (part-formed sign text rest more behind part after one is has).form

pub end-wrong : (sign : ℕ) (text rest behind : List ℕ) → IsLine text → rest ≡ 13 ∷ behind → Ends rest ends.Wrong
    → IsWrong (sign ∷ text ++ rest)
end-wrong sign text rest behind one is wrong = λ more part after has.
    wrong more (tail part after) (part-formed sign text rest more behind part after one is has).ended

pub end-begun : (sign : ℕ) (text rest behind : List ℕ) (header : Header) (least : ℕ) → IsLine text → rest ≡ 13 ∷ behind
    → Says sign text header → Ends rest (ends.Begun least) → IsBegun (sign ∷ text ++ rest) least
end-begun sign text rest behind header least one is says (some, begun) =
    let said = said-part sign text header says in
    let last = tail said.0 [] in
    let ended : rest ++ (begun.0 ++ last) ≡ 13 ∷ 10 ∷ last =
    sym (append_assoc rest begun.0 last) ∙ ap (λ (t : List ℕ). t ++ last) begun.2 in
    record {
      more = begun.0 ++ last;
      part = said.0;
      whole = formed-more sign text rest (begun.0 ++ last) said.0 [] (record { form = said.1; ended = ended });
      some = some;
      needed = λ more part after has.
          let formed = part-formed sign text rest more behind part after one is has in
          omega (
            arith,
            begun.1,
            ap length begun.2,
            ap length formed.ended,
            length-append rest begun.0,
            length-append rest more,
          );
    }

alone-tail : (part : Part) (after : List ℕ) → IsLineAlone part → tail part after ≡ after
alone-tail (Bulk bytes) after alone = absurd alone
alone-tail part after alone = refl

pub whole-part : (sign : ℕ) (text rest : List ℕ) (part : Part) (after : List ℕ) → HasForm sign text part
    → IsLineAlone part → rest ≡ 13 ∷ 10 ∷ after → HasPart (sign ∷ text ++ rest) part after
whole-part sign text rest part after form alone is =
    formed-part sign text rest part after
    (record { form = form; ended = is ∙ ap (λ (t : List ℕ). 13 ∷ 10 ∷ t) (sym (alone-tail part after alone)) })

-- ---- a bulk string after its line

record IsString (len : ℕ) (text : List ℕ) (part : Part) (after : List ℕ) : Type 0 where
  pub string : List ℕ
  pub is : part ≡ Bulk string
  pub count : length string ≡ len
  pub whole : text ≡ string ++ 13 ∷ 10 ∷ after

formed-string : (len : ℕ) (text : List ℕ) (part : Part) (after : List ℕ) → len < 2 ^ 64
    → IsFormed 36 (decimal len) (13 ∷ 10 ∷ text) part after → IsString len text part after
formed-string len text (Bulk bytes) after small is = record {
  string = bytes;
  is = refl;
  count = decimal_injective (length bytes) len is.form.fits small is.form.lined;
  whole = cc is.ended;
}
formed-string len text NullBulk after small is = absurd (no_minus len (49 ∷ []) small (sym is.form.lined))
formed-string len text part after small is = absurd (omega (arith, is.form.marked))

part-string : (len : ℕ) (bytes more : List ℕ) (part : Part) (after : List ℕ) → len < 2 ^ 64
    → HasPart ((36 ∷ decimal len ++ 13 ∷ 10 ∷ bytes) ++ more) part after → IsString len (bytes ++ more) part after
part-string len bytes more part after small has =
    formed-string len (bytes ++ more) part after small
    (part-formed 36 (decimal len) (13 ∷ 10 ∷ bytes) more (10 ∷ bytes) part after
    (IsLine-above (decimal len) (IsAbove-decimal len small)) refl has)

string-formed : (len : ℕ) (text string after : List ℕ) → len < 2 ^ 64 → length string ≡ len
    → text ≡ string ++ 13 ∷ 10 ∷ after → IsFormed 36 (decimal len) (13 ∷ 10 ∷ text) (Bulk string) after
string-formed len text string after small count e = record {
  form = record { marked = refl; lined = ap decimal count; fits = omega (arith, count, small) };
  ended = ap (λ (t : List ℕ). 13 ∷ 10 ∷ t) e;
}

pub string-whole : (len : ℕ) (bytes string rest after : List ℕ) → len < 2 ^ 64 → length string ≡ len
    → bytes ≡ string ++ rest → rest ≡ 13 ∷ 10 ∷ after
    → HasPart (36 ∷ decimal len ++ 13 ∷ 10 ∷ bytes) (Bulk string) after
string-whole len bytes string rest after small count e end =
    formed-part 36 (decimal len) (13 ∷ 10 ∷ bytes) (Bulk string) after
    (string-formed len bytes string after small count (e ∙ ap (λ (t : List ℕ). string ++ t) end))

string-begun : (len : ℕ) (bytes more string : List ℕ) (least : ℕ) → len < 2 ^ 64 → length string ≡ len
    → bytes ++ more ≡ string ++ 13 ∷ 10 ∷ [] → 0 < least → least + length bytes ≤ len + 2
    → IsBegun (36 ∷ decimal len ++ 13 ∷ 10 ∷ bytes) least
string-begun len bytes more string least small count e some few = record {
  more = more;
  part = Bulk string;
  whole = formed-more 36 (decimal len) (13 ∷ 10 ∷ bytes) more (Bulk string) []
      (string-formed len (bytes ++ more) string [] small count e);
  some = some;
  needed = λ more' part after has.
      let is = part-string len bytes more' part after small has in
      omega (
        arith,
        few,
        is.count,
        ap length is.whole,
        length-append bytes more',
        length-append is.string (13 ∷ 10 ∷ after),
      );
}

-- some of its bytes are missing
pub string-missing : (len : ℕ) (bytes : List ℕ) (least : ℕ) → len < 2 ^ 64 → length bytes < len → 0 < least
    → least + length bytes ≤ len + 2 → IsBegun (36 ∷ decimal len ++ 13 ∷ 10 ∷ bytes) least
string-missing len bytes least small short some few =
    let pad : List ℕ = replicate (len - length bytes) 0 in
    string-begun len bytes (pad ++ 13 ∷ 10 ∷ []) (bytes ++ pad) least small
    (omega (arith, length-append bytes pad, replicated (len - length bytes)))
    (sym (append_assoc bytes pad (13 ∷ 10 ∷ []))) some few

-- some of its line end is
pub string-ending : (len : ℕ) (bytes string rest : List ℕ) (least : ℕ) → len < 2 ^ 64 → length string ≡ len
    → bytes ≡ string ++ rest → Ends rest (ends.Begun least) → IsBegun (36 ∷ decimal len ++ 13 ∷ 10 ∷ bytes) least
string-ending len bytes string rest least small count e (some, begun) =
    string-begun len bytes begun.0 string least small count
    (ap (λ (t : List ℕ). t ++ begun.0) e ∙ append_assoc string rest begun.0 ∙ ap (λ (t : List ℕ). string ++ t) begun.2)
    some
    (omega (
      arith,
      count,
      ap length e,
      length-append string rest,
      begun.1,
      ap length begun.2,
      length-append rest begun.0,
    ))

pub string-wrong : (len : ℕ) (bytes string rest : List ℕ) → len < 2 ^ 64 → length string ≡ len → bytes ≡ string ++ rest
    → Ends rest ends.Wrong → IsWrong (36 ∷ decimal len ++ 13 ∷ 10 ∷ bytes)
string-wrong len bytes string rest small count e wrong = λ more part after has.
    let is = part-string len bytes more part after small has in
    let both : string ++ (rest ++ more) ≡ is.string ++ 13 ∷ 10 ∷ after =
    sym (append_assoc string rest more) ∙ ap (λ (t : List ℕ). t ++ more) (sym e) ∙ is.whole in
    wrong more after (same_front string is.string (rest ++ more) (13 ∷ 10 ∷ after) (count ∙ sym is.count) both).1
