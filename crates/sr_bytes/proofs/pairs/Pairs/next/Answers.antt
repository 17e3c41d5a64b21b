use Rattle.std.proofs.Common.{◌≡◌, ℕ, List, [], ◌∷◌, ◌++◌, length, ◌+◌, false, sym, ap, ◌∙◌, arith}
use Rattle.std.specs.Prelude.{◌==◌}
use Rattle.std.proofs.lemmas.Bool.{eqb-true, eqb-false}
use Rattle.std.proofs.lemmas.List.{nil_from_length}
use Rattle.sr_bytes.specs.Packed.{Pair, packed, packed_string, IsPacked, pairs_of}
use Rattle.sr_bytes.proofs.PackedLemmas.{FirstPair, pairs-none, pairs-known, first-packed}
use Rattle.sr_bytes.proofs.pairs.Pairs.next.Goals as goal

nothing_left : (c : goal.Then-is_empty) → c.args.self.now ≡ []
nothing_left c =
    let none : length c.self.inside.left.now ≡ 0 = eqb-true _ _ (sym c.is_empty.ensures ∙ c.if-is_empty.true) in
    sym c.self.view_is ∙ pairs-none _ c.self.inside.pairs (nil_from_length c.self.inside.left.now none)

pub returns-then-is_empty-clause-none : goal.returns-then-is_empty-clause-none
returns-then-is_empty-clause-none c = nothing_left c

pub returns-then-is_empty-clause-same : goal.returns-then-is_empty-clause-same
returns-then-is_empty-clause-same c = nothing_left c

-- the pair at the front of bytes that are not empty
front : (text : List ℕ) (is : IsPacked text) → (length text == 0) ≡ false → FirstPair text (pairs_of text is)
front text is some = first-packed text is (λ none. eqb-false (length text) 0 some (ap length none))

joined : (pair : Pair) (others left : List Pair) (field value : List ℕ) → field ≡ pair.0 → value ≡ pair.1 → left ≡ others → pair ∷ others ≡ (field, value) ∷ left
joined pair others left field value p q r =
    ap (λ (s : List ℕ). (s, pair.1) ∷ others) (sym p) ∙ ap (λ (s : List ℕ). (field, s) ∷ others) (sym q) ∙ ap (λ (l : List Pair). (field, value) ∷ l) (sym r)

shorter : (old others : List Pair) (pair : Pair) (left : List Pair) → old ≡ pair ∷ others → left ≡ others → length left + 1 ≡ length old
shorter old others pair left p q = omega (arith, ap length p, ap length q)

pub first_string-requires : goal.first_string-requires
first_string-requires c =
    let f = front c.self.inside.left.now c.self.inside.pairs (sym c.is_empty.ensures ∙ c.if-is_empty.false) in
    (f.pair.0, packed_string f.pair.1 ++ packed f.others, f.short.0, f.whole)

pub first_string-requires-2 : goal.first_string-requires-2
first_string-requires-2 c =
    let f = front c.self.inside.left.now c.self.inside.pairs (sym c.is_empty.ensures ∙ c.if-is_empty.false) in
    let field = c.first_string.ensures f.pair.0 (packed_string f.pair.1 ++ packed f.others) f.short.0 f.whole in
    (f.pair.1, packed f.others, f.short.1, field.1)

pub invariant_of-self-inside : goal.invariant_of-self-inside
invariant_of-self-inside c =
    let f = front c.self.inside.left.now c.self.inside.pairs (sym c.is_empty.ensures ∙ c.if-is_empty.false) in
    let field = c.first_string.ensures f.pair.0 (packed_string f.pair.1 ++ packed f.others) f.short.0 f.whole in
    let value = c.first_string-2.ensures f.pair.1 (packed f.others) f.short.1 field.1 in
    ((f.others, record { whole = value.1; short = f.are_short }), tt)

pub returns-clause-some : goal.returns-clause-some
returns-clause-some c =
    let f = front c.self.inside.left.now c.self.inside.pairs (sym c.is_empty.ensures ∙ c.if-is_empty.false) in
    let field = c.first_string.ensures f.pair.0 (packed_string f.pair.1 ++ packed f.others) f.short.0 f.whole in
    let value = c.first_string-2.ensures f.pair.1 (packed f.others) f.short.1 field.1 in
    sym c.self.view_is ∙ f.list ∙ joined f.pair f.others _ _ _ field.0 value.0 (pairs-known _ _ f.others value.1 f.are_short)

pub returns-clause-shorter : goal.returns-clause-shorter
returns-clause-shorter c =
    let f = front c.self.inside.left.now c.self.inside.pairs (sym c.is_empty.ensures ∙ c.if-is_empty.false) in
    let field = c.first_string.ensures f.pair.0 (packed_string f.pair.1 ++ packed f.others) f.short.0 f.whole in
    let value = c.first_string-2.ensures f.pair.1 (packed f.others) f.short.1 field.1 in
    shorter _ f.others f.pair _ (sym c.self.view_is ∙ f.list) (pairs-known _ _ f.others value.1 f.are_short)
