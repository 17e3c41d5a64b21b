-- How the loop over options goes on: one option more, none that fits, one that is written twice, and the end.
use Rattle.std.proofs.Common.{◌≡◌, ◌≢◌, ◌⊎◌, inl, inr, ℕ, ◌<◌, List, [], ◌∷◌, ◌++◌, length, replicate, get_or, map, Bool, true, false, Option, Some, None, All, Ok, refl, sym, ap, ◌∙◌, arith, append_assoc, append-nil, subst}
use Rattle.std.specs.List.{flat_map}
use Rattle.std.specs.Option.{option_or}
use Rattle.std.proofs.Math.ListN.{set}
use Rattle.std.proofs.lemmas.Bool.Decides.{eqb_tells}
use Rattle.std.proofs.lemmas.List.{get_or-replicate, get_or-set_same, get_or-set_other, length-replicate, length-set}
use Rattle.std.proofs.lemmas.List.Elements.{All-nil, All-cons, All-append, All-tail}
use denote.Enum.Bare.{tag_one}
use denote.Enum.Declared.{tag_of}
use Rattle.sr_args.specs.contracts.name.Flag as flags
use Rattle.sr_args.specs.contracts.name.Numbered as numbers
use Rattle.sr_args.specs.declared.name.Choice.{Choice}
use Rattle.sr_args.specs.declared.name.Flag.{Flag}
use Rattle.sr_args.specs.declared.name.Flag.TheVariants.{MkStream}
use Rattle.sr_args.specs.declared.name.Numbered.{Numbered}
use Rattle.sr_args.specs.declared.name.Numbered.TheVariants.{Idle}
use Rattle.sr_args.specs.declared.name.OptionName.{OptionName}
use Rattle.sr_args.specs.declared.name.TheConstants.{FLAGS, NUMBERED}
use Rattle.sr_args.specs.declared.options.TheConstants.{KINDS}
use Rattle.sr_args.specs.declared.options.OptionKind.{OptionKind}
use Rattle.sr_args.specs.declared.options.OptionKind.TheVariants as kinds
use Rattle.sr_args.specs.declared.name.OptionSet.{OptionSet}
use Rattle.sr_args.specs.Name.{IsSameName, option_text, is_of, nothing}
use Rattle.sr_args.specs.FormWord.{Word, FormWord, Fits, option}
use Rattle.sr_args.specs.Options.{Written, first_name, operand_places, option_places, kind, IsOptionFit, IsIn, AreDistinct, AreOptionsFit, IsUnnamed, IsPast, group_in, group_in_one}
use Rattle.sr_args.specs.steps.Options.{Begins, BeginsNone, IsOptionNamed, IsOptionEnd, GoesOn, BeginsOptions, BeginsNoOptions, EndsOptions, AreSeen, IsUnderway, index_of}
use Rattle.sr_args.proofs.OptionLemmas.{name-one, then_places, then-cons, end-after, head-fit, head-of_set}

-- kinds: each has its own place among them, and two are one or not
flag-one : (a b : Flag) → tag_of flags.the_type a ≡ tag_of flags.the_type b → a ≡ b
flag-one a b e = tag_one flags.the_type tt a b e

numbered-one : (a b : Numbered) → tag_of numbers.the_type a ≡ tag_of numbers.the_type b → a ≡ b
numbered-one a b e = tag_one numbers.the_type tt a b e

flag-within : (f : Flag) → tag_of flags.the_type f < FLAGS
flag-within MkStream = omega arith
flag-within f = omega arith

numbered-within : (n : Numbered) → tag_of numbers.the_type n < NUMBERED
numbered-within Idle = omega arith
numbered-within n = omega arith

index-one : (a b : OptionKind) → index_of a ≡ index_of b → a ≡ b
index-one (kinds.Flag a) (kinds.Flag b) e = ap kinds.Flag (flag-one a b (omega arith))
index-one (kinds.Numbered a) (kinds.Numbered b) e = ap kinds.Numbered (numbered-one a b (omega arith))
index-one (kinds.Flag a) (kinds.Numbered b) e = absurd (omega (arith, flag-within a))
index-one (kinds.Numbered a) (kinds.Flag b) e = absurd (omega (arith, flag-within b))
index-one kinds.Count kinds.Count e = refl
index-one kinds.Group kinds.Group e = refl
index-one kinds.Trim kinds.Trim e = refl
index-one a b e = absurd (omega arith)

kind-is : (a b : OptionKind) → (a ≡ b) ⊎ (a ≢ b)
kind-is a b = elim (eqb_tells (index_of a) (index_of b)) [
  | inl same ↦ inl (index-one a b same.1)
  | inr apart ↦ inr (λ e. apart.1 (ap index_of e))
]

index-apart : (a b : OptionKind) → a ≢ b → index_of a ≢ index_of b
index-apart a b differ e = differ (index-one a b e)

index-within : (k : OptionKind) → index_of k < KINDS
index-within (kinds.Flag f) = omega (arith, flag-within f)
index-within (kinds.Numbered n) = omega (arith, numbered-within n)
index-within k = omega arith

in-last : (os : List Written) (o : Written) → IsIn (kind o) (map kind (os ++ o ∷ []))
in-last [] o = inl refl
in-last (p ∷ os) o = inr (in-last os o)

in-more : (k : OptionKind) (os : List Written) (o : Written) → IsIn k (map kind os) → IsIn k (map kind (os ++ o ∷ []))
in-more k [] o i = absurd i
in-more k (p ∷ os) o (inl e) = inl e
in-more k (p ∷ os) o (inr i) = inr (in-more k os o i)

in-less : (k : OptionKind) (os : List Written) (o : Written) → k ≢ kind o → IsIn k (map kind (os ++ o ∷ [])) → IsIn k (map kind os)
in-less k [] o differ (inl e) = absurd (differ e)
in-less k [] o differ (inr i) = absurd i
in-less k (p ∷ os) o differ (inl e) = inl e
in-less k (p ∷ os) o differ (inr i) = inr (in-less k os o differ i)

in-middle : (os : List Written) (o : Written) (tail : List Written) → IsIn (kind o) (map kind (os ++ o ∷ tail))
in-middle [] o tail = inl refl
in-middle (p ∷ os) o tail = inr (in-middle os o tail)

twice-apart : (os : List Written) (o : Written) (tail : List Written) → AreDistinct (map kind (os ++ o ∷ tail)) → IsIn (kind o) (map kind os) → ⊥
twice-apart [] o tail d i = i
twice-apart (p ∷ os) o tail d (inl e) = d.0 (subst (λ (k : OptionKind). IsIn k (map kind (os ++ o ∷ tail))) e (in-middle os o tail))
twice-apart (p ∷ os) o tail d (inr i) = twice-apart os o tail d.1 i

distinct-more : (os : List Written) (o : Written) → AreDistinct (map kind os) → (IsIn (kind o) (map kind os) → ⊥) → AreDistinct (map kind (os ++ o ∷ []))
distinct-more [] o d new = (λ i. i, tt)
distinct-more (p ∷ os) o d new =
    (λ i. d.0 (in-less (kind p) os o (λ e. new (inl (sym e))) i), distinct-more os o d.1 (λ i. new (inr i)))

-- what is said of all holds of the last ones
All-back : {T : Type 0} (P : T → Type 0) (xs ys : List T) → All P (xs ++ ys) → All P ys
All-back P [] ys a = a
All-back P (x ∷ xs) ys a = All-back P xs ys (All-tail P x (xs ++ ys) a)

-- the kinds that were seen
seen-yes : (seen : List Bool) (os : List Written) (o : Written) (k : OptionKind) → AreSeen seen os → (k ≡ kind o) ⊎ (k ≢ kind o) → get_or (set seen (index_of (kind o)) true) (index_of k) false ≡ true → IsIn k (map kind (os ++ o ∷ []))
seen-yes seen os o k s (inl same) e = subst (λ (x : OptionKind). IsIn x (map kind (os ++ o ∷ []))) (sym same) (in-last os o)
seen-yes seen os o k s (inr differ) e =
    in-more k os o (s.yes k (sym (get_or-set_other seen (index_of (kind o)) (index_of k) true false (index-apart k (kind o) differ)) ∙ e))

seen-no : (seen : List Bool) (os : List Written) (o : Written) (k : OptionKind) → AreSeen seen os → (k ≡ kind o) ⊎ (k ≢ kind o) → get_or (set seen (index_of (kind o)) true) (index_of k) false ≡ false → IsIn k (map kind (os ++ o ∷ [])) → ⊥
seen-no seen os o k s (inl same) e i =
    let within : index_of (kind o) < length seen = subst (λ (n : ℕ). index_of (kind o) < n) (sym s.many) (index-within (kind o)) in
    let at : get_or (set seen (index_of (kind o)) true) (index_of (kind o)) false ≡ true = get_or-set_same seen (index_of (kind o)) true false within in
    let here : get_or (set seen (index_of (kind o)) true) (index_of (kind o)) false ≡ false = subst (λ (x : OptionKind). get_or (set seen (index_of (kind o)) true) (index_of x) false ≡ false) same e in
    cc
seen-no seen os o k s (inr differ) e i =
    s.no k (sym (get_or-set_other seen (index_of (kind o)) (index_of k) true false (index-apart k (kind o) differ)) ∙ e) (in-less k os o differ i)

pub AreSeen-more : (seen : List Bool) (os : List Written) (o : Written) → AreSeen seen os → AreSeen (set seen (index_of (kind o)) true) (os ++ o ∷ [])
AreSeen-more seen os o s = record {
  many = length-set seen (index_of (kind o)) true ∙ s.many;
  yes = λ k e. seen-yes seen os o k s (kind-is k (kind o)) e;
  no = λ k e i. seen-no seen os o k s (kind-is k (kind o)) e i;
}

-- at first no kind was seen, and nothing is asked for
abbrev unseen : List Bool
unseen = replicate KINDS false

unseen-none : (k : OptionKind) → get_or unseen (index_of k) false ≡ true → ⊥
unseen-none k e = let none = get_or-replicate KINDS (index_of k) false false (index-within k) in cc

pub IsUnderway-start : (set : OptionSet) (words : List Word) (choice : Choice) → choice ≡ nothing → IsUnderway set words words unseen (Ok choice) None
IsUnderway-start set words choice e = record {
  written = [];
  begins = record {
    right = record { each = All-nil (IsOptionFit set); of_set = All-nil (λ o. is_of set (first_name o) ≡ true); once = tt };
    fits = λ places f. f;
    only = λ others places r p f. record { tail = others; are = refl; fits = f };
  };
  seen_are = record { many = length-replicate KINDS false; yes = λ k e. absurd (unseen-none k e); no = λ k e i. i };
  judged_are = e;
  group_is = refl;
}

-- the group that options name, with one option more
or-none : (a : Option (Word × Word)) → option_or a None ≡ a
or-none None = refl
or-none (Some named) = refl

or_assoc : (a b c : Option (Word × Word)) → option_or a (option_or b c) ≡ option_or (option_or a b) c
or_assoc None b c = refl
or_assoc (Some named) b c = refl

pub group_in-last : (os : List Written) (o : Written) → group_in (os ++ o ∷ []) ≡ option_or (group_in os) (group_in_one o)
group_in-last [] o = or-none (group_in_one o)
group_in-last (p ∷ os) o =
    ap (λ (named : Option (Word × Word)). option_or (group_in_one p) named) (group_in-last os o) ∙ or_assoc (group_in_one p) (group_in os) (group_in_one o)

-- places of options, and of one more
then-last : (os : List Written) (o : Written) (ps : List FormWord) → flat_map option_places (os ++ o ∷ []) ++ ps ≡ flat_map option_places os ++ (option_places o ++ ps)
then-last [] o ps = append_assoc (option_places o) [] ps
then-last (p ∷ os) o ps =
    append_assoc (option_places p) (flat_map option_places (os ++ o ∷ [])) ps
    ∙ ap (λ (rs : List FormWord). option_places p ++ rs) (then-last os o ps)
    ∙ sym (append_assoc (option_places p) (flat_map option_places os) (option_places o ++ ps))

-- the words left begin with the name of an option of the set
pub record IsNamedNext (set : OptionSet) (name : OptionName) (left rest : List Word) : Type 0 where
  pub word : Word
  pub are : left ≡ word ∷ rest
  pub of_set : is_of set name ≡ true
  pub same : IsSameName word (option_text name)

-- a reading of the words left begins with an option of this name, and what follows the name fits it
pub record TakesNext (set : OptionSet) (name : OptionName) (rest : List Word) (tail : List Written) (places : List FormWord) : Type 0 where
  pub o : Written
  pub others : List Written
  pub are : tail ≡ o ∷ others
  pub right : IsOptionNamed set name o
  pub last : IsOptionEnd o (then_places others places)
  pub fits : Fits rest (operand_places o ++ then_places others places)

takes_next-at : (set : OptionSet) (name : OptionName) (word : Word) (rest : List Word) (tail : List Written) (places : List FormWord) → is_of set name ≡ true → IsSameName word (option_text name) → All (IsOptionFit set) tail → All (λ o. is_of set (first_name o) ≡ true) tail → IsPast set places → Fits (word ∷ rest) (then_places tail places) → TakesNext set name rest tail places
takes_next-at set name word rest [] places of same each of_set p f = absurd (p.unnamed word rest f name of same)
takes_next-at set name word rest (o ∷ others) places of same each of_set p f =
    let fits : Fits (word ∷ rest) (option (first_name o) ∷ (operand_places o ++ then_places others places)) = subst (λ (rs : List FormWord). Fits (word ∷ rest) rs) (then-cons o others places) f in
    record {
      o = o;
      others = others;
      are = refl;
      right = record { name_is = name-one word (first_name o) name fits.0 same; fit = head-fit set o others each };
      last = end-after set o others places (head-of_set set o others of_set) p;
      fits = fits.1;
    }

takes_next : (set : OptionSet) (words : List Word) (written : List Written) (left : List Word) (name : OptionName) (rest : List Word) (others : List Written) (places : List FormWord) → BeginsOptions set words written left → IsNamedNext set name left rest → AreOptionsFit set others → IsPast set places → (g : GoesOn written others left places) → TakesNext set name rest g.tail places
takes_next set words written left name rest others places b n r p g =
    let each : All (IsOptionFit set) g.tail = All-back (IsOptionFit set) written g.tail (subst (λ (os : List Written). All (IsOptionFit set) os) g.are r.each) in
    let of_set : All (λ o. is_of set (first_name o) ≡ true) g.tail = All-back (λ o. is_of set (first_name o) ≡ true) written g.tail (subst (λ (os : List Written). All (λ o. is_of set (first_name o) ≡ true) os) g.are r.of_set) in
    let fits : Fits (n.word ∷ rest) (then_places g.tail places) = subst (λ (ws : List Word). Fits ws (then_places g.tail places)) n.are g.fits in
    takes_next-at set name n.word rest g.tail places n.of_set n.same each of_set p fits

-- no operands: no reading
pub BeginsNoOptions-from_none : (set : OptionSet) (words : List Word) (written : List Written) (left : List Word) (name : OptionName) (rest : List Word) → BeginsOptions set words written left → IsNamedNext set name left rest → BeginsNone operand_places (IsOptionNamed set name) IsOptionEnd rest → BeginsNoOptions set words
BeginsNoOptions-from_none set words written left name rest b n none others places r p f =
    let g = b.only others places r p f in
    let t = takes_next set words written left name rest others places b n r p g in
    none t.o (then_places t.others places) t.right t.last t.fits

-- written twice: no reading
pub BeginsNoOptions-from_twice : (set : OptionSet) (words : List Word) (written : List Written) (left : List Word) (name : OptionName) (rest new : List Word) (o : Written) → BeginsOptions set words written left → IsNamedNext set name left rest → Begins operand_places (IsOptionNamed set name) IsOptionEnd rest o new → IsIn (kind o) (map kind written) → BeginsNoOptions set words
BeginsNoOptions-from_twice set words written left name rest new o b n read i others places r p f =
    let g = b.only others places r p f in
    let t = takes_next set words written left name rest others places b n r p g in
    let one = read.only t.o (then_places t.others places) t.right t.last t.fits in
    let tail : g.tail ≡ o ∷ t.others = t.are ∙ ap (λ (x : Written). x ∷ t.others) one.0 in
    let are : others ≡ written ++ o ∷ t.others = g.are ∙ ap (λ (os : List Written). written ++ os) tail in
    twice-apart written o t.others (subst (λ (os : List Written). AreDistinct (map kind os)) are r.once) i

-- one option more
more-only : (set : OptionSet) (words : List Word) (written : List Written) (left : List Word) (name : OptionName) (rest new : List Word) (o : Written) → BeginsOptions set words written left → IsNamedNext set name left rest → Begins operand_places (IsOptionNamed set name) IsOptionEnd rest o new → (others : List Written) (places : List FormWord) → AreOptionsFit set others → IsPast set places → Fits words (flat_map option_places others ++ places) → GoesOn (written ++ o ∷ []) others new places
more-only set words written left name rest new o b n read others places r p f =
    let g = b.only others places r p f in
    let t = takes_next set words written left name rest others places b n r p g in
    let one = read.only t.o (then_places t.others places) t.right t.last t.fits in
    let tail : g.tail ≡ o ∷ t.others = t.are ∙ ap (λ (x : Written). x ∷ t.others) one.0 in
    record {
      tail = t.others;
      are = g.are ∙ ap (λ (os : List Written). written ++ os) tail ∙ sym (append_assoc written (o ∷ []) t.others);
      fits = one.1;
    }

more-fits : (words left rest new : List Word) (written : List Written) (o : Written) (word : Word) (places : List FormWord) → ((ps : List FormWord) → Fits left ps → Fits words (flat_map option_places written ++ ps)) → left ≡ word ∷ rest → IsSameName word (option_text (first_name o)) → Fits rest (operand_places o ++ places) → Fits words (flat_map option_places (written ++ o ∷ []) ++ places)
more-fits words left rest new written o word places fits are same f =
    let here : Fits left (option_places o ++ places) = subst (λ (ws : List Word). Fits ws (option_places o ++ places)) (sym are) (same, f) in
    subst (λ (ps : List FormWord). Fits words ps) (sym (then-last written o places)) (fits (option_places o ++ places) here)

pub BeginsOptions-more : (set : OptionSet) (words : List Word) (written : List Written) (left : List Word) (name : OptionName) (rest new : List Word) (o : Written) → BeginsOptions set words written left → IsNamedNext set name left rest → Begins operand_places (IsOptionNamed set name) IsOptionEnd rest o new → (IsIn (kind o) (map kind written) → ⊥) → BeginsOptions set words (written ++ o ∷ []) new
BeginsOptions-more set words written left name rest new o b n read unseen =
    let of_set : is_of set (first_name o) ≡ true = ap (λ (x : OptionName). is_of set x) read.right.name_is ∙ n.of_set in
    let same : IsSameName n.word (option_text (first_name o)) = subst (λ (x : OptionName). IsSameName n.word (option_text x)) (sym read.right.name_is) n.same in
    record {
      right = record {
        each = All-append (IsOptionFit set) written (o ∷ []) b.right.each (All-cons (IsOptionFit set) o [] read.right.fit (All-nil (IsOptionFit set)));
        of_set = All-append (λ o. is_of set (first_name o) ≡ true) written (o ∷ []) b.right.of_set (All-cons (λ o. is_of set (first_name o) ≡ true) o [] of_set (All-nil (λ o. is_of set (first_name o) ≡ true)));
        once = distinct-more written o b.right.once unseen;
      };
      fits = λ places f. more-fits words left rest new written o n.word places b.fits n.are same (read.fits places f);
      only = more-only set words written left name rest new o b n read;
    }

-- the end
end-only : (set : OptionSet) (left : List Word) (tail : List Written) (places : List FormWord) → ((word : Word) (rest : List Word) → left ≡ word ∷ rest → IsUnnamed set word) → All (λ o. is_of set (first_name o) ≡ true) tail → Fits left (flat_map option_places tail ++ places) → (tail ≡ []) × Fits left places
end-only set left [] places past of_set f = (refl, f)
end-only set [] (o ∷ tail) places past of_set f = absurd f
end-only set (word ∷ rest) (o ∷ tail) places past of_set f = absurd (past word rest refl (first_name o) (head-of_set set o tail of_set) f.0)

pub EndsOptions-from_begins : (set : OptionSet) (words : List Word) (written : List Written) (left : List Word) → BeginsOptions set words written left → ((word : Word) (rest : List Word) → left ≡ word ∷ rest → IsUnnamed set word) → EndsOptions set words written left
EndsOptions-from_begins set words written left b past = record {
  right = b.right;
  fits = b.fits;
  only = λ others places r p f.
      let g = b.only others places r p f in
      let of_set : All (λ o. is_of set (first_name o) ≡ true) g.tail = All-back (λ o. is_of set (first_name o) ≡ true) written g.tail (subst (λ (os : List Written). All (λ o. is_of set (first_name o) ≡ true) os) g.are r.of_set) in
      let last = end-only set left g.tail places past of_set g.fits in
      (g.are ∙ ap (λ (os : List Written). written ++ os) last.0 ∙ append-nil written, last.1);
  past = past;
}
