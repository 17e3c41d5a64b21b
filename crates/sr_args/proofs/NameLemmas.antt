-- Words name one command at most, and a name cut short is not the name of another command.
use Rattle.std.proofs.Common.{◌≡◌, ℕ, ◌+◌, ◌<◌, ◌≤◌, Bool, cond, true, false, List, [], ◌∷◌, ◌++◌, length, take, get_or, map, Option, Some, None, refl, sym, ap, ◌∙◌, append_assoc, append-nil, length-append, arith}
use Rattle.std.proofs.lemmas.Option.{same_Some}
use Rattle.std.proofs.lemmas.List.{take_more, take_all}
use Rattle.std.specs.Char.{to_ascii_lowercase}
use Rattle.std.specs.Str.{bytes_eq}
use Rattle.sr_args.specs.declared.table.CommandName.{CommandName}
use Rattle.sr_args.specs.declared.table.CommandName.TheVariants.{Ping}
use Rattle.sr_args.specs.declared.table.Found.{Found}
use Rattle.sr_args.specs.declared.table.Found.TheVariants as found
use Rattle.sr_args.specs.declared.table.TheConstants.{COMMANDS}
use Rattle.sr_args.specs.declared.name.Flag.TheVariants.{MkStream}
use Rattle.sr_args.specs.declared.name.Measure.TheVariants.{MaxLen}
use Rattle.sr_args.specs.declared.name.Numbered.TheVariants.{Idle}
use Rattle.sr_args.specs.declared.name.OptionName.{OptionName}
use Rattle.sr_args.specs.declared.name.OptionName.TheVariants as options
use Rattle.sr_args.specs.declared.name.TheConstants.{OPTIONS}
use Rattle.sr_args.specs.Name.{IsSameName, option_text}
use Rattle.sr_args.specs.FormWord.{Word}
use Rattle.sr_args.specs.Row.{Row}
use Rattle.sr_args.specs.Table.{Begins, IsCut, IsNamed}
use Rattle.sr_args.specs.commands.{row_of}
use Rattle.sr_args.specs.steps.Names.{IsOther, AreOther, IsFound, IsFoundAmong}

-- words in small letters
abbrev lowered : List Word → List Word
lowered words = map (map to_ascii_lowercase) words

-- the words begin with the name, both in small letters
abbrev begins : List Word → List Word → Bool
begins [] words = true
begins (first ∷ name) [] = false
begins (first ∷ name) (word ∷ words) = cond (bytes_eq first word) (begins name words) false

-- the first of these commands whose name words in small letters begin with
abbrev first_at : List CommandName → List Word → Option CommandName
first_at [] words = None
first_at (command ∷ commands) words = cond (begins (lowered (row_of command).name) words) (Some command) (first_at commands words)

-- each command stands in the table, and no name before its own begins so
first_at-name : (command : CommandName) (rest : List Word) → first_at COMMANDS (lowered (row_of command).name ++ rest) ≡ Some command
first_at-name Ping rest = refl
first_at-name command rest = refl

lowered-begins : (name words rest : List Word) → Begins name words rest → lowered words ≡ lowered name ++ lowered rest
lowered-begins [] words rest b = ap lowered b
lowered-begins (first ∷ name) [] rest b = absurd b
lowered-begins (first ∷ name) (word ∷ words) rest b = let later = lowered-begins name words rest b.1 in let same = b.0 in cc

Begins-one : (name words rest other : List Word) → Begins name words rest → Begins name words other → rest ≡ other
Begins-one [] words rest other b c = sym b ∙ c
Begins-one (first ∷ name) [] rest other b c = absurd b
Begins-one (first ∷ name) (word ∷ words) rest other b c = Begins-one name words rest other b.1 c.1

-- words name one command
pub IsNamed-one : (words : List Word) (a b : CommandName) (rest other : List Word) → IsNamed a words rest → IsNamed b words other → a ≡ b
IsNamed-one words a b rest other p q =
    let left = lowered-begins (row_of a).name words rest p in
    let right = lowered-begins (row_of b).name words other q in
    same_Some a b (sym (first_at-name a (lowered rest)) ∙ ap (first_at COMMANDS) (sym left ∙ right) ∙ first_at-name b (lowered other))

-- and the words after its name are one list
pub operands-one : (words : List Word) (a b : CommandName) (rest other : List Word) → a ≡ b → IsNamed a words rest → IsNamed b words other → rest ≡ other
operands-one words a b rest other e p q = Begins-one (row_of a).name words rest other p (rw (← e) at q)

-- what a name cut short lacks
record Lacks (name words : List Word) : Type 0 where
  pub next : Word
  pub more : List Word
  pub whole : lowered name ≡ lowered words ++ next ∷ more

lacks : (name words : List Word) → IsCut name words → Lacks name words
lacks [] words cut = absurd cut
lacks (first ∷ name) [] cut = absurd cut
lacks (first ∷ []) (word ∷ words) cut = absurd cut
lacks (first ∷ second ∷ name) (word ∷ []) cut = let same = cut in record { next = map to_ascii_lowercase second; more = lowered name; whole = cc }
lacks (first ∷ second ∷ name) (word ∷ next ∷ words) cut =
    let rest = lacks (second ∷ name) (next ∷ words) cut.1 in
    let same = cut.0 in
    let whole = rest.whole in
    record { next = rest.next; more = rest.more; whole = cc }

not_longer : (name words rest : List Word) (next : Word) (more : List Word) → name ≡ words ++ next ∷ more → words ≡ name ++ rest → ⊥
not_longer name words rest next more e f =
    omega (arith, ap length e, ap length f, length-append words (next ∷ more), length-append name rest)

pub IsCut-unnamed : (words : List Word) (half whole : CommandName) (rest : List Word) → IsCut (row_of half).name words → IsNamed whole words rest → ⊥
IsCut-unnamed words half whole rest cut named =
    let short = lacks (row_of half).name words cut in
    let long = lowered-begins (row_of whole).name words rest named in
    let behind = lowered rest ++ short.next ∷ short.more in
    let both : lowered (row_of half).name ++ [] ≡ lowered (row_of whole).name ++ behind =
    append-nil (lowered (row_of half).name) ∙ short.whole ∙ ap (λ (xs : List Word). xs ++ short.next ∷ short.more) long ∙ append_assoc (lowered (row_of whole).name) (lowered rest) (short.next ∷ short.more) in
    let same : half ≡ whole = same_Some half whole (sym (first_at-name half []) ∙ ap (first_at COMMANDS) both ∙ first_at-name whole behind) in
    let longer : lowered (row_of half).name ≡ lowered words ++ short.next ∷ short.more = short.whole in
    let shorter : lowered words ≡ lowered (row_of half).name ++ lowered rest = rw same long in
    not_longer (lowered (row_of half).name) (lowered words) (lowered rest) short.next short.more longer shorter

-- one command more is looked at
AreOther-append : (commands : List CommandName) (command : CommandName) (words : List Word) → AreOther commands words → IsOther (row_of command).name words → AreOther (commands ++ command ∷ []) words
AreOther-append [] command words p o = (o, tt)
AreOther-append (c ∷ commands) command words p o = (p.0, AreOther-append commands command words p.1 o)

pub AreOther-more : (commands : List CommandName) (k : ℕ) (d : CommandName) (r : Row) (words : List Word) → r ≡ row_of (get_or commands k d) → k < length commands → AreOther (take k commands) words → IsOther r.name words → AreOther (take (k + 1) commands) words
AreOther-more commands k d r words e lt p o =
    rw (take_more commands k d lt) (AreOther-append (take k commands) (get_or commands k d) words p (rw e at o))

-- each command is in the table
listed : (words : List Word) → AreOther COMMANDS words → (command : CommandName) → IsOther (row_of command).name words
listed words others Ping = others.0
listed words others command = assumption others

pub IsFound-from_among : (words : List Word) (which : Found) → IsFoundAmong COMMANDS words which → IsFound words which
IsFound-from_among words (found.Command command operands) f = f
IsFound-from_among words found.HalfNamed f = f
IsFound-from_among words found.Unknown f = λ command. listed words f command

-- the word names none of these options
abbrev pub AreUnnamed : List OptionName → Word → Type 0
AreUnnamed [] word = Unit {0}
AreUnnamed (option ∷ rest) word = (IsSameName word (option_text option) → ⊥) × AreUnnamed rest word

AreUnnamed-append : (rest : List OptionName) (option : OptionName) (word : Word) → AreUnnamed rest word → (IsSameName word (option_text option) → ⊥) → AreUnnamed (rest ++ option ∷ []) word
AreUnnamed-append [] option word p o = (o, tt)
AreUnnamed-append (other ∷ rest) option word p o = (p.0, AreUnnamed-append rest option word p.1 o)

pub AreUnnamed-more : (k : ℕ) (word : Word) → k < length OPTIONS → AreUnnamed (take k OPTIONS) word → (IsSameName word (option_text (get_or OPTIONS k options.Count)) → ⊥) → AreUnnamed (take (k + 1) OPTIONS) word
AreUnnamed-more k word lt p o =
    rw (take_more OPTIONS k options.Count lt) (AreUnnamed-append (take k OPTIONS) (get_or OPTIONS k options.Count) word p o)

unnamed : (word : Word) → AreUnnamed OPTIONS word → (option : OptionName) → IsSameName word (option_text option) → ⊥
unnamed word none (options.Flag MkStream) = assumption none
unnamed word none (options.Numbered Idle) = assumption none
unnamed word none (options.Trim MaxLen) = assumption none
unnamed word none option = assumption none

-- each option stands among them
pub unnamed-end : (k : ℕ) (word : Word) → length OPTIONS ≤ k → AreUnnamed (take k OPTIONS) word → (option : OptionName) → IsSameName word (option_text option) → ⊥
unnamed-end k word le none = unnamed word (rw (take_all k OPTIONS le) at none)
