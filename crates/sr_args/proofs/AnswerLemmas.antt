-- Words have one right answer: each fault is of words that come less far on their way to a command.
use Rattle.std.proofs.Common.{◌≡◌, ◌≢◌, ℕ, ◌<◌, List, Result, Ok, Err, IfOk, IfErr, inl, inr, ◌⊎◌, refl, sym, ap, subst, arith}
use Rattle.sr_args.specs.declared.table.CommandName.{CommandName}
use Rattle.sr_args.specs.declared.call.Command.{Command}
use Rattle.sr_args.specs.declared.fault.CallFault.{CallFault}
use Rattle.sr_args.specs.declared.fault.CallFault.TheVariants.{Unknown, Arity, Syntax, Number, BadId, Memory}
use Rattle.sr_args.specs.FormWord.{Word, HasNumbers, HasIds}
use Rattle.sr_args.specs.Table.{IsHalfNamed}
use Rattle.sr_args.specs.Form.{Reading, Values, places, Reads, Means}
use Rattle.sr_args.specs.commands.{form_of, command_of}
use Rattle.sr_args.specs.Command.{IsWellCounted, IsRead, places_of, IsCommand, IsCommandNamed, IsCommandCounted, Refuses, Answers}
use Rattle.sr_args.specs.steps.Gives.{GivesCall, Gives}
use Rattle.sr_args.proofs.FormLemmas.{Reads-one, Means-one, HasNumbers-from_means, HasIds-from_means}
use Rattle.sr_args.proofs.NameLemmas.{IsNamed-one, operands-one, IsCut-unnamed}

-- which fault comes before which, and all before a command
rank : Result Command CallFault → ℕ
rank (Err Unknown) = 0
rank (Err Arity) = 1
rank (Err Syntax) = 2
rank (Err Number) = 3
rank (Err BadId) = 4
rank (Err Memory) = 5
rank (Ok c) = 6

-- what holds of one reading of a command holds of every other
carried_at : (P : (c : CommandName) → Reading (form_of c) → Type 0) (operands : List Word) (a b : CommandName) → a ≡ b → (r : Reading (form_of a)) (s : Reading (form_of b)) → Reads (form_of a) operands r → Reads (form_of b) operands s → P a r → P b s
carried_at P operands a b e r s p q x =
    subst (λ (c : CommandName). (t : Reading (form_of c)) → Reads (form_of c) operands t → P c t) e (λ t u. subst (λ (v : Reading (form_of a)). P a v) (Reads-one (form_of a) operands r t p u) x) s q

same_name : (words : List Word) (r s : IsRead words) → r.name ≡ s.name
same_name words r s = IsNamed-one words r.name s.name r.operands s.operands r.counted.named s.counted.named

same_read : (P : (c : CommandName) → Reading (form_of c) → Type 0) (words : List Word) (r s : IsRead words) → P r.name r.reading → P s.name s.reading
same_read P words r s x =
    let name = same_name words r s in
    let operands : r.operands ≡ s.operands = operands-one words r.name s.name r.operands s.operands name r.counted.named s.counted.named in
    let reads = subst (λ (ws : List Word). Reads (form_of r.name) ws r.reading) operands r.reads in
    carried_at P s.operands r.name s.name name r.reading s.reading reads s.reads x

-- a command's numbers and ids
command_numbers : (words : List Word) (asked : Command) (c : IsCommand words asked) → HasNumbers (places_of words c.read)
command_numbers words asked c = HasNumbers-from_means (form_of c.read.name) c.read.reading c.values c.means

command_ids : (words : List Word) (asked : Command) (c : IsCommand words asked) → HasIds (places_of words c.read)
command_ids words asked c = HasIds-from_means (form_of c.read.name) c.read.reading c.values c.means

counted_of : (words : List Word) → IsRead words → IsCommandCounted words
counted_of words read = record { name = read.name; operands = read.operands; counted = read.counted }

named_of : (words : List Word) → IsCommandCounted words → IsCommandNamed words
named_of words c = record { name = c.name; operands = c.operands; named = c.counted.named }

-- if the answer is no fault up to a test's, the words pass the test
pass_count : (words : List Word) (b : Result Command CallFault) → 1 < rank b → Answers words b → IsCommandCounted words
unfolding rank
pass_count words (Err Unknown) lt x = absurd (omega arith)
pass_count words (Err Arity) lt x = absurd (omega arith)
pass_count words (Err Syntax) lt x = x.0
pass_count words (Err Number) lt x = counted_of words x.0
pass_count words (Err BadId) lt x = counted_of words x.0
pass_count words (Err Memory) lt x = counted_of words x.1.read
pass_count words (Ok asked) lt x = counted_of words x.read

pass_name : (words : List Word) (b : Result Command CallFault) → 0 < rank b → Answers words b → IsCommandNamed words ⊎ IsHalfNamed words
unfolding rank
pass_name words (Err Unknown) lt x = absurd (omega arith)
pass_name words (Err Arity) lt (inl x) = inl record { name = x.name; operands = x.operands; named = x.named }
pass_name words (Err Arity) lt (inr x) = inr x
pass_name words (Err Syntax) lt x = inl (named_of words x.0)
pass_name words (Err Number) lt x = inl (named_of words (counted_of words x.0))
pass_name words (Err BadId) lt x = inl (named_of words (counted_of words x.0))
pass_name words (Err Memory) lt x = inl (named_of words (counted_of words x.1.read))
pass_name words (Ok asked) lt x = inl (named_of words (counted_of words x.read))

pass_form : (words : List Word) (b : Result Command CallFault) → 2 < rank b → Answers words b → IsRead words
unfolding rank
pass_form words (Err Unknown) lt x = absurd (omega arith)
pass_form words (Err Arity) lt x = absurd (omega arith)
pass_form words (Err Syntax) lt x = absurd (omega arith)
pass_form words (Err Number) lt x = x.0
pass_form words (Err BadId) lt x = x.0
pass_form words (Err Memory) lt x = x.1.read
pass_form words (Ok asked) lt x = x.read

pass_numbers : (words : List Word) (b : Result Command CallFault) → 3 < rank b → Answers words b → (read : IsRead words) × HasNumbers (places_of words read)
unfolding rank
pass_numbers words (Err Unknown) lt x = absurd (omega arith)
pass_numbers words (Err Arity) lt x = absurd (omega arith)
pass_numbers words (Err Syntax) lt x = absurd (omega arith)
pass_numbers words (Err Number) lt x = absurd (omega arith)
pass_numbers words (Err BadId) lt x = (x.0, x.1)
pass_numbers words (Err Memory) lt x = (x.1.read, command_numbers words x.0 x.1)
pass_numbers words (Ok asked) lt x = (x.read, command_numbers words asked x)

pass_ids : (words : List Word) (b : Result Command CallFault) → 4 < rank b → Answers words b → (read : IsRead words) × HasIds (places_of words read)
unfolding rank
pass_ids words (Err Unknown) lt x = absurd (omega arith)
pass_ids words (Err Arity) lt x = absurd (omega arith)
pass_ids words (Err Syntax) lt x = absurd (omega arith)
pass_ids words (Err Number) lt x = absurd (omega arith)
pass_ids words (Err BadId) lt x = absurd (omega arith)
pass_ids words (Err Memory) lt x = (x.1.read, command_ids words x.0 x.1)
pass_ids words (Ok asked) lt x = (x.read, command_ids words asked x)

-- words that a fault refuses have no answer after it
refuse_named : (words : List Word) → Refuses words Unknown → IsCommandNamed words ⊎ IsHalfNamed words → ⊥
refuse_named words x (inl named) = x.0 named
refuse_named words x (inr half) = x.1 half

refuse_name : (words : List Word) (b : Result Command CallFault) → 0 < rank b → Refuses words Unknown → Answers words b → ⊥
refuse_name words b lt x y = refuse_named words x (pass_name words b lt y)

refuse_counted : (words : List Word) → Refuses words Arity → IsCommandCounted words → ⊥
refuse_counted words (inl x) y =
    let same : y.name ≡ x.name = IsNamed-one words y.name x.name y.operands x.operands y.counted.named x.named in
    x.uncounted (rw same at y.counted.counted)
refuse_counted words (inr x) y = IsCut-unnamed words x.0 y.name y.operands x.1 y.counted.named

refuse_count : (words : List Word) (b : Result Command CallFault) → 1 < rank b → Refuses words Arity → Answers words b → ⊥
refuse_count words b lt x y = refuse_counted words x (pass_count words b lt y)

refuse_form : (words : List Word) (b : Result Command CallFault) → 2 < rank b → Refuses words Syntax → Answers words b → ⊥
refuse_form words b lt x y = x.1 (pass_form words b lt y)

refuse_numbers : (words : List Word) (b : Result Command CallFault) → 3 < rank b → Refuses words Number → Answers words b → ⊥
refuse_numbers words b lt x y =
    let p = pass_numbers words b lt y in
    x.1 (same_read (λ c r. HasNumbers (places (form_of c) r)) words p.0 x.0 p.1)

refuse_ids : (words : List Word) (b : Result Command CallFault) → 4 < rank b → Refuses words BadId → Answers words b → ⊥
refuse_ids words b lt x y =
    let p = pass_ids words b lt y in
    x.2 (same_read (λ c r. HasIds (places (form_of c) r)) words p.0 x.0 p.1)

IsCommand-one : (words : List Word) (a b : Command) → IsCommand words a → IsCommand words b → a ≡ b
IsCommand-one words a b x y =
    let at_x = λ (w : Values (form_of x.read.name)) (m : Means (form_of x.read.name) x.read.reading w).
    ap (command_of x.read.name) (Means-one (form_of x.read.name) x.read.reading x.values w x.means m) in
    let at_y = same_read (λ c r. (w : Values (form_of c)) → Means (form_of c) r w → command_of x.read.name x.values ≡ command_of c w) words x.read y.read at_x y.values y.means in
    let left = x.is in
    let right = y.is in
    cc

pub Answers-one : (words : List Word) (a b : Result Command CallFault) → a ≢ Err Memory → b ≢ Err Memory → Answers words a → Answers words b → a ≡ b
unfolding rank
Answers-one words (Err Memory) b m n x y = absurd (m refl)
Answers-one words a (Err Memory) m n x y = absurd (n refl)
Answers-one words (Err Unknown) (Err Unknown) m n x y = refl
Answers-one words (Err Unknown) b m n x y = absurd (refuse_name words b (omega arith) x y)
Answers-one words a (Err Unknown) m n x y = absurd (refuse_name words a (omega arith) y x)
Answers-one words (Err Arity) (Err Arity) m n x y = refl
Answers-one words (Err Arity) b m n x y = absurd (refuse_count words b (omega arith) x y)
Answers-one words a (Err Arity) m n x y = absurd (refuse_count words a (omega arith) y x)
Answers-one words (Err Syntax) (Err Syntax) m n x y = refl
Answers-one words (Err Syntax) b m n x y = absurd (refuse_form words b (omega arith) x y)
Answers-one words a (Err Syntax) m n x y = absurd (refuse_form words a (omega arith) y x)
Answers-one words (Err Number) (Err Number) m n x y = refl
Answers-one words (Err Number) b m n x y = absurd (refuse_numbers words b (omega arith) x y)
Answers-one words a (Err Number) m n x y = absurd (refuse_numbers words a (omega arith) y x)
Answers-one words (Err BadId) (Err BadId) m n x y = refl
Answers-one words (Err BadId) b m n x y = absurd (refuse_ids words b (omega arith) x y)
Answers-one words a (Err BadId) m n x y = absurd (refuse_ids words a (omega arith) y x)
Answers-one words (Ok a) (Ok b) m n x y = ap (λ (asked : Command). Ok asked) (IsCommand-one words a b x y)

-- a right answer is the one, or memory ran out
pub Answers-only : (words : List Word) (result answer : Result Command CallFault) → Answers words result → answer ≢ Err Memory → Answers words answer → (result ≡ answer) ⊎ (result ≡ Err Memory)
Answers-only words (Err Memory) answer x n y = inr refl
Answers-only words (Err Unknown) answer x n y = inl (Answers-one words (Err Unknown) answer (λ e. cc) n x y)
Answers-only words (Err Arity) answer x n y = inl (Answers-one words (Err Arity) answer (λ e. cc) n x y)
Answers-only words (Err Syntax) answer x n y = inl (Answers-one words (Err Syntax) answer (λ e. cc) n x y)
Answers-only words (Err Number) answer x n y = inl (Answers-one words (Err Number) answer (λ e. cc) n x y)
Answers-only words (Err BadId) answer x n y = inl (Answers-one words (Err BadId) answer (λ e. cc) n x y)
Answers-only words (Ok c) answer x n y = inl (Answers-one words (Ok c) answer (λ e. cc) n x y)

-- what the reader of a command answers is right, once the words are named and counted
IsCommand-from_gives : (words operands : List Word) (command : CommandName) (asked : Command) → IsWellCounted words command operands → GivesCall (form_of command) (command_of command) operands asked → IsCommand words asked
IsCommand-from_gives words operands command asked counted g = record {
  read = record { name = command; operands = operands; counted = counted; reading = g.reading; reads = g.reads };
  values = g.values;
  means = g.means;
  is = g.is;
}

read_at : (words operands : List Word) (command : CommandName) → IsWellCounted words command operands → (read : IsRead words) → (operands ≡ read.operands) × (command ≡ read.name)
read_at words operands command counted read =
    let name = IsNamed-one words command read.name operands read.operands counted.named read.counted.named in
    (operands-one words command read.name operands read.operands name counted.named read.counted.named, name)

no_read : (words operands : List Word) (command : CommandName) → IsWellCounted words command operands → ((reading : Reading (form_of command)) → Reads (form_of command) operands reading → ⊥) → IsRead words → ⊥
no_read words operands command counted none read =
    let at = read_at words operands command counted read in
    subst (λ (c : CommandName). (r : Reading (form_of c)) → Reads (form_of c) operands r → ⊥) at.1 none read.reading (subst (λ (ws : List Word). Reads (form_of read.name) ws read.reading) (sym at.0) read.reads)

Refuses-from_gives : (words operands : List Word) (command : CommandName) (fault : CallFault) → IsWellCounted words command operands → Gives (form_of command) (command_of command) operands (Err fault) → Refuses words fault
Refuses-from_gives words operands command Unknown counted g = absurd g
Refuses-from_gives words operands command Arity counted g = absurd g
Refuses-from_gives words operands command Syntax counted g =
    (record { name = command; operands = operands; counted = counted }, no_read words operands command counted g)
Refuses-from_gives words operands command Number counted g =
    (record { name = command; operands = operands; counted = counted; reading = g.0; reads = g.1 }, g.2)
Refuses-from_gives words operands command BadId counted g =
    (record { name = command; operands = operands; counted = counted; reading = g.0; reads = g.1 }, g.2, g.3)
Refuses-from_gives words operands command Memory counted g = (g.0, IsCommand-from_gives words operands command g.0 counted g.1)

pub Answers-from_gives : (words operands : List Word) (command : CommandName) (result : Result Command CallFault) → IsWellCounted words command operands → Gives (form_of command) (command_of command) operands result → Answers words result
Answers-from_gives words operands command (Ok asked) counted g = IsCommand-from_gives words operands command asked counted g
Answers-from_gives words operands command (Err fault) counted g = Refuses-from_gives words operands command fault counted g

pub IsCommand-from_answers : (words : List Word) (result : Result Command CallFault) → Answers words result → IfOk result (IsCommand words)
IsCommand-from_answers words (Ok asked) x = x
IsCommand-from_answers words (Err fault) x = tt

pub Refuses-from_answers : (words : List Word) (result : Result Command CallFault) → Answers words result → IfErr result (Refuses words)
Refuses-from_answers words (Ok asked) x = tt
Refuses-from_answers words (Err fault) x = x
