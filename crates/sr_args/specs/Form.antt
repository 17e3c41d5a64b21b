-- The grammar of commands: a form says which words stand in which place after a command's name, and what they mean.
-- Source: Redis documentation, the page of each command, "Syntax".

use Rattle.std.specs.Prelude.{◌≡◌, ◌≢◌, List, [], ◌∷◌, ◌++◌, length, map, Option, Some, None, IsSome, ⊤}
use Rattle.std.specs.List.{flat_map}
use Rattle.sr_ids.specs.declared.id.Id.{Id}
use Rattle.sr_args.specs.declared.call.Trim.{Trim}
use Rattle.sr_args.specs.declared.name.Choice.{Choice}
use Rattle.sr_args.specs.declared.name.OptionName.{OptionName}
use Rattle.sr_args.specs.declared.name.OptionName.TheVariants as option_names
use Rattle.sr_args.specs.declared.name.OptionSet.{OptionSet}
use Rattle.sr_args.specs.Different.{AreDifferent}
use Rattle.sr_args.specs.Name.{IsSameName, option_text, nothing}
use Rattle.sr_args.specs.Options.{Written, TrimReading, trimming, option_places, AreOptionsFit}
use Rattle.sr_args.specs.Options.{IsUnnamed, IsPast, IsTrimFit, Choose, IsTrim, group_in}
use Rattle.sr_args.specs.FormWord.{Word, Range, Number, Writes, IdForm, IdOf, Spells, strict_id}
use Rattle.sr_args.specs.FormWord.{FormWord, option, any, numeric, spelled, Fits}

pub data Form : Type 0 where
  -- no word is left
  end : Form
  -- any word, and then this form
  text : Form → Form
  -- an id, and then this form
  id : IdForm → Form → Form
  -- a number, and then this form
  number : Range → Form → Form
  -- [word]
  optional_text : Form
  -- id [id ..]
  ids : IdForm → Form
  -- field value [field value ..]
  pairs : Form
  -- the options of a set in any order, and then this form
  options : OptionSet → Form → Form
  -- the options of a set in any order, one of which names a group and a consumer, and then this form
  grouped : OptionSet → Form → Form
  -- MAXLEN|MINID [=|~] bound [LIMIT number]
  trim : Form
  -- [option number], and then this form
  before : OptionName → Range → Form → Form
  -- no word, or this form
  maybe : Form → Form
  -- id [id ..] up to the first word that names an option of a set, and then the options of the set in any order
  ids_before : OptionSet → Form
  -- STREAMS key [key ..] id [id ..]
  streams : IdForm → Form
  -- option word [word ..]
  texts_after : OptionName → Form
  -- this form, with none of these options in any of its places
  barring : List OptionName → Form → Form

-- the words in the places of a form, whatever they say
abbrev pub Reading : Form → Type 0
Reading end = ⊤
Reading (text form) = Word × Reading form
Reading (id spelling form) = Word × Reading form
Reading (number range form) = Word × Reading form
Reading optional_text = Option Word
Reading (ids spelling) = List Word
Reading pairs = List (Word × Word)
Reading (options set form) = List Written × Reading form
Reading (grouped set form) = List Written × Reading form
Reading trim = TrimReading
Reading (before name range form) = Option Word × Reading form
Reading (maybe form) = Option (Reading form)
Reading (ids_before set) = List Word × List Written
Reading (streams spelling) = List Word × List Word
Reading (texts_after name) = List Word
Reading (barring names form) = Reading form

-- what the words in the places of a form mean
abbrev pub Values : Form → Type 0
Values end = ⊤
Values (text form) = Word × Values form
Values (id spelling form) = IdOf spelling × Values form
Values (number range form) = Number range × Values form
Values optional_text = Option Word
Values (ids spelling) = List (IdOf spelling)
Values pairs = List (Word × Word)
Values (options set form) = Choice × Values form
Values (grouped set form) = (Word × Word) × (Choice × Values form)
Values trim = Trim
Values (before name range form) = Option (Number range) × Values form
Values (maybe form) = Option (Values form)
Values (ids_before set) = List Id × Choice
Values (streams spelling) = List Word × List (IdOf spelling)
Values (texts_after name) = List Word
Values (barring names form) = Values form

-- a field and its value
abbrev pub pair_places : Word × Word → List FormWord
pair_places pair = any pair.0 ∷ any pair.1 ∷ []

-- [option number]
abbrev pub named_places : OptionName → Range → Option Word → List FormWord
named_places name range None = []
named_places name range (Some word) = option name ∷ numeric range word ∷ []

-- the places of a form, with these words in them
abbrev pub places : (form : Form) → Reading form → List FormWord
places end reading = []
places (text form) reading = any reading.0 ∷ places form reading.1
places (id spelling form) reading = spelled spelling reading.0 ∷ places form reading.1
places (number range form) reading = numeric range reading.0 ∷ places form reading.1
places optional_text None = []
places optional_text (Some word) = any word ∷ []
places (ids spelling) words = map (spelled spelling) words
places pairs fields = flat_map pair_places fields
places (options set form) reading = flat_map option_places reading.0 ++ places form reading.1
places (grouped set form) reading = flat_map option_places reading.0 ++ places form reading.1
places trim reading = option_places (trimming reading)
places (before name range form) reading = named_places name range reading.0 ++ places form reading.1
places (maybe form) None = []
places (maybe form) (Some reading) = places form reading
places (ids_before set) reading = map (spelled strict_id) reading.0 ++ flat_map option_places reading.1
places (streams spelling) reading = option option_names.Streams ∷ map any reading.0 ++ map (spelled spelling) reading.1
places (texts_after name) words = option name ∷ map any words
places (barring names form) reading = places form reading

-- a word in the first of these places does not name the option
pub record IsUnnamedBy (name : OptionName) (places : List FormWord) : Type 0 where
  pub unnamed : (word : Word) (words : List Word) → Fits (word ∷ words) places → IsSameName word (option_text name) → ⊥

-- a first word that names the option is the option
abbrev pub IsNamedFirst : OptionName → Option Word → List FormWord → Type 0
IsNamedFirst name None places = IsUnnamedBy name places
IsNamedFirst name (Some word) places = ⊤

-- no word names an option of the set
abbrev pub AreUnnamed : OptionSet → List Word → Type 0
AreUnnamed set [] = ⊤
AreUnnamed set (word ∷ words) = IsUnnamed set word × AreUnnamed set words

-- the word names none of these options
abbrev pub IsNoneOf : List OptionName → Word → Type 0
IsNoneOf [] word = ⊤
IsNoneOf (name ∷ names) word = (IsSameName word (option_text name) → ⊥) × IsNoneOf names word

-- no word names one of these options
abbrev pub AreNoneOf : List OptionName → List Word → Type 0
AreNoneOf names [] = ⊤
AreNoneOf names (word ∷ words) = IsNoneOf names word × AreNoneOf names words

-- there is a key, no key is named twice, and there are as many ids as keys
pub record ArePaired (keys ids : List Word) : Type 0 where
  pub some : keys ≢ []
  pub once : AreDifferent keys
  pub paired : length ids ≡ length keys

-- no word in these places names one of these options
pub record AreBarred (names : List OptionName) (places : List FormWord) : Type 0 where
  pub unnamed : (words : List Word) → Fits words places → AreNoneOf names words

-- what the places alone do not say: there is at least one id and at least one field; options are of their set, each
-- once; the word after them names no option of it, nor does an id before them; if they are to name a group, they do; a
-- first word that names an option is this option; a form that may be left out has a word if it is there; streams have
-- one id each, and none is named twice; at least one word comes after an option that words follow; and barred options
-- are nowhere
abbrev pub IsFit : (form : Form) → Reading form → Type 0
IsFit end reading = ⊤
IsFit (text form) reading = IsFit form reading.1
IsFit (id spelling form) reading = IsFit form reading.1
IsFit (number range form) reading = IsFit form reading.1
IsFit optional_text word = ⊤
IsFit (ids spelling) words = words ≢ []
IsFit pairs fields = fields ≢ []
IsFit (options set form) reading =
    AreOptionsFit set reading.0 × IsPast set (places form reading.1) × IsFit form reading.1
IsFit (grouped set form) reading =
    AreOptionsFit set reading.0 × IsPast set (places form reading.1) × IsSome (group_in reading.0) ×
    IsFit form reading.1
IsFit trim reading = IsTrimFit reading
IsFit (before name range form) reading = IsNamedFirst name reading.0 (places form reading.1) × IsFit form reading.1
IsFit (maybe form) None = ⊤
IsFit (maybe form) (Some reading) = (places form reading ≢ []) × IsFit form reading
IsFit (ids_before set) reading = (reading.0 ≢ []) × AreUnnamed set reading.0 × AreOptionsFit set reading.1
IsFit (streams spelling) reading = ArePaired reading.0 reading.1
IsFit (texts_after name) words = words ≢ []
IsFit (barring names form) reading = AreBarred names (places form reading) × IsFit form reading

-- the words fit the form, with this reading
pub record Reads (form : Form) (words : List Word) (reading : Reading form) : Type 0 where
  pub fits : Fits words (places form reading)
  pub fit : IsFit form reading

-- the words spell these ids, one each
abbrev pub AreIds : (spelling : IdForm) → List Word → List (IdOf spelling) → Type 0
AreIds spelling [] [] = ⊤
AreIds spelling [] (found ∷ list) = ⊥
AreIds spelling (word ∷ words) [] = ⊥
AreIds spelling (word ∷ words) (found ∷ list) = Spells spelling word found × AreIds spelling words list

-- the word, if there is one, writes the number
abbrev pub IsMaybeNumber : (range : Range) → Option Word → Option (Number range) → Type 0
IsMaybeNumber range None None = ⊤
IsMaybeNumber range None (Some found) = ⊥
IsMaybeNumber range (Some word) None = ⊥
IsMaybeNumber range (Some word) (Some found) = Writes range word found

-- the words of a reading mean these values
abbrev pub Means : (form : Form) → Reading form → Values form → Type 0
Means end reading values = ⊤
Means (text form) reading values = (values.0 ≡ reading.0) × Means form reading.1 values.1
Means (id spelling form) reading values = Spells spelling reading.0 values.0 × Means form reading.1 values.1
Means (number range form) reading values = Writes range reading.0 values.0 × Means form reading.1 values.1
Means optional_text word value = value ≡ word
Means (ids spelling) words list = AreIds spelling words list
Means pairs fields list = list ≡ fields
Means (options set form) reading values = Choose reading.0 nothing values.0 × Means form reading.1 values.1
Means (grouped set form) reading values =
    (group_in reading.0 ≡ Some values.0) × Choose reading.0 nothing values.1.0 × Means form reading.1 values.1.1
Means trim reading value = IsTrim reading value
Means (before name range form) reading values = IsMaybeNumber range reading.0 values.0 × Means form reading.1 values.1
Means (maybe form) None None = ⊤
Means (maybe form) None (Some values) = ⊥
Means (maybe form) (Some reading) None = ⊥
Means (maybe form) (Some reading) (Some values) = Means form reading values
Means (ids_before set) reading values = AreIds strict_id reading.0 values.0 × Choose reading.1 nothing values.1
Means (streams spelling) reading values = (values.0 ≡ reading.0) × AreIds spelling reading.1 values.1
Means (texts_after name) words list = list ≡ words
Means (barring names form) reading values = Means form reading values
