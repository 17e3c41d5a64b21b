-- The words of a command with streams after its options. No public clause cites this module.

use Rattle.std.specs.Prelude.{◌≡◌, List, [], ◌∷◌, ⊤}
use Rattle.sr_args.specs.declared.name.OptionSet.{OptionSet}
use Rattle.sr_args.specs.FormWord.{Word, IdForm, IdOf, Spells}
use Rattle.sr_args.specs.Options.{Written}
use Rattle.sr_args.specs.Form.{Form, options, grouped, streams, Reading}

-- the options of the set, STREAMS, keys and ids
abbrev pub streams_form : OptionSet → IdForm → Form
streams_form set spelling = options set (streams spelling)

abbrev pub streams_reading : (set : OptionSet) (spelling : IdForm) → List Written → (keys ids : List Word) →
    Reading (streams_form set spelling)
streams_reading set spelling written keys ids = (written, (keys, ids))

-- the options of the set, one of which names a group and a consumer, STREAMS, keys and ids
abbrev pub grouped_form : OptionSet → IdForm → Form
grouped_form set spelling = grouped set (streams spelling)

abbrev pub grouped_reading : (set : OptionSet) (spelling : IdForm) → List Written → (keys ids : List Word) →
    Reading (grouped_form set spelling)
grouped_reading set spelling written keys ids = (written, (keys, ids))

-- these are the streams with the first keys, each with what the word in its place spells
abbrev pub AreStreams : (spelling : IdForm) (keys words : List Word) → List (Word × IdOf spelling) → Type 0
AreStreams spelling keys [] [] = ⊤
AreStreams spelling keys [] (stream ∷ list) = ⊥
AreStreams spelling [] (word ∷ words) list = ⊥
AreStreams spelling (key ∷ keys) (word ∷ words) [] = ⊥
AreStreams spelling (key ∷ keys) (word ∷ words) (stream ∷ list) =
    (stream.0 ≡ key) × Spells spelling word stream.1 × AreStreams spelling keys words list
