-- The options of the command line: how each is written, and what they say together.
-- Source: docs/COMMANDS.md.

use Rattle.std.specs.Prelude.{◌≡◌, ◌++◌, ℕ, Bool, false, List, [], ◌∷◌, codes, ⊤, Option, find, is_some, option_map}
use Rattle.std.specs.Str.{bytes_eq}
use Rattle.sr_options.specs.declared.options.Options.{Options}

-- an option, with its value
pub data Flag : Type 0 where
  stdio : Flag
  listen : List ℕ → Flag
  policy : List ℕ → Flag
  workers : List ℕ → Flag
  keep : List ℕ → Flag
  connections : List ℕ → Flag
  idle : List ℕ → Flag
  unfinished : List ℕ → Flag
  keep_bytes : List ℕ → Flag
  idle_waiting : List ℕ → Flag

abbrev pub name_of : Flag → List ℕ
name_of stdio = codes "stdio"
name_of (listen address) = codes "listen"
name_of (policy path) = codes "policy"
name_of (workers number) = codes "workers"
name_of (keep number) = codes "keep"
name_of (connections number) = codes "connections"
name_of (idle seconds) = codes "idle"
name_of (unfinished bytes) = codes "unfinished"
name_of (keep_bytes bytes) = codes "keep-bytes"
name_of (idle_waiting seconds) = codes "idle-waiting"

abbrev pub value_of : Flag → List ℕ
value_of stdio = codes "true"
value_of (listen address) = address
value_of (policy path) = path
value_of (workers number) = number
value_of (keep number) = number
value_of (connections number) = number
value_of (idle seconds) = seconds
value_of (unfinished bytes) = bytes
value_of (keep_bytes bytes) = bytes
value_of (idle_waiting seconds) = seconds

-- how it is written, in one word
abbrev pub word_of : Flag → List ℕ
word_of stdio = codes "--stdio"
word_of (listen address) = codes "--listen=" ++ address
word_of (policy path) = codes "--policy=" ++ path
word_of (workers number) = codes "--workers=" ++ number
word_of (keep number) = codes "--keep=" ++ number
word_of (connections number) = codes "--connections=" ++ number
word_of (idle seconds) = codes "--idle=" ++ seconds
word_of (unfinished bytes) = codes "--unfinished=" ++ bytes
word_of (keep_bytes bytes) = codes "--keep-bytes=" ++ bytes
word_of (idle_waiting seconds) = codes "--idle-waiting=" ++ seconds

abbrev pub has_name : List ℕ → Flag → Bool
has_name name flag = bytes_eq (name_of flag) name

-- the value of the option of this name, if it is there
abbrev pub value_in : List Flag → List ℕ → Option (List ℕ)
value_in flags name = option_map value_of (find (has_name name) flags)

abbrev pub is_given : List Flag → List ℕ → Bool
is_given flags name = is_some (value_in flags name)

-- no option is there twice
abbrev pub AreOnce : List Flag → Type 0
AreOnce [] = ⊤
AreOnce (flag ∷ rest) = (is_given rest (name_of flag) ≡ false) × AreOnce rest

-- what options say together, in whatever order they stand
pub record Asked : Type 0 where
  pub stdio : Bool
  pub listen : Option (List ℕ)
  pub policy : Option (List ℕ)
  pub workers : Option (List ℕ)
  pub keep : Option (List ℕ)
  pub connections : Option (List ℕ)
  pub idle : Option (List ℕ)
  pub unfinished : Option (List ℕ)
  pub keep_bytes : Option (List ℕ)
  pub idle_waiting : Option (List ℕ)

abbrev pub asked_by : List Flag → Asked
asked_by flags = record {
  stdio = is_given flags (codes "stdio");
  listen = value_in flags (codes "listen");
  policy = value_in flags (codes "policy");
  workers = value_in flags (codes "workers");
  keep = value_in flags (codes "keep");
  connections = value_in flags (codes "connections");
  idle = value_in flags (codes "idle");
  unfinished = value_in flags (codes "unfinished");
  keep_bytes = value_in flags (codes "keep-bytes");
  idle_waiting = value_in flags (codes "idle-waiting");
}

abbrev pub asked_of : Options → Asked
asked_of options = record {
  stdio = options.stdio;
  listen = option_map (λ text. text.now) options.listen;
  policy = option_map (λ text. text.now) options.policy;
  workers = option_map (λ text. text.now) options.workers;
  keep = option_map (λ text. text.now) options.keep;
  connections = option_map (λ text. text.now) options.connections;
  idle = option_map (λ text. text.now) options.idle;
  unfinished = option_map (λ text. text.now) options.unfinished;
  keep_bytes = option_map (λ text. text.now) options.keep_bytes;
  idle_waiting = option_map (λ text. text.now) options.idle_waiting;
}
