-- What comes of a server for connections: it ends with a fault, at the latest when no further connection can be
-- accepted.

use Rattle.std.specs.Prelude.{◌≡◌, ◌++◌, ℕ, Bool, false, IsTrue, true, List, [], ◌⊎◌, codes, Option, Result, Ok, Err}
use Rattle.std.specs.declared.net.socket_addr.SocketAddr.{SocketAddr}
use Rattle.sr_book.specs.{BookState}
use Rattle.sr_book.specs.Records.{empty_book}
use Rattle.sr_options.specs.declared.way.Way.{Way}
use Rattle.sr_policy.specs.Rules.{Rules}
use Rattle.sr_start.specs.Files.{HasFiles}
use Rattle.sr_start.specs.Policy.{Loads}
use Rattle.sr_start.specs.declared.fault.Fault.{Fault}
use Rattle.sr_start.specs.declared.fault.Fault.TheVariants as faults
use Rattle.sr_start.specs.declared.network.ListenFault.{ListenFault}
use Rattle.sr_start.specs.declared.network.ListenFault.TheVariants as listens
use Rattle.sr_start.specs.declared.serving.ServeFault.{ServeFault}
use Rattle.sr_start.specs.declared.serving.ServeFault.TheVariants as serves

-- what the program says of an address that it cannot listen at
abbrev pub fault_of_listening : ListenFault → Fault
fault_of_listening listens.Bind = faults.Bind
fault_of_listening listens.Memory = faults.StartMemory

-- what the program says when serving came to its end
abbrev pub fault_of_serving : ServeFault → Fault
fault_of_serving serves.Accept = faults.Accept
fault_of_serving serves.Memory = faults.StartMemory
fault_of_serving serves.Thread = faults.NoThread

-- the book that the program starts with, or why it has none
abbrev pub Opens : (List ℕ → Option (List ℕ) → Bool) → Option (List ℕ) → Result BookState Fault → Type 0
Opens may_hold policy (Ok book) = (rules : Rules) × Loads may_hold policy (Ok rules) × (book ≡ empty_book rules)
Opens may_hold policy (Err fault) = (fault ≡ faults.NoRandomSource) ⊎ Loads may_hold policy (Err fault)

-- the line that tells where the program listens
abbrev pub line_of : List ℕ → List ℕ
line_of text = codes "listening on " ++ text ++ codes "\n"

-- the program serves the connections that come to an address, from an empty book with the rules of its policy, until
-- that ends; or it does not come to that, since it cannot begin, bind or open, and writes nothing. It has the files
-- that its connections need, unless it ended before that was asked. The line is written whole, unless a write failed
pub data Listens (may_hold : List ℕ → Option (List ℕ) → Bool) (may_open : Option ℕ → Bool)
    (may_refuse : SocketAddr → ListenFault → Bool)
    (may_not_begin may_end : SocketAddr → Way → Option ℕ → BookState → ServeFault → Bool)
    (policy : Option (List ℕ)) (text : List ℕ)
    (address : SocketAddr) (way : Way) (keep : Option ℕ) (written : List ℕ) (failed : Bool)
    (fault : Fault) : Type 0 where
  ends : (rules : Rules) (end : ServeFault) → HasFiles may_open way → Loads may_hold policy (Ok rules)
      → IsTrue (may_end address way keep (empty_book rules) end) → (failed ≡ false → written ≡ line_of text)
      → fault ≡ fault_of_serving end
      → Listens may_hold may_open may_refuse may_not_begin may_end policy text address way keep written failed fault
  begins_not : (rules : Rules) (end : ServeFault) → HasFiles may_open way → Loads may_hold policy (Ok rules)
      → IsTrue (may_not_begin address way keep (empty_book rules) end) → written ≡ [] → fault ≡ fault_of_serving end
      → Listens may_hold may_open may_refuse may_not_begin may_end policy text address way keep written failed fault
  binds_not : (rules : Rules) (refused : ListenFault) → HasFiles may_open way → Loads may_hold policy (Ok rules)
      → IsTrue (may_refuse address refused)
      → written ≡ [] → fault ≡ fault_of_listening refused
      → Listens may_hold may_open may_refuse may_not_begin may_end policy text address way keep written failed fault
  opens_not : HasFiles may_open way → Opens may_hold policy (Err fault) → written ≡ []
      → Listens may_hold may_open may_refuse may_not_begin may_end policy text address way keep written failed fault
  starts_not : fault ≡ faults.StartMemory → written ≡ []
      → Listens may_hold may_open may_refuse may_not_begin may_end policy text address way keep written failed fault

-- the process may be allowed to open any number of files; the system's network may refuse any address, and end in any
-- way
abbrev pub any_files : Option ℕ → Bool
any_files most = true

abbrev pub any_refusal : SocketAddr → ListenFault → Bool
any_refusal address refused = true

abbrev pub any_end : SocketAddr → Way → Option ℕ → BookState → ServeFault → Bool
any_end address way keep book end = true
