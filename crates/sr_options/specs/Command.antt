-- What the options of the command line ask for: a session over standard input and output, or a server for connections.
-- Source: docs/COMMANDS.md.

use Rattle.std.specs.Prelude.{◌≡◌, ◌⊎◌, ℕ, List, true, false, Option, Some, None, is_some}
use Rattle.std.specs.Net.Grammar.{IsSocketText}
use Rattle.std.specs.declared.net.socket_addr.SocketAddr.{SocketAddr}
use Rattle.sr_options.specs.Numbers.{IsConnections, IsIdle, IsIdleWaiting, IsKeep, IsKeepBytes, IsUnfinished, IsWorkers}
use Rattle.sr_options.specs.Options.{Asked}
use Rattle.sr_options.specs.declared.command.UsageFault.{UsageFault}
use Rattle.sr_options.specs.declared.command.UsageFault.TheVariants as faults
use Rattle.sr_options.specs.declared.request.Request.{Request}
use Rattle.sr_options.specs.declared.request.Request.TheVariants as requests
use Rattle.sr_options.specs.declared.way.Way.{Way}
use Rattle.sr_options.specs.declared.way.Way.TheVariants as ways

-- the options ask for one session over standard input and output
pub record AsksForStdio (asked : Asked) : Type 0 where
  pub over_stdio : asked.stdio ≡ true
  pub alone : asked.listen ≡ None
  pub workers : (number : ℕ) × IsWorkers asked.workers number
  pub unkept : asked.keep ≡ None
  pub no_loop : asked.connections ≡ None
  pub no_pause : asked.idle ≡ None
  pub no_bound : asked.unfinished ≡ None
  pub no_bytes : asked.keep_bytes ≡ None
  pub no_wait : asked.idle_waiting ≡ None

-- the options ask to serve connections in this way: by workers, or by a loop, which only --connections asks for
abbrev pub IsWay : Asked → Way → Type 0
IsWay asked (ways.Workers working) = IsWorkers asked.workers working.workers × (asked.connections ≡ None)
    × (asked.idle ≡ None) × (asked.unfinished ≡ None) × IsKeepBytes asked.keep_bytes working.keep_bytes
    × (asked.idle_waiting ≡ None)
IsWay asked (ways.Loop looping) = (asked.workers ≡ None) × IsConnections asked.connections (Some looping.connections)
    × IsIdle asked.idle looping.idle × IsUnfinished asked.unfinished looping.unfinished
    × IsKeepBytes asked.keep_bytes looping.keep_bytes × IsIdleWaiting asked.idle_waiting looping.idle_waiting

-- the options ask to serve the connections that come to an address, which they write as this text
pub record AsksToListen (asked : Asked) (text : List ℕ) (address : SocketAddr) (way : Way) (keep : Option ℕ) : Type 0
  where
    pub given : asked.listen ≡ Some text
    pub alone : asked.stdio ≡ false
    pub spelled : IsSocketText text address
    pub served : IsWay asked way
    pub kept : IsKeep asked.keep keep
    pub with_keep : asked.keep ≡ None → asked.keep_bytes ≡ None

abbrev pub AsksForAddress : Asked → Type 0
AsksForAddress asked =
    (text : List ℕ) × (address : SocketAddr) × (way : Way) × (keep : Option ℕ)
    × AsksToListen asked text address way keep

-- the options ask for what the program takes them for
abbrev pub AsksFor : Asked → Request → Type 0
AsksFor asked requests.Stdio = AsksForStdio asked
AsksFor asked (requests.Listen listening) =
    AsksToListen asked listening.text.now listening.address listening.way listening.keep

-- the options ask for nothing that the program can do
pub record AsksForNothing (asked : Asked) : Type 0 where
  pub no_stdio : ¬ (AsksForStdio asked)
  pub no_address : ¬ (AsksForAddress asked)

-- the numbers that the program can do with
abbrev pub HasWorkers : Asked → Type 0
HasWorkers asked = (number : ℕ) × IsWorkers asked.workers number

abbrev pub HasKeep : Asked → Type 0
HasKeep asked = (keep : Option ℕ) × IsKeep asked.keep keep

abbrev pub HasConnections : Asked → Type 0
HasConnections asked = (connections : Option ℕ) × IsConnections asked.connections connections

abbrev pub HasIdle : Asked → Type 0
HasIdle asked = (idle : Option ℕ) × IsIdle asked.idle idle

abbrev pub HasUnfinished : Asked → Type 0
HasUnfinished asked = (number : ℕ) × IsUnfinished asked.unfinished number

abbrev pub HasKeepBytes : Asked → Type 0
HasKeepBytes asked = (number : ℕ) × IsKeepBytes asked.keep_bytes number

abbrev pub HasIdleWaiting : Asked → Type 0
HasIdleWaiting asked = (idle : Option ℕ) × IsIdleWaiting asked.idle_waiting idle

pub record AreNumbers (asked : Asked) : Type 0 where
  pub workers : HasWorkers asked
  pub keep : HasKeep asked
  pub connections : HasConnections asked
  pub idle : HasIdle asked
  pub unfinished : HasUnfinished asked
  pub keep_bytes : HasKeepBytes asked
  pub idle_waiting : HasIdleWaiting asked

-- each number is one that the program can do with, and either a session is asked for, or a server at an address
pub record IsReadable (asked : Asked) : Type 0 where
  pub numbers : AreNumbers asked
  pub mode : ((asked.stdio ≡ true) × (asked.listen ≡ None))
      ⊎ ((asked.stdio ≡ false)
      × ((text : List ℕ) × (address : SocketAddr) × (asked.listen ≡ Some text) × IsSocketText text address))

-- no loop is asked for, and no records are kept for one session
abbrev pub HasNoLoop : Asked → Type 0
HasNoLoop asked = IsReadable asked × ((asked.stdio ≡ false) ⊎ (asked.keep ≡ None)) × (asked.connections ≡ None)

-- a loop is asked for, beside neither a session nor workers
abbrev pub HasLoop : Asked → Type 0
HasLoop asked = IsReadable asked × (asked.stdio ≡ false) × (is_some asked.connections ≡ true) × (asked.workers ≡ None)

-- what is wrong first: a number, of the options in the order of the cases; then the address, and whether one thing is
-- asked for; then what does not go together: with a session, records that are kept, and a loop; with a loop, workers;
-- bytes of records, all of which are kept; and without one what it alone has, seconds and bytes of requests, then such
-- bytes of records, and then what it alone has too, seconds of a read that waits
abbrev pub IsFaultOf : Asked → UsageFault → Type 0
IsFaultOf asked faults.Workers = (number : ℕ) → ¬ (IsWorkers asked.workers number)
IsFaultOf asked faults.Keep = HasWorkers asked × ((keep : Option ℕ) → ¬ (IsKeep asked.keep keep))
IsFaultOf asked faults.Connections = HasWorkers asked × HasKeep asked
    × ((connections : Option ℕ) → ¬ (IsConnections asked.connections connections))
IsFaultOf asked faults.Idle = HasWorkers asked × HasKeep asked × HasConnections asked
    × ((idle : Option ℕ) → ¬ (IsIdle asked.idle idle))
IsFaultOf asked faults.Unfinished = HasWorkers asked × HasKeep asked × HasConnections asked × HasIdle asked
    × ((number : ℕ) → ¬ (IsUnfinished asked.unfinished number))
IsFaultOf asked faults.KeepBytes = HasWorkers asked × HasKeep asked × HasConnections asked × HasIdle asked
    × HasUnfinished asked × ((number : ℕ) → ¬ (IsKeepBytes asked.keep_bytes number))
IsFaultOf asked faults.IdleWaiting = HasWorkers asked × HasKeep asked × HasConnections asked × HasIdle asked
    × HasUnfinished asked × HasKeepBytes asked × ((idle : Option ℕ) → ¬ (IsIdleWaiting asked.idle_waiting idle))
IsFaultOf asked faults.Address = AreNumbers asked × (asked.stdio ≡ false)
    × ((text : List ℕ) × (asked.listen ≡ Some text) × ((address : SocketAddr) → ¬ (IsSocketText text address)))
IsFaultOf asked faults.Mode = AreNumbers asked × (asked.stdio ≡ is_some asked.listen)
IsFaultOf asked faults.KeepAlone = IsReadable asked × (asked.stdio ≡ true) × (is_some asked.keep ≡ true)
IsFaultOf asked faults.ConnectionsAlone = IsReadable asked × (asked.stdio ≡ true) × (asked.keep ≡ None)
    × (is_some asked.connections ≡ true)
IsFaultOf asked faults.ConnectionsBeside = IsReadable asked × (asked.stdio ≡ false)
    × (is_some asked.connections ≡ true) × (is_some asked.workers ≡ true)
IsFaultOf asked faults.IdleAlone = HasNoLoop asked × (is_some asked.idle ≡ true)
IsFaultOf asked faults.UnfinishedAlone = HasNoLoop asked × (asked.idle ≡ None) × (is_some asked.unfinished ≡ true)
IsFaultOf asked faults.KeepBytesAlone = (is_some asked.keep_bytes ≡ true) × (asked.keep ≡ None)
    × (HasLoop asked ⊎ (HasNoLoop asked × (asked.idle ≡ None) × (asked.unfinished ≡ None)))
IsFaultOf asked faults.IdleWaitingAlone = HasNoLoop asked × (asked.idle ≡ None) × (asked.unfinished ≡ None)
    × ((asked.keep ≡ None) → asked.keep_bytes ≡ None) × (is_some asked.idle_waiting ≡ true)
