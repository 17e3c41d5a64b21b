-- Which sessions wait for a key, as it is stored: a map from keys to queues of sessions. No public clause cites this.
use Rattle.std.specs.Prelude.{◌≡◌, ◌==◌, ℕ, Bool, cond, not, nat_eq, filter, map}
use Rattle.std.specs.Prelude.{List, [], ◌∷◌, ◌++◌, Option, Some, None}
use Rattle.std.specs.Cmp.Lexicographic.{pointwise}
use Rattle.std.specs.HashMap.{HashMap, get}
use Rattle.std.specs.Map.{keys_of}
use Rattle.sr_args.specs.{AreDifferent}
use Rattle.sr_waiters.specs.Queue.{QueueState}
use Rattle.sr_waiters.specs.Waiters.{Key, Waiting, asks, has_key, read_of}

-- a queue of sessions alone
abbrev pub Sessions : Type 0
Sessions = QueueState (Unit {0})

-- its sessions: none if there is no queue
abbrev pub sessions_in : Option Sessions → List ℕ
sessions_in None = []
sessions_in (Some sessions) = keys_of sessions.entries

-- the reads that ask the stream at a key, and their sessions, in the order of the reads
abbrev pub readers : Key → List Waiting → List Waiting
readers key list = filter (λ (read : Waiting). asks key read.call) list

abbrev pub asking : Key → List Waiting → List ℕ
asking key list = map (λ (read : Waiting). read.session) (readers key list)

-- the reads of sessions; one that does not wait is passed over
abbrev pub and_read : Option Waiting → List Waiting → List Waiting
and_read None reads = reads
and_read (Some read) reads = read ∷ reads

abbrev pub reads_of : List ℕ → List Waiting → List Waiting
reads_of [] list = []
reads_of (session ∷ sessions) list = and_read (read_of session list) (reads_of sessions list)

-- a list of sessions without one, and with it last
abbrev pub without : ℕ → List ℕ → List ℕ
without session sessions = filter (λ other. not (other == session)) sessions

abbrev pub with_session : ℕ → List ℕ → List ℕ
with_session session sessions = without session sessions ++ session ∷ []

-- what a change makes of the sessions of a key that is named, or is not
abbrev pub changed : (List ℕ → List ℕ) → Bool → List ℕ → List ℕ
changed change named sessions = cond named (change sessions) sessions

module _ {S : Type 0} where
  abbrev pub sessions_by : HashMap Key Sessions S → Key → List ℕ
  sessions_by index key = sessions_in (get (pointwise nat_eq) index key)

  -- each key has the sessions of the reads that ask its stream
  abbrev pub IsIndexed : HashMap Key Sessions S → List Waiting → Type 0
  IsIndexed index list = (key : Key) → sessions_by index key ≡ asking key list

  -- the sessions of one key become these; those of other keys stay
  abbrev pub Gives : Key → List ℕ → HashMap Key Sessions S → HashMap Key Sessions S → Type 0
  Gives key given old new =
      (other : Key) → sessions_by new other ≡ cond (pointwise nat_eq key other) given (sessions_by old other)

  -- a change is still to be made at the keys of these streams
  pub record Changes {X : Type 0} (change : List ℕ → List ℕ) (left : List (Key × X)) (goal : Key → List ℕ)
      (index : HashMap Key Sessions S) : Type 0 where
    pub sessions : (key : Key) → changed change (has_key key left) (sessions_by index key) ≡ goal key
    pub different : AreDifferent (map (λ stream. stream.0) left)

  -- an index has some of the reads, in their order, and these others are left
  pub record AreIndexed (index : HashMap Key Sessions S) (left all : List Waiting) : Type 0 where
    pub done : List Waiting
    pub joined : done ++ left ≡ all
    pub indexed : IsIndexed index done
