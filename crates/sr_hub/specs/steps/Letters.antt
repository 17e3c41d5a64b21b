-- Cited by private clauses alone: letters, which are the replies that records give to sessions that wait.

use Rattle.std.specs.Prelude.{ℕ, ◌-◌, Bool, true, false, List, [], ◌∷◌, ◌++◌, drop, map, if◌then◌else◌}
use Rattle.sr_resp.specs.{ReplyParts}
use Rattle.sr_book.specs.{BookState, Recorded}
use Rattle.sr_book.specs.Records.{kind_of}
use Rattle.sr_book.specs.declared.event.Kind.{Kind}
use Rattle.sr_book.specs.declared.event.Kind.TheVariants as kinds

-- a record of this gives replies to sessions that wait
abbrev pub gives_letters : Kind → Bool
gives_letters kinds.Join = false
gives_letters kinds.Call = false
gives_letters kinds.Board = false
gives_letters kinds.Snapshot = false
gives_letters kinds.Conclude = false
gives_letters kinds.Expire = true
gives_letters kinds.Leave = false
gives_letters kinds.Serve = true

abbrev pub sessions_of : List (ℕ × ReplyParts) → List ℕ
sessions_of replies = map (λ reply. reply.0) replies

-- the sessions to which a record gives letters, in order
abbrev pub lettered_in : Recorded → List ℕ
lettered_in recorded = if gives_letters (kind_of recorded.act) then sessions_of recorded.replies else []

-- those to which some records do, but for the first ones of the first record, this many
abbrev pub lettered_after : ℕ → List Recorded → List ℕ
lettered_after passed [] = []
lettered_after passed (recorded ∷ records) = drop passed (lettered_in recorded) ++ lettered_after 0 records

-- those whose letters were not looked at: of the records after the one with this index, but for the first ones, this
-- many
abbrev pub unseen : BookState → ℕ → ℕ → List ℕ
unseen book looked replies = lettered_after replies (drop (looked - book.base.index) book.records)
