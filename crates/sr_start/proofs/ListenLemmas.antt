-- What was written once the program listens, and how serving may end.
use Rattle.std.proofs.Common.{◌≡◌, ◌∙◌, sym, subst, refl, ℕ, List, Bool, true, false, true≢false, Option, Result, Ok, Err, OnOk, OnErr, IsTrue}
use Rattle.std.specs.Io.KnownBytes.{Appends}
use Rattle.std.specs.declared.net.socket_addr.SocketAddr.{SocketAddr}
use Rattle.sr_book.specs.{BookState}
use Rattle.sr_options.specs.declared.way.Way.{Way}
use Rattle.sr_start.specs.declared.serving.ServeFault.{ServeFault}

-- the line is written whole, or a write failed
pub said_unless_failed : {T E : Type 0} (sent : Result T E) (old new : Option (List ℕ)) (line : List ℕ) (failed : Bool)
    → OnOk sent (Appends old new line) → OnErr sent ((written : List ℕ) × Appends old new written) → OnErr sent (failed ≡ true)
    → (written : List ℕ) × Appends old new written × (failed ≡ false → written ≡ line)
said_unless_failed (Ok done) old new line failed ok err fails = (line, ok, λ sound. refl)
said_unless_failed (Err fault) old new line failed ok err fails =
    (err.0, err.1, λ sound. absurd (true≢false (sym fails ∙ sound)))

-- it was begun with the address, the way and the records that were asked for, and with the opened book
pub may_end_so : (may_end : SocketAddr → Way → Option ℕ → BookState → ServeFault → Bool) (begun address : SocketAddr)
    (found way : Way) (kept keep : Option ℕ) (book opened : BookState) (end : ServeFault)
    → begun ≡ address → found ≡ way → kept ≡ keep → book ≡ opened
    → IsTrue (may_end begun found kept book end) → IsTrue (may_end address way keep opened end)
may_end_so may_end begun address found way kept keep book opened end same_address same_way same_keep same_book ends =
    subst (λ (at : SocketAddr). IsTrue (may_end at way keep opened end)) same_address
    (subst (λ (by : Way). IsTrue (may_end begun by keep opened end)) same_way
    (subst (λ (records : Option ℕ). IsTrue (may_end begun found records opened end)) same_keep
    (subst (λ (from : BookState). IsTrue (may_end begun found kept from end)) same_book ends)))
