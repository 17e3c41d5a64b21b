-- How the consumers of a group are looked up: one call after another.
use Rattle.std.proofs.Common.{◌≡◌, ℕ, List, [], ◌∷◌, ◌++◌, Option, Some, None, refl, sym, subst}
use Rattle.sr_policy.specs.{Text}
use Rattle.sr_peer.specs.{Part}
use Rattle.sr_live.specs.Looking.{Exchange, LooksIdle, LooksLive, Talks, consumers_call, numbers_call}
use Rattle.sr_live.specs.Said.{SaysIdle, SaysNumbers}
use Rattle.sr_live.proofs.TalkLemmas.{Talks-none, Talks-trans}

-- idle times are asked for
pub idle-asked : (sent got sent_then got_then : Option (List ℕ)) (key group : Text) (within : Option ℕ) (most : ℕ)
    (idles : List (Text × ℕ)) → within ≡ Some most
    → (parts : List Part) × Talks sent got sent_then got_then ((consumers_call key group, parts) ∷ [])
    × SaysIdle parts idles
    → (talk : List Exchange) × Talks sent got sent_then got_then talk × LooksIdle key group within talk idles
idle-asked sent got sent_then got_then key group within most idles is (parts, talks, says) =
    let talk : List Exchange = (consumers_call key group, parts) ∷ [] in (
      talk,
      talks,
      subst (λ (w : Option ℕ). LooksIdle key group w talk idles) (sym is) (parts, says, refl),
    )

-- they are not
pub idle-unasked : (sent got : Option (List ℕ)) (key group : Text) (within : Option ℕ) (idles : List (Text × ℕ))
    → within ≡ None → idles ≡ []
    → (talk : List Exchange) × Talks sent got sent got talk × LooksIdle key group within talk idles
idle-unasked sent got key group within idles is none =
    ([], Talks-none sent got, subst (λ (w : Option ℕ). LooksIdle key group w [] idles) (sym is) (refl, none))

-- idle times, if they are asked for, and then the numbers
pub live-from : (sent got sent_then got_then sent_last got_last : Option (List ℕ)) (key group : Text)
    (within : Option ℕ) (idles numbers : List (Text × ℕ))
    → (talk : List Exchange) × Talks sent got sent_then got_then talk × LooksIdle key group within talk idles
    → (parts : List Part) × Talks sent_then got_then sent_last got_last ((numbers_call key group, parts) ∷ [])
    × SaysNumbers parts numbers
    → (talk : List Exchange) × Talks sent got sent_last got_last talk
    × LooksLive key group within talk idles numbers
live-from sent got sent_then got_then sent_last got_last key group within idles numbers (first, one, looks)
    (parts, two, says) =
    let last : List Exchange = (numbers_call key group, parts) ∷ [] in (
      first ++ last,
      Talks-trans sent got sent_then got_then sent_last got_last first last one two,
      record { first = first; parts = parts; looks = looks; says = says; spelled = refl },
    )
