-- Calls with their replies, one after another: talks add up.
use Rattle.std.proofs.Common.{◌≡◌, ℕ, List, [], ◌∷◌, ◌++◌, Option, refl, sym, subst, ◌∙◌, append-nil}
use Rattle.std.proofs.lemmas.Grind.{flat_map-append}
use Rattle.std.proofs.KnownBytes.{Appends-nil, Appends-trans}
use Rattle.std.specs.Io.KnownBytes.{Appends}
use Rattle.std.specs.List.{flat_map}
use Rattle.sr_ids.specs.declared.id.Id.{Id}
use Rattle.sr_policy.specs.{Text}
use Rattle.sr_peer.specs.{Part, part_text, request_text}
use Rattle.sr_live.specs.declared.looked.Asked.{Asked}
use Rattle.sr_live.specs.declared.looked.Row.{Row}
use Rattle.sr_live.specs.Looking.{Exchange, IsLooked, LooksLive, LooksRows, Talks, answered_of, asked_of, stream_call}
use Rattle.sr_live.specs.Said.{SaysRemoved}

-- ---- talks

-- no call was made
pub Talks-none : (sent got : Option (List ℕ)) → Talks sent got sent got []
Talks-none sent got = record { asked = Appends-nil sent; answered = Appends-nil got }

-- calls, and then others
pub Talks-trans : (sent got sent_then got_then sent_last got_last : Option (List ℕ)) (first second : List Exchange)
    → Talks sent got sent_then got_then first → Talks sent_then got_then sent_last got_last second
    → Talks sent got sent_last got_last (first ++ second)
Talks-trans sent got sent_then got_then sent_last got_last first second before after = record {
  asked = subst (Appends sent sent_last)
      (sym (flat_map-append (λ (exchange : Exchange). request_text exchange.0) first second))
      (Appends-trans sent sent_then sent_last (asked_of first) (asked_of second) before.asked after.asked);
  answered = subst (Appends got got_last)
      (sym (flat_map-append (λ (exchange : Exchange). flat_map part_text exchange.1) first second))
      (Appends-trans got got_then got_last (answered_of first) (answered_of second) before.answered after.answered);
}

-- one call with its reply
pub Talks-one : (sent got sent_then got_then : Option (List ℕ)) (call : List Text) (parts : List Part)
    (request text : List ℕ) → request ≡ request_text call → text ≡ flat_map part_text parts
    → Appends sent sent_then request → Appends got got_then text
    → Talks sent got sent_then got_then ((call, parts) ∷ [])
Talks-one sent got sent_then got_then call parts request text is spelled asked answered = record {
  asked = subst (Appends sent sent_then) (is ∙ sym (append-nil (request_text call))) asked;
  answered = subst (Appends got got_then) (spelled ∙ sym (append-nil (flat_map part_text parts))) answered;
}

-- ---- the whole

-- how many were removed, the entries of the dead, and the consumers
pub looked-from : (sent got sent_two got_two sent_three got_three sent_last got_last : Option (List ℕ)) (asked : Asked)
    (at_most : Option ℕ) (idles numbers : List (Text × ℕ)) (rows : List Row) (last : Option Id) (removed : ℕ)
    → (parts : List Part) × Talks sent got sent_two got_two ((stream_call asked.key, parts) ∷ [])
    × SaysRemoved parts removed
    → (talk : List Exchange) × Talks sent_two got_two sent_three got_three talk
    × LooksRows asked.key asked.group asked.claimable asked.dead.items at_most talk rows last
    → (talk : List Exchange) × Talks sent_three got_three sent_last got_last talk
    × LooksLive asked.key asked.group asked.seen_within talk idles numbers
    → (talk : List Exchange) × Talks sent got sent_last got_last talk
    × IsLooked asked at_most talk idles numbers rows last removed
looked-from sent got sent_two got_two sent_three got_three sent_last got_last asked at_most idles numbers rows last removed
    (counts, one, says_removed) (looking, two, looks) (asking, three, live) =
    let first : Exchange = (stream_call asked.key, counts) in (
      first ∷ (looking ++ asking),
      Talks-trans sent got sent_two got_two sent_last got_last (first ∷ []) (looking ++ asking) one
          (Talks-trans sent_two got_two sent_three got_three sent_last got_last looking asking two three),
      record {
        counts = counts;
        looking = looking;
        asking = asking;
        looks = looks;
        says_removed = says_removed;
        live = live;
        spelled = refl;
      },
    )
