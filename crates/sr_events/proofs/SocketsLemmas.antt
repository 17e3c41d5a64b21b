-- A connection that comes after all who have a turn.
use Rattle.std.proofs.Common.{◌≡◌, ◌⊎◌, inl, inr, ℕ, Option, Some, None, [], subst, sym}
use Rattle.std.specs.Prelude.{IfSome}
use Rattle.sr_hub.specs.declared.sockets.Heard.{Heard}
use Rattle.sr_hub.specs.declared.sockets.Heard.TheVariants as heard
use Rattle.sr_events.specs.Sockets.{HasCome, SocketsState, Tells}

pub comer_told : (room : ℕ) (old new : SocketsState) (told : Option Heard)
    → IfSome told (λ one. (one ≡ heard.End) ⊎ ((one ≡ heard.Came) × HasCome new))
    → (new.kept.left ≡ 0) ⊎ (new.kept.turns.tokens ≡ []) → IfSome told (λ one. Tells room old one new)
comer_told room old new None came none = tt
comer_told room old new (Some one) (inl end) none = subst (λ (x : Heard). Tells room old x new) (sym end) tt
comer_told room old new (Some one) (inr came) none =
    subst (λ (x : Heard). Tells room old x new) (sym came.0) (came.1, none)
