-- A card's own row, of a kind that is neither an accept row's nor a vote row's.
use Rattle.std.proofs.Common.{◌≡◌, ℕ, cond, eqb, sym, ap, ◌∙◌}
use Rattle.std.proofs.lemmas.Bool.{ne_eqb}
use Rattle.frames.specs.Carried.{vote_frame}
use Rattle.protocol.specs.Exchange.{header_frame, own_row}
use Rattle.protocol.specs.declared.card.Card.{Card}

pub own_other : (c : Card) (kind : ℕ) → (kind ≡ 5 → ⊥) → (kind ≡ 4 → ⊥) → header_frame kind c.committed ≡ own_row c kind
own_other c kind five four = sym (ap (λ b. cond b (vote_frame c.vote) (header_frame kind (cond (eqb kind 4) c.accepted c.committed))) (ne_eqb kind 5 five) ∙ ap (λ b. header_frame kind (cond b c.accepted c.committed)) (ne_eqb kind 4 four))
