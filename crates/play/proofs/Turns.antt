-- One call more of a run, and the rack's sizes from call to call.
use Rattle.std.proofs.Common.{◌≡◌, ℕ, zero, suc, ◌+◌, ◌*◌, ◌<◌, true, eqb, List, [], ◌∷◌, ◌++◌, length, get_or, take, set, sym, refl, ap, ◌∙◌, subst, add-one, arith}
use Rattle.std.proofs.lemmas.List.{take_more_set}
use Rattle.std.proofs.lemmas.Bool.{and_parts}
use Rattle.frames.specs.declared.entry.Entry.{Entry}
use Rattle.frames.specs.Fields.{Words}
use Rattle.protocol.specs.Rack.{Sizes, State, Reply}
use Rattle.protocol.specs.Step.{step}
use Rattle.protocol.specs.declared.call.Call.{Call}
use Rattle.laws.specs.Runs.{reply_to, after, state_from}
use Rattle.cards.specs.Sizes.{card_count}
use Rattle.rack.specs.View.{sizes, entries_fit, machines_fit, cards_fit}
use Rattle.rack.specs.declared.state.Rack.{Rack}
use Rattle.play.specs.Runs.{replies_from, play_fits}

module _ {S : Type 0} (start : S) (apply : ℕ → Words → S → S) (z : Sizes) (d : Call) where
  state_suc : (s : State S) (calls : List Call) (k : ℕ) → k < length calls → state_from start apply z s calls (suc k) ≡ after start apply z (get_or calls k d) (state_from start apply z s calls k)
  state_suc s [] k h = absurd (omega (arith, h))
  state_suc s (c ∷ cs) zero h = refl
  state_suc s (c ∷ cs) (suc k) h = state_suc (after start apply z c s) cs k (omega (arith, h))

  replies_suc : (s : State S) (calls : List Call) (k : ℕ) → k < length calls → replies_from start apply z s calls (suc k) ≡ replies_from start apply z s calls k ++ reply_to start apply z (get_or calls k d) (state_from start apply z s calls k) ∷ []
  replies_suc s [] k h = absurd (omega (arith, h))
  replies_suc s (c ∷ cs) zero h = refl
  replies_suc s (c ∷ cs) (suc k) h = ap (λ rs. reply_to start apply z c s ∷ rs) (replies_suc (after start apply z c s) cs k (omega (arith, h)))

  module _ (first : State S) (calls : List Call) (k : ℕ) (within : k < length calls) (s s' : State S) (reached : s ≡ state_from start apply z first calls k) (reply : Reply) (made : (reply, s') ≡ step apply z (get_or calls k d) s) where
    pub state_more : s' ≡ state_from start apply z first calls (k + 1)
    state_more =
        (λ t. (made t).1)
        ∙ ap (after start apply z (get_or calls k d)) reached
        ∙ sym (state_suc first calls k within)
        ∙ ap (state_from start apply z first calls) (sym (add-one k))

    pub replies_more : (replies : List Reply) → k < length replies → take k replies ≡ replies_from start apply z first calls k → take (k + 1) (set replies k reply) ≡ replies_from start apply z first calls (k + 1)
    replies_more replies room so_far =
        take_more_set replies k reply room
        ∙ (λ t. so_far t ++ ((λ u. (made u).0) ∙ ap (reply_to start apply z (get_or calls k d)) reached) t ∷ [])
        ∙ sym (replies_suc first calls k within)
        ∙ ap (replies_from start apply z first calls) (sym (add-one k))

module _ (r first : Rack) (same : sizes r 0 ≡ sizes first 0) where
  -- what holds at the sizes of the rack now holds at those it began with
  pub at_first : (F : ℕ → Sizes → Type 0) (room began : ℕ) → room ≡ began → F (card_count r.size) (sizes r room) → F (card_count first.size) (sizes first began)
  at_first F room began e h = subst (λ (z : Sizes). F z.cards z) (λ k. record { cards = (same k).cards; places = (same k).places; capacity = e k }) h

  pub entries_still : (xs ys : List Entry) → length xs ≡ length ys → entries_fit first ys ≡ true → entries_fit r xs ≡ true
  entries_still xs ys e h = (λ k. eqb (e k) ((same k).cards * (same k).places)) ∙ h

  pub machines_still : {M : Type 0} (ms ns : List M) → length ms ≡ length ns → machines_fit first ns ≡ true → machines_fit r ms ≡ true
  machines_still ms ns e h = (λ k. eqb (e k) (same k).cards) ∙ h

  pub cards_still : (count began : ℕ) → count ≡ began → cards_fit first began ≡ true → cards_fit r count ≡ true
  cards_still count began e h = (λ k. eqb (e k) (same k).cards) ∙ h

-- the parts of what fits
pub record AllFit {M : Type 0} (r : Rack) (entries : List Entry) (ms : List M) (count : ℕ) (calls : List Call) (replies : List Reply) : Type 0 where
  pub entries_fit_lem : entries_fit r entries ≡ true
  pub machines_fit_lem : machines_fit r ms ≡ true
  pub cards_fit_lem : cards_fit r count ≡ true
  pub replies_fit : eqb (length replies) (length calls) ≡ true

pub all_fit : {M : Type 0} (r : Rack) (entries : List Entry) (ms : List M) (count : ℕ) (calls : List Call) (replies : List Reply) → play_fits r entries ms count calls replies ≡ true → AllFit r entries ms count calls replies
all_fit r entries ms count calls replies e =
    let p = and_parts (entries_fit r entries) _ e in
    let q = and_parts (machines_fit r ms) _ p.1 in
    let t = and_parts (cards_fit r count) (eqb (length replies) (length calls)) q.1 in
    record { entries_fit_lem = p.0; machines_fit_lem = q.0; cards_fit_lem = t.0; replies_fit = t.1 }
