-- The least epoch that a card leads above a given one.
use Rattle.std.specs.Prelude.{◌≡◌, ℕ, ◌+◌, true, cond, Ok, Err, Result, nat_lt}
use Rattle.refusals.specs.declared.Refusal.{Refusal}
use Rattle.refusals.specs.declared.Refusal.TheVariants.{NoSuchCard, UsedUp}
use Rattle.marks.specs.Kinds.{Epoch, is_card, is_led_epoch}
use Rattle.marks.specs.Order.{epoch_below, epoch_up_to}

-- the same round if the card comes after its leader, else the next round, if there is one
abbrev pub least_epoch : ℕ → Epoch → Result Epoch Refusal
least_epoch card above = cond (is_card card) (cond (nat_lt above.1 card) (Ok (above.0, card)) (cond (nat_lt above.0 4294967295) (Ok (above.0 + 1, card)) (Err UsedUp))) (Err NoSuchCard)

-- an epoch of this card above that one
pub record LedAbove (card : ℕ) (above e : Epoch) : Type 0 where
  pub led : e.1 ≡ card
  pub well : is_led_epoch e ≡ true
  pub later : epoch_below above e ≡ true

-- what the answer means: the least of all such epochs, or there is none
abbrev pub LeastLedAbove : ℕ → Epoch → Result Epoch Refusal → Type 0
LeastLedAbove card above (Ok e) = LedAbove card above e × ((other : Epoch) → LedAbove card above other → epoch_up_to e other ≡ true)
LeastLedAbove card above (Err f) = ((other : Epoch) → LedAbove card above other → ⊥) × (f ≡ cond (is_card card) UsedUp NoSuchCard)
