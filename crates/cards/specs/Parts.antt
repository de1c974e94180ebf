-- What a call asks of its own card, and what it leaves of it: the card's part of the rack's definitions.
use Rattle.std.specs.Prelude.{ℕ, Bool, cond, not, ◌&&◌, ◌||◌, [], ◌∷◌, is_err, Ok, Err, Result, ◌==◌, nat_le}
use Rattle.refusals.specs.declared.Refusal.{Refusal}
use Rattle.marks.specs.Kinds.{epoch_of}
use Rattle.marks.specs.Order.{epoch_same}
use Rattle.frames.specs.declared.frame.Frame.{Frame}
use Rattle.frames.specs.Made.{frame_from}
use Rattle.protocol.specs.Booking.{place_after, accepted_up_to}
use Rattle.refusals.specs.declared.Refusal.TheVariants.{Stopped, WrongRole, NotElected, LogFull, UsedUp}
use Rattle.protocol.specs.Rack.{Sizes, Reply, ask, is_electing, is_leader}
use Rattle.protocol.specs.Voting.{standing_epoch, timeout_epoch, timed_out, stands, elected, elect_answer, is_elected, won_by}
use Rattle.protocol.specs.Exchange.{stopped_card, own_row}
use Rattle.protocol.specs.declared.answer.Answer.TheVariants.{ForEpoch, Placed, Done}
use Rattle.protocol.specs.declared.card.Card.{Card}
use Rattle.cards.specs.Sizes.{card_count}
use Rattle.cards.specs.declared.fault.CardFault.{CardFault}
use Rattle.cards.specs.declared.fault.CardFault.TheVariants as card
use Rattle.cards.specs.declared.size.RackSize.{RackSize}

-- sizes of which only the number of cards counts
abbrev pub of_cards : RackSize → Sizes
of_cards n = record { cards = card_count n; places = 0; capacity = 0 }

abbrev pub timeout_part : RackSize → ℕ → Card → Reply × Card
timeout_part n i c =
    ask ((c.stopped, Stopped) ∷ (is_err (standing_epoch (of_cards n) i c), UsedUp) ∷ [])
    (ForEpoch (timeout_epoch (of_cards n) i c)) (timed_out (of_cards n) i c) c

abbrev pub elect_part : RackSize → ℕ → Card → Reply × Card
elect_part n i c =
    ask ((c.stopped, Stopped) ∷ (not (is_electing c.role), WrongRole) ∷ (stands (of_cards n) i c && is_err (standing_epoch (of_cards n) i c), UsedUp) ∷ [])
    (elect_answer (of_cards n) i c) (elected (of_cards n) i c) c

abbrev pub win_part : RackSize → ℕ → Card → Reply × Card
win_part n i c =
    ask ((c.stopped, Stopped) ∷ (not (is_electing c.role), WrongRole) ∷ (not (is_elected (of_cards n) i c), NotElected) ∷ [])
    (ForEpoch c.newest) (won_by c) c

abbrev pub stop_part : Card → Reply × Card
stop_part c = ask ((c.stopped, Stopped) ∷ []) Done (stopped_card c) c

-- of whether the log is full, and of the tally
abbrev pub submit_part : Bool → ℕ → Card → Reply × Card
submit_part full tally c =
    ask ((c.stopped, Stopped) ∷ (not (is_leader c.role), WrongRole) ∷ (full, LogFull) ∷ (nat_le 4294967294 c.accepted.2 || nat_le 18446744073709551615 tally, UsedUp) ∷ [])
    (Placed (place_after c.accepted)) (accepted_up_to (place_after c.accepted) c) c

-- a frame, or the card's word that there is none
abbrev pub framed : Result Frame Refusal → Result Frame CardFault
framed (Ok f) = Ok f
framed (Err e) = Err card.Malformed

abbrev pub row_part : ℕ → Card → Result Frame CardFault
row_part kind c =
    cond c.stopped (Err card.Stopped)
    (cond (kind == 6 && not (epoch_same (epoch_of c.committed) c.current)) (Err card.NothingDue)
    (framed (frame_from (own_row c kind))))
