-- A call that lends no machines leaves them, whatever their state is made of.
use Rattle.std.proofs.Common.{◌≡◌, ℕ, Bool, true, false, cond, length, refl, ap, ◌∙◌}
use Rattle.frames.specs.Fields.{Words}
use Rattle.protocol.specs.Rack.{Sizes, State, Reply, with_card, ask}
use Rattle.protocol.specs.Voting as voting
use Rattle.protocol.specs.Booking as booking
use Rattle.protocol.specs.Taking as taking
use Rattle.protocol.specs.Exchange as exchange
use Rattle.protocol.specs.declared.answer.Answer.TheVariants.{ForEpoch, Placed, Count, Done}
use Rattle.protocol.proofs.Asked.{ask_lifts}
use Rattle.rack.specs.View.{lent}
use Rattle.rack.proofs.Calls.{lent_fits}

-- the same state with machines
abbrev pub restored : {S : Type 0} → (ℕ → S) → State (Unit {0}) → State S
restored ms s = record { cards = s.cards; logs = s.logs; tally = s.tally; machines = ms; lanes = s.lanes }

-- what the caller is told, for what the call answered
pub told_as : {A : Type 0} (reply said : Reply) (x : A) {out : Reply × A} → reply ≡ said → (said, x) ≡ out → (reply, x) ≡ out
told_as reply said x e h = (λ k. (e k, x)) ∙ h

pub fitting : {S : Type 0} (missing fits : Bool) (x out : Reply × State S) (s : State S) → fits ≡ true → x ≡ lent missing fits out s → x ≡ out
fitting missing fits x out s e h = h ∙ lent_fits missing fits out s e

module _ {S : Type 0} (ms : ℕ → S) (z : Sizes) (s s' : State (Unit {0})) (reply : Reply) (i : ℕ) where
  pub lift_timeout : (reply, s') ≡ voting.timeout z i s → (reply, restored ms s') ≡ voting.timeout z i (restored ms s)
  lift_timeout e = ask_lifts (restored ms) (voting.timeout_checks z i s) (ForEpoch (voting.timeout_epoch z i (s.cards i))) (with_card i (voting.timed_out z i (s.cards i)) s) s s' reply e

  pub lift_elect : (reply, s') ≡ voting.elect z i s → (reply, restored ms s') ≡ voting.elect z i (restored ms s)
  lift_elect e = ask_lifts (restored ms) (voting.elect_checks z i s) (voting.elect_answer z i (s.cards i)) (with_card i (voting.elected z i (s.cards i)) s) s s' reply e

  pub lift_win : (reply, s') ≡ voting.win z i s → (reply, restored ms s') ≡ voting.win z i (restored ms s)
  lift_win e = ask_lifts (restored ms) (voting.win_checks z i s) (ForEpoch (s.cards i).newest) (with_card i (voting.won_by (s.cards i)) s) s s' reply e

  pub lift_stop : (reply, s') ≡ exchange.stop z i s → (reply, restored ms s') ≡ exchange.stop z i (restored ms s)
  lift_stop e = ask_lifts (restored ms) (exchange.stop_checks z i s) Done (with_card i (exchange.stopped_card (s.cards i)) s) s s' reply e

  pub lift_submit : (queue : ℕ) (payload : Words) → (reply, s') ≡ booking.submit z i queue payload s → (reply, restored ms s') ≡ booking.submit z i queue payload (restored ms s)
  lift_submit queue payload e = ask_lifts (restored ms) (booking.submit_checks z i queue s) (Placed (booking.place_after (s.cards i).accepted)) (booking.submitted i queue payload s) s s' reply e

  module _ (j : ℕ) where
    pub lift_ship : (reply, s') ≡ booking.ship z i j s → (reply, restored ms s') ≡ booking.ship z i j (restored ms s)
    lift_ship e = ask_lifts (restored ms) (booking.ship_checks z i j s) (Count (length (booking.shipment_to i j s))) (booking.shipped i j s) s s' reply e

    -- what take leaves differs by the epoch of what it took
    taken_same : restored ms (taking.taken i j s) ≡ taking.taken i j (restored ms s)
    taken_same = by (taking.too_low (s.cards i) (taking.front (s.lanes j i 0)))
      where
        by : (b : Bool) → restored ms (cond b (taking.passed_over i j s) (taking.entered i j s)) ≡ cond b (taking.passed_over i j (restored ms s)) (taking.entered i j (restored ms s))
        by true = refl
        by false = refl

    pub lift_take : (reply, s') ≡ taking.take_call z i j s → (reply, restored ms s') ≡ taking.take_call z i j (restored ms s)
    lift_take e =
        ask_lifts (restored ms) (taking.take_checks z i j s) (taking.take_answer (s.cards i) (taking.front (s.lanes j i 0))) (taking.taken i j s) s s' reply e
        ∙ ap (λ t. ask (taking.take_checks z i j s) (taking.take_answer (s.cards i) (taking.front (s.lanes j i 0))) t (restored ms s)) taken_same

    pub lift_push : (kind : ℕ) → (reply, s') ≡ exchange.push z i j kind s → (reply, restored ms s') ≡ exchange.push z i j kind (restored ms s)
    lift_push kind e = ask_lifts (restored ms) (exchange.push_checks z i j kind s) Done (exchange.pushed i j kind s) s s' reply e

    pub lift_look : (kind : ℕ) → (reply, s') ≡ exchange.look z i j kind s → (reply, restored ms s') ≡ exchange.look z i j kind (restored ms s)
    lift_look kind e = ask_lifts (restored ms) (exchange.look_checks z i j kind s) Done (exchange.looked i j kind s) s s' reply e
