-- The cards of a rack and the used places of their logs, seat by seat.
use Rattle.std.specs.Prelude.{ℕ, List, map}
use Rattle.protocol.specs.Rack.{opened_card}
use Rattle.protocol.specs.declared.card.Card.{Card}
use Rattle.rack.specs.declared.seat.Seat.{Seat}

abbrev pub opened_seat : Seat
opened_seat = record { card = opened_card; used = 0 }

abbrev pub cards_in : List Seat → List Card
cards_in seats = map (λ (s : Seat). s.card) seats

abbrev pub used_in : List Seat → List ℕ
used_in seats = map (λ (s : Seat). s.used) seats
