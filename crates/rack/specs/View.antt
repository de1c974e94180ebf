-- What a rack and the memory that is lent to it mean.
use Rattle.std.specs.Prelude.{ℕ, ◌-◌, ◌*◌, Bool, cond, ◌||◌, List, [], map, length, take, drop, Err, ◌==◌, slice_index, slice_index_or}
use Rattle.refusals.specs.declared.Refusal.TheVariants.{WrongSize}
use Rattle.backplane.specs.Lanes.{Lanes, is_card}
use Rattle.frames.specs.declared.entry.Entry.{Entry}
use Rattle.frames.specs.Fields.{EntryFields}
use Rattle.protocol.specs.Rack.{Sizes, State, Reply, opened_card}
use Rattle.logs.specs.Log.{log_of}
use Rattle.cards.specs.LaneViews.{lane_fields}
use Rattle.cards.specs.Sizes.{card_count}
use Rattle.rack.specs.Seats.{cards_in, used_in}
use Rattle.rack.specs.declared.state.Rack.{Rack}

-- what a card number names, and what there is where it names none
abbrev pub by_card : {A : Type 0} → ℕ → A → List A → ℕ → A
by_card n none xs i = cond (is_card n i) (slice_index_or xs (i - 1) none) none

-- a card's part of the entries
abbrev pub part_of : ℕ → ℕ → List Entry → List Entry
part_of places i entries = take places (drop ((i - 1) * places) entries)

-- a card's log: the used front of its part
abbrev pub card_log : ℕ → List ℕ → List Entry → ℕ → List EntryFields
card_log places used entries i = log_of (part_of places i entries) (slice_index used (i - 1))

abbrev pub logs_of : ℕ → ℕ → List ℕ → List Entry → ℕ → List EntryFields
logs_of n places used entries i = cond (is_card n i) (card_log places used entries i) []

-- the states of the machines, in the order of their cards
abbrev pub machines_of : {M S : Type 0} → ℕ → (M → S) → S → List M → ℕ → S
machines_of n state initial ms = by_card n initial (map state ms)

abbrev pub view : {S : Type 0} → Rack → List Entry → (ℕ → S) → Lanes → State S
view r entries machines lanes = record {
  cards = by_card (card_count r.size) opened_card (cards_in r.seats);
  logs = logs_of (card_count r.size) r.places (used_in r.seats) entries;
  tally = r.tally;
  machines = machines;
  lanes = lane_fields lanes;
}

-- a rack's cards and places, and the capacity of the backplane that is lent to it
abbrev pub sizes : Rack → ℕ → Sizes
sizes r capacity = record { cards = card_count r.size; places = r.places; capacity = capacity }

-- entries of all logs, and a machine for each card
abbrev pub entries_fit : Rack → List Entry → Bool
entries_fit r entries = length entries == card_count r.size * r.places

abbrev pub machines_fit : {M : Type 0} → Rack → List M → Bool
machines_fit r ms = length ms == card_count r.size

-- a backplane of as many cards
abbrev pub cards_fit : Rack → ℕ → Bool
cards_fit r count = count == card_count r.size

-- lent memory of another size is refused by 2, once the card and peer are found
abbrev pub lent : {S : Type 0} → Bool → Bool → Reply × State S → State S → Reply × State S
lent missing fits done s = cond (missing || fits) done (Err WrongSize, s)
