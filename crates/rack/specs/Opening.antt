-- What open asks for, and what it hands over.
use Rattle.std.specs.Prelude.{◌≡◌, ℕ, ◌*◌, ◌≤◌, true, ◌||◌, List, map, length, Ok, Err, Result, ◌==◌}
use Rattle.refusals.specs.declared.Refusal.TheVariants.{WrongSize}
use Rattle.backplane.specs.Lanes.{Lanes, empty_lanes}
use Rattle.frames.specs.declared.entry.Entry.{Entry}
use Rattle.frames.specs.Fields.{Words, EntryFields}
use Rattle.machines.specs.Lone.{alone}
use Rattle.machines.specs.declared.runs.Item.{Item}
use Rattle.protocol.specs.Rack.{Sizes, opened}
use Rattle.protocol.specs.declared.call.Call.{Call}
use Rattle.laws.specs.Laws.{Agreement, Integrity, NoLostDelivery, Elections, Counts, CardRules}
use Rattle.laws.specs.Runs.{state_at, delivered_at}
use Rattle.rack.specs.Faults.{rack_refusal}
use Rattle.rack.specs.View.{view, sizes, machines_of}
use Rattle.rack.specs.declared.fault.RackFault.{RackFault}
use Rattle.rack.specs.declared.state.Rack.{Rack}

-- 3, 5 or 7 cards, 1 to 1024 places for each log, lists of the right lengths, an empty backplane of as many cards
pub record Fits (M : Type 0) (n places : ℕ) (entries : List Entry) (ms : List M) (count : ℕ) (lanes : Lanes) : Type 0 where
  pub size : (n == 3 || (n == 5 || n == 7)) ≡ true
  pub low : 1 ≤ places
  pub high : places ≤ 1024
  pub long : length entries ≡ n * places
  pub many : length ms ≡ n
  pub wide : count ≡ n
  pub quiet : lanes ≡ empty_lanes

module _ {M S : Type 0} (state : M → S) (initial : S) where
  -- the opened state where all fits; otherwise refused by 2, with the machines as they were
  abbrev pub Opening : ℕ → ℕ → List Entry → List M → List M → ℕ → ℕ → Lanes → Result Rack RackFault → Type 0
  Opening n places entries ms ms' count room lanes (Ok rack) =
      Fits M n places entries ms count lanes
      × (view rack entries (machines_of n state initial ms') lanes ≡ opened initial)
      × (sizes rack room ≡ record { cards = n; places = places; capacity = room })
  Opening n places entries ms ms' count room lanes (Err fault) =
      (rack_refusal fault ≡ WrongSize) × (Fits M n places entries ms count lanes → ⊥) × (ms' ≡ ms)

-- the laws of every list of calls
pub record Promises {S : Type 0} (start : S) (apply : ℕ → Words → S → S) (z : Sizes) : Type 0 where
  pub agreement : Agreement start apply z
  pub integrity : Integrity start apply z
  pub no_lost_delivery : NoLostDelivery start apply z
  pub elections : Elections start apply z
  pub counts : Counts start apply z
  pub card_rules : CardRules start apply z

-- what the lone machine is handed of an entry
abbrev pub item_of : EntryFields → Item
item_of e = record { queue = e.queue; words = e.payload }

-- at every moment of every run each card's machine stands as the lone machine that is handed the card's delivered list
abbrev pub StandsAlone : {S P : Type 0} → S → (ℕ → P → S → S) → (Words → P) → Sizes → Type 0
StandsAlone start applied unpacked z = (calls : List Call) (k i : ℕ) → (state_at start (λ q w. applied q (unpacked w)) z calls k).machines i ≡ alone start applied unpacked (map item_of (delivered_at start (λ q w. applied q (unpacked w)) z calls k i))
