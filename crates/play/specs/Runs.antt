-- What play answers and leaves, and what holds of the lists that it leaves.
use Rattle.std.specs.Prelude.{◌≡◌, ℕ, zero, suc, ◌≤◌, Bool, true, false, ◌&&◌, ◌⊎◌, List, [], ◌∷◌, map, length, Ok, Err, Result, ◌==◌}
use Rattle.refusals.specs.declared.Refusal.TheVariants.{WrongSize}
use Rattle.frames.specs.declared.entry.Entry.{Entry}
use Rattle.frames.specs.Fields.{Words, EntryFields}
use Rattle.machines.specs.Lone.{alone}
use Rattle.marks.specs.Kinds.{Epoch}
use Rattle.marks.specs.Order.{epoch_below}
use Rattle.protocol.specs.Rack.{Sizes, State, Reply}
use Rattle.protocol.specs.Committing.{reading}
use Rattle.protocol.specs.declared.call.Call.{Call}
use Rattle.laws.specs.Laws.{Begins}
use Rattle.laws.specs.Runs.{ItemAt, reply_to, after, state_from, state_at, delivered_at, accepted_at, Submits, Wins, Delivers}
use Rattle.rack.specs.Faults.{rack_refusal}
use Rattle.rack.specs.Opening.{item_of}
use Rattle.rack.specs.View.{entries_fit, machines_fit, cards_fit}
use Rattle.rack.specs.declared.fault.RackFault.{RackFault}
use Rattle.rack.specs.declared.state.Rack.{Rack}

-- the replies to the first k calls of a run from a state
abbrev pub replies_from : {S : Type 0} → S → (ℕ → Words → S → S) → Sizes → State S → List Call → ℕ → List Reply
replies_from start apply z s calls zero = []
replies_from start apply z s [] (suc k) = []
replies_from start apply z s (c ∷ cs) (suc k) = reply_to start apply z c s ∷ replies_from start apply z (after start apply z c s) cs k

-- a place for each reply, and memory of the rack's sizes
abbrev pub play_fits : {M : Type 0} → Rack → List Entry → List M → ℕ → List Call → List Reply → Bool
play_fits r entries ms count calls replies = entries_fit r entries && (machines_fit r ms && (cards_fit r count && length replies == length calls))

-- every call's reply and the state after all of them; where a size does not fit, a refusal by 2, and all as it was
abbrev pub Played : {S : Type 0} → S → (ℕ → Words → S → S) → Sizes → Bool → List Call → State S → State S → List Reply → List Reply → Result (Unit {0}) RackFault → Type 0
Played start apply z fits calls s s' replies replies' (Ok _) =
    (fits ≡ true) × (s' ≡ state_from start apply z s calls (length calls)) × (replies' ≡ replies_from start apply z s calls (length calls))
Played start apply z fits calls s s' replies replies' (Err fault) =
    (rack_refusal fault ≡ WrongSize) × (fits ≡ false) × (s' ≡ s) × (replies' ≡ replies)

-- what holds of the lists that a run from open has left
module _ {S P : Type 0} (start : S) (applied : ℕ → P → S → S) (unpacked : Words → P) (z : Sizes) (calls : List Call) where
  abbrev apply : ℕ → Words → S → S
  apply queue words = applied queue (unpacked words)

  pub record Holds (s : State S) : Type 0 where
    -- of two cards' lists one is the beginning of the other
    pub agree : (i j : ℕ) → Begins (reading s i) (reading s j) ⊎ Begins (reading s j) (reading s i)
    -- a list is what the card's commits delivered, and begins with what they had delivered at any moment before
    pub read : (i : ℕ) → reading s i ≡ delivered_at start apply z calls (length calls) i
    pub grown : (k i : ℕ) → k ≤ length calls → Begins (delivered_at start apply z calls k i) (reading s i)
    -- each item is an accepted submit of the run, and comes once
    pub submitted : (i p : ℕ) (x : EntryFields) → ItemAt (reading s i) p x → (l : ℕ) × Submits start apply z calls l x
    pub once : (i p q : ℕ) (x y : EntryFields) → ItemAt (reading s i) p x → ItemAt (reading s i) q y → x.header ≡ y.header → p ≡ q
    -- each machine stands as the lone machine that is handed its card's list
    pub machine : (i : ℕ) → s.machines i ≡ alone start applied unpacked (map item_of (reading s i))
    -- what was delivered in an epoch stands at its place in the log of each winner of a later one
    pub kept : (k l i j p : ℕ) (x : EntryFields) (e : Epoch) → Delivers start apply z calls k i p x → Wins start apply z calls l j e → epoch_below ((state_at start apply z calls k).cards i).current e ≡ true → ItemAt ((state_at start apply z calls (suc l)).logs j) p x
    -- the tally is the number of accepted submits
    pub tally : s.tally ≡ accepted_at start apply z calls (length calls)

  -- the state is the one that these calls lead to from open
  pub record Reached (s : State S) : Type 0 where
    pub state : s ≡ state_at start apply z calls (length calls)
    pub holds : Holds s
