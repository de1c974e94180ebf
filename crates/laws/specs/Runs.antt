-- A run: a list of calls from the opened state. Moment k is when its first k calls have been made; past its last call nothing happens.
use Rattle.std.specs.Prelude.{◌≡◌, ℕ, zero, suc, ◌+◌, ◌<◌, ◌≤◌, cond, ◌&&◌, List, [], ◌∷◌, ◌++◌, length, is_ok, Ok, ◌==◌, slice_index_or}
use Rattle.marks.specs.Kinds.{Epoch}
use Rattle.frames.specs.Fields.{Words, EntryFields}
use Rattle.protocol.specs.Rack.{Sizes, State, Reply, opened}
use Rattle.protocol.specs.Committing.{due_entries}
use Rattle.protocol.specs.Step.{step}
use Rattle.protocol.specs.declared.answer.Answer.TheVariants.{ForEpoch, Placed}
use Rattle.protocol.specs.declared.call.Call.{Call}
use Rattle.protocol.specs.declared.call.Call.TheVariants.{Timeout, Elect, Win, Submit, Ship, Take, Push, Look, Commit, Stop}

-- x stands at position p, counted from 0
abbrev pub ItemAt : List EntryFields → ℕ → EntryFields → Type 0
ItemAt xs p x = (p < length xs) × (slice_index_or xs p x ≡ x)

-- call k of a run, counted from 0
abbrev pub Happens : List Call → ℕ → Call → Type 0
Happens [] k call = ⊥
Happens (c ∷ cs) zero call = c ≡ call
Happens (c ∷ cs) (suc k) call = Happens cs k call

module _ {S : Type 0} (start : S) (apply : ℕ → Words → S → S) (z : Sizes) where
  abbrev pub reply_to : Call → State S → Reply
  reply_to c s = (step apply z c s).0

  abbrev pub after : Call → State S → State S
  after c s = (step apply z c s).1

  -- what a call delivers to a card: what its commit found due, if it was not refused
  abbrev pub delivered_by : Call → State S → ℕ → List EntryFields
  delivered_by (Timeout i) s card = []
  delivered_by (Elect i) s card = []
  delivered_by (Win i) s card = []
  delivered_by (Submit i queue payload) s card = []
  delivered_by (Ship i j) s card = []
  delivered_by (Take i j) s card = []
  delivered_by (Push i j kind) s card = []
  delivered_by (Look i j kind) s card = []
  delivered_by (Commit i) s card = cond (card == i && is_ok (reply_to (Commit i) s)) (due_entries (s.cards i) (s.logs i)) []
  delivered_by (Stop i) s card = []

  -- how many submits a call is that were not refused
  abbrev pub accepted_by : Call → State S → ℕ
  accepted_by (Timeout i) s = 0
  accepted_by (Elect i) s = 0
  accepted_by (Win i) s = 0
  accepted_by (Submit i queue payload) s = cond (is_ok (reply_to (Submit i queue payload) s)) 1 0
  accepted_by (Ship i j) s = 0
  accepted_by (Take i j) s = 0
  accepted_by (Push i j kind) s = 0
  accepted_by (Look i j kind) s = 0
  accepted_by (Commit i) s = 0
  accepted_by (Stop i) s = 0

  abbrev pub state_from : State S → List Call → ℕ → State S
  state_from s calls zero = s
  state_from s [] (suc k) = s
  state_from s (c ∷ cs) (suc k) = state_from (after c s) cs k

  abbrev pub delivered_from : State S → List Call → ℕ → ℕ → List EntryFields
  delivered_from s calls zero card = []
  delivered_from s [] (suc k) card = []
  delivered_from s (c ∷ cs) (suc k) card = delivered_by c s card ++ delivered_from (after c s) cs k card

  abbrev pub accepted_from : State S → List Call → ℕ → ℕ
  accepted_from s calls zero = 0
  accepted_from s [] (suc k) = 0
  accepted_from s (c ∷ cs) (suc k) = accepted_by c s + accepted_from (after c s) cs k

  -- the rack at moment k
  abbrev pub state_at : List Call → ℕ → State S
  state_at calls k = state_from (opened start) calls k

  -- a card's delivered list at moment k: what its commits have delivered since open, in order
  abbrev pub delivered_at : List Call → ℕ → ℕ → List EntryFields
  delivered_at calls k card = delivered_from (opened start) calls k card

  -- how many submits were accepted before moment k
  abbrev pub accepted_at : List Call → ℕ → ℕ
  accepted_at calls k = accepted_from (opened start) calls k

  -- call k is a win of the card that answers the epoch
  pub record Wins (calls : List Call) (k card : ℕ) (e : Epoch) : Type 0 where
    pub called : Happens calls k (Win card)
    pub answered : reply_to (Win card) (state_at calls k) ≡ Ok (ForEpoch e)

  -- call k is an accepted submit of the entry: the answer is its header
  pub record Submits (calls : List Call) (k : ℕ) (x : EntryFields) : Type 0 where
    pub card : ℕ
    pub called : Happens calls k (Submit card x.queue x.payload)
    pub answered : reply_to (Submit card x.queue x.payload) (state_at calls k) ≡ Ok (Placed x.header)

  -- call k delivers the item to the card, at this position of its delivered list
  pub record Delivers (calls : List Call) (k card position : ℕ) (x : EntryFields) : Type 0 where
    pub called : Happens calls k (Commit card)
    pub fresh : length (delivered_at calls k card) ≤ position
    pub item : ItemAt (delivered_at calls (suc k) card) position x
