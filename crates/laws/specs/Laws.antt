-- What holds of every run of a rack, whatever its calls, its sizes of logs and lanes, and its machine.
use Rattle.std.specs.Prelude.{◌≡◌, ℕ, suc, ◌≤◌, true, false, ◌⊎◌, List, [], ◌∷◌, ◌++◌}
use Rattle.std.specs.List.{AllByRecursion}
use Rattle.marks.specs.Kinds.{Epoch, epoch_of}
use Rattle.marks.specs.Order.{epoch_below, epoch_up_to, header_below, header_up_to}
use Rattle.frames.specs.Fields.{Words, EntryFields}
use Rattle.protocol.specs.Rack.{Sizes, is_electing}
use Rattle.protocol.specs.Committing.{reading, applied}
use Rattle.protocol.specs.declared.call.Call.{Call}
use Rattle.laws.specs.Runs.{ItemAt, state_at, delivered_at, accepted_at, Wins, Submits, Delivers}

-- a rack has 3, 5 or 7 cards
abbrev pub IsRack : Sizes → Type 0
IsRack z = (z.cards ≡ 3) ⊎ ((z.cards ≡ 5) ⊎ (z.cards ≡ 7))

-- xs is the beginning of ys
abbrev pub Begins : List EntryFields → List EntryFields → Type 0
Begins xs ys = (rest : List EntryFields) × (ys ≡ xs ++ rest)

-- each header above those before it
abbrev pub Rising : List EntryFields → Type 0
Rising [] = Unit {0}
Rising (x ∷ xs) = AllByRecursion (λ (y : EntryFields). header_below x.header y.header ≡ true) xs × Rising xs

module _ {S : Type 0} (start : S) (apply : ℕ → Words → S → S) (z : Sizes) where
  pub record Agreement : Type 0 where
    -- of any two delivered lists, of any cards at any moments, one is the beginning of the other
    pub one_order : (calls : List Call) (k l i j : ℕ) → Begins (delivered_at start apply z calls k i) (delivered_at start apply z calls l j) ⊎ Begins (delivered_at start apply z calls l j) (delivered_at start apply z calls k i)
    -- no card's list ever gets shorter
    pub only_grows : (calls : List Call) (k l i : ℕ) → k ≤ l → Begins (delivered_at start apply z calls k i) (delivered_at start apply z calls l i)
    -- a reading gives exactly what the card's commits delivered, in order
    pub read : (calls : List Call) (k i : ℕ) → reading (state_at start apply z calls k) i ≡ delivered_at start apply z calls k i

  pub record Integrity : Type 0 where
    -- each item is header, queue and payload of an accepted submit
    pub submitted : (calls : List Call) (k i p : ℕ) (x : EntryFields) → ItemAt (delivered_at start apply z calls k i) p x → (l : ℕ) × Submits start apply z calls l x
    -- no two accepted submits have one header
    pub own_header : (calls : List Call) (k l : ℕ) (x y : EntryFields) → Submits start apply z calls k x → Submits start apply z calls l y → x.header ≡ y.header → k ≡ l
    -- no list holds a header twice
    pub once : (calls : List Call) (k i p q : ℕ) (x y : EntryFields) → ItemAt (delivered_at start apply z calls k i) p x → ItemAt (delivered_at start apply z calls k i) q y → x.header ≡ y.header → p ≡ q
    -- a card's machine stands as a lone machine handed the card's list
    pub machine : (calls : List Call) (k i : ℕ) → (state_at start apply z calls k).machines i ≡ applied apply (delivered_at start apply z calls k i) start

  -- an item delivered by a card in an epoch stands at the same position in the log of each winner of a later epoch when it wins, be that before or after
  pub record NoLostDelivery : Type 0 where
    pub kept : (calls : List Call) (k l i j p : ℕ) (x : EntryFields) (e : Epoch) → Delivers start apply z calls k i p x → Wins start apply z calls l j e → epoch_below ((state_at start apply z calls k).cards i).current e ≡ true → ItemAt ((state_at start apply z calls (suc l)).logs j) p x

  pub record Elections : Type 0 where
    -- an epoch is won at most once, by the card that leads it
    pub once : (calls : List Call) (k l i j : ℕ) (e : Epoch) → Wins start apply z calls k i e → Wins start apply z calls l j e → k ≡ l
    pub led : (calls : List Call) (k i : ℕ) (e : Epoch) → Wins start apply z calls k i e → e.1 ≡ i

  pub record Counts : Type 0 where
    -- the tally is the number of accepted submits
    pub tally : (calls : List Call) (k : ℕ) → (state_at start apply z calls k).tally ≡ accepted_at start apply z calls k

  pub record CardRules : Type 0 where
    pub rising : (calls : List Call) (k i : ℕ) → Rising ((state_at start apply z calls k).logs i)
    pub newest_later : (calls : List Call) (k i : ℕ) → epoch_up_to ((state_at start apply z calls k).cards i).current ((state_at start apply z calls k).cards i).newest ≡ true
    pub newest_entered : (calls : List Call) (k i : ℕ) → is_electing ((state_at start apply z calls k).cards i).role ≡ false → ((state_at start apply z calls k).cards i).newest ≡ ((state_at start apply z calls k).cards i).current
    pub accepted_current : (calls : List Call) (k i : ℕ) → epoch_of ((state_at start apply z calls k).cards i).accepted ≡ ((state_at start apply z calls k).cards i).current
    pub next_current : (calls : List Call) (k i : ℕ) → epoch_of ((state_at start apply z calls k).cards i).next ≡ ((state_at start apply z calls k).cards i).current
    pub committed_accepted : (calls : List Call) (k i : ℕ) → header_up_to ((state_at start apply z calls k).cards i).committed ((state_at start apply z calls k).cards i).accepted ≡ true
