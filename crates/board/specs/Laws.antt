-- What the board promises to those who book.
use Rattle.std.specs.Prelude.{◌≡◌, ℕ, ◌⊎◌, List, [], ◌∷◌, ◌++◌, Some, None}
use Rattle.machines.specs.Lone.{alone}
use Rattle.machines.specs.declared.runs.Item.{Item}
use Rattle.board.specs.Bookings.{Payload, unpacked}
use Rattle.board.specs.Loads.{holder_of, all_open, acted}
use Rattle.board.specs.declared.bookings.Act.TheVariants.{Release}

-- a load is never held by two carriers
abbrev pub OneHolder : Type 0
OneHolder = (holders : List ℕ) (load a b : ℕ) → holder_of holders load ≡ Some a → holder_of holders load ≡ Some b → a ≡ b

-- this payload is this carrier's release of this load
abbrev pub Releases : Payload → ℕ → ℕ → Type 0
Releases None load carrier = ⊥
Releases (Some b) load carrier = (b.act ≡ Release) × (b.load ≡ load) × (b.carrier ≡ carrier)

-- a load that is held changes hands only through a release by its holder
abbrev pub HeldUntilReleased : Type 0
HeldUntilReleased =
    (queue : ℕ) (payload : Payload) (holders : List ℕ) (load carrier : ℕ)
    → holder_of holders load ≡ Some carrier
    → (holder_of (acted queue payload holders) load ≡ Some carrier) ⊎ Releases payload load carrier

-- some item of the list unpacks to this carrier's release of this load
abbrev pub ReleasedAmong : List Item → ℕ → ℕ → Type 0
ReleasedAmong [] load carrier = ⊥
ReleasedAmong (i ∷ is) load carrier = Releases (unpacked i.words) load carrier ⊎ ReleasedAmong is load carrier

-- the same over every run of the lone board, cut at any place
abbrev pub HeldThroughRuns : Type 0
HeldThroughRuns =
    (before later : List Item) (load carrier : ℕ)
    → holder_of (alone all_open acted unpacked before) load ≡ Some carrier
    → (holder_of (alone all_open acted unpacked (before ++ later)) load ≡ Some carrier) ⊎ ReleasedAmong later load carrier
