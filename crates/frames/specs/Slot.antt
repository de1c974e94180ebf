-- The 48 bytes of a slot: a bit map of the fields that are not 0, those fields, and zeros.
use Rattle.std.specs.Prelude.{◌≡◌, ℕ, ◌+◌, ◌-◌, ◌*◌, ◌^◌, ◌<◌, cond, List, [], ◌∷◌, ◌++◌, length, replicate, Ok, Err, Result, ◌==◌, ◌≢◌}
use Rattle.std.specs.Simd.Lanes.{digits_l}
use Rattle.refusals.specs.declared.Refusal.{Refusal}
use Rattle.refusals.specs.declared.Refusal.TheVariants.{Malformed}
use Rattle.frames.specs.Fields.{FrameFields}

-- the fields in their order
abbrev pub field_list : FrameFields → List ℕ
field_list f = f.kind ∷ f.round ∷ f.leader ∷ f.count ∷ f.w1 ∷ f.w2 ∷ f.w3 ∷ f.w4 ∷ []

-- the bytes that each field takes
abbrev pub field_widths : List ℕ
field_widths = 1 ∷ 4 ∷ 1 ∷ 4 ∷ 8 ∷ 8 ∷ 8 ∷ 8 ∷ []

-- each field fits its bytes
abbrev pub Fits : List ℕ → List ℕ → Type 0
Fits [] [] = Unit {0}
Fits [] (v ∷ vs) = ⊥
Fits (w ∷ ws) [] = ⊥
Fits (w ∷ ws) (v ∷ vs) = (v < 256 ^ w) × Fits ws vs

-- bit 0, the lowest, for the first field; a bit stands exactly when its field is not 0
abbrev pub bit_map : List ℕ → ℕ
bit_map [] = 0
bit_map (v ∷ vs) = cond (v == 0) 0 1 + 2 * bit_map vs

-- the fields that stand, low byte first
abbrev pub standing : List ℕ → List ℕ → List ℕ
standing [] vs = []
standing (w ∷ ws) [] = []
standing (w ∷ ws) (v ∷ vs) = cond (v == 0) [] (digits_l 256 w v) ++ standing ws vs

-- the bit map, the fields that stand, and zeros up to 48 bytes
abbrev pub list_slot : List ℕ → List ℕ
list_slot vs = (bit_map vs ∷ standing field_widths vs) ++ replicate (47 - length (standing field_widths vs)) 0

abbrev pub slot_of : FrameFields → List ℕ
slot_of f = list_slot (field_list f)

-- what reading a slot's bytes gives: the fields whose slot they are, or there are none
abbrev pub ReadsFields : List ℕ → Result (List ℕ) Refusal → Type 0
ReadsFields bs (Ok vs) = (list_slot vs ≡ bs) × Fits field_widths vs
ReadsFields bs (Err e) = (e ≡ Malformed) × ((vs : List ℕ) → Fits field_widths vs → list_slot vs ≢ bs)
