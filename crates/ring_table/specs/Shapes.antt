-- Which sizes a backplane may have.
use Rattle.std.specs.Prelude.{◌≡◌, ℕ, ◌*◌, Bool, true, false, ◌&&◌, ◌||◌, Ok, Err, Result, ◌==◌, nat_le}
use Rattle.refusals.specs.declared.Refusal.{Refusal}
use Rattle.refusals.specs.declared.Refusal.TheVariants.{WrongSize}
use Rattle.ring_table.specs.declared.shape.Shape.{Shape}

-- n cards, and c frames in a lane
abbrev pub is_shape : ℕ → ℕ → Bool
is_shape n c = (n == 3 || (n == 5 || n == 7)) && (nat_le 1 c && nat_le c 2048)

abbrev pub ShapeOf : ℕ → ℕ → Result Shape Refusal → Type 0
ShapeOf n c (Ok s) = (is_shape n c ≡ true) × (s.cards ≡ n) × (s.room ≡ c)
ShapeOf n c (Err e) = (is_shape n c ≡ false) × (e ≡ WrongSize)

-- the slots of all lanes
abbrev pub slots_of : ℕ → ℕ → ℕ
slots_of n c = n * n * 4 * c
