-- A message's slot, byte by byte.
use Rattle.std.specs.Prelude.{◌≡◌, ◌∷◌, replicate}
use Rattle.frames.specs.Fields.{fields_of}
use Rattle.frames.specs.Slot.{slot_of}

-- message (0, 1, 1) of queue 4 with the payload words 2, 2147483148, 0
pub record SlotSample : Type 0 where
  pub message : slot_of (fields_of 1 (0, 1, 1) (4, 2, 2147483148, 0)) ≡ 0x7D ∷ 0x01 ∷ 0x01 ∷ 0x01 ∷ 0 ∷ 0 ∷ 0 ∷ 0x04 ∷ 0 ∷ 0 ∷ 0 ∷ 0 ∷ 0 ∷ 0 ∷ 0 ∷ 0x02 ∷ 0 ∷ 0 ∷ 0 ∷ 0 ∷ 0 ∷ 0 ∷ 0 ∷ 0x0C ∷ 0xFE ∷ 0xFF ∷ 0x7F ∷ 0 ∷ 0 ∷ 0 ∷ 0 ∷ replicate 17 0
