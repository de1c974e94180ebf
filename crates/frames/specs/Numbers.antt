-- A frame from eight whole numbers, as a line of text gives them.
use Rattle.std.specs.Prelude.{ℕ, ℤ, pos, negsuc, Bool, false, cond, List, map, Ok, Err, Result, unsigned_abs}
use Rattle.std.specs.List.{list_all}
use Rattle.refusals.specs.declared.Refusal.{Refusal}
use Rattle.refusals.specs.declared.Refusal.TheVariants.{Malformed}
use Rattle.frames.specs.declared.frame.Frame.{Frame}
use Rattle.frames.specs.Fields.{is_word}
use Rattle.frames.specs.Made.{from_list, frame_from}

-- whether a number is one of 64 bits
abbrev pub holds_word : ℤ → Bool
holds_word (pos n) = is_word n
holds_word (negsuc n) = false

abbrev pub word_from : ℤ → Result ℕ Refusal
word_from z = cond (holds_word z) (Ok (unsigned_abs z)) (Err Malformed)

-- a number that its field cannot hold is no frame's
abbrev pub frame_from_numbers : List ℤ → Result Frame Refusal
frame_from_numbers zs = cond (list_all holds_word zs) (frame_from (from_list (map unsigned_abs zs))) (Err Malformed)
