-- The numbers by which a caller is told what elect chose and what take did.
use Rattle.std.specs.Prelude.{ℕ, List, [], ◌∷◌}
use Rattle.protocol.specs.declared.answer.Answer.{Answer}
use Rattle.protocol.specs.declared.answer.Answer.TheVariants.{ForEpoch, Chose, Placed, Count, Took, Done}
use Rattle.protocol.specs.declared.answer.Choice.{Choice}
use Rattle.protocol.specs.declared.answer.Choice.TheVariants.{Kept, Stood, Joined}
use Rattle.protocol.specs.declared.answer.Intake.{Intake}
use Rattle.protocol.specs.declared.answer.Intake.TheVariants.{PassedOver, Appended, Installed}

abbrev pub choice_number : Choice → ℕ
choice_number Kept = 0
choice_number Stood = 1
choice_number Joined = 2

abbrev pub intake_number : Intake → ℕ
intake_number PassedOver = 0
intake_number Appended = 1
intake_number Installed = 2

-- the numbers of an answer, in order
abbrev pub answer_numbers : Answer → List ℕ
answer_numbers (ForEpoch e) = e.0 ∷ e.1 ∷ []
answer_numbers (Chose c) = choice_number c ∷ []
answer_numbers (Placed h) = h.0 ∷ h.1 ∷ h.2 ∷ []
answer_numbers (Count n) = n ∷ []
answer_numbers (Took t) = intake_number t ∷ []
answer_numbers Done = []
