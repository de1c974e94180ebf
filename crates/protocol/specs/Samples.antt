-- Small values that fix how the definitions are read.
use Rattle.std.specs.Prelude.{◌≡◌, ℕ, true, false, [], ◌∷◌, Ok}
use Rattle.marks.specs.Kinds.{Header}
use Rattle.marks.specs.Order.{epoch_up_to}
use Rattle.frames.specs.Fields.{Words, EntryFields}
use Rattle.protocol.specs.Rack.{Sizes, State, no_card}
use Rattle.protocol.specs.Voting.{largest_vote, elect}
use Rattle.protocol.specs.Taking.{installed_log}
use Rattle.protocol.specs.declared.answer.Answer.TheVariants.{Chose}
use Rattle.protocol.specs.declared.answer.Choice.TheVariants.{Stood}
use Rattle.protocol.specs.declared.card.Role.TheVariants.{Electing}

abbrev pub sample_entry : Header → ℕ → Words → EntryFields
sample_entry h queue payload = record { header = h; queue = queue; payload = payload }

-- what is installed over a log, whatever its entries carry
abbrev pub CutSample : Type 0
CutSample = (q r t : ℕ) (u v w : Words) → installed_log (0, 1, 1) (sample_entry (0, 1, 2) r v ∷ []) (sample_entry (0, 1, 1) q u ∷ sample_entry (0, 1, 2) r v ∷ sample_entry (0, 1, 3) t w ∷ []) ≡ sample_entry (0, 1, 1) q u ∷ sample_entry (0, 1, 2) r v ∷ []

-- card 3 of a rack that has one, electing and not stopped, stands itself
abbrev pub StandSample : (S : Type 0) → Type 0
StandSample S = (z : Sizes) (s : State S) → no_card z 3 ≡ false → (s.cards 3).role ≡ Electing → (s.cards 3).stopped ≡ false → (s.cards 3).accepted ≡ (0, 1, 3) → epoch_up_to (s.cards 3).newest (0, 2) ≡ true → largest_vote z 3 (s.cards 3) ≡ ((0, 2), (0, 1, 2)) → ((elect z 3 s).0 ≡ Ok (Chose Stood)) × (((elect z 3 s).1.cards 3).newest ≡ (0, 3))
