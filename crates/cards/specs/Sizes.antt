-- The sizes of a rack.
use Rattle.std.specs.Prelude.{ℕ, cond, Ok, Err, Result, ◌==◌}
use Rattle.refusals.specs.declared.Refusal.{Refusal}
use Rattle.refusals.specs.declared.Refusal.TheVariants.{WrongSize}
use Rattle.cards.specs.declared.size.RackSize.{RackSize}
use Rattle.cards.specs.declared.size.RackSize.TheVariants.{Three, Five, Seven}

abbrev pub card_count : RackSize → ℕ
card_count Three = 3
card_count Five = 5
card_count Seven = 7

abbrev pub size_of : ℕ → Result RackSize Refusal
size_of n = cond (n == 3) (Ok Three) (cond (n == 5) (Ok Five) (cond (n == 7) (Ok Seven) (Err WrongSize)))
