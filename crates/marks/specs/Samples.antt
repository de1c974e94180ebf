-- Small values that fix how the definitions are read.
use Rattle.std.specs.Prelude.{◌≡◌, Ok, Err}
use Rattle.refusals.specs.declared.Refusal.TheVariants.{UsedUp}
use Rattle.marks.specs.Least.{least_epoch}

pub record LeastEpochSamples : Type 0 where
  pub first : least_epoch 1 (0, 0) ≡ Ok (0, 1)
  pub same_round : least_epoch 3 (0, 1) ≡ Ok (0, 3)
  pub next_round : least_epoch 2 (0, 3) ≡ Ok (1, 2)
  pub last_round_led : least_epoch 3 (4294967295, 3) ≡ Err UsedUp
  pub last_round_open : least_epoch 4 (4294967295, 3) ≡ Ok (4294967295, 4)
