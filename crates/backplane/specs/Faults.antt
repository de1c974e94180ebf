-- The refusal that each fault of a lane leads to; its number comes from the refusals.
use Rattle.refusals.specs.declared.Refusal.{Refusal}
use Rattle.refusals.specs.declared.Refusal.TheVariants.{NoSuchCard, NothingDue, LaneFull}
use Rattle.backplane.specs.declared.fault.LaneFault.{LaneFault}
use Rattle.backplane.specs.declared.fault.LaneFault.TheVariants.{NoSuchLane, Full, NothingThere}

abbrev pub fault_refusal : LaneFault → Refusal
fault_refusal NoSuchLane = NoSuchCard
fault_refusal Full = LaneFull
fault_refusal NothingThere = NothingDue
