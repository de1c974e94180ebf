use Rattle.std.proofs.Common.{◌≡◌, length}
use Rattle.logs.specs.Log.{is_up_to}
use Rattle.logs.proofs.Cuts.{Copied}
use Rattle.logs.proofs.log.Log.keep_up_to.Given as goal

abbrev pub invariant-loop-i : goal.invariant-loop-i
invariant-loop-i l =
    (l.self.places.ghost_name ≡ l.initial.self.places.ghost_name)
    × (length l.self.places.now ≡ length l.initial.self.places.now)
    × Copied (is_up_to l.base) l.initial.self.places.now l.i l.initial.self.places.now l.self.places.now l.kept
