-- What holds of a refused call whatever its fault.
use Rattle.std.proofs.Common.{IfErr, Ok, Err, Result}

pub stays : {X Y : Type 0} {P : Type 0} (r : Result X Y) → P → IfErr r (λ _. P)
stays (Ok x) p = tt
stays (Err y) p = p
