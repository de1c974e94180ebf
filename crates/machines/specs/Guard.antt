-- A value that can only be made where a test holds, and another where it fails.
use Rattle.std.specs.Prelude.{◌≡◌, Bool, true, false, refl}

abbrev pub whenever : {X : Type 0} (test : Bool) → (test ≡ true → X) → X → X
whenever true made other = made refl
whenever false made other = other
