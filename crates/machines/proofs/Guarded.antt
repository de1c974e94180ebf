-- What `whenever` gives at each outcome of its test.
use Rattle.std.proofs.Common.{◌≡◌, Bool, true, false, refl, ap}
use mathlib.Core.Bool.{Bool-set}
use Rattle.std.proofs.lemmas.Bool.{true≢false, false≢true}
use Rattle.machines.specs.Guard.{whenever}

pub whenever_true : {X : Type 0} (test : Bool) (made : test ≡ true → X) (other : X) (h : test ≡ true) → whenever test made other ≡ made h
whenever_true true made other h = ap made (Bool-set true true refl h)
whenever_true false made other h = absurd (false≢true h)

pub whenever_false : {X : Type 0} (test : Bool) (made : test ≡ true → X) (other : X) → test ≡ false → whenever test made other ≡ other
whenever_false true made other h = absurd (true≢false h)
whenever_false false made other h = refl
