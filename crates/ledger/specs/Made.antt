-- A posting is fixed by its two fields, and is made exactly from fields within the ranges.
use Rattle.std.specs.Prelude.{◌≡◌, ℕ, true, ℤ, Some}
use Rattle.std.proofs.Common.{ap}
use Rattle.std.proofs.Math.Bool.{Bool-set}
use Rattle.machines.proofs.Guarded.{whenever_true}
use Rattle.ledger.specs.Ranges.{postable}
use Rattle.ledger.specs.Postings.{drafted}
use Rattle.ledger.specs.declared.postings.Posting.{Posting}

abbrev pub posting : (c : ℕ) (z : ℤ) → postable c z ≡ true → Posting
posting c z e = record { carrier = c; cents = z; inside = e }

pub same_posting : (c : ℕ) (z : ℤ) (e f : postable c z ≡ true) → posting c z e ≡ posting c z f
same_posting c z e f = ap (posting c z) (Bool-set (postable c z) true e f)

pub drafted_is : (c : ℕ) (z : ℤ) (e : postable c z ≡ true) → drafted (c, z) ≡ Some (posting c z e)
drafted_is c z e = whenever_true (postable c z) (λ h. Some (posting c z h)) _ e
