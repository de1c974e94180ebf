use Rattle.std.proofs.Common.{◌≡◌, ◌≤◌, min, true, take}
use Rattle.std.specs.List.{list_all}
use Rattle.numerals.specs.Decimal.{is_digit, value_after}
use Rattle.numerals.proofs.magnitude.Given as goal

abbrev pub invariant-loop-digit : goal.invariant-loop-digit
invariant-loop-digit l =
    (l.value ≤ 18446744073709551616)
    × (list_all is_digit (take l.digit-index l.digits) ≡ true)
    × (l.value ≡ min 18446744073709551616 (value_after 0 (take l.digit-index l.digits)))
