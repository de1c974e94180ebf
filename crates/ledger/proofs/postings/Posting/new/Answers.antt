use Rattle.std.proofs.Common.{sym, ap, ◌∙◌, w64}
use Rattle.std.proofs.lemmas.Int.{to_z-of_z}
use Rattle.refusals.specs.declared.Refusal.TheVariants.{OutOfRange}
use Rattle.std.specs.Option.{ok_or}
use Rattle.ledger.specs.Postings.{drafted}
use Rattle.ledger.specs.Made.{drafted_is}
use Rattle.ledger.proofs.postings.Posting.new.Goals as goal

pub returns : goal.returns
returns c =
    sym (ap (λ o. ok_or o OutOfRange) (ap (λ z. drafted (c.args.carrier, z)) (sym (to_z-of_z w64 c.args.cents c.ranges.cents)) ∙ drafted_is c.args.carrier _ _))
