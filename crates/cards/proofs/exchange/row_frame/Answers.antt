use Rattle.std.proofs.Common.{sym, ap, ◌∙◌}
use Rattle.frames.specs.Made.{frame_from}
use Rattle.protocol.specs.Exchange.{own_row}
use Rattle.cards.proofs.OwnRow.{own_other}
use Rattle.cards.proofs.exchange.row_frame.Goals as goal

pub returns-then-kind-eq5 : goal.returns-then-kind-eq5
returns-then-kind-eq5 c = c.vote_row.ensures ∙ ap (λ k. frame_from (own_row c.args.card.now k)) (sym c.if-kind-eq5.true)

pub returns-then-kind-eq4 : goal.returns-then-kind-eq4
returns-then-kind-eq4 c = c.of.ensures ∙ ap (λ k. frame_from (own_row c.args.card.now k)) (sym c.if-kind-eq4.true)

pub returns-else-kind-eq4 : goal.returns-else-kind-eq4
returns-else-kind-eq4 c = c.new.ensures ∙ ap frame_from (own_other c.args.card.now c.args.kind c.if-kind-eq5.false c.if-kind-eq4.false)
