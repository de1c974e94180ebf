use Rattle.std.proofs.Common.{◌≡◌, ◌<◌, Bool, cond, sym, ap, ◌∙◌, arith}
use Rattle.marks.specs.Order.{vote_up_to}
use Rattle.protocol.specs.Rows.{vote_of}
use Rattle.cards.specs.Sizes.{card_count}
use Rattle.cards.proofs.Largest.{risen_next, risen_all}
use Rattle.cards.proofs.member.Member.largest_vote.Goals as goal
use Rattle.cards.proofs.member.Member.largest_vote.Goals.{then-up_to, else-up_to}

pub loop-before-preserved : goal.loop-before-preserved
loop-before-preserved c =
    let own = c.args.card.now.vote in
    let most = c.loop-before.most in
    let vote = c.vote_of-vote.result in
    let within : c.loop-before.before < card_count c.args.self.size = omega (arith, c.loop-before-test.true, c.cards-before-end.ensures) in
    let next = risen_next vote_up_to own (vote_of c.args.self.number own c.args.card.now.peers) (card_count c.args.self.size) c.loop-before.before most c.if-up_to.most vote within c.loop-before.invariant c.vote_of-vote.ensures in
    elim c.if-up_to.branch [
      | then-up_to w ↦ next (w.most-is ∙ ap (λ (b : Bool). cond b vote most) w.if-up_to.ensures)
      | else-up_to w ↦ next (w.most-is ∙ ap (λ (b : Bool). cond b vote most) w.if-up_to.ensures)
    ]

pub returns : goal.returns
returns c =
    let end : c.loop-before.before ≡ card_count c.args.self.size = omega (arith, c.loop-before-test.false, c.loop-before.auto.before-end, c.cards-before-end.ensures) in
    risen_all vote_up_to c.args.card.now.vote (vote_of c.args.self.number c.args.card.now.vote c.args.card.now.peers) (card_count c.args.self.size) c.loop-before.before c.loop-before.most end c.loop-before.invariant
