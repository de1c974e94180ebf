use Rattle.protocol.specs.Rows.{vote_of}
use Rattle.marks.specs.Order.{vote_up_to}
use Rattle.cards.specs.Sizes.{card_count}
use Rattle.cards.proofs.Largest.{Risen}
use Rattle.cards.proofs.member.Member.largest_vote.Given as goal

abbrev pub invariant-loop-before : goal.invariant-loop-before
invariant-loop-before l = Risen vote_up_to l.card.vote (vote_of l.self.number l.card.vote l.card.peers) (card_count l.self.size) l.before l.most
