-- timeout, elect and win.
use Rattle.std.specs.Prelude.{ℕ, Bool, cond, not, ◌&&◌, List, [], ◌∷◌, is_err, Result, ◌==◌}
use Rattle.std.specs.Result.{result_unwrap_or}
use Rattle.refusals.specs.declared.Refusal.{Refusal}
use Rattle.refusals.specs.declared.Refusal.TheVariants.{NoSuchCard, Stopped, WrongRole, NotElected, UsedUp}
use Rattle.marks.specs.Kinds.{Epoch, Header, Vote}
use Rattle.marks.specs.Order.{epoch_up_to, header_below, vote_up_to}
use Rattle.marks.specs.Rows.{largest_of, count_between}
use Rattle.marks.specs.Least.{least_epoch}
use Rattle.protocol.specs.Rows.{vote_rows, is_majority, forget_shipped}
use Rattle.protocol.specs.Rack.{Sizes, State, Reply, with_card, ask, no_card, is_electing}
use Rattle.protocol.specs.declared.answer.Answer.{Answer}
use Rattle.protocol.specs.declared.answer.Answer.TheVariants.{ForEpoch, Chose}
use Rattle.protocol.specs.declared.answer.Choice.{Choice}
use Rattle.protocol.specs.declared.answer.Choice.TheVariants.{Kept, Stood, Joined}
use Rattle.protocol.specs.declared.card.Card.{Card}
use Rattle.protocol.specs.declared.card.Role.TheVariants.{Electing, Leader}

-- the largest of the n vote rows, the card's own among them
abbrev pub largest_vote : Sizes → ℕ → Card → Vote
largest_vote z i c = largest_of vote_up_to c.vote (vote_rows z.cards i c.vote c.peers)

abbrev pub later_epoch : Epoch → Epoch → Epoch
later_epoch a b = cond (epoch_up_to a b) b a

-- the least epoch that the card leads above its newest epoch and the largest vote's, if there is one
abbrev pub standing_epoch : Sizes → ℕ → Card → Result Epoch Refusal
standing_epoch z i c = least_epoch i (later_epoch c.newest (largest_vote z i c).0)

abbrev pub stood_in : Epoch → Card → Card
stood_in e c = record {
  role = Electing;
  stopped = c.stopped;
  current = c.current;
  newest = e;
  accepted = c.accepted;
  committed = c.committed;
  next = c.next;
  vote = (e, c.accepted);
  peers = c.peers;
}

-- timeout: the card votes for itself in that epoch
abbrev pub timeout_epoch : Sizes → ℕ → Card → Epoch
timeout_epoch z i c = result_unwrap_or (standing_epoch z i c) c.newest

abbrev pub timed_out : Sizes → ℕ → Card → Card
timed_out z i c = stood_in (timeout_epoch z i c) c

abbrev pub timeout_checks : {S : Type 0} → Sizes → ℕ → State S → List (Bool × Refusal)
timeout_checks z i s =
    (no_card z i, NoSuchCard)
    ∷ ((s.cards i).stopped, Stopped)
    ∷ (is_err (standing_epoch z i (s.cards i)), UsedUp)
    ∷ []

abbrev pub timeout : {S : Type 0} → Sizes → ℕ → State S → Reply × State S
timeout z i s = ask (timeout_checks z i s) (ForEpoch (timeout_epoch z i (s.cards i))) (with_card i (timed_out z i (s.cards i)) s) s

-- elect: the card stands itself if it has accepted more than the largest vote's header
abbrev pub stands : Sizes → ℕ → Card → Bool
stands z i c = header_below (largest_vote z i c).1 c.accepted

-- otherwise it joins the largest vote if that is above its own
abbrev pub joins : Sizes → ℕ → Card → Bool
joins z i c = not (vote_up_to (largest_vote z i c) c.vote)

abbrev pub joined_to : Vote → Card → Card
joined_to m c = record {
  role = c.role;
  stopped = c.stopped;
  current = c.current;
  newest = m.0;
  accepted = c.accepted;
  committed = c.committed;
  next = c.next;
  vote = m;
  peers = c.peers;
}

abbrev pub elected : Sizes → ℕ → Card → Card
elected z i c = cond (stands z i c) (timed_out z i c) (cond (joins z i c) (joined_to (largest_vote z i c) c) c)

-- what that is, of the accepted header, the card's own vote and the largest
abbrev pub choice_by : Header → Vote → Vote → Choice
choice_by accepted own largest = cond (header_below largest.1 accepted) Stood (cond (not (vote_up_to largest own)) Joined Kept)

abbrev pub elect_answer : Sizes → ℕ → Card → Answer
elect_answer z i c = Chose (choice_by c.accepted c.vote (largest_vote z i c))

abbrev pub elect_checks : {S : Type 0} → Sizes → ℕ → State S → List (Bool × Refusal)
elect_checks z i s =
    (no_card z i, NoSuchCard)
    ∷ ((s.cards i).stopped, Stopped)
    ∷ (not (is_electing (s.cards i).role), WrongRole)
    ∷ (stands z i (s.cards i) && is_err (standing_epoch z i (s.cards i)), UsedUp)
    ∷ []

abbrev pub elect : {S : Type 0} → Sizes → ℕ → State S → Reply × State S
elect z i s = ask (elect_checks z i s) (elect_answer z i (s.cards i)) (with_card i (elected z i (s.cards i)) s) s

-- win: the card leads its vote's epoch, and a majority of vote rows equals its vote
abbrev pub is_elected : Sizes → ℕ → Card → Bool
is_elected z i c =
    (c.vote.0.1 == i)
    && is_majority (count_between vote_up_to c.vote c.vote (vote_rows z.cards i c.vote c.peers)) z.cards

abbrev pub won_by : Card → Card
won_by c = record {
  role = Leader;
  stopped = c.stopped;
  current = c.newest;
  newest = c.newest;
  accepted = (c.newest.0, c.newest.1, 0);
  committed = c.committed;
  next = (c.newest.0, c.newest.1, 0);
  vote = c.vote;
  peers = forget_shipped c.peers;
}

abbrev pub win_checks : {S : Type 0} → Sizes → ℕ → State S → List (Bool × Refusal)
win_checks z i s =
    (no_card z i, NoSuchCard)
    ∷ ((s.cards i).stopped, Stopped)
    ∷ (not (is_electing (s.cards i).role), WrongRole)
    ∷ (not (is_elected z i (s.cards i)), NotElected)
    ∷ []

abbrev pub win : {S : Type 0} → Sizes → ℕ → State S → Reply × State S
win z i s = ask (win_checks z i s) (ForEpoch (s.cards i).newest) (with_card i (won_by (s.cards i)) s) s
