-- A card that has accepted more than the largest vote's header stands itself.
use Rattle.std.proofs.Common.{◌≡◌, true, false, cond, not, ◌&&◌, is_err, Ok, Result, ap, ◌∙◌}
use Rattle.std.specs.Result.{result_unwrap_or}
use Rattle.std.proofs.lemmas.Bool.{and_right}
use Rattle.refusals.specs.declared.Refusal.{Refusal}
use Rattle.marks.specs.Kinds.{Epoch, Header, Vote}
use Rattle.marks.specs.Order.{header_below}
use Rattle.marks.specs.Least.{least_epoch}
use Rattle.protocol.specs.Rack.{State, Reply, with_card, is_electing}
use Rattle.protocol.specs.Voting.{largest_vote, later_epoch, standing_epoch, stands, elect, elect_checks, elected, timed_out, joins, joined_to, elect_answer}
use Rattle.protocol.specs.Samples.{StandSample}
use Rattle.protocol.specs.declared.answer.Answer.TheVariants.{Chose}
use Rattle.protocol.specs.declared.answer.Choice.TheVariants.{Kept, Stood, Joined}
use Rattle.protocol.proofs.Asked.{ask_passed}

pub stand_sample : (S : Type 0) → StandSample S
stand_sample S z s here role running accepted newest largest =
    (ap (λ t. t.0) done ∙ ap (λ a. Ok a) answer, ap (λ (t : Reply × State S). (t.1.cards 3).newest) done ∙ card)
  where
    standing : standing_epoch z 3 (s.cards 3) ≡ Ok (0, 3)
    standing = ap (λ (m : Vote). least_epoch 3 (later_epoch (s.cards 3).newest m.0)) largest ∙ ap (λ b. least_epoch 3 (cond b (0, 2) (s.cards 3).newest)) newest

    stands_is : stands z 3 (s.cards 3) ≡ true
    stands_is = ap (λ (m : Vote). header_below m.1 (s.cards 3).accepted) largest ∙ ap (λ (h : Header). header_below (0, 1, 2) h) accepted

    answer : elect_answer z 3 (s.cards 3) ≡ Chose Stood
    answer = ap (λ b. Chose (cond b Stood (cond (joins z 3 (s.cards 3)) Joined Kept))) stands_is

    left : stands z 3 (s.cards 3) && is_err (standing_epoch z 3 (s.cards 3)) ≡ false
    left = and_right _ _ (ap (λ (r : Result Epoch Refusal). is_err r) standing)

    done : elect z 3 s ≡ (Ok (elect_answer z 3 (s.cards 3)), with_card 3 (elected z 3 (s.cards 3)) s)
    done = ask_passed (elect_checks z 3 s) _ _ s (here, (running, (ap (λ r. not (is_electing r)) role, (left, tt))))

    card : (elected z 3 (s.cards 3)).newest ≡ (0, 3)
    card = ap (λ b. (cond b (timed_out z 3 (s.cards 3)) (cond (joins z 3 (s.cards 3)) (joined_to (largest_vote z 3 (s.cards 3)) (s.cards 3)) (s.cards 3))).newest) stands_is ∙ ap (λ (r : Result Epoch Refusal). result_unwrap_or r (s.cards 3).newest) standing
