use Rattle.std.proofs.Common.{◌≡◌, ◌-◌, [], map, length, get_or, Ok, Err, sym, refl, ◌∙◌, arith}
use Rattle.std.proofs.lemmas.Bool.{and_from, eq-eqb}
use Rattle.protocol.specs.Rack.{no_card}
use Rattle.protocol.specs.declared.answer.Answer.TheVariants.{Count}
use Rattle.frames.specs.Views.{entry_fields}
use Rattle.cards.specs.Faults.{card_refusal, replied}
use Rattle.cards.specs.Sizes.{card_count}
use Rattle.rack.specs.View.{view, sizes, machines_of, entries_fit, machines_fit}
use Rattle.rack.specs.declared.seat.Seat.{Seat}
use Rattle.rack.specs.declared.state.Rack.{Rack}
use Rattle.rack.proofs.Views.{found, used_found}
use Rattle.rack.proofs.Refused.{told_card}
use Rattle.rack.proofs.Calls.{lent_fits, machines_set}
use Rattle.rack.proofs.Commits.{by_member, machine_at, commit_answered, commit_sound}
use Rattle.rack.proofs.Places.{own_seat, found_there, with_seat, with_seat_written}
use Rattle.rack.proofs.state.Rack.commit.Goals as goal

pub invariant_of-self : goal.invariant_of-self
invariant_of-self g c =
    let M = g.M.Machine in
    let r = c.args.self.now in
    let n = card_count r.size in
    let i = c.args.card in
    let xs = c.args.entries.now in
    let ms = c.args.machines.now in
    let d = c.index-machines-card.result in
    let m = get_or ms (i - 1) d in
    let own = found_there r i c.in_ok-seat.field-0 (found r i c.in_ok-seat.field-0 c.in_ok-seat.ensures.value) in
    let seat = own_seat r i in
    let log = c.in_ok-log.log.now in
    let seen = c.in_ok-log.ensures.seen in
    let many : length ms ≡ n = c.if-machines-cards.false ∙ c.cards.ensures in
    let left : Seat = record { card = c.commit.new.card; used = seat.used } in
    let sound = commit_sound (λ q w. M.applied q (M.unpacked w)) r i 0 xs (machines_of n M.state M.initial ms) (λ _ _ _. []) seat own log seen.2 (M.state m) (machine_at n i M.state M.initial ms d own.is (omega (arith, many))) (replied Count c.commit.result) _ (c.commit.ensures.part ∙ by_member (λ q w. M.applied q (M.unpacked w)) (map entry_fields log) (seat.card, M.state m) c.member-member.ensures) in
    let after = with_seat r i left sound (used_found r i seat own) in
    record { few = after.few; seven = after.seven; fit = after.fit; sound = after.sound }

pub returns-in_err-count-clause-step : goal.returns-in_err-count-clause-step
returns-in_err-count-clause-step g c =
    let M = g.M.Machine in
    let r = c.args.self.now in
    let n = card_count r.size in
    let i = c.args.card in
    let xs = c.args.entries.now in
    let ms = c.args.machines.now in
    let d = c.index-machines-card.result in
    let m = get_or ms (i - 1) d in
    let f = c.in_err-count.field-0.0 in
    let own = found_there r i c.in_ok-seat.field-0 (found r i c.in_ok-seat.field-0 c.in_ok-seat.ensures.value) in
    let seat = own_seat r i in
    let log = c.in_ok-log.log.now in
    let seen = c.in_ok-log.ensures.seen in
    let many : length ms ≡ n = c.if-machines-cards.false ∙ c.cards.ensures in
    let stood = machine_at n i M.state M.initial ms d own.is (omega (arith, many)) in
    let part = c.in_err-count.ensures.part ∙ by_member (λ q w. M.applied q (M.unpacked w)) (map entry_fields log) (seat.card, M.state m) c.member-member.ensures in
    let left : Seat = record { card = c.commit.new.card; used = seat.used } in
    let sound = commit_sound (λ q w. M.applied q (M.unpacked w)) r i 0 xs (machines_of n M.state M.initial ms) (λ _ _ _. []) seat own log seen.2 (M.state m) stood (Err (card_refusal f)) _ part in
    let fits = used_found r i seat own in
    let after : Rack = with_seat r i left sound fits in
    let moved = machines_set n i M.state M.initial ms c.commit.new.machine own.is (omega (arith, many)) in
    let reply = told_card Count c.from_residual-in_err-count.result f c.from_residual-in_err-count.ensures.1 in
    λ lanes.
    (λ k. (reply k, view after xs (moved k) lanes))
    ∙ commit_answered (λ q w. M.applied q (M.unpacked w)) r i 0 xs (machines_of n M.state M.initial ms) lanes seat own log seen.2 (M.state m) stood (Err (card_refusal f)) _ part after _ (with_seat_written r i left sound fits) refl
    ∙ sym (lent_fits (no_card (sizes r 0) i) _ _ _ (and_from (entries_fit r xs) (machines_fit r ms) seen.1 (eq-eqb (length ms) n many)))

pub returns-clause-step : goal.returns-clause-step
returns-clause-step g c =
    let M = g.M.Machine in
    let r = c.args.self.now in
    let n = card_count r.size in
    let i = c.args.card in
    let xs = c.args.entries.now in
    let ms = c.args.machines.now in
    let d = c.index-machines-card.result in
    let m = get_or ms (i - 1) d in
    let own = found_there r i c.in_ok-seat.field-0 (found r i c.in_ok-seat.field-0 c.in_ok-seat.ensures.value) in
    let seat = own_seat r i in
    let log = c.in_ok-log.log.now in
    let seen = c.in_ok-log.ensures.seen in
    let many : length ms ≡ n = c.if-machines-cards.false ∙ c.cards.ensures in
    let stood = machine_at n i M.state M.initial ms d own.is (omega (arith, many)) in
    let said = Ok (Count c.in_ok-count.count) in
    let part = c.in_ok-count.ensures.part ∙ by_member (λ q w. M.applied q (M.unpacked w)) (map entry_fields log) (seat.card, M.state m) c.member-member.ensures in
    let left : Seat = record { card = c.commit.new.card; used = seat.used } in
    let sound = commit_sound (λ q w. M.applied q (M.unpacked w)) r i 0 xs (machines_of n M.state M.initial ms) (λ _ _ _. []) seat own log seen.2 (M.state m) stood said _ part in
    let fits = used_found r i seat own in
    λ lanes.
    commit_answered (λ q w. M.applied q (M.unpacked w)) r i 0 xs (machines_of n M.state M.initial ms) lanes seat own log seen.2 (M.state m) stood said _ part (with_seat r i left sound fits) _ (with_seat_written r i left sound fits) (machines_set n i M.state M.initial ms c.commit.new.machine own.is (omega (arith, many)))
    ∙ sym (lent_fits (no_card (sizes r 0) i) _ _ _ (and_from (entries_fit r xs) (machines_fit r ms) seen.1 (eq-eqb (length ms) n many)))
