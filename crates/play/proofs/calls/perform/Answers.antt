use Rattle.std.proofs.Common.{◌&&◌, sym, refl, ap, ◌∙◌}
use Rattle.std.proofs.lemmas.Bool.{and_from}
use Rattle.protocol.specs.Rack.{no_card, no_peer}
use Rattle.protocol.specs.Step.{step}
use Rattle.protocol.specs.declared.answer.Answer.TheVariants.{ForEpoch, Chose, Placed, Count, Took, Done}
use Rattle.protocol.specs.declared.call.Call.{Call}
use Rattle.cards.specs.Sizes.{card_count}
use Rattle.rack.specs.Faults.{told}
use Rattle.rack.specs.View.{view, sizes, machines_of, entries_fit, machines_fit, cards_fit}
use Rattle.play.proofs.Lifts.{told_as, fitting, lift_timeout, lift_elect, lift_win, lift_stop, lift_submit, lift_ship, lift_take, lift_push, lift_look}
use Rattle.play.proofs.calls.perform.Goals as goal

pub returns-in-Timeout : goal.returns-in-Timeout
returns-in-Timeout g c =
    let b = g.B.Backplane in
    let M = g.M.Machine in
    let r = c.args.rack.now in
    let xs = c.args.entries.now in
    let at = c.args.backplane.now in
    let ms = machines_of (card_count r.size) M.state M.initial c.args.machines.now in
    let L = b.lanes at in
    let z = sizes r (b.room at) in
    let s = view r xs (λ _. tt {0}) L in
    record {
      step = told_as c.tell_epoch.result (told ForEpoch c.timeout.result) _ c.tell_epoch.ensures (lift_timeout ms z s (view c.timeout.new.self xs (λ _. tt {0}) L) (told ForEpoch c.timeout.result) c.in-Timeout.card (c.timeout.ensures.step xs L)) ∙ sym (ap (λ (x : Call). step (λ q w. M.applied q (M.unpacked w)) z x (view r xs ms L)) c.in-Timeout.is);
      sizes = c.timeout.ensures.sizes;
      count = refl;
      room = refl;
    }

pub returns-in-Elect : goal.returns-in-Elect
returns-in-Elect g c =
    let b = g.B.Backplane in
    let M = g.M.Machine in
    let r = c.args.rack.now in
    let xs = c.args.entries.now in
    let at = c.args.backplane.now in
    let ms = machines_of (card_count r.size) M.state M.initial c.args.machines.now in
    let L = b.lanes at in
    let z = sizes r (b.room at) in
    let s = view r xs (λ _. tt {0}) L in
    record {
      step = told_as c.tell_choice.result (told Chose c.elect.result) _ c.tell_choice.ensures (lift_elect ms z s (view c.elect.new.self xs (λ _. tt {0}) L) (told Chose c.elect.result) c.in-Elect.card (c.elect.ensures.step xs L)) ∙ sym (ap (λ (x : Call). step (λ q w. M.applied q (M.unpacked w)) z x (view r xs ms L)) c.in-Elect.is);
      sizes = c.elect.ensures.sizes;
      count = refl;
      room = refl;
    }

pub returns-in-Win : goal.returns-in-Win
returns-in-Win g c =
    let b = g.B.Backplane in
    let M = g.M.Machine in
    let r = c.args.rack.now in
    let xs = c.args.entries.now in
    let at = c.args.backplane.now in
    let ms = machines_of (card_count r.size) M.state M.initial c.args.machines.now in
    let L = b.lanes at in
    let z = sizes r (b.room at) in
    let s = view r xs (λ _. tt {0}) L in
    record {
      step = told_as c.tell_epoch-in-Win.result (told ForEpoch c.win.result) _ c.tell_epoch-in-Win.ensures (lift_win ms z s (view c.win.new.self xs (λ _. tt {0}) L) (told ForEpoch c.win.result) c.in-Win.card (c.win.ensures.step xs L)) ∙ sym (ap (λ (x : Call). step (λ q w. M.applied q (M.unpacked w)) z x (view r xs ms L)) c.in-Win.is);
      sizes = c.win.ensures.sizes;
      count = refl;
      room = refl;
    }

pub returns-in-Stop : goal.returns-in-Stop
returns-in-Stop g c =
    let b = g.B.Backplane in
    let M = g.M.Machine in
    let r = c.args.rack.now in
    let xs = c.args.entries.now in
    let at = c.args.backplane.now in
    let ms = machines_of (card_count r.size) M.state M.initial c.args.machines.now in
    let L = b.lanes at in
    let z = sizes r (b.room at) in
    let s = view r xs (λ _. tt {0}) L in
    record {
      step = told_as c.tell_done-in-Stop.result (told (λ _. Done) c.stop.result) _ c.tell_done-in-Stop.ensures (lift_stop ms z s (view c.stop.new.self xs (λ _. tt {0}) L) (told (λ _. Done) c.stop.result) c.in-Stop.card (c.stop.ensures.step xs L)) ∙ sym (ap (λ (x : Call). step (λ q w. M.applied q (M.unpacked w)) z x (view r xs ms L)) c.in-Stop.is);
      sizes = c.stop.ensures.sizes;
      count = refl;
      room = refl;
    }

pub returns-in-Submit : goal.returns-in-Submit
returns-in-Submit g c =
    let b = g.B.Backplane in
    let M = g.M.Machine in
    let r = c.args.rack.now in
    let xs = c.args.entries.now in
    let at = c.args.backplane.now in
    let ms = machines_of (card_count r.size) M.state M.initial c.args.machines.now in
    let L = b.lanes at in
    let z = sizes r (b.room at) in
    let s = view r xs (λ _. tt {0}) L in
    record {
      step = told_as c.tell_place.result (told Placed c.submit.result) _ c.tell_place.ensures (lift_submit ms z s (view c.submit.new.self c.submit.new.entries (λ _. tt {0}) L) (told Placed c.submit.result) c.in-Submit.card c.in-Submit.queue c.in-Submit.payload (fitting (no_card z c.in-Submit.card) (entries_fit r xs) _ _ s c.requires.entries (c.submit.ensures.step L))) ∙ sym (ap (λ (x : Call). step (λ q w. M.applied q (M.unpacked w)) z x (view r xs ms L)) c.in-Submit.is);
      sizes = c.submit.ensures.sizes;
      count = refl;
      room = refl;
    }

pub returns-in-Ship : goal.returns-in-Ship
returns-in-Ship g c =
    let b = g.B.Backplane in
    let M = g.M.Machine in
    let r = c.args.rack.now in
    let xs = c.args.entries.now in
    let at = c.args.backplane.now in
    let ms = machines_of (card_count r.size) M.state M.initial c.args.machines.now in
    let L = b.lanes at in
    let z = sizes r (b.room at) in
    let s = view r xs (λ _. tt {0}) L in
    record {
      step = told_as c.tell_count.result (told Count c.ship.result) _ c.tell_count.ensures (lift_ship ms z s (view c.ship.new.self xs (λ _. tt {0}) (b.lanes c.ship.new.backplane)) (told Count c.ship.result) c.in-Ship.card c.in-Ship.peer (fitting (no_peer z c.in-Ship.card c.in-Ship.peer) (entries_fit r xs && cards_fit r (b.count at)) _ _ s (and_from (entries_fit r xs) (cards_fit r (b.count at)) c.requires.entries c.requires.cards) c.ship.ensures.step)) ∙ sym (ap (λ (x : Call). step (λ q w. M.applied q (M.unpacked w)) z x (view r xs ms L)) c.in-Ship.is);
      sizes = c.ship.ensures.sizes;
      count = c.ship.ensures.count;
      room = c.ship.ensures.room;
    }

pub returns-in-Take : goal.returns-in-Take
returns-in-Take g c =
    let b = g.B.Backplane in
    let M = g.M.Machine in
    let r = c.args.rack.now in
    let xs = c.args.entries.now in
    let at = c.args.backplane.now in
    let ms = machines_of (card_count r.size) M.state M.initial c.args.machines.now in
    let L = b.lanes at in
    let z = sizes r (b.room at) in
    let s = view r xs (λ _. tt {0}) L in
    record {
      step = told_as c.tell_intake.result (told Took c.take.result) _ c.tell_intake.ensures (lift_take ms z s (view c.take.new.self c.take.new.entries (λ _. tt {0}) (b.lanes c.take.new.backplane)) (told Took c.take.result) c.in-Take.card c.in-Take.peer (fitting (no_peer z c.in-Take.card c.in-Take.peer) (entries_fit r xs && cards_fit r (b.count at)) _ _ s (and_from (entries_fit r xs) (cards_fit r (b.count at)) c.requires.entries c.requires.cards) c.take.ensures.step)) ∙ sym (ap (λ (x : Call). step (λ q w. M.applied q (M.unpacked w)) z x (view r xs ms L)) c.in-Take.is);
      sizes = c.take.ensures.sizes;
      count = c.take.ensures.count;
      room = c.take.ensures.room;
    }

pub returns-in-Push : goal.returns-in-Push
returns-in-Push g c =
    let b = g.B.Backplane in
    let M = g.M.Machine in
    let r = c.args.rack.now in
    let xs = c.args.entries.now in
    let at = c.args.backplane.now in
    let ms = machines_of (card_count r.size) M.state M.initial c.args.machines.now in
    let L = b.lanes at in
    let z = sizes r (b.room at) in
    let s = view r xs (λ _. tt {0}) L in
    record {
      step = told_as c.tell_done.result (told (λ _. Done) c.push.result) _ c.tell_done.ensures (lift_push ms z s (view r xs (λ _. tt {0}) (b.lanes c.push.new.backplane)) (told (λ _. Done) c.push.result) c.in-Push.card c.in-Push.peer c.in-Push.kind (fitting (no_peer z c.in-Push.card c.in-Push.peer) (cards_fit r (b.count at)) _ _ s c.requires.cards (c.push.ensures.step xs))) ∙ sym (ap (λ (x : Call). step (λ q w. M.applied q (M.unpacked w)) z x (view r xs ms L)) c.in-Push.is);
      sizes = refl;
      count = c.push.ensures.count;
      room = c.push.ensures.room;
    }

pub returns-in-Look : goal.returns-in-Look
returns-in-Look g c =
    let b = g.B.Backplane in
    let M = g.M.Machine in
    let r = c.args.rack.now in
    let xs = c.args.entries.now in
    let at = c.args.backplane.now in
    let ms = machines_of (card_count r.size) M.state M.initial c.args.machines.now in
    let L = b.lanes at in
    let z = sizes r (b.room at) in
    let s = view r xs (λ _. tt {0}) L in
    record {
      step = told_as c.tell_done-in-Look.result (told (λ _. Done) c.look.result) _ c.tell_done-in-Look.ensures (lift_look ms z s (view c.look.new.self xs (λ _. tt {0}) (b.lanes c.look.new.backplane)) (told (λ _. Done) c.look.result) c.in-Look.card c.in-Look.peer c.in-Look.kind (fitting (no_peer z c.in-Look.card c.in-Look.peer) (cards_fit r (b.count at)) _ _ s c.requires.cards (c.look.ensures.step xs))) ∙ sym (ap (λ (x : Call). step (λ q w. M.applied q (M.unpacked w)) z x (view r xs ms L)) c.in-Look.is);
      sizes = c.look.ensures.sizes;
      count = c.look.ensures.count;
      room = c.look.ensures.room;
    }

pub returns-in-Commit : goal.returns-in-Commit
returns-in-Commit g c =
    let b = g.B.Backplane in
    let M = g.M.Machine in
    let r = c.args.rack.now in
    let xs = c.args.entries.now in
    let at = c.args.backplane.now in
    let ms = machines_of (card_count r.size) M.state M.initial c.args.machines.now in
    let L = b.lanes at in
    let z = sizes r (b.room at) in
    let s = view r xs (λ _. tt {0}) L in
    record {
      step = told_as c.tell_count-in-Commit.result (told Count c.commit.result) _ c.tell_count-in-Commit.ensures (fitting (no_card z c.in-Commit.card) (entries_fit r xs && machines_fit r c.args.machines.now) _ _ (view r xs ms L) (and_from (entries_fit r xs) (machines_fit r c.args.machines.now) c.requires.entries c.requires.machines) (c.commit.ensures.step L)) ∙ sym (ap (λ (x : Call). step (λ q w. M.applied q (M.unpacked w)) z x (view r xs ms L)) c.in-Commit.is);
      sizes = c.commit.ensures.sizes;
      count = refl;
      room = refl;
    }
