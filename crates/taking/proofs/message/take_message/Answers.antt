use Rattle.std.proofs.Common.{Ok, Err, sym, ap, ◌∙◌}
use Rattle.backplane.specs.Ports.{lanes_of}
use Rattle.frames.specs.Fields.{fields_of}
use Rattle.protocol.specs.declared.answer.Answer.TheVariants.{Took}
use Rattle.std.proofs.lemmas.Result.{err_from_is_err_and}
use Rattle.cards.specs.Faults.{replied}
use Rattle.cards.specs.LaneViews.{lane_fields}
use Rattle.logs.specs.Places.{logged}
use Rattle.logs.proofs.Logs.{appended}
use Rattle.taking.specs.Verdicts.{verdict_on}
use Rattle.taking.proofs.Messages.{message_passed, message_room, message_entered, message_back}
use Rattle.taking.proofs.message.take_message.Goals as goal

pub returns-in_err-verdict-clause-part : goal.returns-in_err-verdict-clause-part
returns-in_err-verdict-clause-part g c =
    let card = c.args.card.now in
    let log = c.args.log.now in
    let at = c.args.port.now.lane in
    let L = lanes_of c.args.port.now in
    let told = c.in_err-verdict.ensures ∙ ap (verdict_on card (fields_of 1 c.args.entry.header (0, 0, 0, 0))) c.is_full.ensures in
    let p = err_from_is_err_and c.from_residual.result c.from_residual.ensures.1 in
    ap (λ r. (replied Took r, (card, logged log, lane_fields L))) (p.1 ∙ ap Err p.2)
    ∙ message_back at.to at.from at.number L c.args.entry c.requires card log.places.now log.used log.fit c.in_err-verdict.field-0.0 told

pub returns-in-Pass-clause-part : goal.returns-in-Pass-clause-part
returns-in-Pass-clause-part g c =
    let card = c.args.card.now in
    let log = c.args.log.now in
    let at = c.args.port.now.lane in
    let told = ap Ok (sym c.in-Pass.is) ∙ c.in_ok-verdict.ensures ∙ ap (verdict_on card (fields_of 1 c.args.entry.header (0, 0, 0, 0))) c.is_full.ensures in
    message_passed at.to at.from at.number (lanes_of c.args.port.now) c.args.entry c.requires card log.places.now log.used log.fit (lanes_of c.discard.new.port) c.discard.ensures.lanes told

pub returns-in-Enter-clause-part : goal.returns-in-Enter-clause-part
returns-in-Enter-clause-part g c =
    let card = c.args.card.now in
    let log = c.args.log.now in
    let at = c.args.port.now.lane in
    let L = lanes_of c.args.port.now in
    let told = ap Ok (sym c.in-Enter.is) ∙ c.in_ok-verdict.ensures ∙ ap (verdict_on card (fields_of 1 c.args.entry.header (0, 0, 0, 0))) c.is_full.ensures in
    let room = message_room at.to at.from at.number L c.args.entry c.requires card log.places.now log.used log.fit told in
    let more = appended log.places.now c.append.new.self.places.now log.used c.append.new.self.used c.args.entry room c.append.ensures.places c.append.ensures.used in
    message_entered at.to at.from at.number L c.args.entry c.requires card log.places.now log.used log.fit (lanes_of c.discard.new.port) c.discard.ensures.lanes c.accept.new.self (logged c.append.new.self) c.accept.ensures more told
