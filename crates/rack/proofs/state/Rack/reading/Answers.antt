use Rattle.std.proofs.Common.{sym, subst}
use Rattle.backplane.specs.Lanes.{empty_lanes}
use Rattle.protocol.specs.Committing.{reading}
use Rattle.protocol.specs.Rack.{no_card}
use Rattle.rack.specs.Reading.{ReadOut}
use Rattle.rack.specs.View.{view, sizes, entries_fit}
use Rattle.rack.proofs.Readings.{read_out, read_same}
use Rattle.rack.proofs.Views.{found}
use Rattle.rack.proofs.state.Rack.reading.Goals as goal

pub returns : goal.returns
returns c =
    let r = c.args.self.now in
    let i = c.args.card in
    let xs = c.args.entries.now in
    let seat = c.in_ok-seat.seat in
    let own = found r i seat c.in_ok-seat.ensures.value in
    let log = c.in_ok-log.log.now in
    let seen = c.in_ok-log.ensures.seen in
    let list = reading (view r xs (λ _. tt {0}) empty_lanes) i in
    subst (ReadOut (no_card (sizes r 0) i) (entries_fit r xs) list c.args.out.now c.read_up_to.new.out) (sym c.ok_or.ensures.value)
    (read_out seat.card.committed log c.args.out.now c.read_up_to.new.out list (read_same r i xs seat own log seen.2) c.read_up_to.result c.read_up_to.ensures.answer c.read_up_to.ensures.places _ _ seen.0 seen.1)
