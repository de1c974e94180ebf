use Rattle.std.proofs.Common.{◌+◌, ◌≤◌, map, length, filter, Err, ap, ◌∙◌, arith, rules}
use Rattle.std.proofs.lemmas.Result.{err_from_is_err_and}
use Rattle.frames.specs.Carried.{entry_frame}
use Rattle.backplane.specs.declared.lane.Lane.{Lane}
use Rattle.backplane.specs.Ports.{lanes_of}
use Rattle.protocol.specs.Booking.{inside}
use Rattle.protocol.specs.declared.answer.Answer.TheVariants.{Count}
use Rattle.logs.specs.Log.{entries_of}
use Rattle.cards.specs.Faults.{replied}
use Rattle.cards.specs.LaneViews.{lane_fields}
use Rattle.shipping.specs.Lanes.{lanes_with}
use Rattle.shipping.proofs.Sends.{put_sent, put_long}
use Rattle.shipping.proofs.Entering.{room_there}
use Rattle.shipping.proofs.Diffs.{head_few, diff_malformed, diff_refused, diff_sent}
use Rattle.shipping.proofs.diff.send_diff.Goals as goal

pub returns-in_err-head-clause-part : goal.returns-in_err-head-clause-part
returns-in_err-head-clause-part g c =
    let b = g.B.Backplane in
    let s = c.args.backplane.now in
    let lane = c.args.lane in
    let counted = c.inside_count-entries.ensures ∙ ap (λ high. length (filter (inside c.args.base high) (entries_of c.args.log.now))) c.header_in.ensures in
    let p = err_from_is_err_and c.from_residual.result c.from_residual.ensures.1 in
    ap (λ r. (replied Count r, lane_fields (b.lanes s))) (p.1 ∙ ap Err p.2)
    ∙ diff_malformed (b.count s) (b.room s) lane.from lane.to lane.number (b.lanes s) c.args.epoch c.args.base (entries_of c.args.log.now) c.inside_count-entries.result counted c.in_err-head.field-0.0 c.in_err-head.ensures

pub returns-in_err-find_room-clause-part : goal.returns-in_err-find_room-clause-part
returns-in_err-find_room-clause-part g c =
    let b = g.B.Backplane in
    let s = c.args.backplane.now in
    let lane = c.args.lane in
    let counted = c.inside_count-entries.ensures ∙ ap (λ high. length (filter (inside c.args.base high) (entries_of c.args.log.now))) c.header_in.ensures in
    let p = err_from_is_err_and c.from_residual-in_err-find_room.result c.from_residual-in_err-find_room.ensures.1 in
    ap (λ r. (replied Count r, lane_fields (b.lanes s))) (p.1 ∙ ap Err p.2)
    ∙ diff_refused (b.count s) (b.room s) lane.from lane.to lane.number (b.lanes s) c.args.epoch c.args.base (entries_of c.args.log.now) c.inside_count-entries.result counted c.in_ok-head.head c.in_ok-head.ensures c.in_err-find_room.field-0.0 c.in_err-find_room.ensures

pub send_entries-requires : goal.send_entries-requires
send_entries-requires g c =
    let b = g.B.Backplane in
    let s = c.args.backplane.now in
    let lane = c.args.lane in
    let counted = c.inside_count-entries.ensures ∙ ap (λ high. length (filter (inside c.args.base high) (entries_of c.args.log.now))) c.header_in.ensures in
    let put = c.put.ensures in
    let fits = room_there (b.count s) (b.room s) lane.from lane.to lane.number (length (b.lanes s lane.from lane.to lane.number)) (c.inside_count-entries.result + 1) c.in_ok-find_room.ensures in
    omega (arith, fits.1, put_long c.in_ok-head.head put.same put.lanes, put.same.room, counted, c.inside_count-entries.ensures)

pub overflow_cast-result : goal.overflow_cast-result
overflow_cast-result g c =
    let few : c.inside_count-entries.result ≤ 1024 = head_few c.args.epoch c.args.base c.inside_count-entries.result c.in_ok-head.head c.in_ok-head.ensures in
    search rules

pub overflow_add-result : goal.overflow_add-result
overflow_add-result g c =
    let few : c.inside_count-entries.result ≤ 1024 = head_few c.args.epoch c.args.base c.inside_count-entries.result c.in_ok-head.head c.in_ok-head.ensures in
    search rules

pub returns-clause-part : goal.returns-clause-part
returns-clause-part g c =
    let b = g.B.Backplane in
    let s = c.args.backplane.now in
    let lane = c.args.lane in
    let counted = c.inside_count-entries.ensures ∙ ap (λ high. length (filter (inside c.args.base high) (entries_of c.args.log.now))) c.header_in.ensures in
    let put = c.put.ensures in
    let rest = ap (λ (at : Lane). lanes_with at.from at.to at.number (map (entry_frame 3) (filter (inside c.args.base c.header_in.result) (entries_of c.args.log.now))) (lane_fields (lanes_of c.put.new.port))) put.same.lane in
    let sent = diff_sent (b.count s) (b.room s) lane.from lane.to lane.number (b.lanes s) c.args.epoch c.args.base (entries_of c.args.log.now) c.inside_count-entries.result counted c.in_ok-head.head c.in_ok-head.ensures c.in_ok-find_room.ensures (lanes_of c.put.new.port) (put_sent c.in_ok-head.head put.same put.lanes) (lanes_of c.send_entries.new.port) (c.send_entries.ensures.lanes ∙ rest ∙ ap (λ high. lanes_with lane.from lane.to lane.number (map (entry_frame 3) (filter (inside c.args.base high) (entries_of c.args.log.now))) (lane_fields (lanes_of c.put.new.port))) c.header_in.ensures) in
    search (rules, sent)
