use Rattle.std.proofs.Common.{◌≡◌, false, eqb, [], ◌∷◌, length, sym, refl, ap, ◌∙◌, rules}
use Rattle.std.specs.Option.{option_map}
use Rattle.frames.specs.Views.{entry_fields}
use Rattle.frames.specs.Carried.{entry_frame}
use Rattle.backplane.specs.Ports.{lanes_of}
use Rattle.protocol.specs.Booking.{entry_at, message_frames}
use Rattle.logs.specs.Log.{entries_of}
use Rattle.cards.specs.LaneViews.{lane_fields}
use Rattle.shipping.specs.Lanes.{lanes_with}
use Rattle.shipping.proofs.Sends.{put_sent}
use Rattle.shipping.proofs.Entering.{enter_all}
use Rattle.shipping.proofs.message.send_message.Goals as goal

pub returns-clause-part : goal.returns-clause-part
returns-clause-part g c =
    let b = g.B.Backplane in
    let s = c.args.backplane.now in
    let lane = c.args.lane in
    let L = b.lanes s in
    let due = message_frames (entry_at c.args.header (entries_of c.args.log.now)) in
    let found = ap (option_map entry_fields) (sym c.in_ok-entry.ensures.ok_part) ∙ c.entry_at.ensures in
    let one : due ≡ entry_frame 1 (entry_fields c.in_ok-entry.entry) ∷ [] = ap message_frames (sym found) in
    let sent = put_sent c.message.result c.put.ensures.same c.put.ensures.lanes ∙ ap (λ xs. lanes_with lane.from lane.to lane.number xs (lane_fields L)) (ap (λ x. x ∷ []) c.message.ensures ∙ sym one) in
    let all = enter_all (b.count s) (b.room s) lane.from lane.to lane.number L due false (ap (λ xs. eqb (length xs) 0) one) refl 1 (sym (ap length one)) c.in_ok-find_room.ensures (lane_fields (lanes_of c.put.new.port)) sent in
    search (rules, all)
