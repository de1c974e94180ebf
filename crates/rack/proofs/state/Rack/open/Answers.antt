use Rattle.std.proofs.Common.{◌≡◌, leb, List, [], ◌∷◌, MatchBool, sym, refl, ap, ◌∙◌, subst, rules}
use Rattle.std.proofs.lemmas.Bool.{and_parts, leb-true}
use Rattle.std.specs.List.{AllByRecursion}
use Rattle.backplane.specs.Lanes.{empty_lanes}
use Rattle.protocol.specs.Rack.{opened_card}
use Rattle.rack.specs.Seats.{cards_in, used_in}
use Rattle.rack.specs.declared.seat.Seat.{Seat}
use Rattle.rack.proofs.Opens.{size_of_lem, view_opened, promises, stands_alone}
use Rattle.rack.proofs.state.Rack.open.Goals as goal

pub returns : goal.returns
returns g c =
    let M = g.M.Machine in
    let s = c.args.backplane.now in
    let L = g.B.Backplane.lanes s in
    let size = size_of_lem c.args.cards c.in_ok-size.size (search rules) in
    let room = and_parts (leb 1 c.args.places) (leb c.args.places 1024) (sym c.is_log_size.ensures ∙ c.if-not-is_log_size.false) in
    let x = c.opened.result in
    let seat = c.opened.ensures in
    let card : x.card ≡ opened_card = ap (λ (s : Seat). s.card) seat in
    let used : x.used ≡ 0 = ap (λ (s : Seat). s.used) seat in
    let quiet : L ≡ empty_lanes = subst (λ b. MatchBool b (L ≡ empty_lanes) (L ≡ empty_lanes → ⊥)) c.if-not-is_quiet.false c.is_quiet.ensures in
    let seats : List Seat = x ∷ x ∷ x ∷ x ∷ x ∷ x ∷ x ∷ [] in
    let new : AllByRecursion (λ c. c ≡ opened_card) (cards_in seats) = (card, (card, (card, (card, (card, (card, (card, tt))))))) in
    let unused : AllByRecursion (λ u. u ≡ 0) (used_in seats) = (used, (used, (used, (used, (used, (used, (used, tt))))))) in
    record {
      opened = (
        record { size = size.1; low = leb-true 1 c.args.places room.0; high = leb-true c.args.places 1024 room.1; long = c.if-entries-total.false; many = c.if-machines-cards.false; wide = sym c.cards.ensures ∙ c.if-cards.false; quiet = quiet },
        view_opened c.in_ok-size.size c.args.places 0 c.args.cards (cards_in seats) (used_in seats) c.args.entries.now c.restart.new.machines M.state M.initial L new unused refl c.restart.ensures quiet,
        λ k. record { cards = size.0 k; places = c.args.places; capacity = g.B.Backplane.room s },
      );
      laws = promises M.initial (λ q w. M.applied q (M.unpacked w)) c.in_ok-size.size c.args.places (g.B.Backplane.room s);
      lone = stands_alone M.initial M.applied M.unpacked c.in_ok-size.size c.args.places (g.B.Backplane.room s);
    }
