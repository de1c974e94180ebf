-- What every card of a rack keeps: its marks are marks, an electing card's newest epoch is its vote's, and a leader's epoch is one that a card leads.
use Rattle.std.specs.Prelude.{Bool, true, not, ◌&&◌, ◌||◌, List, [], ◌∷◌}
use Rattle.marks.specs.Kinds.{is_led_epoch, is_epoch, is_header, is_vote, epoch_of}
use Rattle.marks.specs.Order.{epoch_same}
use Rattle.protocol.specs.Rack.{is_electing, is_leader}
use Rattle.protocol.specs.declared.card.Card.{Card}
use Rattle.protocol.specs.declared.peers.PeerRow.{PeerRow}

abbrev pub sound_row : PeerRow → Bool
sound_row r = is_header r.accept && (is_vote r.vote && is_header r.commit)

abbrev pub sound_rows : List PeerRow → Bool
sound_rows [] = true
sound_rows (r ∷ rs) = sound_row r && sound_rows rs

abbrev pub sound_marks : Card → Bool
sound_marks c = is_header c.accepted && (is_header c.committed && (is_vote c.vote && is_epoch c.newest))

abbrev pub sound_role : Card → Bool
sound_role c =
    (not (is_electing c.role) || epoch_same c.newest c.vote.0)
    && (not (is_leader c.role) || (is_led_epoch c.current && is_led_epoch (epoch_of c.accepted)))

abbrev pub sound_card : Card → Bool
sound_card c = sound_marks c && (sound_role c && sound_rows c.peers.rows)
