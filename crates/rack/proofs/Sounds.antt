-- Cards stay sound: every successor of a sound card is sound.
use Rattle.std.proofs.Common.{◌≡◌, ℕ, zero, suc, ◌+◌, ◌-◌, ◌<◌, Bool, true, false, cond, not, ◌&&◌, ◌||◌, eqb, ltb, leb, List, [], ◌∷◌, map, get_or, set, is_err, Some, None, Ok, Err, filter, Option, Result, refl, arith}
use Rattle.std.specs.List.{AllByRecursion}
use Rattle.std.proofs.ByRecursion.{All-set, all_kept_by}
use Rattle.std.proofs.lemmas.Bool.{and_parts, and_from, cond_both, false≢true, true≢false, or_right}
use Rattle.std.proofs.lemmas.Bool.Decides.{nat_tests}
use Rattle.std.specs.Option.{option_or}
use Rattle.std.specs.Result.{result_unwrap_or}
use Rattle.refusals.specs.declared.Refusal.{Refusal}
use Rattle.refusals.specs.declared.Refusal.TheVariants.{NoSuchCard, UsedUp}
use Rattle.marks.specs.Kinds.{Epoch, Header, Vote, is_null_epoch, is_led_epoch, is_epoch, is_header, is_vote, epoch_of}
use Rattle.marks.specs.Order.{epoch_same, epoch_up_to, vote_up_to}
use Rattle.marks.specs.Least.{least_epoch}
use Rattle.frames.specs.declared.entry.Entry.{Entry}
use Rattle.frames.specs.Fields.{EntryFields, FrameFields, is_entry_header, is_entry, is_frame, header_of, words_header, no_words, carries_entry, carries_diff, carries_header, carries_vote}
use Rattle.frames.specs.Fields as fields
use Rattle.frames.specs.Views.{entry_fields}
use Rattle.backplane.specs.Lanes.{is_card}
use Rattle.protocol.specs.Rows.{blank_row, has_place, row_of, with_row, mark_shipped, store_accept, store_vote, store_commit, forget_up_to, vote_of, vote_rows}
use Rattle.protocol.specs.Rack.{Sizes, opened_card, is_electing, is_leader, is_row_kind}
use Rattle.protocol.specs.Voting.{largest_vote, later_epoch, standing_epoch, stood_in, timeout_epoch, timed_out, stands, joins, joined_to, elected, is_elected, won_by}
use Rattle.protocol.specs.Booking.{place_after, accepted_up_to, with_peers, entry_at, inside}
use Rattle.protocol.specs.Booking as booking
use Rattle.protocol.specs.Committing.{one_or_none, opens_epoch, due_entries, last_header, committed_to}
use Rattle.protocol.specs.Taking.{is_message, is_diff, entered_by, taken_by}
use Rattle.protocol.specs.Exchange.{stored, stopped_card}
use Rattle.protocol.specs.declared.card.Card.{Card}
use Rattle.protocol.specs.declared.peers.PeerRow.{PeerRow}
use Rattle.protocol.specs.declared.peers.PeerTable.{PeerTable}
use Rattle.protocol.proofs.Cards.{not_both, each_row, largest_one}
use Rattle.rack.specs.Sound.{sound_row, sound_rows, sound_marks, sound_role, sound_card}

-- one sound card more among sound cards
pub sound_set : (cards : List Card) (i : ℕ) (c : Card) → sound_card c ≡ true → ((k : ℕ) → sound_card (get_or cards k opened_card) ≡ true) → (k : ℕ) → sound_card (get_or (set cards i c) k opened_card) ≡ true
sound_set [] i c one all k = all k
sound_set (d ∷ cards) zero c one all zero = one
sound_set (d ∷ cards) zero c one all (suc k) = all (suc k)
sound_set (d ∷ cards) (suc i) c one all zero = all 0
sound_set (d ∷ cards) (suc i) c one all (suc k) = sound_set cards i c one (λ j. all (suc j)) k

implied : (a b : Bool) → (not a || b) ≡ true → a ≡ true → b ≡ true
implied true b h e = h
implied false b h e = absurd (false≢true e)

implies : (a b : Bool) → (a ≡ true → b ≡ true) → (not a || b) ≡ true
implies true b h = h refl
implies false b h = refl

-- rows and tables
abbrev pub SoundRows : List PeerRow → Type 0
SoundRows rows = AllByRecursion (λ r. sound_row r ≡ true) rows

rows_all : (rows : List PeerRow) → sound_rows rows ≡ true → SoundRows rows
rows_all [] h = tt
rows_all (r ∷ rows) h = let p = and_parts (sound_row r) (sound_rows rows) h in (p.0, rows_all rows p.1)

all_rows : (rows : List PeerRow) → SoundRows rows → sound_rows rows ≡ true
all_rows [] h = refl
all_rows (r ∷ rows) h = and_from (sound_row r) (sound_rows rows) h.0 (all_rows rows h.1)

-- what sound_card says, part by part
pub record Sound (c : Card) : Type 0 where
  pub accepted : is_header c.accepted ≡ true
  pub committed : is_header c.committed ≡ true
  pub vote : is_vote c.vote ≡ true
  pub newest : is_epoch c.newest ≡ true
  pub electing : is_electing c.role ≡ true → epoch_same c.newest c.vote.0 ≡ true
  pub leads : is_leader c.role ≡ true → is_led_epoch c.current ≡ true
  pub places : is_leader c.role ≡ true → is_led_epoch (epoch_of c.accepted) ≡ true
  pub rows : SoundRows c.peers.rows

pub sound_parts : (c : Card) → sound_card c ≡ true → Sound c
sound_parts c h = record {
  accepted = m0.0;
  committed = m1.0;
  vote = m2.0;
  newest = m2.1;
  electing = implied (is_electing c.role) (epoch_same c.newest c.vote.0) ro.0;
  leads = λ e. (led e).0;
  places = λ e. (led e).1;
  rows = rows_all c.peers.rows rest.1;
}
  where
    whole : (sound_marks c ≡ true) × ((sound_role c && sound_rows c.peers.rows) ≡ true)
    whole = and_parts (sound_marks c) (sound_role c && sound_rows c.peers.rows) h

    rest : (sound_role c ≡ true) × (sound_rows c.peers.rows ≡ true)
    rest = and_parts (sound_role c) (sound_rows c.peers.rows) whole.1

    m0 : (is_header c.accepted ≡ true) × ((is_header c.committed && (is_vote c.vote && is_epoch c.newest)) ≡ true)
    m0 = and_parts (is_header c.accepted) (is_header c.committed && (is_vote c.vote && is_epoch c.newest)) whole.0

    m1 : (is_header c.committed ≡ true) × ((is_vote c.vote && is_epoch c.newest) ≡ true)
    m1 = and_parts (is_header c.committed) (is_vote c.vote && is_epoch c.newest) m0.1

    m2 : (is_vote c.vote ≡ true) × (is_epoch c.newest ≡ true)
    m2 = and_parts (is_vote c.vote) (is_epoch c.newest) m1.1

    ro : ((not (is_electing c.role) || epoch_same c.newest c.vote.0) ≡ true) × ((not (is_leader c.role) || (is_led_epoch c.current && is_led_epoch (epoch_of c.accepted))) ≡ true)
    ro = and_parts (not (is_electing c.role) || epoch_same c.newest c.vote.0) (not (is_leader c.role) || (is_led_epoch c.current && is_led_epoch (epoch_of c.accepted))) rest.0

    led : is_leader c.role ≡ true → (is_led_epoch c.current ≡ true) × (is_led_epoch (epoch_of c.accepted) ≡ true)
    led e = and_parts (is_led_epoch c.current) (is_led_epoch (epoch_of c.accepted)) (implied (is_leader c.role) (is_led_epoch c.current && is_led_epoch (epoch_of c.accepted)) ro.1 e)

pub sound_from : (c : Card) → Sound c → sound_card c ≡ true
sound_from c s =
    and_from (sound_marks c) (sound_role c && sound_rows c.peers.rows)
    (and_from (is_header c.accepted) (is_header c.committed && (is_vote c.vote && is_epoch c.newest)) s.accepted (and_from (is_header c.committed) (is_vote c.vote && is_epoch c.newest) s.committed (and_from (is_vote c.vote) (is_epoch c.newest) s.vote s.newest)))
    (and_from (sound_role c) (sound_rows c.peers.rows)
    (and_from (not (is_electing c.role) || epoch_same c.newest c.vote.0) (not (is_leader c.role) || (is_led_epoch c.current && is_led_epoch (epoch_of c.accepted)))
    (implies (is_electing c.role) (epoch_same c.newest c.vote.0) s.electing)
    (implies (is_leader c.role) (is_led_epoch c.current && is_led_epoch (epoch_of c.accepted)) (λ e. and_from (is_led_epoch c.current) (is_led_epoch (epoch_of c.accepted)) (s.leads e) (s.places e))))
    (all_rows c.peers.rows s.rows))

pub sound_opened : sound_card opened_card ≡ true
sound_opened = refl

pub sound_stopped : (c : Card) → sound_card c ≡ true → sound_card (stopped_card c) ≡ true
sound_stopped c h = h

-- the three marks of a row
pub record RowMarks (r : PeerRow) : Type 0 where
  pub accept : is_header r.accept ≡ true
  pub vote : is_vote r.vote ≡ true
  pub commit : is_header r.commit ≡ true

pub row_parts : (r : PeerRow) → sound_row r ≡ true → RowMarks r
row_parts r h =
    let p = and_parts (is_header r.accept) (is_vote r.vote && is_header r.commit) h in
    let q = and_parts (is_vote r.vote) (is_header r.commit) p.1 in
    record { accept = p.0; vote = q.0; commit = q.1 }

row_at : (rows : List PeerRow) (k : ℕ) → SoundRows rows → sound_row (get_or rows k blank_row) ≡ true
row_at [] k all = refl
row_at (r ∷ rows) zero all = all.0
row_at (r ∷ rows) (suc k) all = row_at rows k all.1

-- a row of a sound table is sound
pub sound_row_lem : (t : PeerTable) (j : ℕ) → SoundRows t.rows → sound_row (row_of t j) ≡ true
sound_row_lem t j all = cond_both (has_place j) (get_or t.rows (j - 1) blank_row) blank_row (λ r. sound_row r ≡ true) (λ _. row_at t.rows (j - 1) all) (λ _. refl)

marks_of : (t : PeerTable) (j : ℕ) → SoundRows t.rows → RowMarks (row_of t j)
marks_of t j all = row_parts (row_of t j) (sound_row_lem t j all)

-- and so is the table with one row of sound marks written
rows_with : (t : PeerTable) (j : ℕ) (r : PeerRow) → SoundRows t.rows → is_header r.accept ≡ true → is_vote r.vote ≡ true → is_header r.commit ≡ true → SoundRows (with_row t j r).rows
rows_with t j r all accept vote commit =
    let one : sound_row r ≡ true = and_from (is_header r.accept) (is_vote r.vote && is_header r.commit) accept (and_from (is_vote r.vote) (is_header r.commit) vote commit) in
    cond_both (has_place j) (record { rows = set t.rows (j - 1) r }) t (λ u. SoundRows u.rows) (λ _. All-set (λ s. sound_row s ≡ true) t.rows (j - 1) r one all) (λ _. all)

rows_accept : (t : PeerTable) (j : ℕ) (h : Header) → SoundRows t.rows → is_header h ≡ true → SoundRows (store_accept t j h).rows
rows_accept t j h all is = rows_with t j (record { shipped = (row_of t j).shipped; accept = h; vote = (row_of t j).vote; commit = (row_of t j).commit }) all is (marks_of t j all).vote (marks_of t j all).commit

rows_vote : (t : PeerTable) (j : ℕ) (v : Vote) → SoundRows t.rows → is_vote v ≡ true → SoundRows (store_vote t j v).rows
rows_vote t j v all is = rows_with t j (record { shipped = (row_of t j).shipped; accept = (row_of t j).accept; vote = v; commit = (row_of t j).commit }) all (marks_of t j all).accept is (marks_of t j all).commit

rows_commit : (t : PeerTable) (j : ℕ) (h : Header) → SoundRows t.rows → is_header h ≡ true → SoundRows (store_commit t j h).rows
rows_commit t j h all is = rows_with t j (record { shipped = (row_of t j).shipped; accept = (row_of t j).accept; vote = (row_of t j).vote; commit = h }) all (marks_of t j all).accept (marks_of t j all).vote is

rows_shipped : (t : PeerTable) (j : ℕ) (x : Option ℕ) → SoundRows t.rows → SoundRows (mark_shipped t j x).rows
rows_shipped t j x all = rows_with t j (record { shipped = x; accept = (row_of t j).accept; vote = (row_of t j).vote; commit = (row_of t j).commit }) all (marks_of t j all).accept (marks_of t j all).vote (marks_of t j all).commit

rows_forgotten : (k : ℕ) (t : PeerTable) → SoundRows t.rows → SoundRows (forget_up_to k t).rows
rows_forgotten zero t all = all
rows_forgotten (suc k) t all = rows_shipped (forget_up_to k t) (suc k) None (rows_forgotten k t all)

pub largest_vote_lem : (z : Sizes) (i : ℕ) (c : Card) → Sound c → is_vote (largest_vote z i c) ≡ true
largest_vote_lem z i c s = largest_one (λ v. is_vote v ≡ true) vote_up_to c.vote (vote_rows z.cards i c.vote c.peers) s.vote (each_row (λ v. is_vote v ≡ true) (vote_of i c.vote c.peers) z.cards one)
  where
    one : (j : ℕ) → is_vote (vote_of i c.vote c.peers j) ≡ true
    one j = cond_both (eqb j i) c.vote (row_of c.peers j).vote (λ v. is_vote v ≡ true) (λ _. s.vote) (λ _. (marks_of c.peers j s.rows).vote)

vote_parts : (v : Vote) → is_vote v ≡ true → (is_epoch v.0 ≡ true) × (is_header v.1 ≡ true)
vote_parts v h = and_parts (is_epoch v.0) (is_header v.1) h

-- numbers of epochs
round_small : (round leader : ℕ) → is_epoch (round, leader) ≡ true → round < 4294967296
round_small round leader h = grind (arith, nat_tests)

led_epoch : (e : Epoch) → is_led_epoch e ≡ true → is_epoch e ≡ true
led_epoch e h = or_right (is_null_epoch e) (is_led_epoch e) h

led_start : (round leader : ℕ) → is_led_epoch (round, leader) ≡ true → is_header (round, leader, 0) ≡ true
led_start round leader h = grind (arith, nat_tests)

same_self : (round leader : ℕ) → epoch_same (round, leader) (round, leader) ≡ true
same_self round leader = grind (arith, nat_tests)

led_same : (round i : ℕ) → round < 4294967296 → leb 1 i && leb i 7 ≡ true → is_led_epoch (round, i) ≡ true
led_same round i h k = grind (arith, nat_tests)

led_next : (round i : ℕ) → ltb round 4294967295 ≡ true → leb 1 i && leb i 7 ≡ true → is_led_epoch (round + 1, i) ≡ true
led_next round i h k = grind (arith, nat_tests)

abbrev least_by : Bool → Bool → Bool → ℕ → ℕ → Result Epoch Refusal
least_by a b c round i = cond a (cond b (Ok (round, i)) (cond c (Ok (round + 1, i)) (Err UsedUp))) (Err NoSuchCard)

-- the least epoch above an epoch is one that a card leads
least_led : (i : ℕ) (above other : Epoch) → above.0 < 4294967296 → is_err (least_epoch i above) ≡ false → is_led_epoch (result_unwrap_or (least_epoch i above) other) ≡ true
least_led i above other small = go (leb 1 i && leb i 7) (ltb above.1 i) (ltb above.0 4294967295) refl refl
  where
    go : (a b c : Bool) → leb 1 i && leb i 7 ≡ a → ltb above.0 4294967295 ≡ c → is_err (least_by a b c above.0 i) ≡ false → is_led_epoch (result_unwrap_or (least_by a b c above.0 i) other) ≡ true
    go true true c p q ok = led_same above.0 i small p
    go true false true p q ok = led_next above.0 i q p
    go true false false p q ok = absurd (true≢false ok)
    go false b c p q ok = absurd (true≢false ok)

-- the card votes for itself
sound_stood : (e : Epoch) (c : Card) → Sound c → is_led_epoch e ≡ true → Sound (stood_in e c)
sound_stood e c s led = record {
  accepted = s.accepted;
  committed = s.committed;
  vote = and_from (is_epoch e) (is_header c.accepted) (led_epoch e led) s.accepted;
  newest = led_epoch e led;
  electing = λ _. same_self e.0 e.1;
  leads = λ no. absurd (false≢true no);
  places = λ no. absurd (false≢true no);
  rows = s.rows;
}

pub sound_timed_out : (z : Sizes) (i : ℕ) (c : Card) → sound_card c ≡ true → is_err (standing_epoch z i c) ≡ false → sound_card (timed_out z i c) ≡ true
sound_timed_out z i c h ok = sound_from (timed_out z i c) (sound_stood (timeout_epoch z i c) c s (least_led i above c.newest (round_small above.0 above.1 epoch) ok))
  where
    s : Sound c
    s = sound_parts c h

    above : Epoch
    above = later_epoch c.newest (largest_vote z i c).0

    epoch : is_epoch (later_epoch c.newest (largest_vote z i c).0) ≡ true
    epoch = cond_both (epoch_up_to c.newest (largest_vote z i c).0) (largest_vote z i c).0 c.newest (λ e. is_epoch e ≡ true) (λ _. (vote_parts (largest_vote z i c) (largest_vote_lem z i c s)).0) (λ _. s.newest)

pub sound_joined : (v : Vote) (c : Card) → sound_card c ≡ true → is_electing c.role ≡ true → is_vote v ≡ true → sound_card (joined_to v c) ≡ true
sound_joined v c h electing is = sound_from (joined_to v c) (record {
  accepted = s.accepted;
  committed = s.committed;
  vote = is;
  newest = (vote_parts v is).0;
  electing = λ _. same_self v.0.0 v.0.1;
  leads = λ no. absurd (not_both c.role electing no);
  places = λ no. absurd (not_both c.role electing no);
  rows = s.rows;
})
  where
    s : Sound c
    s = sound_parts c h

pub sound_elected : (z : Sizes) (i : ℕ) (c : Card) → sound_card c ≡ true → is_electing c.role ≡ true → (stands z i c && is_err (standing_epoch z i c)) ≡ false → sound_card (elected z i c) ≡ true
sound_elected z i c h electing ok =
    cond_both (stands z i c) (timed_out z i c) (cond (joins z i c) (joined_to (largest_vote z i c) c) c) (λ d. sound_card d ≡ true)
    (λ e. sound_timed_out z i c h (left (stands z i c) (is_err (standing_epoch z i c)) ok e))
    (λ _. cond_both (joins z i c) (joined_to (largest_vote z i c) c) c (λ d. sound_card d ≡ true) (λ _. sound_joined (largest_vote z i c) c h electing (largest_vote_lem z i c (sound_parts c h))) (λ _. h))
  where
    left : (a b : Bool) → (a && b) ≡ false → a ≡ true → b ≡ false
    left true b p e = p
    left false b p e = absurd (false≢true e)

-- a vote's epoch that a card of the rack leads, and an epoch equal to it
won_led : (r l r' l' i n : ℕ) → is_epoch (r', l') ≡ true → epoch_same (r, l) (r', l') ≡ true → eqb l' i ≡ true → leb 1 i && leb i n ≡ true → is_led_epoch (r, l) ≡ true
won_led r l r' l' i n epoch same led is = grind (arith, nat_tests)

pub sound_won : (z : Sizes) (n i : ℕ) (c : Card) → sound_card c ≡ true → is_card n i ≡ true → is_electing c.role ≡ true → is_elected z i c ≡ true → sound_card (won_by c) ≡ true
sound_won z n i c h is electing won = sound_from (won_by c) (record {
  accepted = led_start c.newest.0 c.newest.1 led;
  committed = s.committed;
  vote = s.vote;
  newest = s.newest;
  electing = λ no. absurd (false≢true no);
  leads = λ _. led;
  places = λ _. led;
  rows = rows_forgotten 7 c.peers s.rows;
})
  where
    s : Sound c
    s = sound_parts c h

    led : is_led_epoch c.newest ≡ true
    led = won_led c.newest.0 c.newest.1 c.vote.0.0 c.vote.0.1 i n (vote_parts c.vote s.vote).0 (s.electing electing) (and_parts (eqb c.vote.0.1 i) _ won).0 is

-- a header accepted; under a leader, one of an epoch that a card leads
pub sound_accepted : (a : Header) (c : Card) → sound_card c ≡ true → is_header a ≡ true → (is_leader c.role ≡ true → is_led_epoch (epoch_of a) ≡ true) → sound_card (accepted_up_to a c) ≡ true
sound_accepted a c h is led = sound_from (accepted_up_to a c) (record {
  accepted = is;
  committed = s.committed;
  vote = s.vote;
  newest = s.newest;
  electing = s.electing;
  leads = s.leads;
  places = led;
  rows = s.rows;
})
  where
    s : Sound c
    s = sound_parts c h

-- the place after a led header with counts left
pub place_entry : (round leader count : ℕ) → is_led_epoch (round, leader) ≡ true → leb 4294967294 count ≡ false → is_entry_header (place_after (round, leader, count)) ≡ true
place_entry round leader count led room = grind (arith, nat_tests)

entry_header : (round leader count : ℕ) → is_entry_header (round, leader, count) ≡ true → is_header (round, leader, count) ≡ true
entry_header round leader count h = grind (arith, nat_tests)

entry_led : (round leader count : ℕ) → is_entry_header (round, leader, count) ≡ true → is_led_epoch (round, leader) ≡ true
entry_led round leader count h = (and_parts (is_led_epoch (round, leader)) (leb 1 count && leb count 4294967294) h).0

pub sound_placed : (c : Card) → sound_card c ≡ true → is_leader c.role ≡ true → leb 4294967294 c.accepted.2 ≡ false → sound_card (accepted_up_to (place_after c.accepted) c) ≡ true
sound_placed c h leader room =
    let led = (sound_parts c h).places leader in
    sound_accepted (place_after c.accepted) c h (entry_header c.accepted.0 c.accepted.1 (c.accepted.2 + 1) (place_entry c.accepted.0 c.accepted.1 c.accepted.2 led room)) (λ _. led)

pub sound_entered : (e : Epoch) (c : Card) → sound_card c ≡ true → is_led_epoch e ≡ true → sound_card (entered_by e c) ≡ true
sound_entered e c h led = sound_from (entered_by e c) (record {
  accepted = led_start e.0 e.1 led;
  committed = s.committed;
  vote = s.vote;
  newest = led_epoch e led;
  electing = λ no. absurd (false≢true no);
  leads = λ no. absurd (false≢true no);
  places = λ no. absurd (false≢true no);
  rows = s.rows;
})
  where
    s : Sound c
    s = sound_parts c h

pub sound_with_peers : (t : PeerTable) (c : Card) → sound_card c ≡ true → SoundRows t.rows → sound_card (with_peers t c) ≡ true
sound_with_peers t c h all = sound_from (with_peers t c) (record {
  accepted = s.accepted;
  committed = s.committed;
  vote = s.vote;
  newest = s.newest;
  electing = s.electing;
  leads = s.leads;
  places = s.places;
  rows = all;
})
  where
    s : Sound c
    s = sound_parts c h

pub sound_shipped : (c : Card) (j : ℕ) (x : Option ℕ) → sound_card c ≡ true → sound_card (with_peers (mark_shipped c.peers j x) c) ≡ true
sound_shipped c j x h = sound_with_peers (mark_shipped c.peers j x) c h (rows_shipped c.peers j x (sound_parts c h).rows)

-- what a frame carries, by its kind
module _ (k : ℕ) (a b c d : Bool) (h : (((eqb k 1 || eqb k 3) && a) || ((eqb k 2 && b) || (((eqb k 4 || eqb k 6) && c) || (eqb k 5 && d)))) ≡ true) where
  kind_entry : eqb k 1 ≡ true → a ≡ true
  kind_entry e = grind (arith, nat_tests)

  kind_diff : eqb k 2 ≡ true → b ≡ true
  kind_diff e = grind (arith, nat_tests)

  kind_header : leb 4 k && leb k 6 ≡ true → eqb k 5 ≡ false → c ≡ true
  kind_header r e = grind (arith, nat_tests)

  kind_vote : eqb k 5 ≡ true → d ≡ true
  kind_vote e = grind (arith, nat_tests)

-- what a row's frame carries
frame_header : (f : FrameFields) → is_frame f ≡ true → is_row_kind f.kind ≡ true → eqb f.kind 5 ≡ false → is_header (header_of f) ≡ true
frame_header f h row other = (and_parts (is_header (header_of f)) (no_words f) (kind_header f.kind (carries_entry f) (carries_diff f) (carries_header f) (carries_vote f) h row other)).0

frame_vote : (f : FrameFields) → is_frame f ≡ true → eqb f.kind 5 ≡ true → is_vote (fields.epoch_of f, words_header f) ≡ true
frame_vote f h vote =
    let p = and_parts (is_epoch (fields.epoch_of f)) (eqb f.count 0 && (is_header (words_header f) && eqb f.w4 0)) (kind_vote f.kind (carries_entry f) (carries_diff f) (carries_header f) (carries_vote f) h vote) in
    let q = and_parts (eqb f.count 0) (is_header (words_header f) && eqb f.w4 0) p.1 in
    and_from (is_epoch (fields.epoch_of f)) (is_header (words_header f)) p.0 (and_parts (is_header (words_header f)) (eqb f.w4 0) q.1).0

four_not_five : (k : ℕ) → eqb k 4 ≡ true → eqb k 5 ≡ false
four_not_five k e = grind (arith, nat_tests)

pub sound_stored : (c : Card) (j : ℕ) (f : FrameFields) → sound_card c ≡ true → is_frame f ≡ true → is_row_kind f.kind ≡ true → sound_card (with_peers (stored c.peers j f) c) ≡ true
sound_stored c j f h is row =
    sound_with_peers (stored c.peers j f) c h
    (cond_both (eqb f.kind 4) accept (cond (eqb f.kind 5) vote commit) (λ t. SoundRows t.rows)
    (λ e. rows_accept c.peers j (header_of f) all (frame_header f is row (four_not_five f.kind e)))
    (λ _. cond_both (eqb f.kind 5) vote commit (λ t. SoundRows t.rows)
    (λ e. rows_vote c.peers j (fields.epoch_of f, words_header f) all (frame_vote f is e))
    (λ e. rows_commit c.peers j (header_of f) all (frame_header f is row e))))
  where
    all : SoundRows c.peers.rows
    all = (sound_parts c h).rows

    accept : PeerTable
    accept = store_accept c.peers j (header_of f)

    vote : PeerTable
    vote = store_vote c.peers j (fields.epoch_of f, words_header f)

    commit : PeerTable
    commit = store_commit c.peers j (header_of f)

-- entries
abbrev pub AreEntries : List EntryFields → Type 0
AreEntries es = AllByRecursion (λ e. is_entry e ≡ true) es

pub entries_all : (es : List Entry) → AreEntries (map entry_fields es)
entries_all [] = tt
entries_all (e ∷ es) = (e.well, entries_all es)

pub entries_kept : (p : EntryFields → Bool) (es : List EntryFields) → AreEntries es → AreEntries (filter p es)
entries_kept p es all = all_kept_by p (λ e. is_entry e ≡ true) es all

entries_other : (a b : Option EntryFields) → AreEntries (one_or_none a) → AreEntries (one_or_none b) → AreEntries (one_or_none (option_or a b))
entries_other None b p q = q
entries_other (Some e) b p q = p

pub entries_at : (h : Header) (es : List EntryFields) → AreEntries es → AreEntries (one_or_none (entry_at h es))
entries_at h [] all = tt
entries_at h (e ∷ es) all = entries_other (entry_at h es) (cond (booking.is_header e.header h) (Some e) None) (entries_at h es all.1) (cond_both (booking.is_header e.header h) (Some e) None (λ o. AreEntries (one_or_none o)) (λ _. (all.0, tt)) (λ _. tt))

-- what a card commits next, of a log of entries
pub entries_due : (c : Card) (es : List EntryFields) → AreEntries es → AreEntries (due_entries c es)
entries_due c es all = cond_both (opens_epoch c) (filter (inside c.committed c.next) es) (one_or_none (entry_at c.next es)) AreEntries (λ _. entries_kept (inside c.committed c.next) es all) (λ _. entries_at c.next es all)

pub entry_mark : (e : EntryFields) → is_entry e ≡ true → is_header e.header ≡ true
entry_mark e h = entry_header e.header.0 e.header.1 e.header.2 (and_parts (is_entry_header e.header) _ h).0

last_header_lem : (h : Header) (es : List EntryFields) → is_header h ≡ true → AreEntries es → is_header (last_header h es) ≡ true
last_header_lem h [] is all = is
last_header_lem h (e ∷ es) is all = last_header_lem e.header es (entry_mark e all.0) all.1

pub sound_committed : (es : List EntryFields) (c : Card) → sound_card c ≡ true → AreEntries es → sound_card (committed_to es c) ≡ true
sound_committed es c h all = sound_from (committed_to es c) (record {
  accepted = s.accepted;
  committed = last_header_lem c.committed es s.committed all;
  vote = s.vote;
  newest = s.newest;
  electing = s.electing;
  leads = s.leads;
  places = s.places;
  rows = s.rows;
})
  where
    s : Sound c
    s = sound_parts c h

-- the front of a lane taken: a message or a diff
pub sound_taken : (c : Card) (f : FrameFields) → sound_card c ≡ true → is_frame f ≡ true → (is_message f || is_diff f) ≡ true → sound_card (taken_by c f) ≡ true
sound_taken c f h is front =
    cond_both (is_message f) (accepted_up_to (header_of f) c) (entered_by (fields.epoch_of f) c) (λ d. sound_card d ≡ true)
    (λ e. let entry = message e in sound_accepted (header_of f) c h (entry_header f.round f.leader f.count entry) (λ _. entry_led f.round f.leader f.count entry))
    (λ e. sound_entered (fields.epoch_of f) c h (and_parts (is_led_epoch (fields.epoch_of f)) _ (diff (right (is_message f) (is_diff f) front e))).0)
  where
    right : (a b : Bool) → (a || b) ≡ true → a ≡ false → b ≡ true
    right true b p e = absurd (true≢false e)
    right false b p e = p

    message : is_message f ≡ true → is_entry_header (header_of f) ≡ true
    message e = (and_parts (is_entry_header (header_of f)) _ (kind_entry f.kind (carries_entry f) (carries_diff f) (carries_header f) (carries_vote f) is e)).0

    diff : is_diff f ≡ true → carries_diff f ≡ true
    diff e = kind_diff f.kind (carries_entry f) (carries_diff f) (carries_header f) (carries_vote f) is e
