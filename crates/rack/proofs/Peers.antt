-- A call that names a peer: the card, its peer and the lanes between them.
use Rattle.std.proofs.Common.{◌≡◌, ℕ, ◌-◌, Bool, true, false, cond, not, ◌||◌, eqb, leb, List, [], ◌∷◌, map, length, get_or, Ok, Err, Result, sym, refl, ap, arith}
use Rattle.std.proofs.lemmas.Bool.{and_from, and_parts, eqb-false, ne_eqb, leb-true}
use Rattle.std.proofs.lemmas.Bool.Decides.{nat_tests}
use Rattle.backplane.specs.Lanes.{is_card, is_lane_number, is_lane}
use Rattle.frames.specs.declared.frame.Frame.{Frame}
use Rattle.frames.specs.Fields.{is_frame}
use Rattle.frames.specs.Views.{frame_fields}
use Rattle.protocol.specs.Rack.{no_peer, is_row_kind}
use Rattle.protocol.specs.Taking.{front}
use Rattle.cards.specs.Sizes.{card_count}
use Rattle.rack.specs.Seats.{opened_seat}
use Rattle.rack.specs.View.{sizes}
use Rattle.rack.specs.declared.seat.Seat.{Seat}
use Rattle.rack.proofs.Views.{Found, seat_found}
use Rattle.rack.specs.declared.fault.RackFault.{RackFault}
use Rattle.rack.specs.declared.fault.RackFault.TheVariants as fault
use Rattle.rack.specs.declared.state.Rack.{Rack}

pub record Pair (r : Rack) (i j : ℕ) (seat : Seat) : Type 0 where
  pub card : is_card (card_count r.size) i ≡ true
  pub peer : is_card (card_count r.size) j ≡ true
  pub apart : eqb i j ≡ false
  pub here : no_peer (sizes r 0) i j ≡ false
  pub found : Found r i seat

pub paired : (r : Rack) (i j : ℕ) (seat : Seat) → ◌≡◌ {A = Result Seat RackFault} (Ok seat) (cond (no_peer (sizes r 0) i j) (Err fault.NoSuchCard) (Ok (get_or r.seats (i - 1) opened_seat))) → Pair r i j seat
paired r i j seat e = go (is_card (card_count r.size) i) refl (is_card (card_count r.size) j) refl (eqb i j) refl e
  where
    never : ◌≡◌ {A = Result Seat RackFault} (Ok seat) (Err fault.NoSuchCard) → ⊥
    never p = let z : ◌≡◌ {A = ℕ} 0 1 = cc in omega arith

    same : (x y : Seat) → ◌≡◌ {A = Result Seat RackFault} (Ok x) (Ok y) → x ≡ y
    same x y p = cc

    go : (a : Bool) → is_card (card_count r.size) i ≡ a → (b : Bool) → is_card (card_count r.size) j ≡ b → (c : Bool) → eqb i j ≡ c → ◌≡◌ {A = Result Seat RackFault} (Ok seat) (cond (not a || (not b || c)) (Err fault.NoSuchCard) (Ok (get_or r.seats (i - 1) opened_seat))) → Pair r i j seat
    go false p b q c s h = absurd (never h)
    go true p false q c s h = absurd (never h)
    go true p true q true s h = absurd (never h)
    go true p true q false s h = record { card = p; peer = q; apart = s; here = (λ k. not (p k) || (not (q k) || s k)); found = seat_found r i seat p (same seat (get_or r.seats (i - 1) opened_seat) h) }

-- the lanes between two cards
pub lane_is : (n i j l : ℕ) → is_card n i ≡ true → is_card n j ≡ true → eqb i j ≡ false → is_lane_number l ≡ true → is_lane n i j l ≡ true
lane_is n i j l p q apart number = and_from (is_card n i) _ p (and_from (is_card n j) _ q (and_from (not (eqb i j)) (is_lane_number l) (ap not apart) number))

pub apart_back : (i j : ℕ) → eqb i j ≡ false → eqb j i ≡ false
apart_back i j e = ne_eqb j i (λ h. eqb-false i j e (sym h))

pub row_lane : (kind : ℕ) → is_row_kind kind ≡ true → is_lane_number kind ≡ true
row_lane kind is =
    let p = and_parts (leb 4 kind) (leb kind 6) is in
    let low = leb-true 4 kind p.0 in
    let high = leb-true kind 6 p.1 in
    grind (arith, nat_tests)

-- what is in front of a lane where something waits is a frame
pub front_frame : (xs : List Frame) → eqb (length (map frame_fields xs)) 0 ≡ false → is_frame (front (map frame_fields xs)) ≡ true
front_frame [] e = absurd (eqb-false 0 0 e refl)
front_frame (x ∷ xs) e = x.well
