-- What the rings' slots hold after each call.
use Rattle.std.proofs.Common.{◌≡◌, ℕ, zero, suc, ◌+◌, ◌*◌, ◌<◌, ◌≤◌, Bool, true, false, cond, ◌&&◌, ltb, leb, List, [], ◌∷◌, ◌++◌, length, drop, is_ok, Ok, Err, Result, sym, refl, ap, ◌∙◌, subst, arith}
use Rattle.std.specs.Option.{ok_or}
use Rattle.std.specs.Result.{IsOk}
use Rattle.std.specs.List.{slice_get}
use Rattle.std.proofs.lemmas.Bool.{and_parts, true≢false}
use Rattle.refusals.specs.declared.Refusal.{Refusal}
use Rattle.frames.specs.declared.frame.Frame.{Frame}
use Rattle.frames.specs.Made.{wrote_at}
use Rattle.backplane.specs.declared.fault.LaneFault.{LaneFault}
use Rattle.backplane.specs.declared.fault.LaneFault.TheVariants.{NoSuchLane, NothingThere}
use Rattle.backplane.specs.Lanes.{LanesOf, is_lane, same_lane, with_lane, frame_out, send_out, send_lanes, drop_out, drop_lanes}
use Rattle.ring_table.specs.Rings.{Entered, through, held}
use Rattle.ring_table.specs.Shapes.{slots_of}
use Rattle.ring_table.proofs.Through.{through_frame, through_drop, through_cut, entered_there, entered_not}
use Rattle.rings.specs.Slots.{or_blank, read_slot, frame_at, is_frame_at, every, Holds}
use Rattle.rings.proofs.Slots.{long_wrote, read_here, read_elsewhere, read_bytes}

every_push : (bs : List Bool) → every bs ≡ true → every (bs ++ true ∷ []) ≡ true
every_push [] h = refl
every_push (true ∷ bs) h = every_push bs h
every_push (false ∷ bs) h = h

every_drop : (k : ℕ) (bs : List Bool) → every bs ≡ true → every (drop k bs) ≡ true
every_drop zero bs h = h
every_drop (suc k) [] h = refl
every_drop (suc k) (b ∷ bs) h = every_drop k bs (and_parts b (every bs) h).1

every_nth : (bs : List Bool) (k : ℕ) (b : Bool) → every bs ≡ true → ◌≡◌ {A = Result Bool LaneFault} (Ok b) (ok_or (slice_get bs k) NothingThere) → b ≡ true
every_nth [] k b h e = let z : ◌≡◌ {A = ℕ} 0 1 = cc in absurd (omega arith)
every_nth (a ∷ bs) zero b h e = let same : b ≡ a = cc in same ∙ (and_parts a (every bs) h).0
every_nth (a ∷ bs) (suc k) b h e = every_nth bs k b (and_parts a (every bs) h).1 e

-- every lane's list passes
abbrev Passes : LanesOf Bool → Type 0
Passes L = (f t l : ℕ) → every (L f t l) ≡ true

passes_with : (L : LanesOf Bool) (f t l : ℕ) (bs : List Bool) (b : Bool) → Passes L → every bs ≡ true → Passes (cond b (with_lane L f t l bs) L)
passes_with L f t l bs false old new f' t' l' = old f' t' l'
passes_with L f t l bs true old new f' t' l' = each (same_lane f t l f' t' l')
  where
    each : (same : Bool) → every (cond same bs (L f' t' l')) ≡ true
    each true = new
    each false = old f' t' l'

passes_at : (n : ℕ) (L : LanesOf Bool) (f t l k : ℕ) (b : Bool) → Passes L → Ok b ≡ frame_out n L f t l k → b ≡ true
passes_at n L f t l k b old found = each (is_lane n f t l) found
  where
    each : (there : Bool) → Ok b ≡ cond there (ok_or (slice_get (L f t l) k) NothingThere) (Err NoSuchLane) → b ≡ true
    each true e = every_nth (L f t l) k b (old f t l) e
    each false e = let z : ◌≡◌ {A = ℕ} 0 1 = cc in absurd (omega arith)

-- the same cards and the same room
pub long_kept : (n c n' c' len : ℕ) → n' ≡ n → c' ≡ c → slots_of n c * 48 ≤ len → slots_of n' c' * 48 ≤ len
long_kept n c n' c' len en ec long = rw (en, ec) long

-- different slots lie apart
apart : (j k : ℕ) → (k ≡ j → ⊥) → j * 48 < k * 48 + 48 → j * 48 + 48 ≤ k * 48
apart j k other inside = omega arith

module _ (n c : ℕ) (S : LanesOf ℕ) (bytes : List ℕ) (f t l : ℕ) where
  pub slot_fits_lem : (j : ℕ) → j < slots_of n c → slots_of n c * 48 ≤ length bytes → j * 48 + 48 ≤ length bytes
  slot_fits_lem j inside long = omega arith

  -- what is read at a waiting frame's slot
  pub read_waiting : (k j : ℕ) (x : Frame) → Ok j ≡ frame_out n S f t l k → Ok x ≡ read_slot bytes j → Ok x ≡ frame_out n (through (frame_at bytes) S) f t l k
  read_waiting k j x found read =
      ap (λ (r : Result Frame Refusal). Ok (or_blank r)) read ∙ ap (held (frame_at bytes)) found ∙ through_frame (frame_at bytes) n c S f t l k

  pub none_waiting : (k : ℕ) (e : LaneFault) → Err e ≡ frame_out n S f t l k → Err e ≡ frame_out n (through (frame_at bytes) S) f t l k
  none_waiting k e found = ap (held (frame_at bytes)) found ∙ through_frame (frame_at bytes) n c S f t l k

  pub waiting_reads : (k j : ℕ) (r : Result Frame Refusal) → Passes (through (is_frame_at bytes) S) → Ok j ≡ frame_out n S f t l k → r ≡ read_slot bytes j → IsOk r
  waiting_reads k j r old found read =
      ap is_ok read ∙ passes_at n (through (is_frame_at bytes) S) f t l k (is_frame_at bytes j) old (ap (held (is_frame_at bytes)) found ∙ through_frame (is_frame_at bytes) n c S f t l k)

  -- a waiting frame's own bytes stand in its slot
  pub waiting_bytes : (k j : ℕ) → Passes (through (is_frame_at bytes) S) → slots_of n c * 48 ≤ length bytes → j < slots_of n c → Ok j ≡ frame_out n S f t l k → Holds bytes (j * 48) (frame_out n (through (frame_at bytes) S) f t l k)
  waiting_bytes k j old long inside found =
      let ok = passes_at n (through (is_frame_at bytes) S) f t l k (is_frame_at bytes j) old (ap (held (is_frame_at bytes)) found ∙ through_frame (is_frame_at bytes) n c S f t l k) in
      subst (Holds bytes (j * 48)) (ap (held (frame_at bytes)) found ∙ through_frame (frame_at bytes) n c S f t l k) (each (read_slot bytes j) refl ok)
    where
      each : (r : Result Frame Refusal) → read_slot bytes j ≡ r → is_ok r ≡ true → Holds bytes (j * 48) (Ok (or_blank r))
      each (Ok x) read ok = (slot_fits_lem j inside long, read_bytes bytes (j * 48) x (slot_fits_lem j inside long) read)
      each (Err e) read ok = absurd (true≢false (sym ok))

  module _ (S' : LanesOf ℕ) (j : ℕ) (x : Frame) (long : slots_of n c * 48 ≤ length bytes) (entered : Entered n c S S' f t l (Ok j)) where
    fits : j * 48 + 48 ≤ length bytes
    fits = slot_fits_lem j entered.3 long

    pub sent_long : slots_of n c * 48 ≤ length (wrote_at x bytes (j * 48))
    sent_long = omega (arith, long_wrote bytes x (j * 48) fits)

    pub sent_frames : Passes (through (is_frame_at bytes) S) → Passes (through (is_frame_at (wrote_at x bytes (j * 48))) S')
    sent_frames old =
        let g = is_frame_at bytes in
        let lanes = entered_there g (is_frame_at (wrote_at x bytes (j * 48))) n c S S' f t l j true (ap is_ok (read_here bytes x (j * 48) fits)) (λ k other. ap is_ok (read_elsewhere bytes x (j * 48) fits (k * 48) (apart j k other))) entered in
        subst Passes (sym lanes.1) (passes_with (through g S) f t l (through g S f t l ++ true ∷ []) (is_lane n f t l && ltb (length (through g S f t l)) c) old (every_push (through g S f t l) (old f t l)))

    pub sent_lanes : (Ok tt ≡ send_out n c (through (frame_at bytes) S) f t l) × (through (frame_at (wrote_at x bytes (j * 48))) S' ≡ send_lanes n c (through (frame_at bytes) S) f t l x)
    sent_lanes =
        entered_there (frame_at bytes) (frame_at (wrote_at x bytes (j * 48))) n c S S' f t l j x (ap or_blank (read_here bytes x (j * 48) fits)) (λ k other. ap or_blank (read_elsewhere bytes x (j * 48) fits (k * 48) (apart j k other))) entered

  module _ (S' : LanesOf ℕ) (e : LaneFault) (refused : Entered n c S S' f t l (Err e)) where
    pub kept_frames : Passes (through (is_frame_at bytes) S) → Passes (through (is_frame_at bytes) S')
    kept_frames old = subst (λ (T : LanesOf ℕ). Passes (through (is_frame_at bytes) T)) (sym refused.1) old

    pub kept_lanes : (x : Frame) → (Err e ≡ send_out n c (through (frame_at bytes) S) f t l) × (through (frame_at bytes) S' ≡ send_lanes n c (through (frame_at bytes) S) f t l x)
    kept_lanes x = entered_not (frame_at bytes) n c S S' f t l x e refused

  module _ (S' : LanesOf ℕ) (k : ℕ) (cut : S' ≡ drop_lanes n S f t l k) where
    pub left_frames : Passes (through (is_frame_at bytes) S) → Passes (through (is_frame_at bytes) S')
    left_frames old =
        let g = is_frame_at bytes in
        subst Passes (sym (ap (through g) cut ∙ through_cut g n c S f t l k)) (passes_with (through g S) f t l (drop k (through g S f t l)) (is_lane n f t l && leb k (length (through g S f t l))) old (every_drop k (through g S f t l) (old f t l)))

    pub left_lanes : (r : Result (Unit {0}) LaneFault) → r ≡ drop_out n S f t l k → (r ≡ drop_out n (through (frame_at bytes) S) f t l k) × (through (frame_at bytes) S' ≡ drop_lanes n (through (frame_at bytes) S) f t l k)
    left_lanes r out = (out ∙ through_drop (frame_at bytes) n c S f t l k, ap (through (frame_at bytes)) cut ∙ through_cut (frame_at bytes) n c S f t l k)
