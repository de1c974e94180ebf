-- What the table's answers are for the box, whose table has three cards and eight slots to a ring.
use Rattle.std.proofs.Common.{◌≡◌, ℕ, ◌<◌, List, length, get_or, set, Ok, Err, Result, ap, ◌∙◌, subst₂, arith}
use Rattle.std.proofs.lemmas.List.{get_or_default, get_or-set_same, get_or-set_other}
use Rattle.frames.specs.declared.frame.Frame.{Frame}
use Rattle.backplane.specs.declared.fault.LaneFault.{LaneFault}
use Rattle.backplane.specs.Lanes.{LanesOf, waiting_out, frame_out, send_out, send_lanes, drop_out, drop_lanes}
use Rattle.ring_table.specs.Rings.{Entered, through, held}
use Rattle.ring_table.specs.Shapes.{slots_of}
use Rattle.ring_table.proofs.Through.{through_waiting, through_frame, through_drop, through_cut, entered_there, entered_not}
use Rattle.backplane.specs.Blank.{blank}
use Rattle.frame_box.specs.Box.{frame_in}

module _ (n c : ℕ) (three : n ≡ 3) (eight : c ≡ 8) (S : LanesOf ℕ) (frames : List Frame) (f t l : ℕ) where
  pub box_waiting : (r : Result ℕ LaneFault) → r ≡ waiting_out n S f t l → r ≡ waiting_out 3 (through (frame_in frames) S) f t l
  box_waiting r is = is ∙ through_waiting (frame_in frames) n c S f t l ∙ ap (λ m. waiting_out m (through (frame_in frames) S) f t l) three

  pub box_frame : (r : Result ℕ LaneFault) (k : ℕ) → r ≡ frame_out n S f t l k → held (frame_in frames) r ≡ frame_out 3 (through (frame_in frames) S) f t l k
  box_frame r k is = ap (held (frame_in frames)) is ∙ through_frame (frame_in frames) n c S f t l k ∙ ap (λ m. frame_out m (through (frame_in frames) S) f t l k) three

  pub box_read : (j : ℕ) (d : Frame) → length frames ≡ 288 → j < slots_of n c → get_or frames j d ≡ frame_in frames j
  box_read j d long below =
      let inside : j < 288 = subst₂ (λ (n' c' : ℕ). j < slots_of n' c') three eight below in
      get_or_default frames j d blank (omega (arith, long))

  Sent : Result (Unit {0}) LaneFault → LanesOf Frame → Frame → ℕ → ℕ → Type 0
  Sent r L x n' c' = (r ≡ send_out n' c' (through (frame_in frames) S) f t l) × (L ≡ send_lanes n' c' (through (frame_in frames) S) f t l x)

  pub box_send : (S' : LanesOf ℕ) (j : ℕ) (x : Frame) → length frames ≡ 288 → Entered n c S S' f t l (Ok j) → (Ok tt ≡ send_out 3 8 (through (frame_in frames) S) f t l) × (through (frame_in (set frames j x)) S' ≡ send_lanes 3 8 (through (frame_in frames) S) f t l x)
  unfolding Sent
  box_send S' j x long e =
      let inside : j < 288 = subst₂ (λ (n' c' : ℕ). j < slots_of n' c') three eight e.3 in
      let here = get_or-set_same frames j x blank (omega (arith, long)) in
      subst₂ (Sent (Ok tt) (through (frame_in (set frames j x)) S') x) three eight
      (entered_there (frame_in frames) (frame_in (set frames j x)) n c S S' f t l j x here (λ k other. get_or-set_other frames j k x blank other) e)

  pub box_refuse : (S' : LanesOf ℕ) (e : LaneFault) (x : Frame) → Entered n c S S' f t l (Err e) → (Err e ≡ send_out 3 8 (through (frame_in frames) S) f t l) × (through (frame_in frames) S' ≡ send_lanes 3 8 (through (frame_in frames) S) f t l x)
  unfolding Sent
  box_refuse S' e x h = subst₂ (Sent (Err e) (through (frame_in frames) S') x) three eight (entered_not (frame_in frames) n c S S' f t l x e h)

  pub box_drop : (S' : LanesOf ℕ) (k : ℕ) (r : Result (Unit {0}) LaneFault) → r ≡ drop_out n S f t l k → S' ≡ drop_lanes n S f t l k → (r ≡ drop_out 3 (through (frame_in frames) S) f t l k) × (through (frame_in frames) S' ≡ drop_lanes 3 (through (frame_in frames) S) f t l k)
  box_drop S' k r out left = (
    out ∙ through_drop (frame_in frames) n c S f t l k ∙ ap (λ m. drop_out m (through (frame_in frames) S) f t l k) three,
    ap (through (frame_in frames)) left ∙ through_cut (frame_in frames) n c S f t l k ∙ ap (λ m. drop_lanes m (through (frame_in frames) S) f t l k) three,
  )
