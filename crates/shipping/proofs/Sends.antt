-- Frames that enter one lane, some after others.
use Rattle.std.proofs.Common.{◌≡◌, ℕ, ◌+◌, Bool, true, false, cond, ◌&&◌, eqb, List, [], ◌∷◌, ◌++◌, length, sym, refl, ap, ◌∙◌, append_assoc}
use mathlib.Core.Path.{fun_ext}
use Rattle.std.proofs.lemmas.Bool.{eqb-true}
use Rattle.std.proofs.lemmas.List.{append-nil, length-append, length-map, map-append}
use Rattle.frames.specs.declared.frame.Frame.{Frame}
use Rattle.frames.specs.Fields.{FrameFields}
use Rattle.frames.specs.Views.{frame_fields}
use Rattle.backplane.specs.Lanes.{Lanes, LanesOf, with_lane}
use Rattle.backplane.specs.Ports.{SamePort, lanes_of, lanes_at, waits}
use Rattle.backplane.specs.declared.lane.Lane.{Lane}
use Rattle.backplane.specs.declared.lanes.Backplane.{Ghosts}
use Rattle.backplane.specs.declared.port.Port.{Port}
use Rattle.backplane.proofs.LaneLaws.{with_here, with_with, with_same}
use Rattle.protocol.specs.Rack.{at_lane}
use Rattle.cards.specs.LaneViews.{lane_fields}
use Rattle.cards.proofs.LaneViews.{fields_with}
use Rattle.shipping.specs.Lanes.{lanes_with}

module _ {A : Type 0} (f t l : ℕ) where
  abbrev chosen : Bool → (ℕ → ℕ → List A) → (ℕ → ℕ → List A) → ℕ → ℕ → List A
  chosen b x y = cond b x y

  abbrev chosen_to : Bool → (ℕ → List A) → (ℕ → List A) → ℕ → List A
  chosen_to b x y = cond b x y

  at_is : (xs : List A) (L : LanesOf A) → at_lane f t l xs L ≡ with_lane L f t l xs
  at_is xs L = fun_ext λ f'. fun_ext λ t'. fun_ext λ l'. from f' t' l' (eqb f' f) refl
    where
      to : (f' t' l' : ℕ) → f' ≡ f → (b : Bool) → eqb t' t ≡ b → chosen_to b (λ l''. cond (eqb l'' l) xs (L f t l'')) (L f t') l' ≡ cond (b && eqb l' l) xs (L f' t' l')
      to f' t' l' p true q = λ k. cond (eqb l' l) xs (L (sym p k) (sym (eqb-true t' t q) k) l')
      to f' t' l' p false q = λ k. L (sym p k) t' l'

      from : (f' t' l' : ℕ) (a : Bool) → eqb f' f ≡ a → chosen a (λ t''. chosen_to (eqb t'' t) (λ l''. cond (eqb l'' l) xs (L f t l'')) (L f t'')) (L f') t' l' ≡ cond (a && (eqb t' t && eqb l' l)) xs (L f' t' l')
      from f' t' l' true p = to f' t' l' (eqb-true f' f p) (eqb t' t) refl
      from f' t' l' false p = refl

  pub with_none : (L : LanesOf A) → lanes_with f t l [] L ≡ L
  with_none L = at_is (L f t l ++ []) L ∙ ap (with_lane L f t l) (append-nil (L f t l)) ∙ with_same L f t l

  -- some frames and then others are all of them
  pub with_more : (xs ys : List A) (L : LanesOf A) → lanes_with f t l ys (lanes_with f t l xs L) ≡ lanes_with f t l (xs ++ ys) L
  with_more xs ys L =
      let zs = L f t l ++ xs in
      let M = with_lane L f t l zs in
      ap (lanes_with f t l ys) (at_is zs L)
      ∙ at_is (M f t l ++ ys) M
      ∙ ap (λ ws. with_lane M f t l (ws ++ ys)) (with_here L f t l zs)
      ∙ with_with L f t l zs (zs ++ ys)
      ∙ ap (with_lane L f t l) (append_assoc (L f t l) xs ys)
      ∙ sym (at_is (L f t l ++ (xs ++ ys)) L)

  pub with_there : (xs : List A) (L : LanesOf A) → lanes_with f t l xs L f t l ≡ L f t l ++ xs
  with_there xs L = ap (λ (N : LanesOf A). N f t l) (at_is (L f t l ++ xs) L) ∙ with_here L f t l (L f t l ++ xs)

module _ (f t l : ℕ) (before : Lanes) where
  sent : (x : Frame) → lane_fields (with_lane before f t l (before f t l ++ x ∷ [])) ≡ lanes_with f t l (frame_fields x ∷ []) (lane_fields before)
  sent x = fields_with before f t l (before f t l ++ x ∷ []) ∙ ap (λ ys. at_lane f t l ys (lane_fields before)) (map-append frame_fields (before f t l) (x ∷ []))

  -- how many wait
  pub sent_long : (due : List FrameFields) (after : Lanes) → lane_fields after ≡ lanes_with f t l due (lane_fields before) → length (after f t l) ≡ length (before f t l) + length due
  sent_long due after e =
      sym (length-map (after f t l) frame_fields)
      ∙ ap (λ (N : LanesOf FrameFields). length (N f t l)) e
      ∙ ap length (with_there f t l due (lane_fields before))
      ∙ length-append (lane_fields before f t l) due
      ∙ ap (λ n. n + length due) (length-map (before f t l) frame_fields)

-- one frame put into a lane that there is
module _ {B : Type 0} {b : Ghosts B} {p q : Port B b} (x : Frame) (same : SamePort p q) (lanes : lanes_of q ≡ lanes_at p (waits p ++ x ∷ [])) where
  pub put_sent : lane_fields (lanes_of q) ≡ lanes_with p.lane.from p.lane.to p.lane.number (frame_fields x ∷ []) (lane_fields (lanes_of p))
  put_sent = ap lane_fields lanes ∙ sent p.lane.from p.lane.to p.lane.number (lanes_of p) x

  pub put_long : length (waits q) ≡ length (waits p) + 1
  put_long = ap (λ (at : Lane). length (lanes_of q at.from at.to at.number)) same.lane ∙ sent_long p.lane.from p.lane.to p.lane.number (lanes_of p) (frame_fields x ∷ []) (lanes_of q) put_sent
