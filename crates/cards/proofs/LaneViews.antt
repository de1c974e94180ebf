-- One lane changed, as frames and as their numbers.
use Rattle.std.proofs.Common.{◌≡◌, ℕ, Bool, true, false, cond, ◌&&◌, eqb, List, map, refl}
use mathlib.Core.Path.{fun_ext}
use Rattle.std.proofs.lemmas.Bool.{eqb-true}
use Rattle.backplane.specs.Lanes.{Lanes, with_lane}
use Rattle.frames.specs.declared.frame.Frame.{Frame}
use Rattle.frames.specs.Fields.{FrameFields}
use Rattle.frames.specs.Views.{frame_fields}
use Rattle.protocol.specs.Rack.{at_lane}
use Rattle.cards.specs.LaneViews.{lane_fields}

abbrev Pair : Type 0
Pair = ℕ → ℕ → List FrameFields

abbrev chosen : Bool → Pair → Pair → Pair
chosen b x y = cond b x y

abbrev chosen_to : Bool → (ℕ → List FrameFields) → (ℕ → List FrameFields) → ℕ → List FrameFields
chosen_to b x y = cond b x y

pub fields_with : (L : Lanes) (f t l : ℕ) (xs : List Frame) → lane_fields (with_lane L f t l xs) ≡ at_lane f t l (map frame_fields xs) (lane_fields L)
fields_with L f t l xs = fun_ext λ f'. fun_ext λ t'. fun_ext λ l'. from f' t' l' (eqb f' f) refl
  where
    there : (f' t' l' : ℕ) (c : Bool) → f' ≡ f → t' ≡ t → map frame_fields (cond c xs (L f' t' l')) ≡ cond c (map frame_fields xs) (map frame_fields (L f t l'))
    there f' t' l' true p q = refl
    there f' t' l' false p q = λ k. map frame_fields (L (p k) (q k) l')

    to : (f' t' l' : ℕ) → f' ≡ f → (b : Bool) → eqb t' t ≡ b → map frame_fields (cond (b && eqb l' l) xs (L f' t' l')) ≡ chosen_to b (λ l''. cond (eqb l'' l) (map frame_fields xs) (map frame_fields (L f t l''))) (λ l''. map frame_fields (L f t' l'')) l'
    to f' t' l' p true q = there f' t' l' (eqb l' l) p (eqb-true t' t q)
    to f' t' l' p false q = λ k. map frame_fields (L (p k) t' l')

    from : (f' t' l' : ℕ) (a : Bool) → eqb f' f ≡ a → map frame_fields (cond (a && (eqb t' t && eqb l' l)) xs (L f' t' l')) ≡ chosen a (λ t''. chosen_to (eqb t'' t) (λ l''. cond (eqb l'' l) (map frame_fields xs) (map frame_fields (L f t l''))) (λ l''. map frame_fields (L f t'' l''))) (λ t'' l''. map frame_fields (L f' t'' l'')) t' l'
    from f' t' l' true p = to f' t' l' (eqb-true f' f p) (eqb t' t) refl
    from f' t' l' false p = refl
