-- A backplane whose lanes are read through its slots does what the table does.
use Rattle.std.proofs.Common.{◌≡◌, ℕ, zero, suc, ◌<◌, Bool, true, false, cond, ◌&&◌, ltb, leb, List, [], ◌∷◌, ◌++◌, map, length, get_or, drop, Ok, Err, sym, refl, ap, ◌∙◌, ap₂, arith}
use Rattle.std.specs.Option.{ok_or}
use Rattle.std.specs.List.{slice_get}
use Rattle.std.proofs.lemmas.List.{length-map, map-append, drop-map}
use Rattle.backplane.specs.declared.fault.LaneFault.{LaneFault}
use Rattle.backplane.specs.declared.fault.LaneFault.TheVariants.{NoSuchLane, Full, NothingThere}
use Rattle.backplane.specs.Lanes.{LanesOf, is_lane, same_lane, with_lane, waiting_out, frame_out, send_out, send_lanes, drop_out, drop_lanes}
use Rattle.backplane.proofs.LaneLaws.{lane_ext, send_refused}
use Rattle.ring_table.specs.Rings.{Free, Entered, through, held}

module _ {A : Type 0} (g : ℕ → A) (n c : ℕ) (S : LanesOf ℕ) (f t l : ℕ) where
  pub through_waiting : waiting_out n S f t l ≡ waiting_out n (through g S) f t l
  through_waiting = ap (λ m. cond (is_lane n f t l) (Ok m) (Err NoSuchLane)) (sym (length-map (S f t l) g))

  pub through_frame : (k : ℕ) → held g (frame_out n S f t l k) ≡ frame_out n (through g S) f t l k
  through_frame k = each (is_lane n f t l) (S f t l) k
    where
      at : (xs : List ℕ) (k : ℕ) → held g (ok_or (slice_get xs k) NothingThere) ≡ ok_or (slice_get (map g xs) k) NothingThere
      at [] k = refl
      at (x ∷ xs) zero = refl
      at (x ∷ xs) (suc k) = at xs k

      each : (b : Bool) (xs : List ℕ) (k : ℕ) → held g (cond b (ok_or (slice_get xs k) NothingThere) (Err NoSuchLane)) ≡ cond b (ok_or (slice_get (map g xs) k) NothingThere) (Err NoSuchLane)
      each true xs k = at xs k
      each false xs k = refl

  through_send : send_out n c S f t l ≡ send_out n c (through g S) f t l
  through_send = ap (λ m. cond (is_lane n f t l) (cond (leb c m) (Err Full) (Ok tt)) (Err NoSuchLane)) (sym (length-map (S f t l) g))

  pub through_drop : (k : ℕ) → drop_out n S f t l k ≡ drop_out n (through g S) f t l k
  through_drop k = ap (λ m. cond (is_lane n f t l) (cond (ltb m k) (Err NothingThere) (Ok tt)) (Err NoSuchLane)) (sym (length-map (S f t l) g))

  through_with : (xs : List ℕ) → through g (with_lane S f t l xs) ≡ with_lane (through g S) f t l (map g xs)
  through_with xs = lane_ext _ _ λ f' t' l'. each (same_lane f t l f' t' l') (S f' t' l')
    where
      each : (b : Bool) (ys : List ℕ) → map g (cond b xs ys) ≡ cond b (map g xs) (map g ys)
      each true ys = refl
      each false ys = refl

  pub through_cut : (k : ℕ) → through g (drop_lanes n S f t l k) ≡ drop_lanes n (through g S) f t l k
  through_cut k =
      each (is_lane n f t l && leb k (length (S f t l)))
      ∙ ap (λ m. cond (is_lane n f t l && leb k m) (with_lane (through g S) f t l (drop k (through g S f t l))) (through g S)) (sym (length-map (S f t l) g))
    where
      each : (b : Bool) → through g (cond b (with_lane S f t l (drop k (S f t l))) S) ≡ cond b (with_lane (through g S) f t l (drop k (map g (S f t l)))) (through g S)
      each true = through_with (drop k (S f t l)) ∙ ap (with_lane (through g S) f t l) (sym (drop-map g k (S f t l)))
      each false = refl

-- slots that are read as before hold what they held
same_held : {A : Type 0} (g g' : ℕ → A) (xs : List ℕ) → ((k : ℕ) → k < length xs → g' (get_or xs k 0) ≡ g (get_or xs k 0)) → map g' xs ≡ map g xs
same_held g g' [] same = refl
same_held g g' (x ∷ xs) same = ap₂ ◌∷◌ (same 0 (omega arith)) (same_held g g' xs (λ k inside. same (suc k) (omega arith)))

-- slot j, in which nothing waited, now holds x, and every other slot what it held
module _ {A : Type 0} (g g' : ℕ → A) (n c : ℕ) (S S' : LanesOf ℕ) (f t l j : ℕ) (x : A) (here : g' j ≡ x) (elsewhere : (k : ℕ) → (k ≡ j → ⊥) → g' k ≡ g k) where
  through_same : Free S j → through g' S ≡ through g S
  through_same free = lane_ext _ _ λ f' t' l'. same_held g g' (S f' t' l') (λ k inside. elsewhere (get_or (S f' t' l') k 0) (free f' t' l' k inside))

  pub entered_there : Entered n c S S' f t l (Ok j) → (Ok tt ≡ send_out n c (through g S) f t l) × (through g' S' ≡ send_lanes n c (through g S) f t l x)
  entered_there e = (sym e.0 ∙ through_send g n c S f t l, ap (through g') e.1 ∙ each (is_lane n f t l && ltb (length (S f t l)) c) ∙ ap (λ m. cond (is_lane n f t l && ltb m c) (with_lane (through g S) f t l (through g S f t l ++ x ∷ [])) (through g S)) (sym (length-map (S f t l) g)))
    where
      same : through g' S ≡ through g S
      same = through_same e.2

      each : (b : Bool) → through g' (cond b (with_lane S f t l (S f t l ++ j ∷ [])) S) ≡ cond b (with_lane (through g S) f t l (map g (S f t l) ++ x ∷ [])) (through g S)
      each true =
          through_with g' n c S f t l (S f t l ++ j ∷ [])
          ∙ ap₂ (λ (L : LanesOf A) (ys : List A). with_lane L f t l ys) same (map-append g' (S f t l) (j ∷ []) ∙ ap₂ (λ (ys : List A) (y : A). ys ++ y ∷ []) (ap (λ (L : LanesOf A). L f t l) same) here)
      each false = same

pub entered_not : {A : Type 0} (g : ℕ → A) (n c : ℕ) (S S' : LanesOf ℕ) (f t l : ℕ) (x : A) (e : LaneFault) → Entered n c S S' f t l (Err e) → (Err e ≡ send_out n c (through g S) f t l) × (through g S' ≡ send_lanes n c (through g S) f t l x)
entered_not g n c S S' f t l x e h =
    let refused = sym h.0 ∙ through_send g n c S f t l in
    (refused, ap (through g) h.1 ∙ sym (send_refused n (through g S) f t l c x e (sym refused)))
