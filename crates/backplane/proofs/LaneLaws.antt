-- What a change of one lane gives, there and elsewhere, and that a lane with room takes a frame.
use Rattle.std.proofs.Common.{◌≡◌, ℕ, ◌+◌, ◌<◌, ◌≤◌, Bool, true, false, cond, leb, List, [], ◌∷◌, ◌++◌, length, get_or, take, drop, Ok, Err, Result, sym, refl, ap, ◌∙◌, append_assoc, arith}
use mathlib.Core.Path.{fun_ext}
use Rattle.std.proofs.lemmas.Bool.{eq-eqb, lt-ltb, le-ltb, lt-leb, le-leb, leb-true, and_from, and_left, and_right, cond-true, cond-false}
use Rattle.std.proofs.lemmas.List.{take_more, length-append, length-take}
use Rattle.std.proofs.lemmas.Bool.Decides.{nat_tests}
use Rattle.frames.specs.declared.frame.Frame.{Frame}
use Rattle.backplane.specs.declared.fault.LaneFault.{LaneFault}
use Rattle.backplane.specs.declared.fault.LaneFault.TheVariants.{NoSuchLane, Full, NothingThere}
use Rattle.backplane.specs.Lanes.{LanesOf, Lanes, is_lane, same_lane, with_lane, frame_out, send_out, send_lanes, drop_out, drop_lanes}

pub same_lane_lem : (f t l : ℕ) → same_lane f t l f t l ≡ true
same_lane_lem f t l = rw (eq-eqb f f refl, eq-eqb t t refl, eq-eqb l l refl)

pub lane_ext : {A : Type 0} (L M : LanesOf A) → ((f t l : ℕ) → L f t l ≡ M f t l) → L ≡ M
lane_ext L M h = fun_ext (λ f. fun_ext (λ t. fun_ext (λ l. h f t l)))

module _ {A : Type 0} (L : LanesOf A) (f t l : ℕ) where
  pub with_here : (xs : List A) → with_lane L f t l xs f t l ≡ xs
  with_here xs = cond-true _ _ _ (same_lane_lem f t l)

  pub with_with : (xs ys : List A) → with_lane (with_lane L f t l xs) f t l ys ≡ with_lane L f t l ys
  with_with xs ys = lane_ext _ _ λ f' t' l'. twice (same_lane f t l f' t' l') (L f' t' l')
    where
      twice : (b : Bool) (z : List A) → cond b ys (cond b xs z) ≡ cond b ys z
      twice true z = refl
      twice false z = refl

  pub with_same : with_lane L f t l (L f t l) ≡ L
  with_same = lane_ext _ _ λ f' t' l'. again f' t' l' (same_lane f t l f' t' l') refl
    where
      again : (f' t' l' : ℕ) (b : Bool) → same_lane f t l f' t' l' ≡ b → cond b (L f t l) (L f' t' l') ≡ L f' t' l'
      again f' t' l' true e =
          let a : f' ≡ f = grind (arith, nat_tests) in
          let b : t' ≡ t = grind (arith, nat_tests) in
          let c : l' ≡ l = grind (arith, nat_tests) in
          rw (a, b, c)
      again f' t' l' false e = refl

-- each call at a lane that there is, and at one that there is not
module _ {A : Type 0} (n : ℕ) (L : LanesOf A) (f t l : ℕ) where
  module _ (is : is_lane n f t l ≡ true) where
    pub send_fits : (c : ℕ) → length (L f t l) < c → send_out n c L f t l ≡ Ok tt
    send_fits c fits = cond-true _ _ _ is ∙ cond-false _ _ _ (lt-leb _ _ fits)

    pub send_full : (c : ℕ) → c ≤ length (L f t l) → send_out n c L f t l ≡ Err Full
    send_full c full = cond-true _ _ _ is ∙ cond-true _ _ _ (le-leb _ _ full)

    pub send_adds : (c : ℕ) (x : A) → length (L f t l) < c → send_lanes n c L f t l x ≡ with_lane L f t l (L f t l ++ x ∷ [])
    send_adds c x fits = cond-true _ _ _ (and_from _ _ is (lt-ltb _ _ fits))

    pub drop_fits : (k : ℕ) → k ≤ length (L f t l) → drop_out n L f t l k ≡ Ok tt
    drop_fits k enough = cond-true _ _ _ is ∙ cond-false _ _ _ (le-ltb _ _ enough)

    pub drop_short : (k : ℕ) → length (L f t l) < k → drop_out n L f t l k ≡ Err NothingThere
    drop_short k few = cond-true _ _ _ is ∙ cond-true _ _ _ (lt-ltb _ _ few)

    pub drop_cuts : (k : ℕ) → k ≤ length (L f t l) → drop_lanes n L f t l k ≡ with_lane L f t l (drop k (L f t l))
    drop_cuts k enough = cond-true _ _ _ (and_from _ _ is (le-leb _ _ enough))

    pub drop_keeps : (k : ℕ) → length (L f t l) < k → drop_lanes n L f t l k ≡ L
    drop_keeps k few = cond-false _ _ _ (and_right _ _ (lt-leb _ _ few))

  -- a send that is refused leaves the lanes
  pub send_refused : (c : ℕ) (x : A) (e : LaneFault) → send_out n c L f t l ≡ Err e → send_lanes n c L f t l x ≡ L
  send_refused c x e refused = each (is_lane n f t l) refl (leb c (length (L f t l))) refl refused
    where
      each : (b : Bool) → is_lane n f t l ≡ b → (full : Bool) → leb c (length (L f t l)) ≡ full → ◌≡◌ {A = Result (Unit {0}) LaneFault} (cond b (cond full (Err Full) (Ok tt)) (Err NoSuchLane)) (Err e) → send_lanes n c L f t l x ≡ L
      each false isnt full fits out = cond-false _ _ _ (and_left _ _ isnt)
      each true is true full out = cond-false _ _ _ (and_right _ _ (le-ltb _ _ (leb-true _ _ full)))
      each true is false fits out = let z : ◌≡◌ {A = ℕ} 0 1 = cc in absurd (omega arith)

  module _ (isnt : is_lane n f t l ≡ false) where
    pub no_frame : (k : ℕ) → frame_out n L f t l k ≡ Err NoSuchLane
    no_frame k = cond-false _ _ _ isnt

-- a frame after others that were sent to the same lane
pub send_more : (n c : ℕ) (L M : Lanes) (f t l : ℕ) (ys : List Frame) (x : Frame) → is_lane n f t l ≡ true → M ≡ with_lane L f t l ys → length ys < c → send_lanes n c M f t l x ≡ with_lane L f t l (ys ++ x ∷ [])
send_more n c L M f t l ys x is e fits =
    let here : M f t l ≡ ys = ap (λ (N : Lanes). N f t l) e ∙ with_here L f t l ys in
    rw (here, is, lt-ltb (length ys) c fits, e, with_with L f t l ys (ys ++ x ∷ []))

-- one frame more of a list that fits, where M is what the frames before it have left
pub send_turn : (n c n' c' : ℕ) (L M : Lanes) (f t l : ℕ) (xs : List Frame) (i : ℕ) (x : Frame) → is_lane n f t l ≡ true → length (L f t l) + length xs ≤ c → i < length xs → x ≡ get_or xs i x → n' ≡ n → c' ≡ c → M ≡ with_lane L f t l (L f t l ++ take i xs) → (send_out n' c' M f t l ≡ Ok tt) × (send_lanes n' c' M f t l x ≡ with_lane L f t l (L f t l ++ take (i + 1) xs))
send_turn n c n' c' L M f t l xs i x is fits within read en ec em =
    let ys = L f t l ++ take i xs in
    let here : M f t l ≡ ys = ap (λ (N : Lanes). N f t l) em ∙ with_here L f t l ys in
    let room : length ys < c = omega (arith, length-append (L f t l) (take i xs), length-take i xs) in
    let real : is_lane n' f t l ≡ true = rw en is in
    let left : length (M f t l) < c' = rw (here, ec) room in
    let joined : ys ++ x ∷ [] ≡ L f t l ++ take (i + 1) xs =
    append_assoc (L f t l) (take i xs) (x ∷ []) ∙ ap (λ zs. L f t l ++ zs) (ap (λ y. take i xs ++ y ∷ []) read ∙ sym (take_more xs i x within)) in (
      send_fits n' M f t l real c' left,
      send_more n' c' L M f t l ys x real em (rw ec room) ∙ ap (with_lane L f t l) joined,
    )
