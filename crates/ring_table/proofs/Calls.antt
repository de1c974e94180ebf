-- What each call of the table answers and leaves.
use Rattle.std.proofs.Common.{◌≡◌, ℕ, ◌+◌, ◌-◌, ◌*◌, ◌<◌, ◌≤◌, Bool, true, false, List, [], ◌∷◌, ◌++◌, length, drop, set, replicate, Ok, Err, sym, refl, ap, ◌∙◌, subst, ⊎_elim, arith}
use Rattle.std.specs.Option.{ok_or}
use Rattle.std.specs.List.{slice_get}
use Rattle.std.proofs.lemmas.Nat.{mul-add-lt}
use Rattle.std.proofs.lemmas.List.{get_or-replicate, get_or_past, length-replicate}
use Rattle.std.proofs.lemmas.Bool.{cond-true, cases_lt}
use Rattle.backplane.specs.declared.fault.LaneFault.TheVariants.{Full, NothingThere}
use Rattle.backplane.specs.Lanes.{LanesOf, is_lane, with_lane, empty_lanes, waiting_out, frame_out, drop_out, drop_lanes}
use Rattle.backplane.proofs.LaneLaws.{lane_ext, send_fits, send_full, send_adds, drop_fits, drop_short, drop_cuts, drop_keeps}
use Rattle.ring_table.specs.declared.ring.Ring.{Ring}
use Rattle.ring_table.specs.Index.{lane_index, Indexed}
use Rattle.ring_table.specs.Ring.{empty_ring, ring_at}
use Rattle.ring_table.specs.Rings.{wrapped, ring_slot, ring_slots, slots_in, Entered}
use Rattle.ring_table.proofs.RingLaws.{wrapped_below, length_ring, ring_none, nth_ring, nth_ring_past, ring_more, ring_drop, slots_there, slots_nowhere, slots_set, tail_free}

pub replicate_empty : (n i : ℕ) → ring_at (replicate n empty_ring) i ≡ empty_ring
replicate_empty n i = ⊎_elim (get_or-replicate n i empty_ring empty_ring) (λ past. get_or_past (replicate n empty_ring) i empty_ring (omega (arith, length-replicate {A = Ring} n empty_ring))) (cases_lt i n)

-- rings that hold nothing
pub slots_empty : (n c : ℕ) (rs : List Ring) → ((i : ℕ) → ring_at rs i ≡ empty_ring) → slots_in n c rs ≡ empty_lanes
slots_empty n c rs none = lane_ext _ _ λ f t l. each f t l (is_lane n f t l) refl
  where
    each : (f t l : ℕ) (b : Bool) → is_lane n f t l ≡ b → slots_in n c rs f t l ≡ []
    each f t l false is = slots_nowhere n c rs f t l is
    each f t l true is =
        let i = lane_index n f t l in
        slots_there n c rs f t l i is refl ∙ ap (ring_slots c i) (none i) ∙ ring_none c i

module _ (n c : ℕ) (rs : List Ring) (f t l i : ℕ) (found : Indexed n f t l (Ok i)) where
  abbrev r : Ring
  r = ring_at rs i

  abbrev S : LanesOf ℕ
  S = slots_in n c rs

  there : S f t l ≡ ring_slots c i r
  there = slots_there n c rs f t l i found.0 found.1

  count_there : length (S f t l) ≡ r.count
  count_there = ap length there ∙ length_ring c i r

  pub waiting_there : Ok (ring_at rs i).count ≡ waiting_out n (slots_in n c rs) f t l
  waiting_there = sym (cond-true _ _ _ found.0 ∙ ap Ok count_there)

  pub slot_there : (k : ℕ) → k < (ring_at rs i).count → Ok (ring_slot c i (ring_at rs i).head k) ≡ frame_out n (slots_in n c rs) f t l k
  slot_there k inside = sym (cond-true _ _ _ found.0 ∙ ap (λ xs. ok_or (slice_get xs k) NothingThere) there ∙ ap (λ o. ok_or o NothingThere) (nth_ring c i r k inside))

  pub slot_past : (k : ℕ) → (ring_at rs i).count ≤ k → Err NothingThere ≡ frame_out n (slots_in n c rs) f t l k
  slot_past k past = sym (cond-true _ _ _ found.0 ∙ ap (λ xs. ok_or (slice_get xs k) NothingThere) there ∙ ap (λ o. ok_or o NothingThere) (nth_ring_past c i r k past))

  pub slot_below : (k : ℕ) → (ring_at rs i).head < c → k < c → ring_slot c i (ring_at rs i).head k < n * n * 4 * c
  slot_below k headed small = omega (arith, mul-add-lt i c (wrapped c (r.head + k)) (n * n * 4) found.2 (wrapped_below c (r.head + k) (omega arith)))

  pub full_there : c ≤ (ring_at rs i).count → Entered n c (slots_in n c rs) (slots_in n c rs) f t l (Err Full)
  full_there full = (send_full n S f t l found.0 c (omega (arith, count_there)), refl)

  pub enter_there : ((j : ℕ) → (ring_at rs j).head < c) → ((j : ℕ) → (ring_at rs j).count ≤ c) → i < length rs → (ring_at rs i).count < c → (j : ℕ) → j ≡ ring_slot c i (ring_at rs i).head (ring_at rs i).count → Entered n c (slots_in n c rs) (slots_in n c (set rs i (record { head = (ring_at rs i).head; count = (ring_at rs i).count + 1 }))) f t l (Ok j)
  enter_there headed held inside less j at =
      subst (λ (k : ℕ). Entered n c S (slots_in n c (set rs i (record { head = r.head; count = r.count + 1 }))) f t l (Ok k)) (sym at) done
    where
      done : Entered n c S (slots_in n c (set rs i (record { head = r.head; count = r.count + 1 }))) f t l (Ok (ring_slot c i r.head r.count))
      done =
          let j = ring_slot c i r.head r.count in
          let more : ring_slots c i (record { head = r.head; count = r.count + 1 }) ≡ S f t l ++ j ∷ [] = ring_more c i r ∙ ap (λ xs. xs ++ j ∷ []) (sym there) in
          let left : length (S f t l) < c = omega (arith, count_there) in (
            send_fits n S f t l found.0 c left,
            slots_set n c rs f t l i (record { head = r.head; count = r.count + 1 }) found.0 found.1 inside ∙ ap (with_lane S f t l) more ∙ sym (send_adds n S f t l found.0 c j left),
            tail_free n c rs f t l i headed held found.0 found.1 less,
            slot_below r.count (headed i) less,
          )

  pub too_few : (k : ℕ) → (ring_at rs i).count < k → (Err NothingThere ≡ drop_out n (slots_in n c rs) f t l k) × (slots_in n c rs ≡ drop_lanes n (slots_in n c rs) f t l k)
  too_few k few =
      let short : length (S f t l) < k = omega (arith, count_there) in
      (sym (drop_short n S f t l found.0 k short), sym (drop_keeps n S f t l found.0 k short))

  pub leave_there : (k : ℕ) → (ring_at rs i).head < c → (ring_at rs i).count ≤ c → i < length rs → k ≤ (ring_at rs i).count → (h : ℕ) → h ≡ wrapped c ((ring_at rs i).head + k) → (Ok tt ≡ drop_out n (slots_in n c rs) f t l k) × (slots_in n c (set rs i (record { head = h; count = (ring_at rs i).count - k })) ≡ drop_lanes n (slots_in n c rs) f t l k)
  leave_there k headed held inside enough h at =
      let wait : k ≤ length (S f t l) = omega (arith, count_there) in (
        sym (drop_fits n S f t l found.0 k wait),
        ap (λ (m : ℕ). slots_in n c (set rs i (record { head = m; count = r.count - k }))) at ∙ slots_set n c rs f t l i (record { head = wrapped c (r.head + k); count = r.count - k }) found.0 found.1 inside ∙ ap (with_lane S f t l) (ring_drop c i r k headed held enough ∙ ap (drop k) (sym there)) ∙ sym (drop_cuts n S f t l found.0 k wait),
      )
