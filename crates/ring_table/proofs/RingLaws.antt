-- The slots of one ring, and of all rings after a change of one.
use Rattle.std.proofs.Common.{◌≡◌, ℕ, ◌+◌, ◌-◌, ◌*◌, ◌<◌, ◌≤◌, Bool, true, false, cond, List, [], ◌∷◌, ◌++◌, length, get_or, drop, set, Some, None, sym, refl, ap, ◌∙◌, arith}
use Rattle.std.specs.List.{slice_get}
use Rattle.std.proofs.lemmas.List.FromFn.{length-map-range_with_len, get_or-map-range_with_len, map-range_with_len_more}
use Rattle.std.proofs.lemmas.List.{length-drop, get_or-drop, ext_get_or, get_or-set_same, get_or-set_other}
use Rattle.std.proofs.lemmas.Option.{slice_get-get_or, slice_get_past}
use Rattle.std.proofs.lemmas.Bool.{true≢false}
use Rattle.std.proofs.lemmas.Bool.Decides.{nat_tests}
use Rattle.backplane.specs.Lanes.{is_lane, same_lane, with_lane}
use Rattle.backplane.proofs.LaneLaws.{lane_ext}
use Rattle.ring_table.specs.declared.ring.Ring.{Ring}
use Rattle.ring_table.specs.Index.{lane_index}
use Rattle.ring_table.specs.Ring.{empty_ring, ring_at}
use Rattle.ring_table.specs.Rings.{wrapped, ring_slot, ring_slots, slots_in, Free}
use Rattle.ring_table.proofs.Indices.{index_apart, same_place}

pub wrapped_below : (c x : ℕ) → x < c + c → wrapped c x < c
wrapped_below c x h = grind (arith, nat_tests)

-- going on from a place that was wrapped
wrapped_on : (c head k j : ℕ) → head < c → k ≤ c → k + j < c + 1 → wrapped c (wrapped c (head + k) + j) ≡ wrapped c (head + (k + j))
wrapped_on c head k j h s b = grind (arith, nat_tests)

-- fewer than c places on never comes back to the same place
wrapped_apart : (c head j k : ℕ) → head < c → j < k → k < c → wrapped c (head + j) ≡ wrapped c (head + k) → ⊥
wrapped_apart c head j k h less small e = grind (arith, nat_tests)

module _ (c i : ℕ) (r : Ring) where
  pub length_ring : length (ring_slots c i r) ≡ r.count
  unfolding ring_slots
  length_ring = length-map-range_with_len (ring_slot c i r.head) 0 r.count

  pub get_or_ring : (k : ℕ) → k < r.count → get_or (ring_slots c i r) k 0 ≡ ring_slot c i r.head k
  unfolding ring_slots
  get_or_ring k h = get_or-map-range_with_len (ring_slot c i r.head) 0 r.count k k 0 h (omega arith)

  pub nth_ring : (k : ℕ) → k < r.count → slice_get (ring_slots c i r) k ≡ Some (ring_slot c i r.head k)
  nth_ring k h = slice_get-get_or (ring_slots c i r) k 0 (omega (arith, length_ring)) ∙ ap Some (get_or_ring k h)

  pub nth_ring_past : (k : ℕ) → r.count ≤ k → slice_get (ring_slots c i r) k ≡ None
  nth_ring_past k h = slice_get_past (ring_slots c i r) k (omega (arith, length_ring))

  pub ring_more : ring_slots c i (record { head = r.head; count = r.count + 1 }) ≡ ring_slots c i r ++ ring_slot c i r.head r.count ∷ []
  unfolding ring_slots
  ring_more = map-range_with_len_more (ring_slot c i r.head) 0 r.count r.count (omega arith)

pub ring_none : (c i : ℕ) → ring_slots c i empty_ring ≡ []
unfolding ring_slots
ring_none c i = refl

pub ring_drop : (c i : ℕ) (r : Ring) (k : ℕ) → r.head < c → r.count ≤ c → k ≤ r.count → ring_slots c i (record { head = wrapped c (r.head + k); count = r.count - k }) ≡ drop k (ring_slots c i r)
ring_drop c i r k h most few =
    let left : Ring = record { head = wrapped c (r.head + k); count = r.count - k } in
    ext_get_or 0 _ _ (length_ring c i left ∙ sym (length-drop k (ring_slots c i r) ∙ ap (λ m. m - k) (length_ring c i r)))
    λ j within.
    let inside : j < r.count - k = omega (arith, within, length_ring c i left) in
    get_or_ring c i left j inside
    ∙ ap (λ w. i * c + w) (wrapped_on c r.head k j h (omega arith) (omega arith))
    ∙ sym (get_or-drop k (ring_slots c i r) j 0 ∙ get_or_ring c i r (k + j) (omega arith))

-- a slot in use, of ring i', is not the one behind the last of ring i
slots_apart : (c i i' : ℕ) (r r' : Ring) (k : ℕ) → r.head < c → r'.head < c → k < r'.count → r'.count ≤ c → r.count < c → (i' ≡ i → r' ≡ r) → ring_slot c i' r'.head k ≡ ring_slot c i r.head r.count → ⊥
slots_apart c i i' r r' k h h' inside most less same e =
    let places = same_place c i' i (wrapped c (r'.head + k)) (wrapped c (r.head + r.count)) (wrapped_below c (r'.head + k) (omega arith)) (wrapped_below c (r.head + r.count) (omega arith)) e in
    let one = same places.0 in
    wrapped_apart c r.head k r.count h (omega (arith, ap (λ (x : Ring). x.count) one)) less (ap (λ (x : Ring). wrapped c (x.head + k)) (sym one) ∙ places.1)

module _ (n c : ℕ) where
  pub slots_there : (rs : List Ring) (f t l i : ℕ) → is_lane n f t l ≡ true → i ≡ lane_index n f t l → slots_in n c rs f t l ≡ ring_slots c i (ring_at rs i)
  unfolding slots_in
  slots_there rs f t l i is at = rw (is, at)

  pub slots_nowhere : (rs : List Ring) (f t l : ℕ) → is_lane n f t l ≡ false → slots_in n c rs f t l ≡ []
  unfolding slots_in
  slots_nowhere rs f t l is = rw is

  -- a change of one ring changes its lane
  pub slots_set : (rs : List Ring) (f t l i : ℕ) (r : Ring) → is_lane n f t l ≡ true → i ≡ lane_index n f t l → i < length rs → slots_in n c (set rs i r) ≡ with_lane (slots_in n c rs) f t l (ring_slots c i r)
  slots_set rs f t l i r is at inside = lane_ext _ _ λ f' t' l'. each f' t' l' (is_lane n f' t' l') refl (same_lane f t l f' t' l') refl
    where
      each : (f' t' l' : ℕ) (b : Bool) → is_lane n f' t' l' ≡ b → (s : Bool) → same_lane f t l f' t' l' ≡ s → slots_in n c (set rs i r) f' t' l' ≡ cond s (ring_slots c i r) (slots_in n c rs f' t' l')
      each f' t' l' true real true e =
          let ef : f' ≡ f = grind (arith, nat_tests) in
          let et : t' ≡ t = grind (arith, nat_tests) in
          let el : l' ≡ l = grind (arith, nat_tests) in
          let place : i ≡ lane_index n f' t' l' = rw (ef, et, el) at in
          slots_there (set rs i r) f' t' l' i real place ∙ ap (ring_slots c i) (get_or-set_same rs i r empty_ring inside)
      each f' t' l' true real false e =
          let apart = λ (same : lane_index n f' t' l' ≡ i). true≢false (sym (index_apart n f t l f' t' l' is real (same ∙ at)) ∙ e) in
          slots_there (set rs i r) f' t' l' (lane_index n f' t' l') real refl
          ∙ ap (ring_slots c (lane_index n f' t' l')) (get_or-set_other rs i (lane_index n f' t' l') r empty_ring apart)
          ∙ sym (slots_there rs f' t' l' (lane_index n f' t' l') real refl)
      each f' t' l' false real true e =
          let ef : f' ≡ f = grind (arith, nat_tests) in
          let et : t' ≡ t = grind (arith, nat_tests) in
          let el : l' ≡ l = grind (arith, nat_tests) in
          let none : is_lane n f t l ≡ false = rw (← ef, ← et, ← el) real in
          absurd (true≢false (sym is ∙ none))
      each f' t' l' false real false e = slots_nowhere (set rs i r) f' t' l' real ∙ sym (slots_nowhere rs f' t' l' real)

  -- the slot behind a ring's last frame, while not all of its slots are taken
  pub tail_free : (rs : List Ring) (f t l i : ℕ) → ((j : ℕ) → (ring_at rs j).head < c) → ((j : ℕ) → (ring_at rs j).count ≤ c) → is_lane n f t l ≡ true → i ≡ lane_index n f t l → (ring_at rs i).count < c → Free (slots_in n c rs) (ring_slot c i (ring_at rs i).head (ring_at rs i).count)
  tail_free rs f t l i headed held is at less f' t' l' k within same = each (is_lane n f' t' l') refl
    where
      i' : ℕ
      i' = lane_index n f' t' l'

      each : (b : Bool) → is_lane n f' t' l' ≡ b → ⊥
      each true real =
          let there = slots_there rs f' t' l' i' real refl in
          let inside : k < (ring_at rs i').count = omega (arith, within, ap length there, length_ring c i' (ring_at rs i')) in
          let found = sym (get_or_ring c i' (ring_at rs i') k inside) ∙ ap (λ xs. get_or xs k 0) (sym there) ∙ same in
          slots_apart c i i' (ring_at rs i) (ring_at rs i') k (headed i) (headed i') inside (held i') less (ap (ring_at rs)) found
      each false real = omega (arith, within, ap length (slots_nowhere rs f' t' l' real))
