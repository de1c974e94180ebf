-- A card's delivered list and its log, read from the entries.
use Rattle.std.proofs.Common.{◌≡◌, ℕ, ◌+◌, ◌-◌, ◌*◌, ◌≤◌, Bool, true, false, cond, ◌&&◌, leb, List, map, length, take, drop, Some, None, Option, sym, refl, ap, ◌∙◌, subst, arith}
use Rattle.std.proofs.lemmas.List.{take-take}
use Rattle.std.proofs.lemmas.Bool.{cond-true, cond-false, and_from, and_right}
use Rattle.std.specs.Option.{ok_or}
use Rattle.refusals.specs.declared.Refusal.TheVariants.{NoSuchCard, WrongSize}
use Rattle.rack.specs.Reading.{ReadOut}
use Rattle.rack.specs.declared.fault.RackFault.TheVariants as fault
use Rattle.marks.specs.Kinds.{Header}
use Rattle.backplane.specs.Lanes.{empty_lanes}
use Rattle.frames.specs.declared.entry.Entry.{Entry}
use Rattle.frames.specs.Fields.{EntryFields}
use Rattle.frames.specs.Views.{entry_fields}
use Rattle.protocol.specs.Rack.{State}
use Rattle.protocol.specs.Taking.{kept_up_to}
use Rattle.protocol.specs.Committing.{reading}
use Rattle.logs.specs.Log.{log_of, kept_places, overlaid, copied_into, copied_count}
use Rattle.logs.proofs.Cuts.{places_log, places_count, overlaid_log, overlaid_rest}
use Rattle.rack.specs.View.{part_of, view}
use Rattle.rack.specs.declared.seat.Seat.{Seat}
use Rattle.rack.specs.declared.state.Rack.{Rack}
use Rattle.rack.proofs.Views.{Found, own_card, own_log}

module _ (base : Header) (log : List Entry) (out out' : List Entry) (list : List EntryFields) (same : kept_up_to base (map entry_fields log) ≡ list) where
  long : length (kept_places base log) ≡ length list
  long = places_count base log ∙ ap length same

  pub read_some : (count : ℕ) → Some count ≡ copied_count (length (kept_up_to base (map entry_fields log))) (length out) → out' ≡ copied_into (kept_places base log) out → (leb (length list) (length out) ≡ true) × (count ≡ length list) × (map entry_fields (take count out') ≡ list) × (drop count out' ≡ drop count out)
  read_some count answer places = go (leb (length list) (length out)) refl (answer ∙ ap (λ n. copied_count n (length out)) (ap length same))
    where
      go : (b : Bool) → leb (length list) (length out) ≡ b → ◌≡◌ {A = Option ℕ} (Some count) (cond b (Some (length list)) None) → (leb (length list) (length out) ≡ true) × (count ≡ length list) × (map entry_fields (take count out') ≡ list) × (drop count out' ≡ drop count out)
      go true e h =
          let counted : count ≡ length list = cc in
          let over : out' ≡ overlaid (kept_places base log) out = places ∙ cond-true _ _ _ (ap (λ n. leb n (length out)) long ∙ e) in
          let wide : count ≡ length (kept_places base log) = counted ∙ sym long in (
            e,
            counted,
            (λ k. map entry_fields (take (wide k) (over k))) ∙ overlaid_log (kept_places base log) out ∙ places_log base log ∙ same,
            ap (drop count) over ∙ overlaid_rest (kept_places base log) out count (omega (arith, wide)),
          )
      go false e h = let z : ◌≡◌ {A = ℕ} 0 1 = cc in absurd (omega arith)

  pub read_none : None ≡ copied_count (length (kept_up_to base (map entry_fields log))) (length out) → out' ≡ copied_into (kept_places base log) out → (leb (length list) (length out) ≡ false) × (out' ≡ out)
  read_none answer places = go (leb (length list) (length out)) refl (answer ∙ ap (λ n. copied_count n (length out)) (ap length same))
    where
      go : (b : Bool) → leb (length list) (length out) ≡ b → ◌≡◌ {A = Option ℕ} None (cond b (Some (length list)) None) → (leb (length list) (length out) ≡ false) × (out' ≡ out)
      go true e h = let z : ◌≡◌ {A = ℕ} 0 1 = cc in absurd (omega arith)
      go false e h = (e, places ∙ cond-false _ _ _ (ap (λ n. leb n (length out)) long ∙ e))

  pub read_out : (answer : Option ℕ) → answer ≡ copied_count (length (kept_up_to base (map entry_fields log))) (length out) → out' ≡ copied_into (kept_places base log) out → (missing fits : Bool) → missing ≡ false → fits ≡ true → ReadOut missing fits list out out' (ok_or answer fault.WrongSize)
  read_out (Some count) answer places missing fits there whole =
      let done = read_some count answer places in
      (there, and_from fits (leb (length list) (length out)) whole done.0, done.1, done.2, done.3)
  read_out None answer places missing fits there whole =
      let none = read_none answer places in
      (sym (ap (λ b. cond b NoSuchCard WrongSize) there), ap (λ b. cond b false (fits && leb (length list) (length out))) there ∙ and_right fits (leb (length list) (length out)) none.0, none.1)

module _ (r : Rack) (i : ℕ) (entries : List Entry) (seat : Seat) (found : Found r i seat) where
  abbrev s : State (Unit {0})
  s = view r entries (λ _. tt {0}) empty_lanes

  pub read_same : (log : List Entry) → map entry_fields log ≡ s.logs i → kept_up_to seat.card.committed (map entry_fields log) ≡ reading s i
  read_same log same = λ k. kept_up_to ((found.card ∙ sym (own_card r i entries (λ _. tt {0}) empty_lanes found.is)) k).committed (same k)

  -- the used front of a card's part, cut straight from the entries
  pub seen_log : (low high : ℕ) → low ≡ (i - 1) * r.places → high ≡ low + seat.used → map entry_fields (take (high - low) (drop low entries)) ≡ s.logs i
  seen_log low high from to =
      let wide : high - low ≡ seat.used = omega (arith, to) in
      let fits : seat.used ≤ r.places = subst (λ n. n ≤ r.places) (sym found.used) (r.fit (i - 1)) in
      (λ k. map entry_fields (take (wide k) (drop (from k) entries)))
      ∙ ap (map entry_fields) (sym (take-take seat.used r.places (drop ((i - 1) * r.places) entries) fits))
      ∙ (λ k. log_of (part_of r.places i entries) (found.used k))
      ∙ sym (own_log r i entries (λ _. tt {0}) empty_lanes found.is)
