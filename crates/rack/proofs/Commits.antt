-- commit, from its part on one card, its log and its machine.
use Rattle.std.proofs.Common.{◌≡◌, ℕ, ◌-◌, ◌≤◌, Bool, true, cond, not, List, [], ◌∷◌, map, length, get_or, Err, sym, refl, ap, ◌∙◌, subst, arith}
use Rattle.std.proofs.lemmas.Bool.{cond-true}
use Rattle.std.proofs.lemmas.List.{get_or-map}
use Rattle.refusals.specs.declared.Refusal.{Refusal}
use Rattle.refusals.specs.declared.Refusal.TheVariants.{NoSuchCard, Stopped, WrongRole, NothingDue}
use Rattle.backplane.specs.Lanes.{Lanes, is_card}
use Rattle.frames.specs.Fields.{Words, EntryFields}
use Rattle.frames.specs.Views.{entry_fields}
use Rattle.frames.specs.declared.entry.Entry.{Entry}
use Rattle.protocol.specs.Rack.{State, Reply, ask, at, with_card, with_machine, is_electing}
use Rattle.protocol.specs.Committing.{supported, due_entries, committed_to, applied, committed, commit}
use Rattle.protocol.specs.declared.answer.Answer.TheVariants.{Count}
use Rattle.protocol.specs.declared.card.Card.{Card}
use Rattle.protocol.proofs.Asked.{ask_keeps, ask_lifts}
use Rattle.cards.specs.Parts.{of_cards}
use Rattle.cards.specs.declared.member.Member.{Member}
use Rattle.card_log.specs.Parts.{is_missing, commit_log}
use Rattle.rack.specs.Sound.{sound_card}
use Rattle.rack.specs.View.{machines_of, view, sizes}
use Rattle.rack.specs.declared.seat.Seat.{Seat}
use Rattle.rack.proofs.Written.{Written}
use Rattle.rack.specs.declared.state.Rack.{Rack}
use Rattle.rack.proofs.Views.{Found, at_same, own_card, view_written}
use Rattle.rack.proofs.Sounds.{AreEntries, entries_all, entries_due, sound_committed}
use Rattle.rack.proofs.Parts.{card_low, card_high}

-- the machine in a card's place
pub machine_at : {M S : Type 0} (n i : ℕ) (state : M → S) (initial : S) (ms : List M) (d : M) → is_card n i ≡ true → n ≤ length ms → state (get_or ms (i - 1) d) ≡ machines_of n state initial ms i
machine_at n i state initial ms d is long = sym (cond-true _ _ _ is ∙ get_or-map state ms (i - 1) d initial (omega (arith, card_low n i is, card_high n i is, long)))

-- the part that the card is asked is of this size and this number
pub by_member : {S : Type 0} (apply : ℕ → Words → S → S) {m m' : Member} (log : List EntryFields) (x : Card × S) → m ≡ m' → commit_log apply m.size m.number log x ≡ commit_log apply m'.size m'.number log x
by_member apply log x e = ap (λ (m : Member). commit_log apply m.size m.number log x) e

module _ {S : Type 0} (apply : ℕ → Words → S → S) (r : Rack) (i capacity : ℕ) (entries : List Entry) (ms : ℕ → S) (lanes : Lanes) (seat : Seat) (found : Found r i seat) (seen : List Entry) (log_is : map entry_fields seen ≡ (view r entries ms lanes).logs i) (m : S) (stood : m ≡ ms i) where
  abbrev s : State S
  s = view r entries ms lanes

  abbrev own : Card
  own = s.cards i

  abbrev due : List EntryFields
  due = due_entries own (s.logs i)

  abbrev checks : List (Bool × Refusal)
  checks = (own.stopped, Stopped) ∷ (is_electing own.role, WrongRole) ∷ (not (supported (of_cards r.size) i own), NothingDue) ∷ (is_missing own (s.logs i), NothingDue) ∷ []

  abbrev before : Card × S
  before = (own, s.machines i)

  abbrev after : Card × S
  after = (committed_to due own, applied apply due (s.machines i))

  abbrev whole : Card × S → State S
  whole p = with_card i p.0 (with_machine i p.1 s)

  whole_before : whole before ≡ s
  whole_before = λ k. record { cards = at_same i s.cards k; logs = s.logs; tally = s.tally; machines = at_same i s.machines k; lanes = s.lanes }

  at_rack : ask checks (Count (length due)) (committed apply i s) s ≡ commit apply (sizes r capacity) i s
  at_rack = sym (ap (λ b. cond (not b) (Err NoSuchCard, s) (ask checks (Count (length due)) (committed apply i s) s)) found.is)

  from_part : commit_log apply r.size i (map entry_fields seen) (seat.card, m) ≡ commit_log apply r.size i (s.logs i) before
  from_part = λ k. commit_log apply r.size i (log_is k) ((found.card ∙ sym (own_card r i entries ms lanes found.is)) k, stood k)

  pub commit_answered : (reply : Reply) (x : Card × S) → (reply, x) ≡ commit_log apply r.size i (map entry_fields seen) (seat.card, m) → (r' : Rack) (ms' : ℕ → S) → Written r r' i (record { card = x.0; used = seat.used }) r.tally → ms' ≡ at i x.1 ms → (reply, view r' entries ms' lanes) ≡ commit apply (sizes r capacity) i s
  commit_answered reply x e r' ms' w moved =
      (λ k. (reply, ((λ t. view r' entries (moved t) lanes) ∙ view_written r r' i (record { card = x.0; used = seat.used }) r.tally entries (at i x.1 ms) lanes found.is w found.used refl) k))
      ∙ ask_lifts whole checks (Count (length due)) after before x reply (e ∙ from_part)
      ∙ (λ k. ask checks (Count (length due)) (committed apply i s) (whole_before k))
      ∙ at_rack

  sound : sound_card own ≡ true
  sound = ap sound_card (own_card r i entries ms lanes found.is) ∙ r.sound (i - 1)

  -- refused or not
  pub commit_sound : (reply : Reply) (x : Card × S) → (reply, x) ≡ commit_log apply r.size i (map entry_fields seen) (seat.card, m) → sound_card x.0 ≡ true
  commit_sound reply x e =
      let entered : AreEntries (s.logs i) = subst AreEntries log_is (entries_all seen) in
      ap (λ (t : Reply × (Card × S)). sound_card t.1.0) (e ∙ from_part)
      ∙ ask_keeps (λ (p : Card × S). sound_card p.0 ≡ true) checks (Count (length due)) after before sound (λ _. sound_committed due own sound (entries_due own (s.logs i) entered))
