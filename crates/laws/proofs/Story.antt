-- The invariant holds at every moment of a run, and the past only grows from one moment to a later one.
use Rattle.std.proofs.Common.{◌≡◌, ℕ, zero, suc, ◌≤◌, true, false, cond, ◌&&◌, eqb, List, [], ◌∷◌, ◌++◌, is_ok, sym, refl, ap, ◌∙◌, subst, arith}
use mathlib.Core.Path.{fun_ext}
use Rattle.std.proofs.lemmas.List.{append_assoc, append-nil}
use Rattle.std.proofs.lemmas.Bool.{eq-eqb, ne_eqb, and_right}
use Rattle.frames.specs.Fields.{Words, EntryFields}
use Rattle.protocol.specs.Rack.{Sizes, State}
use Rattle.protocol.specs.Voting as voting
use Rattle.protocol.specs.Booking as booking
use Rattle.protocol.specs.Taking as taking
use Rattle.protocol.specs.Exchange as exchange
use Rattle.protocol.specs.Committing as committing
use Rattle.protocol.specs.declared.call.Call.{Call}
use Rattle.protocol.specs.declared.call.Call.TheVariants.{Timeout, Elect, Win, Submit, Ship, Take, Push, Look, Commit, Stop}
use Rattle.laws.specs.Runs.{after, delivered_by, state_from, delivered_from}
use Rattle.laws.proofs.Inv.{Past, Inv, Grows}
use Rattle.laws.proofs.Past.{Meets}
use Rattle.protocol.proofs.Asked.{ask_cases, ask_keeps}
use Rattle.laws.proofs.Keep.{same_grows, grows_on}
use Rattle.laws.proofs.KeepVoting.{Kept, timeout_keeps, elect_keeps}
use Rattle.laws.proofs.KeepWin.{win_keeps}
use Rattle.laws.proofs.KeepSubmit.{submit_keeps}
use Rattle.laws.proofs.KeepShip.{ship_keeps}
use Rattle.laws.proofs.KeepTake.{take_keeps}
use Rattle.laws.proofs.KeepExchange.{push_keeps, look_keeps, stop_keeps}
use Rattle.laws.proofs.KeepCommit.{commit_keeps}

module _ {S : Type 0} (start : S) (apply : ℕ → Words → S → S) (z : Sizes) (meets : Meets z.cards) where
  nothing_more : (d : ℕ → List EntryFields) → d ≡ (λ j. d j ++ [])
  nothing_more d = fun_ext (λ j. sym (append-nil (d j)))

  -- a call that delivers nothing
  quiet : (H : Past) (d : ℕ → List EntryFields) (t : State S) → Kept z.cards H t d → Kept z.cards H t (λ j. d j ++ [])
  quiet H d t k = (k.0, k.1, subst (Inv z.cards k.0 t) (nothing_more d) k.2)

  module _ (H : Past) (s : State S) (d : ℕ → List EntryFields) (I : Inv z.cards H s d) where
    same : Kept z.cards H s d
    same = (H, same_grows H, I)

    pub step_keeps : (c : Call) → Kept z.cards H (after start apply z c s) (λ j. d j ++ delivered_by start apply z c s j)
    step_keeps (Timeout i) = quiet H d _ (ask_keeps (λ t. Kept z.cards H t d) (voting.timeout_checks z i s) _ _ s same (timeout_keeps z meets H s d I i))
    step_keeps (Elect i) = quiet H d _ (ask_keeps (λ t. Kept z.cards H t d) (voting.elect_checks z i s) _ _ s same (elect_keeps z meets H s d I i))
    step_keeps (Win i) = quiet H d _ (ask_keeps (λ t. Kept z.cards H t d) (voting.win_checks z i s) _ _ s same (win_keeps z meets H s d I i))
    step_keeps (Submit i queue payload) = quiet H d _ (ask_keeps (λ t. Kept z.cards H t d) (booking.submit_checks z i queue s) _ _ s same (submit_keeps z meets H s d I i queue payload))
    step_keeps (Ship i j) = quiet H d _ (ask_keeps (λ t. Kept z.cards H t d) (booking.ship_checks z i j s) _ _ s same (ship_keeps z meets H s d I i j))
    step_keeps (Take i j) = quiet H d _ (ask_keeps (λ t. Kept z.cards H t d) (taking.take_checks z i j s) _ _ s same (take_keeps z meets H s d I i j))
    step_keeps (Push i j kind) = quiet H d _ (ask_keeps (λ t. Kept z.cards H t d) (exchange.push_checks z i j kind s) _ _ s same (push_keeps z meets H s d I i j kind))
    step_keeps (Look i j kind) = quiet H d _ (ask_keeps (λ t. Kept z.cards H t d) (exchange.look_checks z i j kind s) _ _ s same (look_keeps z meets H s d I i j kind))
    step_keeps (Stop i) = quiet H d _ (ask_keeps (λ t. Kept z.cards H t d) (exchange.stop_checks z i s) _ _ s same (λ _. stop_keeps z meets H s d I i))
    step_keeps (Commit i) = ask_cases (λ t. Kept z.cards H t.1 (λ j. d j ++ cond (eqb j i && is_ok t.0) due [])) (committing.commit_checks z i s) _ (committing.committed apply i s) s
        (λ r. subst (Kept z.cards H s) (fun_ext (λ j. sym (append-nil (d j)) ∙ ap (λ b. d j ++ cond b due []) (sym (and_right (eqb j i) false refl)))) same)
        (λ p. commit_keeps z meets H s d I i apply p _ (ap (λ b. d i ++ cond (b && true) due []) (eq-eqb i i refl)) (λ j ne. ap (λ b. d j ++ cond (b && true) due []) (ne_eqb j i ne) ∙ append-nil (d j)))
      where
        due : List EntryFields
        due = committing.due_entries (s.cards i) (s.logs i)

  -- the past, and the invariant, at moment k
  pub moment : (calls : List Call) (s : State S) (H : Past) (d : ℕ → List EntryFields) → Inv z.cards H s d → (k : ℕ) → Kept z.cards H (state_from start apply z s calls k) (λ j. d j ++ delivered_from start apply z s calls k j)
  moment calls s H d I zero = (H, same_grows H, subst (Inv z.cards H s) (nothing_more d) I)
  moment [] s H d I (suc k) = (H, same_grows H, subst (Inv z.cards H s) (nothing_more d) I)
  moment (c ∷ cs) s H d I (suc k) =
      let r = step_keeps H s d I c in
      let q = moment cs (after start apply z c s) r.0 (λ j. d j ++ delivered_by start apply z c s j) r.2 k in
      (q.0, grows_on H r.0 q.0 r.1 q.1, subst (Inv z.cards q.0 (state_from start apply z (after start apply z c s) cs k)) (fun_ext (λ j. append_assoc (d j) (delivered_by start apply z c s j) (delivered_from start apply z (after start apply z c s) cs k j))) q.2)

  pub grows_from : (calls : List Call) (s : State S) (H : Past) (d : ℕ → List EntryFields) (I : Inv z.cards H s d) (k l : ℕ) → k ≤ l → Grows (moment calls s H d I k).0 (moment calls s H d I l).0
  unfolding moment
  grows_from calls s H d I zero l h = (moment calls s H d I l).1
  grows_from [] s H d I (suc k) zero h = absurd (omega (arith, h))
  grows_from [] s H d I (suc k) (suc l) h = same_grows H
  grows_from (c ∷ cs) s H d I (suc k) zero h = absurd (omega (arith, h))
  grows_from (c ∷ cs) s H d I (suc k) (suc l) h =
      let r = step_keeps H s d I c in
      grows_from cs (after start apply z c s) r.0 (λ j. d j ++ delivered_by start apply z c s j) r.2 k l (omega (arith, h))
