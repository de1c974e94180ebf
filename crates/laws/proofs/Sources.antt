-- What needs no past: machines, the tally, and where entries come from.
use Rattle.std.proofs.Common.{◌≡◌, ℕ, zero, suc, ◌+◌, Bool, true, false, cond, ◌&&◌, ◌||◌, eqb, List, [], ◌∷◌, ◌++◌, map, length, drop, is_ok, Some, None, Option, sym, refl, ap, ◌∙◌, subst, ⊎_elim, arith}
use Rattle.std.specs.List.{AllByRecursion}
use Rattle.std.proofs.ByRecursion.{All-append, All-drop, All-take, All-map, all_kept_by, All-push}
use Rattle.std.proofs.lemmas.Bool.{eq-eqb, ne_eqb, eqb-true, and_right, and_parts, not-false, cases_eq}
use Rattle.marks.specs.Kinds.{Header}
use Rattle.marks.specs.Order.{header_below}
use Rattle.frames.specs.Fields.{Words, EntryFields, FrameFields, header_of, words_header}
use Rattle.protocol.specs.Rack.{Sizes, State, at}
use Rattle.protocol.specs.Voting as voting
use Rattle.protocol.specs.Booking as booking
use Rattle.frames.specs.Carried.{entry_frame, entry_of}
use Rattle.protocol.specs.Booking.{entry_at, inside, diff_entries, message_frames, shipment, shipment_to, booked}
use Rattle.protocol.specs.Taking as taking
use Rattle.protocol.specs.Taking.{front, body_of, rising_between, is_message, is_diff, whole_diff, log_after, kept_up_to}
use Rattle.protocol.specs.Exchange as exchange
use Rattle.protocol.specs.Committing as committing
use Rattle.protocol.specs.Committing.{applied, due_entries}
use Rattle.protocol.specs.Rows.{row_of}
use Rattle.protocol.specs.declared.card.Card.{Card}
use Rattle.protocol.specs.declared.call.Call.{Call}
use Rattle.protocol.specs.declared.call.Call.TheVariants.{Timeout, Elect, Win, Submit, Ship, Take, Push, Look, Commit, Stop}
use Rattle.laws.specs.Runs.{Happens, after, delivered_by, accepted_by, state_from, delivered_from, accepted_from}
use Rattle.laws.proofs.Base.{at_same, at_other, at_all}
use Rattle.protocol.proofs.Asked.{Passed, ask_cases, ask_keeps}
use Rattle.laws.proofs.Keep.{lane_zero, lane_other}
use Rattle.laws.proofs.KeepExchange.{front_ok, row_kinds}
use Rattle.laws.proofs.Found.{found_one}

module _ {S : Type 0} (start : S) (apply : ℕ → Words → S → S) (z : Sizes) where
  applied_append : (xs ys : List EntryFields) (m : S) → applied apply (xs ++ ys) m ≡ applied apply ys (applied apply xs m)
  applied_append [] ys m = refl
  applied_append (x ∷ xs) ys m = applied_append xs ys (apply x.queue x.payload m)

  -- taking leaves machines and tally alone
  taken_still : {A : Type 0} (g : State S → A) (t u v : State S) (b : Bool) → g t ≡ g v → g u ≡ g v → g (cond b t u) ≡ g v
  taken_still g t u v true p q = p
  taken_still g t u v false p q = q

  machine_step : (c : Call) (s : State S) (i : ℕ) → (after start apply z c s).machines i ≡ applied apply (delivered_by start apply z c s i) (s.machines i)
  machine_step (Timeout a) s i = ask_keeps (λ t. t.machines i ≡ s.machines i) (voting.timeout_checks z a s) _ _ s refl (λ _. refl)
  machine_step (Elect a) s i = ask_keeps (λ t. t.machines i ≡ s.machines i) (voting.elect_checks z a s) _ _ s refl (λ _. refl)
  machine_step (Win a) s i = ask_keeps (λ t. t.machines i ≡ s.machines i) (voting.win_checks z a s) _ _ s refl (λ _. refl)
  machine_step (Submit a q w) s i = ask_keeps (λ t. t.machines i ≡ s.machines i) (booking.submit_checks z a q s) _ _ s refl (λ _. refl)
  machine_step (Ship a b) s i = ask_keeps (λ t. t.machines i ≡ s.machines i) (booking.ship_checks z a b s) _ _ s refl (λ _. refl)
  machine_step (Take a b) s i = ask_keeps (λ t. t.machines i ≡ s.machines i) (taking.take_checks z a b s) _ _ s refl (λ _. taken_still (λ t. t.machines i) (taking.passed_over a b s) (taking.entered a b s) s (taking.too_low (s.cards a) (front (s.lanes b a 0))) refl refl)
  machine_step (Push a b k) s i = ask_keeps (λ t. t.machines i ≡ s.machines i) (exchange.push_checks z a b k s) _ _ s refl (λ _. refl)
  machine_step (Look a b k) s i = ask_keeps (λ t. t.machines i ≡ s.machines i) (exchange.look_checks z a b k s) _ _ s refl (λ _. refl)
  machine_step (Stop a) s i = ask_keeps (λ t. t.machines i ≡ s.machines i) (exchange.stop_checks z a s) _ _ s refl (λ _. refl)
  machine_step (Commit a) s i = ask_cases (λ t. t.1.machines i ≡ applied apply (cond (eqb i a && is_ok t.0) due []) (s.machines i)) (committing.commit_checks z a s) _ (committing.committed apply a s) s
      (λ r. ap (λ b. applied apply (cond b due []) (s.machines i)) (sym (and_right (eqb i a) false refl)))
      (λ _. ⊎_elim same other (cases_eq i a))
    where
      due : List EntryFields
      due = due_entries (s.cards a) (s.logs a)

      new : S
      new = applied apply due (s.machines a)

      same : i ≡ a → at a new s.machines i ≡ applied apply (cond (eqb i a && true) due []) (s.machines i)
      same q = subst (λ x. at a new s.machines x ≡ applied apply (cond (eqb x a && true) due []) (s.machines x)) (sym q) (at_same a new s.machines ∙ ap (λ b. applied apply (cond (b && true) due []) (s.machines a)) (sym (eq-eqb a a refl)))

      other : (i ≡ a → ⊥) → at a new s.machines i ≡ applied apply (cond (eqb i a && true) due []) (s.machines i)
      other ne = at_other a new s.machines i ne ∙ ap (λ b. applied apply (cond (b && true) due []) (s.machines i)) (sym (ne_eqb i a ne))

  pub machine_from : (calls : List Call) (s : State S) (k i : ℕ) → (state_from start apply z s calls k).machines i ≡ applied apply (delivered_from start apply z s calls k i) (s.machines i)
  machine_from calls s zero i = refl
  machine_from [] s (suc k) i = refl
  machine_from (c ∷ cs) s (suc k) i = machine_from cs (after start apply z c s) k i ∙ ap (applied apply (delivered_from start apply z (after start apply z c s) cs k i)) (machine_step c s i) ∙ sym (applied_append (delivered_by start apply z c s i) (delivered_from start apply z (after start apply z c s) cs k i) (s.machines i))

  plus_none : (n : ℕ) → n ≡ n + 0
  plus_none n = omega arith

  tally_step : (c : Call) (s : State S) → (after start apply z c s).tally ≡ s.tally + accepted_by start apply z c s
  tally_step (Timeout a) s = ask_keeps (λ t. t.tally ≡ s.tally + 0) (voting.timeout_checks z a s) _ _ s (plus_none _) (λ _. plus_none _)
  tally_step (Elect a) s = ask_keeps (λ t. t.tally ≡ s.tally + 0) (voting.elect_checks z a s) _ _ s (plus_none _) (λ _. plus_none _)
  tally_step (Win a) s = ask_keeps (λ t. t.tally ≡ s.tally + 0) (voting.win_checks z a s) _ _ s (plus_none _) (λ _. plus_none _)
  tally_step (Submit a q w) s = ask_cases (λ t. t.1.tally ≡ s.tally + cond (is_ok t.0) 1 0) (booking.submit_checks z a q s) _ _ s (λ _. plus_none _) (λ _. refl)
  tally_step (Ship a b) s = ask_keeps (λ t. t.tally ≡ s.tally + 0) (booking.ship_checks z a b s) _ _ s (plus_none _) (λ _. plus_none _)
  tally_step (Take a b) s = ask_keeps (λ t. t.tally ≡ s.tally + 0) (taking.take_checks z a b s) _ _ s (plus_none _) (λ _. taken_still (λ t. t.tally) (taking.passed_over a b s) (taking.entered a b s) s (taking.too_low (s.cards a) (front (s.lanes b a 0))) refl refl ∙ plus_none _)
  tally_step (Push a b k) s = ask_keeps (λ t. t.tally ≡ s.tally + 0) (exchange.push_checks z a b k s) _ _ s (plus_none _) (λ _. plus_none _)
  tally_step (Look a b k) s = ask_keeps (λ t. t.tally ≡ s.tally + 0) (exchange.look_checks z a b k s) _ _ s (plus_none _) (λ _. plus_none _)
  tally_step (Commit a) s = ask_keeps (λ t. t.tally ≡ s.tally + 0) (committing.commit_checks z a s) _ _ s (plus_none _) (λ _. plus_none _)
  tally_step (Stop a) s = ask_keeps (λ t. t.tally ≡ s.tally + 0) (exchange.stop_checks z a s) _ _ s (plus_none _) (λ _. plus_none _)

  pub tally_from : (calls : List Call) (s : State S) (k : ℕ) → (state_from start apply z s calls k).tally ≡ s.tally + accepted_from start apply z s calls k
  tally_from calls s zero = plus_none _
  tally_from [] s (suc k) = plus_none _
  tally_from (c ∷ cs) s (suc k) = omega (arith, tally_from cs (after start apply z c s) k, tally_step c s)

  module _ (Q : EntryFields → Type 0) where
    -- a frame that carries an entry carries one of which Q holds
    pub record Carries (f : FrameFields) : Type 0 where
      pub message : f.kind ≡ 1 → Q (entry_of f)
      pub entry : f.kind ≡ 3 → Q (entry_of f)

    pub record From (s : State S) : Type 0 where
      pub log : (i : ℕ) → AllByRecursion Q (s.logs i)
      pub lane : (j i : ℕ) → AllByRecursion Carries (s.lanes j i 0)

    carried : (kind : ℕ) (xs : List EntryFields) → AllByRecursion Q xs → AllByRecursion Carries (map (entry_frame kind) xs)
    carried kind [] h = tt
    carried kind (x ∷ xs) h = (record { message = λ _. h.0; entry = λ _. h.0 }, carried kind xs h.1)

    ship_carries : (c : Card) (base : Header) (o : Option ℕ) (log : List EntryFields) → AllByRecursion Q log → AllByRecursion Carries (shipment c base o log)
    ship_carries c base None log h = (record { message = λ e. absurd (omega (arith, e)); entry = λ e. absurd (omega (arith, e)) }, carried 3 _ (all_kept_by _ Q log h))
    ship_carries c base (Some k) log h = by (entry_at wanted log) refl
      where
        wanted : Header
        wanted = (c.current.0, c.current.1, k + 1)

        by : (o : Option EntryFields) → entry_at wanted log ≡ o → AllByRecursion Carries (message_frames o)
        by None e = tt
        by (Some x) e = carried 1 (x ∷ []) ((found_one Q wanted log x h e).0, tt)

    body_kinds : (low high : Header) (fs : List FrameFields) → rising_between low high fs ≡ true → AllByRecursion Carries fs → AllByRecursion (λ f. Q (entry_of f)) fs
    body_kinds low high [] t h = tt
    body_kinds low high (f ∷ fs) t h =
        let rest = rising_between (header_of f) high fs in
        let a = and_parts (eqb f.kind 3) (header_below low (header_of f) && (header_below (header_of f) high && rest)) t in
        let b = and_parts (header_below low (header_of f)) (header_below (header_of f) high && rest) a.1 in
        let c = and_parts (header_below (header_of f) high) rest b.1 in
        (h.0.entry (eqb-true _ _ a.0), body_kinds (header_of f) high fs c.1 h.1)

    taken_log : (lane : List FrameFields) (log : List EntryFields) → AllByRecursion Carries lane → AllByRecursion Q log → eqb (length lane) 0 ≡ false → is_message (front lane) || (is_diff (front lane) && whole_diff lane) ≡ true → AllByRecursion Q (log_after lane log)
    taken_log lane log c h some formed = by (is_message (front lane)) refl formed
      where
        by : (b : Bool) → is_message (front lane) ≡ b → b || (is_diff (front lane) && whole_diff lane) ≡ true → AllByRecursion Q (cond b (log ++ entry_of (front lane) ∷ []) (taking.diff_log lane log))
        by true e t = All-push Q log (entry_of (front lane)) h ((front_ok Carries lane c some).message (eqb-true _ _ e))
        by false e t = All-append Q _ _ (all_kept_by _ Q log h) (All-map Q entry_of (body_of lane) (body_kinds (words_header (front lane)) ((front lane).round, (front lane).leader, 0) (body_of lane) (and_parts (eqb (length (body_of lane)) (front lane).w4) (rising_between (words_header (front lane)) ((front lane).round, (front lane).leader, 0) (body_of lane)) (and_parts (is_diff (front lane)) (whole_diff lane) t).1).1 (All-take Carries (front lane).w4 (drop 1 lane) (All-drop Carries 1 lane c))))

    module _ (s : State S) (F : From s) where
      same_from : (t : State S) → ((i : ℕ) → t.logs i ≡ s.logs i) → ((j i : ℕ) → t.lanes j i 0 ≡ s.lanes j i 0) → From t
      same_from t a b = record { log = λ i. subst (AllByRecursion Q) (sym (a i)) (F.log i); lane = λ j i. subst (AllByRecursion Carries) (sym (b j i)) (F.lane j i) }

      lane_from : (t : State S) (j r : ℕ) (lane : List FrameFields) → ((i : ℕ) → AllByRecursion Q (t.logs i)) → t.lanes ≡ Rattle.protocol.specs.Rack.at_lane j r 0 lane s.lanes → AllByRecursion Carries lane → From t
      lane_from t j r lane logs is h = record { log = logs; lane = subst (λ (f : ℕ → ℕ → ℕ → List FrameFields). (j i : ℕ) → AllByRecursion Carries (f j i 0)) (sym is) (lane_zero (λ _ _ l. AllByRecursion Carries l) j r lane s.lanes h F.lane) }

      from_step : (c : Call) → ((i q : ℕ) (w : Words) → c ≡ Submit i q w → Passed (booking.submit_checks z i q s) → Q (booked (s.cards i) q w)) → From (after start apply z c s)
      from_step (Timeout a) new = ask_keeps From (voting.timeout_checks z a s) _ _ s F (λ _. same_from _ (λ _. refl) (λ _ _. refl))
      from_step (Elect a) new = ask_keeps From (voting.elect_checks z a s) _ _ s F (λ _. same_from _ (λ _. refl) (λ _ _. refl))
      from_step (Win a) new = ask_keeps From (voting.win_checks z a s) _ _ s F (λ _. same_from _ (λ _. refl) (λ _ _. refl))
      from_step (Submit a q w) new = ask_keeps From (booking.submit_checks z a q s) _ _ s F (λ p. record { log = at_all (λ _ l. AllByRecursion Q l) a (s.logs a ++ booked (s.cards a) q w ∷ []) s.logs (All-push Q (s.logs a) _ (F.log a) (new a q w refl p)) (λ j _. F.log j); lane = F.lane })
      from_step (Ship a b) new = ask_keeps From (booking.ship_checks z a b s) _ _ s F (λ _. lane_from _ a b (s.lanes a b 0 ++ shipment_to a b s) F.log refl (All-append Carries (s.lanes a b 0) _ (F.lane a b) (ship_carries (s.cards a) (row_of (s.cards a).peers b).commit (row_of (s.cards a).peers b).shipped (s.logs a) (F.log a))))
      from_step (Take a b) new = ask_keeps From (taking.take_checks z a b s) _ _ s F (λ p. pick (taking.too_low (s.cards a) (front (s.lanes b a 0))) (over p) (in_log p))
        where
          lane : List FrameFields
          lane = s.lanes b a 0

          rest : AllByRecursion Carries (drop (taking.front_size (s.lanes b a 0)) (s.lanes b a 0))
          rest = All-drop Carries (taking.front_size (s.lanes b a 0)) (s.lanes b a 0) (F.lane b a)

          over : Passed (taking.take_checks z a b s) → From (taking.passed_over a b s)
          over p = lane_from _ b a (drop (taking.front_size (s.lanes b a 0)) (s.lanes b a 0)) F.log refl rest

          in_log : Passed (taking.take_checks z a b s) → From (taking.entered a b s)
          in_log p = lane_from _ b a (drop (taking.front_size (s.lanes b a 0)) (s.lanes b a 0)) (at_all (λ _ l. AllByRecursion Q l) a (log_after (s.lanes b a 0) (s.logs a)) s.logs (taken_log (s.lanes b a 0) (s.logs a) (F.lane b a) (F.log a) p.1.1.0 (and_parts _ _ (not-false _ p.1.1.1.0)).0) (λ j _. F.log j)) refl rest

          pick : (t : Bool) → From (taking.passed_over a b s) → From (taking.entered a b s) → From (cond t (taking.passed_over a b s) (taking.entered a b s))
          pick true x y = x
          pick false x y = y
      from_step (Push a b k) new = ask_keeps From (exchange.push_checks z a b k s) _ _ s F (λ p. record { log = F.log; lane = lane_other (λ _ _ l. AllByRecursion Carries l) a b k _ s.lanes (λ q. omega (arith, q, row_kinds k (not-false _ p.1.0))) F.lane })
      from_step (Look a b k) new = ask_keeps From (exchange.look_checks z a b k s) _ _ s F (λ p. record { log = F.log; lane = lane_other (λ _ _ l. AllByRecursion Carries l) b a k _ s.lanes (λ q. omega (arith, q, row_kinds k (not-false _ p.1.0))) F.lane })
      from_step (Commit a) new = ask_keeps From (committing.commit_checks z a s) _ _ s F (λ _. same_from _ (λ _. refl) (λ _ _. refl))
      from_step (Stop a) new = ask_keeps From (exchange.stop_checks z a s) _ _ s F (λ _. same_from _ (λ _. refl) (λ _ _. refl))

    pub from_run : (calls : List Call) (s : State S) → From s → ((k i q : ℕ) (w : Words) → Happens calls k (Submit i q w) → Passed (booking.submit_checks z i q (state_from start apply z s calls k)) → Q (booked ((state_from start apply z s calls k).cards i) q w)) → (k : ℕ) → From (state_from start apply z s calls k)
    from_run calls s F new zero = F
    from_run [] s F new (suc k) = F
    from_run (c ∷ cs) s F new (suc k) = from_run cs (after start apply z c s) (from_step s F c (λ i q w. new 0 i q w)) (λ j. new (suc j)) k
