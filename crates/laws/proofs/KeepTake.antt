-- take keeps the invariant: what it finds in front is a whole message or diff.
use Rattle.std.proofs.Common.{◌≡◌, ℕ, suc, ◌+◌, ◌-◌, ◌<◌, ◌≤◌, Bool, true, false, cond, not, ◌&&◌, eqb, List, [], ◌∷◌, ◌++◌, map, length, get_or, take, drop, filter, sym, refl, ap, ◌∙◌, subst, ⊎_elim, arith}
use Rattle.std.specs.List.{AllByRecursion}
use Rattle.std.proofs.ByRecursion.{All-drop, All-weaker}
use Rattle.std.proofs.lemmas.List.{append_assoc, append-nil, drop_at, take_at, length-map}
use Rattle.std.proofs.lemmas.Bool.{true≢false, not-true, not-false, eqb-true, and_parts, cases_Bool, cases_lt, eq-eqb, ltb-false}
use Rattle.std.proofs.lemmas.Bool.Decides.{nat_tests}
use Rattle.marks.specs.Kinds.{Epoch, Header, epoch_of}
use Rattle.marks.specs.Order.{epoch_same, header_below, header_up_to}
use Rattle.frames.specs.Fields.{EntryFields, FrameFields}
use Rattle.protocol.specs.Rows.{blank_row}
use Rattle.protocol.specs.Rack.{Sizes, State, at_lane, is_electing}
use Rattle.frames.specs.Carried.{entry_frame, entry_of}
use Rattle.protocol.specs.Booking.{accepted_up_to, diff_frames}
use Rattle.protocol.specs.Taking.{front, body_of, front_size, too_low, in_turn, kept_up_to, log_after, entered_by, taken_by, take_checks, passed_over, entered, taken}
use Rattle.protocol.specs.declared.card.Card.{Card}
use Rattle.protocol.specs.declared.card.Role.TheVariants.{Follower}
use Rattle.laws.proofs.Base.{en, hn, Up, at_same, at_other, below_num, same_num, upto_header, not_upto_header, below_header, not_below_header, and_second}
use Rattle.laws.proofs.Inv.{Past, hist, Chosen, UpTo, Beyond, Sound, View, view, CardOk, RowOk, CommitOk, FrameOk, Parcel, message, diff, frames_of, laid, MessageOk, DiffOk, ParcelOk, Waiting, Inv, Grows}
use Rattle.laws.proofs.Past.{Meets, Starts, begins, hist_upto}
use Rattle.laws.proofs.Carry.{chosen_won, frame_keeps, waiting_keeps}
use Rattle.laws.proofs.Moves.{moved, Move, moved_grows, moved_sound, moved_still}
use Rattle.protocol.proofs.Asked.{Passed}
use Rattle.laws.proofs.Keep.{same_grows, acted, rows_keep, lane_all, lane_zero}
use Rattle.laws.proofs.KeepVoting.{Kept, accepted_most, acc_num}
use Rattle.laws.proofs.KeepShip.{peer_place, peers_differ}
use Rattle.laws.proofs.KeepMoved.{moved_card, move_within}
use Rattle.laws.proofs.Found.{keeps_first, keeps_second}

-- a lane with something in front: a parcel, then the others
record InFront (H : Past) (n j i : ℕ) (lane : List FrameFields) : Type 0 where
  parcel : Parcel
  others : List Parcel
  is : lane ≡ frames_of parcel ++ laid others
  ok : ParcelOk H n j i parcel
  others_ok : AllByRecursion (ParcelOk H n j i) others

in_front : (H : Past) (n j i : ℕ) (lane : List FrameFields) → Waiting H n j i lane → eqb (length lane) 0 ≡ false → InFront H n j i lane
in_front H n j i lane w some = by w.parcels w.is w.ok
  where
    by : (ps : List Parcel) → lane ≡ laid ps → AllByRecursion (ParcelOk H n j i) ps → InFront H n j i lane
    by [] e ok = absurd (true≢false (sym (eq-eqb (length lane) 0 (ap length e)) ∙ some))
    by (p ∷ ps) e ok = record { parcel = p; others = ps; is = e; ok = ok.0; others_ok = ok.1 }

drop_front : (p : Parcel) (rest : List FrameFields) → drop (front_size (frames_of p ++ rest)) (frames_of p ++ rest) ≡ rest
drop_front (message x) rest = refl
drop_front (diff e base xs) rest = ap (λ k. drop k (diff_frames e base xs ++ rest)) (plus (length xs)) ∙ drop_at (map (entry_frame 3) xs) rest (length xs) (length-map xs (entry_frame 3))
  where
    plus : (k : ℕ) → k + 1 ≡ suc k
    plus k = omega arith

entries_back : (xs : List EntryFields) → map entry_of (map (entry_frame 3) xs) ≡ xs
entries_back [] = refl
entries_back (x ∷ xs) = ap (λ ys. x ∷ ys) (entries_back xs)

body_back : (e : Epoch) (base : Header) (xs : List EntryFields) (rest : List FrameFields) → map entry_of (body_of (diff_frames e base xs ++ rest)) ≡ xs
body_back e base xs rest = ap (map entry_of) (take_at (map (entry_frame 3) xs) rest (length xs) (length-map xs (entry_frame 3))) ∙ entries_back xs

pub epoch_same_lem : (a b : Epoch) → epoch_same a b ≡ true → a ≡ b
epoch_same_lem a b h =
    let q = and_parts _ _ h in
    let x = eqb-true _ _ q.0 in
    let y = eqb-true _ _ q.1 in
    λ t. (x t, y t)

epoch_other : (a b : Epoch) → epoch_same a b ≡ false → a ≡ b → ⊥
epoch_other a b h e = true≢false (sym (subst (λ x. epoch_same a x ≡ true) e (self a)) ∙ h)
  where
    self : (a : Epoch) → epoch_same a a ≡ true
    self a = grind (arith, nat_tests)

-- a diff makes the log the winner's
installed_is : (H : Past) (n : ℕ) → Meets n → Sound H n → (e E k : ℕ) (b : Header) (log xs : List EntryFields) → b.1 < 8 → Chosen H n (hn b) b.2 → H.won e ≡ true → H.won E ≡ true → Up (hn b) b.2 E k → hn b < e → log ≡ hist H E k → xs ≡ filter (λ (x : EntryFields). header_below b x.header) (H.start e) → kept_up_to b log ++ xs ≡ H.start e
installed_is H n meets W e E k b log xs small chosen won won_e upto below log_is xs_is =
    ap (λ ys. ys ++ xs) kept ∙ ap (λ ys. hist H (hn b) b.2 ++ ys) (xs_is ∙ added) ∙ sym start
  where
    old : Starts H n W (hn b) b.2 (hist H E k)
    old = begins H n W meets (hn b) b.2 E k chosen won_e upto

    new : Starts H n W (hn b) b.2 (hist H e 0)
    new = begins H n W meets (hn b) b.2 e 0 chosen won (record { epoch = omega (arith, below); count = λ q. absurd (omega (arith, q, below)) })

    start : H.start e ≡ hist H (hn b) b.2 ++ new.rest
    start = sym (append-nil (H.start e)) ∙ new.is

    bwon : H.won (hn b) ≡ true
    bwon = chosen_won H n W meets (hn b) b.2 chosen

    kept : kept_up_to b log ≡ hist H (hn b) b.2
    kept = keeps_first (λ (x : EntryFields). header_up_to x.header b) log (hist H (hn b) b.2) old.rest (log_is ∙ old.is)
        (All-weaker (UpTo (hn b) b.2) _ (λ x u. upto_header x.header.0 x.header.1 x.header.2 b.0 b.1 b.2 u.led small u.upto) _ (hist_upto H n W _ _ bwon))
        (All-weaker (Beyond (hn b) b.2) _ (λ x u. not_upto_header x.header.0 x.header.1 x.header.2 b.0 b.1 b.2 u.led small u.beyond) _ old.beyond)

    added : filter (λ (x : EntryFields). header_below b x.header) (H.start e) ≡ new.rest
    added = keeps_second (λ (x : EntryFields). header_below b x.header) (H.start e) (hist H (hn b) b.2) new.rest start
        (All-weaker (UpTo (hn b) b.2) _ (λ x u. not_below_header b.0 b.1 b.2 x.header.0 x.header.1 x.header.2 small u.led u.upto) _ (hist_upto H n W _ _ bwon))
        (All-weaker (Beyond (hn b) b.2) _ (λ x u. below_header b.0 b.1 b.2 x.header.0 x.header.1 x.header.2 small u.led u.beyond) _ new.beyond)

module _ {S : Type 0} (z : Sizes) (meets : Meets z.cards) (H : Past) (s : State S) (d : ℕ → List EntryFields) (I : Inv z.cards H s d) (i j : ℕ) (p : Passed (take_checks z i j s)) where
  C : CardOk H z.cards i (view (s.cards i)) (s.logs i) (d i)
  C = I.card i

  F : InFront H z.cards j i (s.lanes j i 0)
  F = in_front H z.cards j i (s.lanes j i 0) (I.waiting j i) p.1.1.0

  abbrev after : List FrameFields
  after = drop (front_size (s.lanes j i 0)) (s.lanes j i 0)

  left_is : after ≡ laid F.others
  left_is = ap (λ l. drop (front_size l) l) F.is ∙ drop_front F.parcel (laid F.others)

  left : Waiting H z.cards j i after
  left = record { parcels = F.others; is = left_is; ok = F.others_ok }

  frames_left : (x y w : ℕ) → AllByRecursion (FrameOk H z.cards x) (at_lane j i 0 after s.lanes x y w)
  frames_left = lane_all (λ x y w f. AllByRecursion (FrameOk H z.cards x) f) j i 0 after s.lanes (All-drop (FrameOk H z.cards j) (front_size (s.lanes j i 0)) (s.lanes j i 0) (I.frame j i 0)) I.frame

  waits_left : (x y : ℕ) → Waiting H z.cards x y (at_lane j i 0 after s.lanes x y 0)
  waits_left = lane_zero (λ x y f. Waiting H z.cards x y f) j i after s.lanes left I.waiting

  passed_keeps : Kept z.cards H (passed_over i j s) d
  passed_keeps = (H, same_grows H, record { sound = I.sound; card = I.card; row = I.row; frame = frames_left; waiting = waits_left })

  module _ (low : too_low (s.cards i) (front (s.lanes j i 0)) ≡ false) where
    turn : in_turn (s.cards i) (front (s.lanes j i 0)) ≡ true
    turn = not-false _ (and_second _ _ (ap not low) p.1.1.1.1.0)

    -- card i accepts up to a header of an epoch that is won
    enters : (c : Card) (log : List EntryFields) (K : Past) → Grows H K → Sound K z.cards → ((x : ℕ) → (x ≡ i → ⊥) → Rattle.laws.proofs.Inv.Still H K x) → taken_by (s.cards i) (front (s.lanes j i 0)) ≡ c → log_after (s.lanes j i 0) (s.logs i) ≡ log → c.peers ≡ (s.cards i).peers → CardOk K z.cards i (view c) log (d i) → Kept z.cards H (entered i j s) d
    enters c log K G W still card_is log_is peers ok =
        let t = entered i j s in (
          K,
          G,
          acted z.cards meets H K s t d d I G W i still c log (d i)
              (record { card = at_same i _ s.cards ∙ card_is; log_is = at_same i _ s.logs ∙ log_is; list_is = refl; cards = λ j ne. at_other i _ s.cards j ne; logs = λ j ne. at_other i _ s.logs j ne; lists = λ _ _. refl })
              ok (λ k. subst (λ t. RowOk K z.cards (suc k) (get_or t.rows k blank_row)) (sym peers) (rows_keep z.cards meets H K s t d d I G W i k))
              (λ x y w. All-weaker (FrameOk H z.cards x) (FrameOk K z.cards x) (frame_keeps H K z.cards G x) _ (frames_left x y w))
              (λ x y. waiting_keeps H K z.cards G x y _ (waits_left x y)),
        )

    appends : (x : EntryFields) → s.lanes j i 0 ≡ entry_frame 1 x ∷ laid F.others → MessageOk H j x → Kept z.cards H (entered i j s) d
    appends x is M =
        enters (accepted_up_to x.header (s.cards i)) (s.logs i ++ x ∷ []) (moved H i e x.header.2 (H.start e) (H.sent e)) (moved_grows H z.cards i e x.header.2 (H.start e) (H.sent e) I.sound move) (moved_sound H z.cards i e x.header.2 (H.start e) (H.sent e) I.sound move) (moved_still H z.cards i e x.header.2 (H.start e) (H.sent e) I.sound move)
        (ap (λ l. taken_by (s.cards i) (front l)) is) (ap (λ l. log_after l (s.logs i)) is) refl
        (moved_card H z.cards i (view (s.cards i)) (s.logs i) (d i) I.sound meets C (s.cards i).current (s.cards i).newest x.header (s.cards i).next (H.start e) (H.sent e) move (s.cards i).role (s.logs i ++ x ∷ []) settled C.cur_led entered_is tests.0 C.next_cur
        (record { epoch = omega arith; count = λ _. omega (arith, tests.2) }) (λ r. absurd (peers_differ z i j p.0 (sym (C.leads r) ∙ sym (ap (λ (y : Epoch). y.1) tests.0) ∙ M.leader))) log_is C.mark_next C.mark_open)
      where
        e : ℕ
        e = en (s.cards i).current

        tests : (epoch_of x.header ≡ (s.cards i).current) × (epoch_of x.header ≡ (s.cards i).newest) × (x.header.2 ≡ (s.cards i).accepted.2 + 1)
        tests =
            let q = and_parts (epoch_same (epoch_of x.header) (s.cards i).current) (epoch_same (epoch_of x.header) (s.cards i).newest && eqb x.header.2 ((s.cards i).accepted.2 + 1)) (subst (λ l. in_turn (s.cards i) (front l) ≡ true) is turn) in
            let r = and_parts (epoch_same (epoch_of x.header) (s.cards i).newest) (eqb x.header.2 ((s.cards i).accepted.2 + 1)) q.1 in
            (epoch_same_lem _ _ q.0, epoch_same_lem _ _ r.0, eqb-true _ _ r.1)

        num : hn x.header ≡ en (s.cards i).current
        num = ap en tests.0

        entered_is : (s.cards i).newest ≡ (s.cards i).current
        entered_is = sym tests.1 ∙ tests.0

        above : 0 < en (s.cards i).current
        above = omega (arith, num, M.leader, peer_place z i j p.0)

        settled : is_electing (s.cards i).role ≡ false
        settled = ⊎_elim (λ t. absurd (omega (arith, ap en entered_is, above, C.voting_above t (omega (arith, ap en entered_is, above))))) (λ t. t) (cases_Bool (is_electing (s.cards i).role))

        move : Move H z.cards i (en (s.cards i).current) x.header.2 (H.start (en (s.cards i).current)) (H.sent (en (s.cards i).current))
        move = move_within H z.cards i (en (s.cards i).current) x.header.2 (H.sent (en (s.cards i).current)) I.sound C.cur_won above (omega arith) (λ _ _. refl) (subst (λ m. x.header.2 ≤ length (H.sent m)) num M.sent) (omega (arith, C.top_cur, tests.2)) (I.sound.numbered _ C.cur_won) (λ y c. omega (arith, C.cast_below y c, ap en entered_is)) (λ _. refl)

        adds : take x.header.2 (H.sent (en (s.cards i).current)) ≡ take (s.cards i).accepted.2 (H.sent (en (s.cards i).current)) ++ x ∷ []
        adds = subst (λ m. take x.header.2 (H.sent m) ≡ take (x.header.2 - 1) (H.sent m) ++ x ∷ []) num M.adds ∙ ap (λ k. take k (H.sent (en (s.cards i).current)) ++ x ∷ []) (omega (arith, tests.2))

        log_is : s.logs i ++ x ∷ [] ≡ H.start (en (s.cards i).current) ++ take x.header.2 (H.sent (en (s.cards i).current))
        log_is = ap (λ ys. ys ++ x ∷ []) C.log_is ∙ append_assoc (H.start (en (s.cards i).current)) (take (s.cards i).accepted.2 (H.sent (en (s.cards i).current))) (x ∷ []) ∙ ap (λ ys. H.start (en (s.cards i).current) ++ ys) (sym adds)

    installs : (e : Epoch) (b : Header) (xs : List EntryFields) → s.lanes j i 0 ≡ diff_frames e b xs ++ laid F.others → DiffOk H z.cards j i e b xs → Kept z.cards H (entered i j s) d
    installs e b xs is D =
        enters (entered_by e (s.cards i)) (kept_up_to b (s.logs i) ++ xs) (moved H i (en e) 0 (H.start (en e)) (H.sent (en e))) (moved_grows H z.cards i (en e) 0 (H.start (en e)) (H.sent (en e)) I.sound move) (moved_sound H z.cards i (en e) 0 (H.start (en e)) (H.sent (en e)) I.sound move) (moved_still H z.cards i (en e) 0 (H.start (en e)) (H.sent (en e)) I.sound move)
        (ap (λ l. taken_by (s.cards i) (front l)) is) (ap (λ l. log_after l (s.logs i)) is ∙ ap (λ ys. kept_up_to b (s.logs i) ++ ys) (body_back e b xs (laid F.others))) refl
        (moved_card H z.cards i (view (s.cards i)) (s.logs i) (d i) I.sound meets C e e (e.0, e.1, 0) (e.0, e.1, 0) (H.start (en e)) (H.sent (en e)) move Follower (kept_up_to b (s.logs i) ++ xs) refl D.led refl refl refl
        (record { epoch = omega (arith, higher); count = λ q. absurd (omega (arith, q, higher)) }) (λ r. absurd (true≢false (sym r))) log_is (λ q. absurd (omega (arith, q))) (λ _ q. absurd (omega (arith, q, C.mark_upto.epoch, higher))))
      where
        other : epoch_same e (s.cards i).current ≡ false
        other = not-true _ (subst (λ l. in_turn (s.cards i) (front l) ≡ true) is turn)

        not_low : en (s.cards i).newest ≤ en e
        not_low = ltb-false (en e) (en (s.cards i).newest) (sym (below_num e.0 e.1 (s.cards i).newest.0 (s.cards i).newest.1 D.led C.new_led) ∙ subst (λ l. too_low (s.cards i) (front l) ≡ false) is low)

        differs : en e ≡ en (s.cards i).current → ⊥
        differs q =
            let r = same_num e.0 e.1 (s.cards i).current.0 (s.cards i).current.1 D.led C.cur_led q in
            epoch_other e (s.cards i).current other (λ t. (r.0 t, r.1 t))

        higher : en (s.cards i).current < en e
        higher = ⊎_elim (λ l. l) (λ l. absurd (differs (omega (arith, l, C.cur_new, not_low)))) (cases_lt (en (s.cards i).current) (en e))

        move : Move H z.cards i (en e) 0 (H.start (en e)) (H.sent (en e))
        move = move_within H z.cards i (en e) 0 (H.sent (en e)) I.sound D.won (omega (arith, higher)) (omega arith) (λ _ _. refl) (omega arith) (⊎_elim (λ t. absurd (omega (arith, higher, C.top_below (en e) t))) (λ t. omega arith) (cases_lt 0 (H.top i (en e)))) (I.sound.numbered _ D.won) (λ y c. omega (arith, C.cast_below y c, not_low)) (λ _. refl)

        upto : Up (hn b) b.2 (en (s.cards i).current) (s.cards i).accepted.2
        upto = subst (λ m. Up (hn b) b.2 m (s.cards i).accepted.2) (acc_num C) (accepted_most C (hn b) b.2 D.from.accepted)

        log_is : kept_up_to b (s.logs i) ++ xs ≡ H.start (en e) ++ []
        log_is = installed_is H z.cards meets I.sound (en e) (en (s.cards i).current) (s.cards i).accepted.2 b (s.logs i) xs D.from.led D.from.chosen D.won C.cur_won upto (omega (arith, upto.epoch, higher)) C.log_is D.is ∙ sym (append-nil (H.start (en e)))

    entered_keeps : Kept z.cards H (entered i j s) d
    entered_keeps = by F.parcel F.is F.ok
      where
        by : (q : Parcel) → s.lanes j i 0 ≡ frames_of q ++ laid F.others → ParcelOk H z.cards j i q → Kept z.cards H (entered i j s) d
        by (message x) is ok = appends x is ok
        by (diff e b xs) is ok = installs e b xs is ok

  pub take_keeps : Kept z.cards H (taken i j s) d
  take_keeps = by (too_low (s.cards i) (front (s.lanes j i 0))) refl
    where
      by : (t : Bool) → too_low (s.cards i) (front (s.lanes j i 0)) ≡ t → Kept z.cards H (cond t (passed_over i j s) (entered i j s)) d
      by true e = passed_keeps
      by false e = entered_keeps e
