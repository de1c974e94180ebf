-- The two laws of the packing, of the board.
use Rattle.std.specs.Prelude.{◌≡◌, ℕ, true, Some, None, ◌==◌, ◌≢◌, refl}
use Rattle.std.proofs.Common.{sym, ap, ◌∙◌, ⊎_elim}
use Rattle.std.proofs.lemmas.Bool.{cases_Bool, eqb-true, cond-true, cond-false}
use Rattle.board.specs.Ranges.{bookable}
use Rattle.board.specs.Bookings.{Payload, act_number, booking, asked, packed, unpacked}
use Rattle.board.specs.declared.bookings.Act.{Act}
use Rattle.board.specs.declared.bookings.Act.TheVariants.{Book, Release}
use Rattle.board.specs.Made.{entered, booking_is, booking_none}

back_by : (l : ℕ) (a : Act) (c : ℕ) (e : bookable l c ≡ true) → unpacked (l, act_number a, c) ≡ Some (entered l a c e)
back_by l Book c e = booking_is l Book c e
back_by l Release c e = booking_is l Release c e

pub back : (p : Payload) → unpacked (packed p) ≡ p
back None = refl
back (Some b) = back_by b.load b.act b.carrier b.inside

pub other : (w : ℕ × ℕ × ℕ) → ((p : Payload) → packed p ≢ w) → unpacked w ≡ None
other w none =
    ⊎_elim
    (λ e. ap (λ o. asked o w.0 w.2) (cond-true (w.1 == 1) (Some Book) _ e) ∙ unmade Book (eqb-true w.1 1 e))
    (λ e.
    ap (λ o. asked o w.0 w.2) (cond-false (w.1 == 1) (Some Book) _ e)
    ∙ ⊎_elim
    (λ f. ap (λ o. asked o w.0 w.2) (cond-true (w.1 == 2) (Some Release) None f) ∙ unmade Release (eqb-true w.1 2 f))
    (λ f. ap (λ o. asked o w.0 w.2) (cond-false (w.1 == 2) (Some Release) None f))
    (cases_Bool (w.1 == 2)))
    (cases_Bool (w.1 == 1))
  where
    unmade : (a : Act) → w.1 ≡ act_number a → booking (w.0, a, w.2) ≡ None
    unmade a e =
        ⊎_elim
        (λ h. absurd (none (Some (entered w.0 a w.2 h)) (ap (λ n. (w.0, n, w.2)) (sym e))))
        (λ h. booking_none w.0 a w.2 h)
        (cases_Bool (bookable w.0 w.2))
