-- The payload that a line's numbers make, and the ledger after a posting made several times.
use Rattle.std.specs.Prelude.{ℕ, zero, suc, List, ℤ, Some, None, Option}
use Rattle.board.specs.declared.bookings.Act.{Act}
use Rattle.board.specs.Bookings as bookings
use Rattle.ledger.specs.declared.postings.Posting.{Posting}
use Rattle.ledger.specs.Postings as postings
use Rattle.ledger.specs.Balances as balances
use Rattle.machine_desk.specs.Widths.{unsigned_of, signed_of, repeats_of}

abbrev pub chained : {X Y : Type 0} → Option X → (X → Option Y) → Option Y
chained None f = None
chained (Some x) f = f x

abbrev pub asked_of : Act → ℤ → ℤ → Option bookings.Payload
asked_of act load carrier = chained (unsigned_of load) (λ l. chained (unsigned_of carrier) (λ c. bookings.drafted (l, act, c)))

abbrev pub words_of : (ℤ × ℤ × ℤ) → Option (ℕ × ℕ × ℕ)
words_of (a, b, c) = chained (unsigned_of a) (λ x. chained (unsigned_of b) (λ y. chained (unsigned_of c) (λ z. Some (x, y, z))))

abbrev pub posting_of : ℤ → ℤ → Option Posting
posting_of carrier cents = chained (unsigned_of carrier) (λ k. chained (signed_of cents) (λ z. postings.drafted (k, z)))

abbrev pub posted_of : ℤ → ℤ → ℤ → Option (Posting × ℕ)
posted_of carrier cents times = chained (posting_of carrier cents) (λ p. chained (repeats_of times) (λ n. Some (p, n)))

abbrev pub repeated : ℕ → Posting → List ℤ → List ℤ
repeated zero p s = s
repeated (suc n) p s = repeated n p (balances.posted 0 p s)

abbrev pub posted_times : Option (Posting × ℕ) → List ℤ → List ℤ
posted_times None s = s
posted_times (Some x) s = repeated x.1 x.0 s
