-- What an entry at next says of next's count.
use Rattle.std.proofs.Common.{◌≡◌, ℕ, ◌<◌, Bool, true, false, cond, eqb, leb, List, [], ◌∷◌, Some, None, Option, refl, ap, ◌∙◌, arith}
use Rattle.std.proofs.lemmas.Bool.{eqb-true, and_parts, leb-true}
use Rattle.std.specs.Option.{option_or}
use Rattle.marks.specs.Kinds.{Header, is_led_epoch}
use Rattle.frames.specs.Fields.{EntryFields, is_entry_header}
use Rattle.frames.specs.Views.{entry_fields}
use Rattle.frames.specs.declared.entry.Entry.{Entry}
use Rattle.protocol.specs.Booking.{entry_at, is_header}

header_same : (a b : Header) → is_header a b ≡ true → a ≡ b
header_same a b e =
    let p = and_parts (eqb a.0 b.0) _ e in
    let q = and_parts (eqb a.1 b.1) _ p.1 in
    λ k. (eqb-true a.0 b.0 p.0 k, eqb-true a.1 b.1 q.0 k, eqb-true a.2 b.2 q.1 k)

-- an entry that was found has the header that was looked for
found_header : (h : Header) (log : List EntryFields) (e : EntryFields) → Some e ≡ entry_at h log → e.header ≡ h
found_header h [] e found = let z : ◌≡◌ {A = ℕ} 0 1 = cc in absurd (omega arith)
found_header h (x ∷ log) e found = go (entry_at h log) (is_header x.header h) refl found (found_header h log e)
  where
    go : (o : Option EntryFields) (b : Bool) → is_header x.header h ≡ b → Some e ≡ option_or o (cond b (Some x) None) → (Some e ≡ o → e.header ≡ h) → e.header ≡ h
    go (Some y) b is f rest = rest f
    go None true is f rest = let same : e ≡ x = cc in ap (λ (y : EntryFields). y.header) same ∙ header_same x.header h is
    go None false is f rest = let z : ◌≡◌ {A = ℕ} 0 1 = cc in absurd (omega arith)

-- next's count has a number after it where an entry has that header
pub count_below : (e : Entry) (h : Header) (log : List EntryFields) → Some (entry_fields e) ≡ entry_at h log → h.2 < 4294967295
count_below e h log found =
    let well = (and_parts (is_entry_header e.header) _ e.well).0 in
    let top = (and_parts (leb 1 e.header.2) (leb e.header.2 4294967294) (and_parts (is_led_epoch (e.header.0, e.header.1)) _ well).1).1 in
    let same : e.header.2 ≡ h.2 = ap (λ (x : Header). x.2) (found_header h log (entry_fields e) found) in
    omega (arith, leb-true e.header.2 4294967294 top, same)
