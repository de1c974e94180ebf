-- Every frame has one slot, and exactly those slots are read back as frames.
use Rattle.std.proofs.Common.{◌≡◌, ℕ, ◌-◌, ◌<◌, Bool, true, false, cond, ◌&&◌, ◌||◌, eqb, leb, ltb, ◌⊎◌, List, [], ◌∷◌, length, replicate, Ok, Err, Result, Some, None, sym, refl, ap, ◌∙◌, subst, inl, inr, ⊎_elim, arith, lit<}
use mathlib.Core.Bool.{Bool-set}
use mathlib.Core.HLevel.{is_prop→PathP}
use Rattle.std.proofs.lemmas.Bool.{eqb-true, eq-eqb, and_parts, or_cases, false≢true, true≢false}
use Rattle.std.proofs.lemmas.Bool.Decides.{nat_tests}
use Rattle.refusals.specs.declared.Refusal.{Refusal}
use Rattle.refusals.specs.declared.Refusal.TheVariants.{OutOfRange, Malformed}
use Rattle.frames.specs.declared.entry.Entry.{Entry}
use Rattle.frames.specs.declared.frame.Frame.{Frame}
use Rattle.frames.specs.declared.kind.Kind.{Kind}
use Rattle.frames.specs.declared.kind.Kind.TheVariants.{Message, DiffHead, DiffEntry, AcceptRow, VoteRow, CommitRow}
use Rattle.frames.specs.Kinds.{kind_number, kind_from}
use Rattle.marks.specs.Kinds.{Header}
use Rattle.frames.specs.Fields.{FrameFields, header_of, is_entry, is_entry_header, is_frame, carries_entry, carries_diff, carries_header, carries_vote}
use Rattle.frames.specs.Views.{entry_fields, frame_fields}
use Rattle.frames.specs.Slot.{field_list, field_widths, Fits, standing, list_slot, slot_of}
use Rattle.frames.specs.Made.{kind_at, with_kind, frame_if, frame_from, entry_if, entry_from, from_list, told, same_bytes, read_back, slot, SlotsAndFrames}
use Rattle.frames.proofs.Slots.{back, length_slot}

-- the bounds of a frame's fields
record Small (f : FrameFields) : Type 0 where
  kind : f.kind < 256
  round : f.round < 4294967296
  leader : f.leader < 256
  count : f.count < 4294967296
  w1 : f.w1 < 18446744073709551616
  w2 : f.w2 < 18446744073709551616
  w3 : f.w3 < 18446744073709551616
  w4 : f.w4 < 18446744073709551616

small_entry : (f : FrameFields) → f.kind < 256 → carries_entry f ≡ true → Small f
small_entry f k h = record { kind = k; round = grind (arith, nat_tests); leader = grind (arith, nat_tests); count = grind (arith, nat_tests); w1 = grind (arith, nat_tests); w2 = grind (arith, nat_tests); w3 = grind (arith, nat_tests); w4 = grind (arith, nat_tests) }

small_diff : (f : FrameFields) → f.kind < 256 → carries_diff f ≡ true → Small f
small_diff f k h = record { kind = k; round = grind (arith, nat_tests); leader = grind (arith, nat_tests); count = grind (arith, nat_tests); w1 = grind (arith, nat_tests); w2 = grind (arith, nat_tests); w3 = grind (arith, nat_tests); w4 = grind (arith, nat_tests) }

small_header : (f : FrameFields) → f.kind < 256 → carries_header f ≡ true → Small f
small_header f k h = record { kind = k; round = grind (arith, nat_tests); leader = grind (arith, nat_tests); count = grind (arith, nat_tests); w1 = grind (arith, nat_tests); w2 = grind (arith, nat_tests); w3 = grind (arith, nat_tests); w4 = grind (arith, nat_tests) }

small_vote : (f : FrameFields) → f.kind < 256 → carries_vote f ≡ true → Small f
small_vote f k h = record { kind = k; round = grind (arith, nat_tests); leader = grind (arith, nat_tests); count = grind (arith, nat_tests); w1 = grind (arith, nat_tests); w2 = grind (arith, nat_tests); w3 = grind (arith, nat_tests); w4 = grind (arith, nat_tests) }

either : {k : ℕ} (a b : ℕ) → a < 256 → b < 256 → (eqb k a || eqb k b) ≡ true → k < 256
either {k} a b p q h = ⊎_elim (λ e. omega (arith, eqb-true k a e)) (λ e. omega (arith, eqb-true k b e)) (or_cases (eqb k a) (eqb k b) h)

small : (f : FrameFields) → is_frame f ≡ true → Small f
small f h = ⊎_elim entry (λ e. ⊎_elim diff (λ e. ⊎_elim header vote (or_cases _ _ e)) (or_cases _ _ e)) (or_cases _ _ h)
  where
    entry : ((eqb f.kind 1 || eqb f.kind 3) && carries_entry f) ≡ true → Small f
    entry e = let p = and_parts (eqb f.kind 1 || eqb f.kind 3) (carries_entry f) e in small_entry f (either 1 3 (lit< tt) (lit< tt) p.0) p.1

    diff : (eqb f.kind 2 && carries_diff f) ≡ true → Small f
    diff e = let p = and_parts (eqb f.kind 2) (carries_diff f) e in small_diff f (omega (arith, eqb-true f.kind 2 p.0)) p.1

    header : ((eqb f.kind 4 || eqb f.kind 6) && carries_header f) ≡ true → Small f
    header e = let p = and_parts (eqb f.kind 4 || eqb f.kind 6) (carries_header f) e in small_header f (either 4 6 (lit< tt) (lit< tt) p.0) p.1

    vote : (eqb f.kind 5 && carries_vote f) ≡ true → Small f
    vote e = let p = and_parts (eqb f.kind 5) (carries_vote f) e in small_vote f (omega (arith, eqb-true f.kind 5 p.0)) p.1

pub frame_fits : (f : FrameFields) → is_frame f ≡ true → Fits field_widths (field_list f)
frame_fits f h =
    let s = small f h in
    (s.kind, (s.round, (s.leader, (s.count, (s.w1, (s.w2, (s.w3, (s.w4, tt))))))))

pub same_bytes_lem : (xs ys : List ℕ) → same_bytes xs ys ≡ true → xs ≡ ys
same_bytes_lem [] [] h = refl
same_bytes_lem [] (y ∷ ys) h = absurd (false≢true h)
same_bytes_lem (x ∷ xs) [] h = absurd (false≢true h)
same_bytes_lem (x ∷ xs) (y ∷ ys) h =
    let p = and_parts (eqb x y) (same_bytes xs ys) h in
    λ i. eqb-true x y p.0 i ∷ same_bytes_lem xs ys p.1 i

pub bytes_same : (xs : List ℕ) → same_bytes xs xs ≡ true
bytes_same [] = refl
bytes_same (x ∷ xs) = rw (eq-eqb x x refl) (bytes_same xs)

pub told_slot : (f : FrameFields) → Fits field_widths (field_list f) → told (slot_of f) ≡ f
told_slot f fit = ap from_list (back field_widths (field_list f) (replicate (47 - length (standing field_widths (field_list f))) 0) fit).values

kind_back : (k : Kind) → kind_at (kind_number k) ≡ k
kind_back Message = refl
kind_back DiffHead = refl
kind_back DiffEntry = refl
kind_back AcceptRow = refl
kind_back VoteRow = refl
kind_back CommitRow = refl

-- the kind of a number has that number
pub kind_named : (n : ℕ) (k : Kind) → ◌≡◌ {A = Result Kind Refusal} (Ok k) (kind_from n) → kind_number k ≡ n
kind_named n k e = grind (arith, nat_tests)

pub same_frame : (f g : Frame) → frame_fields f ≡ frame_fields g → f ≡ g
same_frame f g e = λ i. record {
  kind = kinds i;
  round = (e i).round;
  leader = (e i).leader;
  count = (e i).count;
  w1 = (e i).w1;
  w2 = (e i).w2;
  w3 = (e i).w3;
  w4 = (e i).w4;
  well = is_prop→PathP (λ j. is_frame (at j) ≡ true) (λ j. Bool-set (is_frame (at j)) true) f.well g.well i;
}
  where
    kinds : f.kind ≡ g.kind
    kinds = sym (kind_back f.kind) ∙ ap (λ x. kind_at x.kind) e ∙ kind_back g.kind

    at : 𝕀 → FrameFields
    at j = record { kind = kind_number (kinds j); round = (e j).round; leader = (e j).leader; count = (e j).count; w1 = (e j).w1; w2 = (e j).w2; w3 = (e j).w3; w4 = (e j).w4 }

known : (k : ℕ) → kind_number (kind_at k) ≡ cond (eqb k 1) 1 (cond (eqb k 2) 2 (cond (eqb k 3) 3 (cond (eqb k 4) 4 (cond (eqb k 5) 5 6))))
known k = by (eqb k 1) (eqb k 2) (eqb k 3) (eqb k 4) (eqb k 5)
  where
    by : (a b c d e : Bool) → kind_number (cond a Message (cond b DiffHead (cond c DiffEntry (cond d AcceptRow (cond e VoteRow CommitRow))))) ≡ cond a 1 (cond b 2 (cond c 3 (cond d 4 (cond e 5 6))))
    by true b c d e = refl
    by false true c d e = refl
    by false false true d e = refl
    by false false false true e = refl
    by false false false false true = refl
    by false false false false false = refl

-- a frame's kind is one of the six
spelled : (k : ℕ) (a b c d : Bool) → (((eqb k 1 || eqb k 3) && a) || ((eqb k 2 && b) || (((eqb k 4 || eqb k 6) && c) || (eqb k 5 && d)))) ≡ true → kind_number (kind_at k) ≡ k
spelled k a b c d h = known k ∙ grind (arith, nat_tests)

pub same_fields : (f : FrameFields) → is_frame f ≡ true → with_kind f ≡ f
same_fields f h = λ i. record { kind = spelled f.kind (carries_entry f) (carries_diff f) (carries_header f) (carries_vote f) h i; round = f.round; leader = f.leader; count = f.count; w1 = f.w1; w2 = f.w2; w3 = f.w3; w4 = f.w4 }

ok_same : (x y : Frame) → ◌≡◌ {A = Result Frame Refusal} (Ok x) (Ok y) → x ≡ y
ok_same x y p = cc

err_ok : {e : Refusal} (x : Frame) → ◌≡◌ {A = Result Frame Refusal} (Err e) (Ok x) → ⊥
err_ok x p = let z : ◌≡◌ {A = ℕ} 0 1 = cc in omega arith

-- what `frame_if` makes has the numbers that it was given
if_made : (f : FrameFields) (b : Bool) (e : is_frame (with_kind f) ≡ b) → b ≡ true → (g : Frame) → frame_fields g ≡ with_kind f → frame_if f b e ≡ Ok g
if_made f true e t g same = ap Ok (same_frame _ g (sym same))
if_made f false e t g same = absurd (false≢true t)

if_fields : (f : FrameFields) (b : Bool) (e : is_frame (with_kind f) ≡ b) (g : Frame) → frame_if f b e ≡ Ok g → frame_fields g ≡ with_kind f
if_fields f true e g h = ap frame_fields (sym (ok_same _ g h))
if_fields f false e g h = absurd (err_ok g h)

pub made : (g : Frame) → frame_from (frame_fields g) ≡ Ok g
made g = rw g.well (if_made (frame_fields g) (is_frame (with_kind (frame_fields g))) refl (ap is_frame (same_fields (frame_fields g) g.well) ∙ g.well) g (sym (same_fields (frame_fields g) g.well)))

-- numbers that are no frame's are refused, and others make the frame that has them
pub refused : (f : FrameFields) → is_frame f ≡ false → frame_from f ≡ Err Malformed
refused f h = rw h refl

pub made_from : (f : FrameFields) (g : Frame) → frame_fields g ≡ f → frame_from f ≡ Ok g
made_from f g e = ap frame_from (sym e) ∙ made g

pub from_made : (f : FrameFields) (g : Frame) → frame_from f ≡ Ok g → frame_fields g ≡ f
from_made f g h = go (is_frame f) refl
  where
    go : (b : Bool) → is_frame f ≡ b → frame_fields g ≡ f
    go true e = if_fields f (is_frame (with_kind f)) refl g (rw e at h) ∙ same_fields f e
    go false e = absurd (err_ok g (rw e at h))

abbrev narrow : FrameFields → Bool
narrow f = ltb f.round 4294967296 && (ltb f.leader 256 && ltb f.count 4294967296)

none_false : {A : Type 0} (b : Bool) (x : A) → None ≡ cond b (Some x) None → b ≡ false
none_false true x e = absurd (let z : ◌≡◌ {A = ℕ} 0 1 = cc in omega arith)
none_false false x e = refl

-- numbers that no frame's fields hold
pub wide_refused : (f : FrameFields) → None ≡ cond (narrow f) (Some (header_of f)) None → Err Malformed ≡ frame_from f
wide_refused f e = sym (refused f (go (is_frame f) refl))
  where
    fits : (r l c : ℕ) → r < 4294967296 → l < 256 → c < 4294967296 → (ltb r 4294967296 && (ltb l 256 && ltb c 4294967296)) ≡ true
    fits r l c p q h = grind (arith, nat_tests)

    go : (b : Bool) → is_frame f ≡ b → is_frame f ≡ false
    go true h = let s = small f h in absurd (true≢false (sym (fits f.round f.leader f.count s.round s.leader s.count) ∙ none_false (narrow f) (header_of f) e))
    go false h = h

-- and those that they hold
pub narrow_header : (b : Bool) (x y : Header) → Some x ≡ cond b (Some y) None → x ≡ y
narrow_header true x y e = cc
narrow_header false x y e = absurd (let z : ◌≡◌ {A = ℕ} 0 1 = cc in omega arith)

pub written_reads : (f : Frame) → read_back (slot f) ≡ Ok f
written_reads f =
    let back : told (slot f) ≡ frame_fields f = told_slot (frame_fields f) (frame_fits (frame_fields f) f.well) in
    let same : same_bytes (slot_of (told (slot f))) (slot f) ≡ true = ap (λ g. same_bytes (slot_of g) (slot f)) back ∙ bytes_same (slot f) in
    ap (λ b. cond b (frame_from (told (slot f))) (Err Malformed)) same ∙ ap frame_from back ∙ made f

pub read_written : (bs : List ℕ) (f : Frame) → read_back bs ≡ Ok f → slot f ≡ bs
read_written bs f h = go (same_bytes (slot_of (told bs)) bs) refl
  where
    go : (b : Bool) → same_bytes (slot_of (told bs)) bs ≡ b → slot f ≡ bs
    go true e = ap slot_of (from_made (told bs) f (ap (λ b. cond b (frame_from (told bs)) (Err Malformed)) (sym e) ∙ h)) ∙ same_bytes_lem (slot_of (told bs)) bs e
    go false e = absurd (err_ok f (ap (λ b. cond b (frame_from (told bs)) (Err Malformed)) (sym e) ∙ h))

pub others_refused : (bs : List ℕ) → ((f : Frame) → slot f ≡ bs → ⊥) → read_back bs ≡ Err Malformed
others_refused bs none = go (read_back bs) refl
  where
    refusals : (x : Bool) (r : Result Frame Refusal) (e : Refusal) → cond x r (Err Malformed) ≡ Err e → (r ≡ Err e) ⊎ (e ≡ Malformed)
    refusals true r e h = inl h
    refusals false r e h = inr (cc)

    if_malformed : (f : FrameFields) (b : Bool) (p : is_frame (with_kind f) ≡ b) (e : Refusal) → frame_if f b p ≡ Err e → e ≡ Malformed
    if_malformed f true p e h = absurd (ok_err h)
      where
        ok_err : {g : Frame} → ◌≡◌ {A = Result Frame Refusal} (Ok g) (Err e) → ⊥
        ok_err q = let z : ◌≡◌ {A = ℕ} 0 1 = cc in omega arith
    if_malformed f false p e h = cc

    malformed : (f : FrameFields) (e : Refusal) → frame_from f ≡ Err e → e ≡ Malformed
    malformed f e h = ⊎_elim (if_malformed f (is_frame (with_kind f)) refl e) (λ q. q) (refusals (is_frame f) (frame_if f (is_frame (with_kind f)) refl) e h)

    go : (r : Result Frame Refusal) → read_back bs ≡ r → read_back bs ≡ Err Malformed
    go (Ok f) h = absurd (none f (read_written bs f h))
    go (Err e) h = h ∙ ap Err (⊎_elim (malformed (told bs) e) (λ q. q) (refusals (same_bytes (slot_of (told bs)) bs) (frame_from (told bs)) e h))

pub slots_and_frames : SlotsAndFrames
slots_and_frames = record {
  long = λ f. length_slot (field_list (frame_fields f));
  written_reads = written_reads;
  read_written = read_written;
  others_refused = others_refused;
}

-- two lists of fields with one slot are equal
pub one_slot : (f g : Frame) → slot f ≡ slot g → f ≡ g
one_slot f g e = ok_same f g (sym (written_reads f) ∙ ap read_back e ∙ written_reads g)

same_entry : (e f : Entry) → entry_fields e ≡ entry_fields f → e ≡ f
same_entry e f p = λ i. record {
  header = (p i).header;
  queue = (p i).queue;
  payload = (p i).payload;
  well = is_prop→PathP (λ j. is_entry (p j) ≡ true) (λ j. Bool-set (is_entry (p j)) true) e.well f.well i;
}

entry_if_lem : (e : Entry) (b : Bool) (p : is_entry (entry_fields e) ≡ b) → b ≡ true → entry_if (entry_fields e) b p ≡ Ok e
entry_if_lem e true p t = ap Ok (same_entry _ e refl)
entry_if_lem e false p t = absurd (false≢true t)

pub entry_made : (e : Entry) → entry_from (entry_fields e) ≡ Ok e
entry_made e =
    let within : leb e.queue 15 ≡ true = (and_parts (leb e.queue 15) _ (and_parts (is_entry_header e.header) _ e.well).1).0 in
    ap (λ b. cond b (entry_if (entry_fields e) (is_entry (entry_fields e)) refl) (Err OutOfRange)) within ∙ entry_if_lem e (is_entry (entry_fields e)) refl e.well

eight : (vs : List ℕ) → Fits field_widths vs → field_list (from_list vs) ≡ vs
eight [] fit = absurd fit
eight (a ∷ []) fit = absurd fit.1
eight (a ∷ b ∷ []) fit = absurd fit.1.1
eight (a ∷ b ∷ c ∷ []) fit = absurd fit.1.1.1
eight (a ∷ b ∷ c ∷ d ∷ []) fit = absurd fit.1.1.1.1
eight (a ∷ b ∷ c ∷ d ∷ e ∷ []) fit = absurd fit.1.1.1.1.1
eight (a ∷ b ∷ c ∷ d ∷ e ∷ f ∷ []) fit = absurd fit.1.1.1.1.1.1
eight (a ∷ b ∷ c ∷ d ∷ e ∷ f ∷ g ∷ []) fit = absurd fit.1.1.1.1.1.1.1
eight (a ∷ b ∷ c ∷ d ∷ e ∷ f ∷ g ∷ h ∷ []) fit = refl
eight (a ∷ b ∷ c ∷ d ∷ e ∷ f ∷ g ∷ h ∷ i ∷ vs) fit = absurd fit.1.1.1.1.1.1.1.1

-- bytes that are the slot of no fields are refused
pub read_refused : (bs : List ℕ) → ((vs : List ℕ) → Fits field_widths vs → list_slot vs ≡ bs → ⊥) → read_back bs ≡ Err Malformed
read_refused bs none = others_refused bs (λ f e. none (field_list (frame_fields f)) (frame_fits (frame_fields f) f.well) e)

-- and others are read as the frame of their fields, if there is one
pub read_fields : (bs vs : List ℕ) → list_slot vs ≡ bs → Fits field_widths vs → read_back bs ≡ frame_from (from_list vs)
read_fields bs vs e fit =
    let same : slot_of (from_list vs) ≡ bs = ap list_slot (eight vs fit) ∙ e in
    let back : told bs ≡ from_list vs = ap told (sym same) ∙ told_slot (from_list vs) (subst (Fits field_widths) (sym (eight vs fit)) fit) in
    let true_bytes : same_bytes (slot_of (told bs)) bs ≡ true = ap (λ f. same_bytes (slot_of f) bs) back ∙ ap (λ l. same_bytes l bs) same ∙ bytes_same bs in
    ap (λ b. cond b (frame_from (told bs)) (Err Malformed)) true_bytes ∙ ap frame_from back
