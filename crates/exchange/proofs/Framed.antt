-- A row becomes a frame exactly where its numbers are a frame's.
use Rattle.std.proofs.Common.{◌≡◌, ℕ, Bool, true, false, Ok, Err, Result, sym, refl, ap, ◌∙◌, arith}
use Rattle.refusals.specs.declared.Refusal.{Refusal}
use Rattle.frames.specs.declared.frame.Frame.{Frame}
use Rattle.frames.specs.Fields.{FrameFields, is_frame}
use Rattle.frames.specs.Made.{kind_at, frame_from}
use Rattle.frames.specs.Views.{frame_fields}
use Rattle.frames.proofs.Reading.{same_fields, made_from, from_made}
use Rattle.cards.specs.Parts.{framed}
use Rattle.cards.specs.declared.fault.CardFault.{CardFault}
use Rattle.cards.specs.declared.fault.CardFault.TheVariants as fault

-- the numbers of a frame make that frame
framed_ok : (f : FrameFields) → is_frame f ≡ true → (g : Frame) × (frame_from f ≡ Ok g)
framed_ok f h = (g, made_from f g (same_fields f h))
  where
    g : Frame
    g = record { kind = kind_at f.kind; round = f.round; leader = f.leader; count = f.count; w1 = f.w1; w2 = f.w2; w3 = f.w3; w4 = f.w4; well = ap is_frame (same_fields f h) ∙ h }

-- a row that was made has its numbers
made_by : (r : Result Frame Refusal) (g : Frame) → Ok g ≡ framed r → r ≡ Ok g
made_by (Ok x) g e = let same : x ≡ g = cc in ap Ok same
made_by (Err why) g e = let z : ◌≡◌ {A = ℕ} 0 1 = cc in absurd (omega arith)

pub row_made : (f : FrameFields) (g : Frame) → Ok g ≡ framed (frame_from f) → (is_frame f ≡ true) × (frame_fields g ≡ f)
row_made f g e =
    let same = from_made f g (made_by (frame_from f) g e) in
    (sym (ap is_frame same) ∙ g.well, same)

-- a row that was refused has no frame's numbers
refused_by : (r : Result Frame Refusal) (e : CardFault) → Err e ≡ framed r → e ≡ fault.Malformed
refused_by (Ok x) e h = let z : ◌≡◌ {A = ℕ} 0 1 = cc in absurd (omega arith)
refused_by (Err why) e h = cc

pub row_refused : (f : FrameFields) (e : CardFault) → Err e ≡ framed (frame_from f) → (is_frame f ≡ false) × (e ≡ fault.Malformed)
row_refused f e h = (go (is_frame f) refl, refused_by (frame_from f) e h)
  where
    apart : (g : Frame) → ◌≡◌ {A = Result Frame CardFault} (Err e) (Ok g) → ⊥
    apart g q = let z : ◌≡◌ {A = ℕ} 0 1 = cc in omega arith

    go : (b : Bool) → is_frame f ≡ b → b ≡ false
    go true is = let g = framed_ok f is in absurd (apart g.0 (h ∙ ap framed g.1))
    go false is = refl
