-- A head's frame says how many entries follow, and there are not too many.
use Rattle.std.proofs.Common.{◌≡◌, ◌≤◌, Bool, true, false, ◌&&◌, ◌||◌, eqb, leb, sym, refl, ap, ◌∙◌}
use Rattle.std.proofs.lemmas.Bool.{and_parts, leb-true}
use Rattle.marks.specs.Kinds.{is_led_epoch, is_header}
use Rattle.frames.specs.declared.frame.Frame.{Frame}
use Rattle.frames.specs.declared.kind.Kind.{Kind}
use Rattle.frames.specs.declared.kind.Kind.TheVariants.{DiffHead}
use Rattle.frames.specs.Fields.{FrameFields, is_frame, carries_diff, epoch_of, words_header}
use Rattle.frames.specs.Kinds.{kind_number}
use Rattle.frames.specs.Views.{frame_fields}

abbrev of_kind : Frame → Kind → FrameFields
of_kind f k = record { kind = kind_number k; round = f.round; leader = f.leader; count = f.count; w1 = f.w1; w2 = f.w2; w3 = f.w3; w4 = f.w4 }

well_as : (f : Frame) (k : Kind) → f.kind ≡ k → is_frame (of_kind f k) ≡ true
well_as f k e = ap (λ k. is_frame (of_kind f k)) (sym e) ∙ f.well

or_none : (b : Bool) → (b || false) ≡ true → b ≡ true
or_none true e = refl
or_none false e = e

pub head_carries : (f : Frame) → f.kind ≡ DiffHead → carries_diff (frame_fields f) ≡ true
head_carries f e = or_none (carries_diff (frame_fields f)) (well_as f DiffHead e)

abbrev diff_rest : FrameFields → Bool
diff_rest f = is_header (words_header f) && leb f.w4 1024

diff_rest_lem : (f : FrameFields) → carries_diff f ≡ true → diff_rest f ≡ true
diff_rest_lem f e = (and_parts (eqb f.count 0) (diff_rest f) (and_parts (is_led_epoch (epoch_of f)) _ e).1).1

pub diff_few : (f : FrameFields) → carries_diff f ≡ true → f.w4 ≤ 1024
diff_few f e = leb-true f.w4 1024 (and_parts (is_header (words_header f)) (leb f.w4 1024) (diff_rest_lem f e)).1
