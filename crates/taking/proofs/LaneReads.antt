-- What waits at a position.
use Rattle.std.proofs.Common.{◌≡◌, ℕ, ◌+◌, ◌<◌, List, [], ◌∷◌, length, get_or, drop, Some, None, Option, sym, ap, ◌∙◌, ⊎_elim, arith}
use Rattle.std.specs.List.{slice_get}
use Rattle.std.proofs.lemmas.Option.{slice_get-get_or, slice_get_within, get_or_from_slice_get}
use Rattle.std.proofs.lemmas.List.{drop_more, drop_all}
use Rattle.std.proofs.lemmas.Bool.{cases_lt}
use Rattle.backplane.specs.Blank.{blank}
use Rattle.frames.specs.declared.frame.Frame.{Frame}

-- what a look at a position says of the frames from there on
module _ (frames : List Frame) (p : ℕ) where
  pub frame_first : (x : Frame) → Some x ≡ slice_get frames p → drop p frames ≡ x ∷ drop (p + 1) frames
  frame_first x e = drop_more frames p x (slice_get_within frames p x (sym e)) ∙ ap (λ y. y ∷ drop (p + 1) frames) (get_or_from_slice_get frames p x x (sym e))

  pub frame_none : None ≡ slice_get frames p → drop p frames ≡ []
  frame_none e = ⊎_elim within (drop_all p frames) (cases_lt p (length frames))
    where
      within : p < length frames → drop p frames ≡ []
      within h =
          let same : ◌≡◌ {A = Option Frame} None (Some (get_or frames p blank)) = e ∙ slice_get-get_or frames p blank h in
          let z : ◌≡◌ {A = ℕ} 0 1 = cc in
          absurd (omega arith)
