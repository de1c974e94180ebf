-- A diff's entries, appended one by one.
use Rattle.std.proofs.Common.{◌≡◌, ℕ, ◌+◌, ◌<◌, true, ◌||◌, eqb, is_some, List, [], ◌∷◌, ◌++◌, map, length, get_or, take, drop, Some, None, Option, sym, refl, ap, ◌∙◌, append_assoc, arith}
use Rattle.std.proofs.lemmas.List.{map_more, get_or-drop, get_or-map, length-drop, length-map}
use Rattle.std.specs.List.{slice_get}
use Rattle.std.specs.Option.{option_map}
use Rattle.std.proofs.lemmas.Option.{get_or_from_slice_get, slice_get_within}
use Rattle.std.proofs.lemmas.Bool.{cond-true}
use Rattle.marks.specs.Kinds.{Header}
use Rattle.frames.specs.declared.entry.Entry.{Entry}
use Rattle.frames.specs.declared.frame.Frame.{Frame}
use Rattle.frames.specs.Fields.{EntryFields, FrameFields}
use Rattle.frames.specs.Kinds.{kind_number}
use Rattle.frames.specs.Views.{frame_fields, entry_fields}
use Rattle.frames.specs.Carried.{entry_of, carried_entry}
use Rattle.taking.specs.Wholes.{whole_behind}
use Rattle.taking.proofs.Rises.{whole_kind}

-- a frame of an entry's kind carries that entry
module _ (f : FrameFields) (o : Option Entry) (carried : option_map entry_fields o ≡ carried_entry f) (kind : (eqb f.kind 1 || eqb f.kind 3) ≡ true) where
  is : option_map entry_fields o ≡ Some (entry_of f)
  is = carried ∙ cond-true _ _ _ kind

  pub entry_there : is_some o ≡ true
  entry_there = go o is
    where
      go : (o : Option Entry) → option_map entry_fields o ≡ Some (entry_of f) → is_some o ≡ true
      go (Some e) h = refl
      go None h = let z : ◌≡◌ {A = ℕ} 0 1 = cc in absurd (omega arith)

  pub entry_is : (e : Entry) → o ≡ Some e → entry_fields e ≡ entry_of f
  entry_is e found = let same : Some (entry_fields e) ≡ Some (entry_of f) = sym (ap (option_map entry_fields) found) ∙ is in cc

module _ (low high : Header) (n i : ℕ) (frames : List Frame) (whole : whole_behind low high n (drop 1 (map frame_fields frames)) ≡ true) (within : i < n) (x : Frame) (read : slice_get frames (i + 1) ≡ Some x) where
  there : i + 1 < length frames
  there = slice_get_within frames (i + 1) x read

  behind : get_or (drop 1 (map frame_fields frames)) i (frame_fields x) ≡ frame_fields x
  behind =
      let next : 1 + i ≡ i + 1 = omega arith in
      get_or-drop 1 (map frame_fields frames) i (frame_fields x)
      ∙ ap (λ k. get_or (map frame_fields frames) k (frame_fields x)) next
      ∙ get_or-map frame_fields frames (i + 1) x (frame_fields x) there
      ∙ ap frame_fields (get_or_from_slice_get frames (i + 1) x x read)

  pub copy_kind : (eqb (kind_number x.kind) 1 || eqb (kind_number x.kind) 3) ≡ true
  copy_kind =
      let three : kind_number x.kind ≡ 3 = sym (ap (λ f. f.kind) behind) ∙ whole_kind low high n (drop 1 (map frame_fields frames)) whole i (frame_fields x) within in
      ap (λ k. eqb k 1 || eqb k 3) three

  pub copy_more : (start log log' : List EntryFields) (e : Entry) → entry_fields e ≡ entry_of (frame_fields x) → log ≡ start ++ map entry_of (take i (drop 1 (map frame_fields frames))) → log' ≡ log ++ entry_fields e ∷ [] → log' ≡ start ++ map entry_of (take (i + 1) (drop 1 (map frame_fields frames)))
  copy_more start log log' e same so_far appended =
      let lane = drop 1 (map frame_fields frames) in
      let in_lane : i < length lane = omega (arith, there, length-drop 1 (map frame_fields frames), length-map frames frame_fields) in
      appended
      ∙ (λ k. so_far k ++ same k ∷ [])
      ∙ append_assoc start (map entry_of (take i lane)) (entry_of (frame_fields x) ∷ [])
      ∙ ap (λ l. start ++ l) (ap (λ f. map entry_of (take i lane) ++ entry_of f ∷ []) (sym behind) ∙ sym (map_more entry_of lane i (frame_fields x) in_lane))
