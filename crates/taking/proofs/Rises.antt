-- A diff's entries, looked at one by one.
use Rattle.std.proofs.Common.{◌≡◌, ℕ, zero, suc, ◌+◌, ◌-◌, ◌<◌, Bool, true, false, ◌&&◌, eqb, List, [], ◌∷◌, map, length, get_or, take, drop, sym, refl, ap, ◌∙◌, arith}
use lib.Dec.{eqb-suc-suc}
use Rattle.std.proofs.lemmas.Bool.{ne_eqb, eqb-true, and_parts}
use Rattle.std.proofs.lemmas.List.{drop-map, get_or-take}
use Rattle.marks.specs.Kinds.{Header}
use Rattle.marks.specs.Order.{header_below}
use Rattle.frames.specs.declared.frame.Frame.{Frame}
use Rattle.frames.specs.Fields.{FrameFields, header_of}
use Rattle.frames.specs.Views.{frame_fields}
use Rattle.protocol.specs.Taking.{rising_between}
use Rattle.taking.specs.Wholes.{entry_between, whole_behind}

turned : (a k l h r : Bool) → (a && (k && (l && (h && r)))) ≡ ((k && (l && h)) && (a && r))
turned true true true true r = refl
turned true true true false r = refl
turned true true false h r = refl
turned true false l h r = refl
turned false true true true r = refl
turned false true true false r = refl
turned false true false h r = refl
turned false false l h r = refl

module _ (low high : Header) where
  whole_one : (m : ℕ) (f : FrameFields) (fs : List FrameFields) → whole_behind low high (suc m) (f ∷ fs) ≡ (entry_between low high f && whole_behind (header_of f) high m fs)
  whole_one m f fs =
      ap (λ b. b && rising_between low high (f ∷ take m fs)) (eqb-suc-suc (length (take m fs)) m)
      ∙ turned (eqb (length (take m fs)) m) (eqb f.kind 3) (header_below low (header_of f)) (header_below (header_of f) high) (rising_between (header_of f) high (take m fs))

  -- the frame in place i of the entries, of which n are said to be there
  module _ (n i : ℕ) (within : i < n) (frames : List Frame) where
    whole_first : (x : Frame) → drop (i + 1) frames ≡ x ∷ drop (i + 1 + 1) frames → whole_behind low high (n - i) (drop (i + 1) (map frame_fields frames)) ≡ (entry_between low high (frame_fields x) && whole_behind (header_of (frame_fields x)) high (n - (i + 1)) (drop (i + 1 + 1) (map frame_fields frames)))
    whole_first x there =
        let more : n - i ≡ suc (n - (i + 1)) = omega arith in
        (λ k. whole_behind low high (more k) ((drop-map frame_fields (i + 1) frames ∙ ap (map frame_fields) there) k))
        ∙ whole_one (n - (i + 1)) (frame_fields x) (map frame_fields (drop (i + 1 + 1) frames))
        ∙ ap (λ fs. entry_between low high (frame_fields x) && whole_behind (header_of (frame_fields x)) high (n - (i + 1)) fs) (sym (drop-map frame_fields (i + 1 + 1) frames))

    pub whole_more : (x : Frame) → drop (i + 1) frames ≡ x ∷ drop (i + 1 + 1) frames → true ≡ entry_between low high (frame_fields x) → whole_behind (header_of (frame_fields x)) high (n - (i + 1)) (drop (i + 1 + 1) (map frame_fields frames)) ≡ whole_behind low high (n - i) (drop (i + 1) (map frame_fields frames))
    whole_more x there test = sym (whole_first x there ∙ ap (λ b. b && whole_behind (header_of (frame_fields x)) high (n - (i + 1)) (drop (i + 1 + 1) (map frame_fields frames))) (sym test))

    pub whole_not : (x : Frame) → drop (i + 1) frames ≡ x ∷ drop (i + 1 + 1) frames → false ≡ entry_between low high (frame_fields x) → false ≡ whole_behind low high (n - i) (drop (i + 1) (map frame_fields frames))
    whole_not x there test = sym (whole_first x there ∙ ap (λ b. b && whole_behind (header_of (frame_fields x)) high (n - (i + 1)) (drop (i + 1 + 1) (map frame_fields frames))) (sym test))

    pub whole_short : drop (i + 1) frames ≡ [] → false ≡ whole_behind low high (n - i) (drop (i + 1) (map frame_fields frames))
    whole_short there =
        let more : n - i ≡ suc (n - (i + 1)) = omega arith in
        sym (
        (λ k. whole_behind low high (more k) ((drop-map frame_fields (i + 1) frames ∙ ap (map frame_fields) there) k))
        ∙ ap (λ b. b && true) (ne_eqb 0 (suc (n - (i + 1))) (λ e. omega arith))
        )

-- a whole diff's frames are there, and each is an entry
rising_kind : (low high : Header) (xs : List FrameFields) (i : ℕ) (d : FrameFields) → rising_between low high xs ≡ true → i < length xs → (get_or xs i d).kind ≡ 3
rising_kind low high [] i d e h = absurd (omega arith)
rising_kind low high (x ∷ xs) zero d e h = eqb-true x.kind 3 (and_parts (eqb x.kind 3) _ e).0
rising_kind low high (x ∷ xs) (suc i) d e h =
    let rest = (and_parts (header_below (header_of x) high) (rising_between (header_of x) high xs) (and_parts (header_below low (header_of x)) _ (and_parts (eqb x.kind 3) _ e).1).1).1 in
    rising_kind (header_of x) high xs i d rest (omega arith)

module _ (low high : Header) (n : ℕ) (frames : List FrameFields) (whole : whole_behind low high n frames ≡ true) where
  counted : length (take n frames) ≡ n
  counted = eqb-true (length (take n frames)) n (and_parts (eqb (length (take n frames)) n) _ whole).0

  pub whole_kind : (i : ℕ) (d : FrameFields) → i < n → (get_or frames i d).kind ≡ 3
  whole_kind i d h =
      ap (λ f. f.kind) (sym (get_or-take n frames i d h))
      ∙ rising_kind low high (take n frames) i d (and_parts (eqb (length (take n frames)) n) _ whole).1 (omega (arith, counted))
