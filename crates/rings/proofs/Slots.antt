-- A slot that is written is read back, and every other slot is read as before.
use Rattle.std.proofs.Common.{◌≡◌, ℕ, ◌+◌, ◌-◌, ◌<◌, ◌≤◌, cond, leb, List, ◌++◌, length, take, drop, Ok, Err, sym, ap, ◌∙◌, ap₂, ⊎_elim, append_assoc, arith}
use Rattle.std.proofs.lemmas.List.{length-append, length-take-le, length-drop, take_at, drop_at, take-take, take-append-le, drop-drop, drop-take}
use Rattle.std.proofs.lemmas.Bool.{le-leb, cond-true, cases_lt}
use Rattle.refusals.specs.declared.Refusal.TheVariants.{WrongSize}
use Rattle.frames.specs.declared.frame.Frame.{Frame}
use Rattle.frames.specs.Made.{slot, read_back, read_at, wrote_at}
use Rattle.frames.proofs.Reading.{slots_and_frames as codec}

module _ {A : Type 0} (xs ys : List A) (s : ℕ) (long : length ys ≡ 48) (fits : s + 48 ≤ length xs) where
  long_front : length (take s xs) ≡ s
  long_front = length-take-le s xs (omega arith)

  long_put : length (take s xs ++ (ys ++ drop (s + 48) xs)) ≡ length xs
  long_put = omega (arith, length-append (take s xs) (ys ++ drop (s + 48) xs), length-append ys (drop (s + 48) xs), length-drop (s + 48) xs, long_front, long)

  put_here : take 48 (drop s (take s xs ++ (ys ++ drop (s + 48) xs))) ≡ ys
  put_here = ap (take 48) (drop_at (take s xs) (ys ++ drop (s + 48) xs) s long_front) ∙ take_at ys (drop (s + 48) xs) 48 long

  put_before : (at : ℕ) → at + 48 ≤ s → take 48 (drop at (take s xs ++ (ys ++ drop (s + 48) xs))) ≡ take 48 (drop at xs)
  put_before at before =
      sym (drop-take at 48 (take s xs ++ (ys ++ drop (s + 48) xs)))
      ∙ ap (drop at) (take-append-le (at + 48) (take s xs) (ys ++ drop (s + 48) xs) (omega (arith, long_front)) ∙ take-take (at + 48) s xs before)
      ∙ drop-take at 48 xs

  put_behind : (at : ℕ) → s + 48 ≤ at → take 48 (drop at (take s xs ++ (ys ++ drop (s + 48) xs))) ≡ take 48 (drop at xs)
  put_behind at behind =
      let rest : (zs : List A) → drop at zs ≡ drop (at - (s + 48)) (drop (s + 48) zs) = λ zs. ap (λ m. drop m zs) (omega arith) ∙ sym (drop-drop (at - (s + 48)) (s + 48) zs) in
      let front : length (take s xs ++ ys) ≡ s + 48 = omega (arith, length-append (take s xs) ys, long_front, long) in
      ap (take 48) (rest (take s xs ++ (ys ++ drop (s + 48) xs)) ∙ ap (drop (at - (s + 48))) (ap (drop (s + 48)) (sym (append_assoc (take s xs) ys (drop (s + 48) xs))) ∙ drop_at (take s xs ++ ys) (drop (s + 48) xs) (s + 48) front) ∙ sym (rest xs))

module _ (bytes : List ℕ) (x : Frame) (s : ℕ) (fits : s + 48 ≤ length bytes) where
  wrote : wrote_at x bytes s ≡ take s bytes ++ (slot x ++ drop (s + 48) bytes)
  wrote = cond-true _ _ _ (le-leb _ _ fits)

  pub long_wrote : length (wrote_at x bytes s) ≡ length bytes
  long_wrote = ap length wrote ∙ long_put bytes (slot x) s (codec.long x) fits

  pub read_here : read_at (wrote_at x bytes s) s ≡ Ok x
  read_here =
      let inside : s + 48 ≤ length (wrote_at x bytes s) = omega (arith, long_wrote) in
      cond-true _ _ _ (le-leb _ _ inside)
      ∙ ap (λ bs. read_back (take 48 (drop s bs))) wrote
      ∙ ap read_back (put_here bytes (slot x) s (codec.long x) fits)
      ∙ codec.written_reads x

  -- a slot at another start, before or behind
  pub read_elsewhere : (at : ℕ) → (s < at + 48 → s + 48 ≤ at) → read_at (wrote_at x bytes s) at ≡ read_at bytes at
  read_elsewhere at apart =
      ap₂ (λ (m : ℕ) (bs : List ℕ). cond (leb (at + 48) m) (read_back bs) (Err WrongSize)) long_wrote
      (ap (λ bs. take 48 (drop at bs)) wrote ∙ ⊎_elim (λ inside. put_behind bytes (slot x) s (codec.long x) fits at (apart inside)) (put_before bytes (slot x) s (codec.long x) fits at) (cases_lt s (at + 48)))

-- what is read as a frame are that frame's own bytes
pub read_bytes : (bytes : List ℕ) (s : ℕ) (x : Frame) → s + 48 ≤ length bytes → read_at bytes s ≡ Ok x → take 48 (drop s bytes) ≡ slot x
read_bytes bytes s x fits read = sym (codec.read_written (take 48 (drop s bytes)) x (sym (cond-true _ _ _ (le-leb _ _ fits)) ∙ read))
