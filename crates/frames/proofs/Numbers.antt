-- What the loop over whole numbers keeps: the fields so far are the numbers so far.
use Rattle.std.proofs.Common.{◌≡◌, ℕ, ◌+◌, ◌<◌, ◌≤◌, Bool, true, false, cond, ◌&&◌, List, [], ◌∷◌, ◌++◌, length, get_or, take, set, map, Ok, Err, Result, ℤ, unsigned_abs, sym, refl, ap, ◌∙◌, length-set, arith}
use Rattle.std.specs.List.{list_all}
use Rattle.std.proofs.lemmas.List.{take_more_set, take_all, map_more}
use Rattle.std.proofs.lemmas.List.Folds.{list_all_more}
use Rattle.refusals.specs.declared.Refusal.{Refusal}
use Rattle.refusals.specs.declared.Refusal.TheVariants.{Malformed}
use Rattle.frames.specs.Made.{from_list, frame_from}
use Rattle.frames.specs.Numbers.{holds_word, word_from, frame_from_numbers}

record Held (z : ℤ) (v : ℕ) : Type 0 where
  holds : holds_word z ≡ true
  same : v ≡ unsigned_abs z

held : (z : ℤ) (v : ℕ) (b : Bool) → holds_word z ≡ b → ◌≡◌ {A = Result ℕ Refusal} (Ok v) (cond b (Ok (unsigned_abs z)) (Err Malformed)) → Held z v
held z v true h e = record { holds = h; same = cc }
held z v false h e = absurd (let x : ◌≡◌ {A = ℕ} 0 1 = cc in omega arith)

pub record Words (zs : List ℤ) (fields : List ℕ) (k : ℕ) : Type 0 where
  pub hold : list_all holds_word (take k zs) ≡ true
  pub same : take k fields ≡ map unsigned_abs (take k zs)
  pub eight : length fields ≡ 8

pub words_more : (zs : List ℤ) (fields : List ℕ) (k v : ℕ) (d : ℤ) → k < length zs → k < 8 → Ok v ≡ word_from (get_or zs k d) → Words zs fields k → Words zs (set fields k v) (k + 1)
words_more zs fields k v d within room read w =
    let one = held (get_or zs k d) v (holds_word (get_or zs k d)) refl read in
    record {
      hold = list_all_more holds_word zs k d within ∙ (λ i. w.hold i && one.holds i);
      same = take_more_set fields k v (omega (arith, w.eight)) ∙ (λ i. w.same i ++ (one.same i ∷ [])) ∙ sym (map_more unsigned_abs zs k d within);
      eight = length-set fields k v ∙ w.eight;
    }

pub words_all : (zs : List ℤ) (fields : List ℕ) (k : ℕ) → length zs ≤ k → 8 ≤ k → Words zs fields k → frame_from (from_list fields) ≡ frame_from_numbers zs
words_all zs fields k all room w =
    ap (λ l. frame_from (from_list l)) (sym (take_all k fields (omega (arith, w.eight))) ∙ w.same ∙ ap (map unsigned_abs) (take_all k zs all))
    ∙ (λ i. cond (sym (sym (ap (list_all holds_word) (take_all k zs all)) ∙ w.hold) i) (frame_from (from_list (map unsigned_abs zs))) (Err Malformed))
