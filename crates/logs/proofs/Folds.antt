-- A fold over a chain, whose closure is the same at each call.
use Rattle.std.proofs.Common.{◌≡◌, ℕ, ◌+◌, ◌<◌, List, [], ◌∷◌, ◌++◌, length, Some, Option, refl, sym, ap, ◌∙◌, subst}
use denote.Param.Members.{Mut}
use Rattle.std.specs.Fn.{Called, Takes}
use Rattle.std.specs.Iterator.{Drains, FoldTurn, CallableAtEachTurn}
use Rattle.std.specs.List.{FoldsTo}
use Rattle.std.proofs.lemmas.Fn.{fold_over, serves_by}
use Rattle.std.proofs.lemmas.Iterator.{YieldsList}
use Rattle.std.proofs.lemmas.Iterator.Consumers.{YieldsList-turn}
use Rattle.std.proofs.lemmas.List.{length_push}

module _ {S A B C F : Type 0} {steps : S → Option A → S → Type 0} {v : A → B} {s : S} {all : List B} (g : Mut F (C × (A × Unit {0})) C) {f : F} {a : C} where
  -- a fact of the first value, the items so far and the value, which each call keeps, holds of all items and of the result
  pub folded : (J : C → List B → C → Type 0) (r : C) → (xs : List A) × (q : F) × Drains steps s xs × FoldsTo {P = F × C} (FoldTurn g) (f, a) xs (q, r) → YieldsList steps v s all → J a [] a
      → ((ys : List B) (b : C) (x : A) (c : C) (f' : F) → J a ys b → Called g f (b, (x, tt)) c f' → J a (ys ++ (v x ∷ [])) c × (f' ≡ f)) → J a all r
  folded J r ran road begins keeps = fold_over steps v g (J a) f keeps s all a r road.runs begins ran

  -- where the value counts the items, it is below their number at each call
  pub callable : (n : C → ℕ) → YieldsList steps v s all → n a ≡ 0 → ((b : C) (x : A) (c : C) (f' : F) → Called g f (b, (x, tt)) c f' → (n c ≡ n b + 1) × (f' ≡ f))
      → ((b : C) (x : A) → n b < length all → Takes g f (b, (x, tt))) → CallableAtEachTurn {P = F × C} steps (FoldTurn g) (λ p x. Takes g p.0 (p.1, (x, tt))) s (f, a)
  callable n road begins counts asks = serves_by (FoldTurn g) (λ xs p. (p.0 ≡ f) × (n p.1 ≡ length xs))
      (λ xs p x q j r. let k = counts p.1 x q.1 q.0 (subst (λ h. Called g h (p.1, (x, tt)) q.1 q.0) j.0 r) in (k.1, k.0 ∙ ap (λ m. m + 1) j.1 ∙ sym (length_push xs x)))
      steps (λ p x. Takes g p.0 (p.1, (x, tt))) s (f, a) (refl, begins)
      (λ xs t p x u y e j. let m = YieldsList-turn road xs t y (Some x) u x refl e in subst (λ h. Takes g h (p.1, (x, tt))) (sym j.0) (asks p.1 x (subst (λ k. k < length all) (sym j.1) m.0)))
