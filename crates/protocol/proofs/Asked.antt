-- What a call's list of checks says of its answer.
use Rattle.std.proofs.Common.{◌≡◌, ℕ, Bool, true, false, cond, List, [], ◌∷◌, ◌++◌, Ok, Err, sym, refl, ap, ◌∙◌, arith}
use Rattle.refusals.specs.declared.Refusal.{Refusal}
use Rattle.protocol.specs.Rack.{Reply, ask}
use Rattle.protocol.specs.declared.answer.Answer.{Answer}

-- checks none of which holds
abbrev pub Passed : List (Bool × Refusal) → Type 0
Passed [] = Unit {0}
Passed (c ∷ cs) = (c.0 ≡ false) × Passed cs

-- a refusal with the state before, or the answer with the state after if all checks pass
pub ask_cases : {A : Type 0} (P : Reply × A → Type 0) (checks : List (Bool × Refusal)) (answer : Answer) (after before : A) → ((r : Refusal) → P (Err r, before)) → (Passed checks → P (Ok answer, after)) → P (ask checks answer after before)
ask_cases P [] answer after before b a = a tt
ask_cases P (c ∷ cs) answer after before b a = by c.0 refl (ask_cases P cs answer after before b)
  where
    by : (t : Bool) → c.0 ≡ t → ((Passed cs → P (Ok answer, after)) → P (ask cs answer after before)) → P (cond t (Err c.1, before) (ask cs answer after before))
    by true e rest = b c.1
    by false e rest = rest (λ p. a (e, p))

pub ask_keeps : {A : Type 0} (P : A → Type 0) (checks : List (Bool × Refusal)) (answer : Answer) (after before : A) → P before → (Passed checks → P after) → P (ask checks answer after before).1
ask_keeps P checks answer after before b a = ask_cases (λ t. P t.1) checks answer after before (λ _. b) a

pub ask_passed : {A : Type 0} (checks : List (Bool × Refusal)) (answer : Answer) (after before : A) → Passed checks → ask checks answer after before ≡ (Ok answer, after)
ask_passed [] answer after before p = refl
ask_passed (c ∷ cs) answer after before p = ap (λ b. cond b (Err c.1, before) (ask cs answer after before)) p.0 ∙ ask_passed cs answer after before p.1

-- an answer says that all checks passed, and what was answered
pub ask_answered : {A : Type 0} (checks : List (Bool × Refusal)) (answer given : Answer) (after before : A) → (ask checks answer after before).0 ≡ Ok given → Passed checks × (answer ≡ given) × ((ask checks answer after before).1 ≡ after)
ask_answered [] answer given after before e = (tt, cc, refl)
ask_answered {A} (c ∷ cs) answer given after before e = by c.0 refl e (ask_answered cs answer given after before)
  where
    by : (t : Bool) → c.0 ≡ t → (cond t (Err c.1, before) (ask cs answer after before)).0 ≡ Ok given → ((ask cs answer after before).0 ≡ Ok given → Passed cs × (answer ≡ given) × ((ask cs answer after before).1 ≡ after)) → ((c.0 ≡ false) × Passed cs) × (answer ≡ given) × ((cond t (Err c.1, before) (ask cs answer after before)).1 ≡ after)
    by true p e rest = absurd (let z : ◌≡◌ {A = ℕ} 0 1 = cc in omega arith)
    by false p e rest = let r = rest e in ((p, r.0), r.1, r.2)

-- the same of an answer with what it leaves, and of a refusal, which leaves all as it was and is the same before further checks
module _ {A : Type 0} where
  pub ask_done : (checks : List (Bool × Refusal)) (answer given : Answer) (after before x : A) → (Ok given, x) ≡ ask checks answer after before → Passed checks × (answer ≡ given) × (x ≡ after)
  ask_done checks answer given after before x e =
      let r = ask_answered checks answer given after before (sym (ap (λ (t : Reply × A). t.0) e)) in
      (r.0, r.1, ap (λ (t : Reply × A). t.1) e ∙ r.2)

  pub ask_refused : {B : Type 0} (checks more : List (Bool × Refusal)) (answer other : Answer) (why : Refusal) (after before x : A) (past from : B) → (Err why, x) ≡ ask checks answer after before → (x ≡ before) × ((Err why, from) ≡ ask (checks ++ more) other past from)
  ask_refused [] more answer other why after before x past from e = absurd (apart (ap (λ (t : Reply × A). t.0) e))
    where
      apart : ◌≡◌ {A = Reply} (Err why) (Ok answer) → ⊥
      apart q = let z : ◌≡◌ {A = ℕ} 0 1 = cc in omega arith
  ask_refused {B} (c ∷ cs) more answer other why after before x past from e = by c.0 e (ask_refused cs more answer other why after before x past from)
    where
      by : (t : Bool) → (Err why, x) ≡ cond t (Err c.1, before) (ask cs answer after before) → ((Err why, x) ≡ ask cs answer after before → (x ≡ before) × ((Err why, from) ≡ ask (cs ++ more) other past from)) → (x ≡ before) × ((Err why, from) ≡ cond t (Err c.1, from) (ask (cs ++ more) other past from))
      by true e rest = (ap (λ (u : Reply × A). u.1) e, λ k. ((e k).0, from))
      by false e rest = rest e

  pub ask_skip : (checks more : List (Bool × Refusal)) (answer : Answer) (after before : A) → Passed checks → ask (checks ++ more) answer after before ≡ ask more answer after before
  ask_skip [] more answer after before p = refl
  ask_skip (c ∷ cs) more answer after before p = ap (λ b. cond b (Err c.1, before) (ask (cs ++ more) answer after before)) p.0 ∙ ask_skip cs more answer after before p.1

-- a check that never holds once those before it have passed
pub ask_omit : {A : Type 0} (checks more : List (Bool × Refusal)) (b : Bool) (why : Refusal) (answer : Answer) (after before : A) → (Passed checks → b ≡ false) → ask (checks ++ (b, why) ∷ more) answer after before ≡ ask (checks ++ more) answer after before
ask_omit [] more b why answer after before never = ap (λ t. cond t (Err why, before) (ask more answer after before)) (never tt)
ask_omit {A} (c ∷ cs) more b why answer after before never = by c.0 refl (λ e. ask_omit cs more b why answer after before (λ p. never (e, p)))
  where
    by : (t : Bool) → c.0 ≡ t → (c.0 ≡ false → ask (cs ++ (b, why) ∷ more) answer after before ≡ ask (cs ++ more) answer after before) → cond t (Err c.1, before) (ask (cs ++ (b, why) ∷ more) answer after before) ≡ cond t (Err c.1, before) (ask (cs ++ more) answer after before)
    by true e rest = refl
    by false e rest = rest e

-- what is asked of a part of a state, carried to the whole
pub ask_through : {A B : Type 0} (f : A → B) (checks : List (Bool × Refusal)) (answer : Answer) (after before : A) → ask checks answer (f after) (f before) ≡ ((ask checks answer after before).0, f (ask checks answer after before).1)
ask_through f [] answer after before = refl
ask_through {A} {B} f (c ∷ cs) answer after before = by c.0 (ask_through f cs answer after before)
  where
    by : (t : Bool) → ask cs answer (f after) (f before) ≡ ((ask cs answer after before).0, f (ask cs answer after before).1) → cond t (Err c.1, f before) (ask cs answer (f after) (f before)) ≡ ((cond t (Err c.1, before) (ask cs answer after before)).0, f (cond t (Err c.1, before) (ask cs answer after before)).1)
    by true e = refl
    by false e = e

pub ask_lifts : {A B : Type 0} (f : A → B) (checks : List (Bool × Refusal)) (answer : Answer) (after before x : A) (reply : Reply) → (reply, x) ≡ ask checks answer after before → (reply, f x) ≡ ask checks answer (f after) (f before)
ask_lifts f checks answer after before x reply e = (λ k. ((e k).0, f (e k).1)) ∙ sym (ask_through f checks answer after before)
