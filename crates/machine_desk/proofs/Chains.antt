-- A chain of steps that each may refuse.
use Rattle.std.proofs.Common.{◌≡◌, ℤ, Some, None, Ok, Err, Option, Result, sym, refl, ap, ◌∙◌, SFits, to_z, of_z}
use mir.Syntax.{w128}
use Rattle.std.proofs.lemmas.Int.{to_z-of_z}
use Rattle.std.specs.Option.{ok_or}
use Rattle.machine_desk.specs.Turns.{chained}

-- a number as its bits give it back
abbrev pub by_bits : ℤ → ℤ
by_bits z = to_z w128 (of_z w128 z)

module _ {X E : Type 0} where
  -- a number is passed on by its bits
  pub passed : {r : Result X E} (f : ℤ → Option X) (z : ℤ) (e : E) → SFits w128 z → r ≡ ok_or (f (by_bits z)) e → r ≡ ok_or (f z) e
  passed f z e fits h = h ∙ ap (λ y. ok_or (f y) e) (to_z-of_z w128 z fits)

  pub ok_some : (o : Option X) (e : E) (x : X) → Ok x ≡ ok_or o e → o ≡ Some x
  ok_some (Some x) e y h = cc
  ok_some None e y h = cc

  pub err_none : (o : Option X) (e y : E) → Err y ≡ ok_or o e → o ≡ None
  err_none (Some x) e y h = cc
  err_none None e y h = refl

  pub err_is : (o : Option X) (e y : E) → Err y ≡ ok_or o e → y ≡ e
  err_is (Some x) e y h = cc
  err_is None e y h = cc

module _ {X Y E : Type 0} where
  -- a step that went well hands its value on
  pub chained_ok : (o : Option X) (e : E) (x : X) (f : X → Option Y) → Ok x ≡ ok_or o e → chained o f ≡ f x
  chained_ok o e x f h = ap (λ p. chained p f) (ok_some o e x h)

  -- a refused step ends the chain
  pub chained_err : (o : Option X) (e y : E) (f : X → Option Y) → Err y ≡ ok_or o e → chained o f ≡ None
  chained_err o e y f h = ap (λ p. chained p f) (err_none o e y h)

  -- where one step refuses and the whole is none, the whole refuses alike
  pub refused_alike : (o : Option X) (whole : Option Y) (e y : E) → Err y ≡ ok_or o e → whole ≡ None → Err y ≡ ok_or whole e
  refused_alike o whole e y h none = ap Err (err_is o e y h) ∙ ap (λ p. ok_or p e) (sym none)
