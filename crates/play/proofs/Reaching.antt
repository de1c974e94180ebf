-- A run that goes on from where another has come, and what holds there.
use Rattle.std.proofs.Common.{◌≡◌, ℕ, ◌⊎◌, List, [], ◌∷◌, ◌++◌, map, length, sym, refl, ap, ◌∙◌, subst}
use Rattle.frames.specs.Fields.{Words, EntryFields}
use Rattle.machines.specs.Lone.{alone}
use Rattle.protocol.specs.Rack.{Sizes, State, opened}
use Rattle.protocol.specs.Committing.{reading}
use Rattle.protocol.specs.declared.call.Call.{Call}
use Rattle.laws.specs.Laws.{Begins}
use Rattle.laws.specs.Runs.{ItemAt, after, state_from, state_at, delivered_at}
use Rattle.rack.specs.Opening.{Promises, item_of}
use Rattle.rack.specs.View.{sizes}
use Rattle.rack.specs.declared.state.Rack.{Rack}
use Rattle.rack.proofs.Opens.{promises, stands_alone}
use Rattle.play.specs.Runs.{Holds, Reached}

state_append : {S : Type 0} (start : S) (apply : ℕ → Words → S → S) (z : Sizes) (s : State S) (earlier calls : List Call) → state_from start apply z s (earlier ++ calls) (length (earlier ++ calls)) ≡ state_from start apply z (state_from start apply z s earlier (length earlier)) calls (length calls)
state_append start apply z s [] calls = refl
state_append start apply z s (c ∷ cs) calls = state_append start apply z (after start apply z c s) cs calls

module _ {S P : Type 0} (start : S) (applied : ℕ → P → S → S) (unpacked : Words → P) (r : Rack) (room : ℕ) where
  abbrev z : Sizes
  z = sizes r room

  abbrev apply : ℕ → Words → S → S
  apply queue words = applied queue (unpacked words)

  laws : Promises start (λ q w. applied q (unpacked w)) (sizes r room)
  laws = promises start (λ q w. applied q (unpacked w)) r.size r.places room

  holds_at : (calls : List Call) → Holds start applied unpacked z calls (state_at start apply z calls (length calls))
  holds_at calls = record {
    agree = λ i j. subst (λ (p : List EntryFields × List EntryFields). Begins p.0 p.1 ⊎ Begins p.1 p.0) (λ k. (sym (read i) k, sym (read j) k)) (laws.agreement.one_order calls (length calls) (length calls) i j);
    read = read;
    grown = λ k i h. subst (Begins (delivered_at start apply z calls k i)) (sym (read i)) (laws.agreement.only_grows calls k (length calls) i h);
    submitted = λ i p x a. laws.integrity.submitted calls (length calls) i p x (subst (λ xs. ItemAt xs p x) (read i) a);
    once = λ i p q x y a b e. laws.integrity.once calls (length calls) i p q x y (subst (λ xs. ItemAt xs p x) (read i) a) (subst (λ xs. ItemAt xs q y) (read i) b) e;
    machine = λ i. stands_alone start applied unpacked r.size r.places room calls (length calls) i ∙ ap (λ xs. alone start applied unpacked (map item_of xs)) (sym (read i));
    kept = laws.no_lost_delivery.kept calls;
    tally = laws.counts.tally calls (length calls);
  }
    where
      read : (i : ℕ) → reading (state_at start (λ q w. applied q (unpacked w)) (sizes r room) calls (length calls)) i ≡ delivered_at start (λ q w. applied q (unpacked w)) (sizes r room) calls (length calls) i
      read i = laws.agreement.read calls (length calls) i

  pub reached : (earlier calls : List Call) (s s' : State S) → s ≡ state_at start apply z earlier (length earlier) → s' ≡ state_from start apply z s calls (length calls) → Reached start applied unpacked z (earlier ++ calls) s'
  reached earlier calls s s' before now =
      let there = now ∙ ap (λ t. state_from start apply z t calls (length calls)) before ∙ sym (state_append start apply z (opened start) earlier calls) in
      record { state = there; holds = subst (Holds start applied unpacked z (earlier ++ calls)) (sym there) (holds_at (earlier ++ calls)) }
