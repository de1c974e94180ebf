-- A held load stays with its holder until the holder releases it.
use Rattle.std.proofs.Common.{◌≡◌, ℕ, ◌⊎◌, List, [], ◌∷◌, Some, None, ap, ◌∙◌, inl, inr, ⊎_elim, arith, get_or-set_other}
use Rattle.std.proofs.lemmas.List.Sums.{fold-append}
use Rattle.std.proofs.lemmas.Bool.{cases_eq}
use Rattle.std.proofs.lemmas.Bool.Decides.{nat_tests}
use Rattle.machines.specs.Lone.{carried}
use Rattle.machines.specs.declared.runs.Item.{Item}
use Rattle.board.specs.Bookings.{unpacked}
use Rattle.board.specs.Loads.{holder_of, all_open, changed, acted}
use Rattle.board.specs.Laws.{HeldUntilReleased, ReleasedAmong, HeldThroughRuns}
use Rattle.board.specs.declared.bookings.Act.{Act}
use Rattle.board.specs.declared.bookings.Act.TheVariants.{Book, Release}

step : (a : Act) (l c : ℕ) (holders : List ℕ) (load carrier : ℕ) → holder_of holders load ≡ Some carrier → (holder_of (changed a l c holders) load ≡ Some carrier) ⊎ ((a ≡ Release) × (l ≡ load) × (c ≡ carrier))
step Book l c holders load carrier h =
    ⊎_elim (λ e. grind (arith, nat_tests)) (λ ne. inl (grind (arith, nat_tests, get_or-set_other holders l load c 0 ne))) (cases_eq load l)
step Release l c holders load carrier h =
    ⊎_elim (λ e. grind (arith, nat_tests)) (λ ne. inl (grind (arith, nat_tests, get_or-set_other holders l load 0 0 ne))) (cases_eq load l)

pub held_until_released : HeldUntilReleased
held_until_released queue None holders load carrier h = inl h
held_until_released queue (Some b) holders load carrier h = step b.act b.load b.carrier holders load carrier h

through : (later : List Item) (holders : List ℕ) (load carrier : ℕ) → holder_of holders load ≡ Some carrier → (holder_of (carried acted unpacked holders later) load ≡ Some carrier) ⊎ ReleasedAmong later load carrier
through [] holders load carrier h = inl h
through (i ∷ is) holders load carrier h =
    ⊎_elim
    (λ kept. ⊎_elim inl (λ among. inr (inr among)) (through is (acted i.queue (unpacked i.words) holders) load carrier kept))
    (λ released. inr (inl released))
    (held_until_released i.queue (unpacked i.words) holders load carrier h)

pub held_through_runs : HeldThroughRuns
held_through_runs before later load carrier h =
    let joined = fold-append (λ s i. acted i.queue (unpacked i.words) s) all_open before later in
    ⊎_elim (λ kept. inl (ap (λ s. holder_of s load) joined ∙ kept)) inr (through later (carried acted unpacked all_open before) load carrier h)
