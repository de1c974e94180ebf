-- take by what opening the front of the lane answers.
use Rattle.std.proofs.Common.{◌≡◌, ℕ, Bool, true, false, cond, not, eqb, List, length, Some, None, Err, Option, sym, ◌∙◌, arith}
use Rattle.refusals.specs.declared.Refusal.{Refusal}
use Rattle.refusals.specs.declared.Refusal.TheVariants.{NoSuchCard, Stopped, NothingDue, Malformed}
use Rattle.backplane.specs.Lanes.{LanesOf, is_lane}
use Rattle.frames.specs.Fields.{EntryFields, FrameFields}
use Rattle.protocol.specs.Rack.{Reply}
use Rattle.protocol.specs.Taking.{formed}
use Rattle.protocol.specs.declared.card.Card.{Card}
use Rattle.taking.specs.Openings.{unopened}
use Rattle.taking.specs.Parts.{Held, take_front, take_part}

-- the first four checks
abbrev checked_by : Bool → Bool → Bool → Bool → Held → Reply × Held → Reply × Held
checked_by stopped is empty made before rest =
    cond stopped (Err Stopped, before)
    (cond (not is) (Err NoSuchCard, before)
    (cond empty (Err NothingDue, before)
    (cond (not made) (Err Malformed, before) rest)))

abbrev unopened_by : Bool → Bool → Option Refusal
unopened_by empty made = cond empty (Some NothingDue) (cond made None (Some Malformed))

shut_by : (empty made : Bool) (before : Held) (rest : Reply × Held) (r : Refusal) → unopened_by empty made ≡ Some r → (Err r, before) ≡ checked_by false true empty made before rest
shut_by true made before rest r e = let same : r ≡ NothingDue = cc in λ k. (Err (same k), before)
shut_by false true before rest r e = let z : ◌≡◌ {A = ℕ} 0 1 = cc in absurd (omega arith)
shut_by false false before rest r e = let same : r ≡ Malformed = cc in λ k. (Err (same k), before)

module _ (n places i j : ℕ) (c : Card) (log : List EntryFields) (lanes : LanesOf FrameFields) (runs : c.stopped ≡ false) (is : is_lane n j i 0 ≡ true) where
  pub take_refused : (r : Refusal) → unopened j (lanes j i 0) ≡ Some r → (Err r, (c, log, lanes)) ≡ take_part n places i j (c, log, lanes)
  take_refused r e =
      shut_by (eqb (length (lanes j i 0)) 0) (formed j (lanes j i 0)) (c, log, lanes) (take_front places i j 0 (c, log, lanes)) r e
      ∙ sym (λ k. checked_by (runs k) (is k) (eqb (length (lanes j i 0)) 0) (formed j (lanes j i 0)) (c, log, lanes) (take_front places i j 0 (c, log, lanes)))
