-- What each call answers and leaves, by the meaning of the backplane.
use Rattle.std.specs.Prelude.{ℕ, Ok, Err, Result}
use Rattle.refusals.specs.declared.Refusal.{Refusal}
use Rattle.backplane.specs.declared.fault.LaneFault.{LaneFault}
use Rattle.backplane.specs.Faults.{fault_refusal}
use Rattle.backplane.specs.Lanes.{Lanes, waiting_out, frame_out, send_out, send_lanes, drop_out, drop_lanes}
use Rattle.lane_calls.specs.declared.Answer.{Answer}
use Rattle.lane_calls.specs.declared.Answer.TheVariants.{Done, Count, Shown}
use Rattle.lane_calls.specs.declared.Call.{Call}
use Rattle.lane_calls.specs.declared.Call.TheVariants.{Send, Drop, Waiting, At}

-- what a lane's answer says, or the refusal that its fault leads to
abbrev pub reply : {A : Type 0} → (A → Result Answer Refusal) → Result A LaneFault → Result Answer Refusal
reply says (Ok x) = says x
reply says (Err e) = Err (fault_refusal e)

-- of n cards with room for c frames a lane; a lane that is missing is found before a frame that is malformed
abbrev pub call_out : ℕ → ℕ → Lanes → Call → Result Answer Refusal
call_out n c L (Send p (Ok x)) = reply (λ u. Ok Done) (send_out n c L p.from p.to p.number)
call_out n c L (Send p (Err refusal)) = reply (λ k. Err refusal) (waiting_out n L p.from p.to p.number)
call_out n c L (Drop p k) = reply (λ u. Ok Done) (drop_out n L p.from p.to p.number k)
call_out n c L (Waiting p) = reply (λ k. Ok (Count k)) (waiting_out n L p.from p.to p.number)
call_out n c L (At p k) = reply (λ x. Ok (Shown x)) (frame_out n L p.from p.to p.number k)

abbrev pub call_lanes : ℕ → ℕ → Lanes → Call → Lanes
call_lanes n c L (Send p (Ok x)) = send_lanes n c L p.from p.to p.number x
call_lanes n c L (Send p (Err refusal)) = L
call_lanes n c L (Drop p k) = drop_lanes n L p.from p.to p.number k
call_lanes n c L (Waiting p) = L
call_lanes n c L (At p k) = L
