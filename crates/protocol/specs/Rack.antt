-- What a rack is: its sizes, its state, and how a call is refused.
use Rattle.std.specs.Prelude.{ℕ, Bool, true, false, cond, not, ◌&&◌, ◌||◌, List, [], ◌∷◌, Ok, Err, Result, ◌==◌, nat_le}
use Rattle.refusals.specs.declared.Refusal.{Refusal}
use Rattle.frames.specs.Fields.{EntryFields, FrameFields}
use Rattle.protocol.specs.Rows.{blank_table}
use Rattle.protocol.specs.declared.answer.Answer.{Answer}
use Rattle.protocol.specs.declared.card.Card.{Card}
use Rattle.protocol.specs.declared.card.Role.{Role}
use Rattle.protocol.specs.declared.card.Role.TheVariants.{Electing, Leader, Follower}

-- how many cards, how many places each log has, how many frames a lane holds
pub record Sizes : Type 0 where
  pub cards : ℕ
  pub places : ℕ
  pub capacity : ℕ

-- cards, logs and machines go by card number; a lane by sender, receiver and lane number, its first waiting frame first
pub record State (S : Type 0) : Type 0 where
  pub cards : ℕ → Card
  pub logs : ℕ → List EntryFields
  pub tally : ℕ
  pub machines : ℕ → S
  pub lanes : ℕ → ℕ → ℕ → List FrameFields

-- all marks null and 0
abbrev pub opened_card : Card
opened_card = record {
  role = Electing;
  stopped = false;
  current = (0, 0);
  newest = (0, 0);
  accepted = (0, 0, 0);
  committed = (0, 0, 0);
  next = (0, 0, 0);
  vote = ((0, 0), (0, 0, 0));
  peers = blank_table;
}

-- logs and lanes empty, machines at their start
abbrev pub opened : {S : Type 0} → S → State S
opened start = record { cards = λ _. opened_card; logs = λ _. []; tally = 0; machines = λ _. start; lanes = λ _ _ _. [] }

-- one place changed, every other as it was
abbrev pub at : {A : Type 0} → ℕ → A → (ℕ → A) → (ℕ → A)
at i a f j = cond (j == i) a (f j)

abbrev pub at_lane : {A : Type 0} → ℕ → ℕ → ℕ → A → (ℕ → ℕ → ℕ → A) → (ℕ → ℕ → ℕ → A)
at_lane from to lane a f = at from (at to (at lane a (f from to)) (f from)) f

abbrev pub with_card : {S : Type 0} → ℕ → Card → State S → State S
with_card i c s = record { cards = at i c s.cards; logs = s.logs; tally = s.tally; machines = s.machines; lanes = s.lanes }

abbrev pub with_log : {S : Type 0} → ℕ → List EntryFields → State S → State S
with_log i log s = record { cards = s.cards; logs = at i log s.logs; tally = s.tally; machines = s.machines; lanes = s.lanes }

abbrev pub with_tally : {S : Type 0} → ℕ → State S → State S
with_tally n s = record { cards = s.cards; logs = s.logs; tally = n; machines = s.machines; lanes = s.lanes }

abbrev pub with_machine : {S : Type 0} → ℕ → S → State S → State S
with_machine i m s = record { cards = s.cards; logs = s.logs; tally = s.tally; machines = at i m s.machines; lanes = s.lanes }

abbrev pub with_lane : {S : Type 0} → ℕ → ℕ → ℕ → List FrameFields → State S → State S
with_lane from to lane frames s = record { cards = s.cards; logs = s.logs; tally = s.tally; machines = s.machines; lanes = at_lane from to lane frames s.lanes }

-- an answer, or a refusal
abbrev pub Reply : Type 0
Reply = Result Answer Refusal

-- the first test that holds refuses, and nothing changes; if none holds, the call is carried out
abbrev pub ask : {A : Type 0} → List (Bool × Refusal) → Answer → A → A → Reply × A
ask [] answer after before = (Ok answer, after)
ask (check ∷ checks) answer after before = cond check.0 (Err check.1, before) (ask checks answer after before)

abbrev pub no_card : Sizes → ℕ → Bool
no_card z i = not (nat_le 1 i && nat_le i z.cards)

-- no such card or peer, or the peer is the card itself
abbrev pub no_peer : Sizes → ℕ → ℕ → Bool
no_peer z i j = no_card z i || (no_card z j || i == j)

abbrev pub is_electing : Role → Bool
is_electing Electing = true
is_electing Leader = false
is_electing Follower = false

abbrev pub is_leader : Role → Bool
is_leader Electing = false
is_leader Leader = true
is_leader Follower = false

-- row kinds, which are the numbers of their lanes
abbrev pub is_row_kind : ℕ → Bool
is_row_kind kind = nat_le 4 kind && nat_le kind 6
