-- What opening the front of a lane answers.
use Rattle.std.specs.Prelude.{◌≡◌, ℕ, ◌≤◌, Bool, true, false, cond, List, map, length, drop, Some, None, Ok, Err, Option, Result, ◌==◌}
use Rattle.refusals.specs.declared.Refusal.{Refusal}
use Rattle.refusals.specs.declared.Refusal.TheVariants.{NothingDue, Malformed}
use Rattle.frames.specs.Fields.{FrameFields, words_header}
use Rattle.frames.specs.Views.{entry_fields, frame_fields}
use Rattle.frames.specs.declared.entry.Entry.{Entry}
use Rattle.backplane.specs.Ports.{waits}
use Rattle.backplane.specs.declared.lanes.Backplane.{Ghosts}
use Rattle.backplane.specs.declared.port.Port.{Port}
use Rattle.frames.specs.Carried.{entry_of}
use Rattle.protocol.specs.Taking.{front, is_message, is_diff, whole_diff, formed}
use Rattle.cards.specs.Faults.{card_refusal}
use Rattle.cards.specs.declared.fault.CardFault.{CardFault}
use Rattle.cards.specs.declared.fault.CardFault.TheVariants as card
use Rattle.taking.specs.Tokens.{token_of}
use Rattle.taking.specs.Wholes.{whole_behind}
use Rattle.taking.specs.declared.diff.OpenedDiff.{OpenedDiff}
use Rattle.taking.specs.declared.front.Front.{Front}
use Rattle.taking.specs.declared.front.Front.TheVariants.{Message, Diff}

-- the plain numbers of the frames that wait in a lane that there is
abbrev pub lane_of : {B : Type 0} {b : Ghosts B} → Port B b → List FrameFields
lane_of p = map frame_fields (waits p)

-- why the front cannot be opened, if it cannot
abbrev pub unopened : ℕ → List FrameFields → Option Refusal
unopened peer lane = cond (length lane == 0) (Some NothingDue) (cond (formed peer lane) None (Some Malformed))

pub record MessageFront (from : ℕ) (lane : List FrameFields) (e : Entry) : Type 0 where
  pub opens : unopened from lane ≡ None
  pub message : is_message (front lane) ≡ true
  pub entry : entry_fields e ≡ entry_of (front lane)

pub record DiffFront (from : ℕ) (lane : List FrameFields) (d : OpenedDiff) : Type 0 where
  pub opens : unopened from lane ≡ None
  pub diff : is_diff (front lane) ≡ true
  pub message : is_message (front lane) ≡ false
  pub whole : whole_diff lane ≡ true
  pub few : d.entries ≤ 1024
  pub token : d ≡ token_of (front lane)

abbrev pub OpensFront : ℕ → List FrameFields → Front → Type 0
OpensFront from lane (Message e) = MessageFront from lane e
OpensFront from lane (Diff d) = DiffFront from lane d

abbrev pub Opens : ℕ → List FrameFields → Result Front CardFault → Type 0
Opens from lane (Ok found) = OpensFront from lane found
Opens from lane (Err fault) = unopened from lane ≡ Some (card_refusal fault)

abbrev pub whole_after : FrameFields → List FrameFields → Bool
whole_after head lane = whole_behind (words_header head) (head.round, head.leader, 0) head.w4 (drop 1 lane)

-- the diff with this head
abbrev pub OpensDiff : FrameFields → List FrameFields → Result OpenedDiff CardFault → Type 0
OpensDiff head lane (Ok d) = (d ≡ token_of head) × (whole_after head lane ≡ true)
OpensDiff head lane (Err fault) = (fault ≡ card.Malformed) × (whole_after head lane ≡ false)
