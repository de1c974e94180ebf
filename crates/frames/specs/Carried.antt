-- What a frame carries, and the frame that carries an entry, a vote or the head of a diff.
use Rattle.std.specs.Prelude.{ℕ, Bool, true, false, cond, ◌||◌, Some, None, Option, ◌==◌}
use Rattle.marks.specs.Kinds.{Epoch, Header, Vote}
use Rattle.frames.specs.declared.kind.Kind.{Kind}
use Rattle.frames.specs.declared.kind.Kind.TheVariants.{Message, DiffHead, DiffEntry, AcceptRow, VoteRow, CommitRow}
use Rattle.frames.specs.Fields.{EntryFields, FrameFields, header_of, epoch_of, words_header}

-- whether frames of a kind carry an entry
abbrev pub of_entry : Kind → Bool
of_entry Message = true
of_entry DiffHead = false
of_entry DiffEntry = true
of_entry AcceptRow = false
of_entry VoteRow = false
of_entry CommitRow = false

-- frames that carry an entry: w1 is its queue, w2 to w4 its payload
abbrev pub entry_frame : ℕ → EntryFields → FrameFields
entry_frame kind e = record {
  kind = kind;
  round = e.header.0;
  leader = e.header.1;
  count = e.header.2;
  w1 = e.queue;
  w2 = e.payload.0;
  w3 = e.payload.1;
  w4 = e.payload.2;
}

-- the entry in the numbers of such a frame
abbrev pub entry_of : FrameFields → EntryFields
entry_of f = record { header = header_of f; queue = f.w1; payload = (f.w2, f.w3, f.w4) }

-- a vote row: the voted epoch, and the vote's header in the words
abbrev pub vote_frame : Vote → FrameFields
vote_frame v = record { kind = 5; round = v.0.0; leader = v.0.1; count = 0; w1 = v.1.0; w2 = v.1.1; w3 = v.1.2; w4 = 0 }

-- the head of a diff: its epoch, its base in the words, and how many entries follow
abbrev pub head_frame : Epoch → Header → ℕ → FrameFields
head_frame e base entries = record { kind = 2; round = e.0; leader = e.1; count = 0; w1 = base.0; w2 = base.1; w3 = base.2; w4 = entries }

-- kinds 1 and 3 carry an entry
abbrev pub carried_entry : FrameFields → Option EntryFields
carried_entry f = cond (f.kind == 1 || f.kind == 3) (Some (entry_of f)) None

-- kind 2 carries the base of a diff
abbrev pub carried_base : FrameFields → Option Header
carried_base f = cond (f.kind == 2) (Some (words_header f)) None

-- kind 5 carries a vote
abbrev pub carried_vote : FrameFields → Option Vote
carried_vote f = cond (f.kind == 5) (Some (epoch_of f, words_header f)) None
