-- What an entry and a frame are, over plain numbers.
use Rattle.std.specs.Prelude.{ℕ, Bool, ◌&&◌, ◌||◌, ◌==◌, nat_le, nat_lt}
use Rattle.marks.specs.Kinds.{Epoch, Header, is_epoch, is_led_epoch, is_header}

-- three words of a payload
abbrev pub Words : Type 0
Words = ℕ × ℕ × ℕ

abbrev pub is_word : ℕ → Bool
is_word w = nat_lt w 18446744073709551616

-- an entry: a header with count 1 or more, a queue 0 to 15, and a payload of three words
pub record EntryFields : Type 0 where
  pub header : Header
  pub queue : ℕ
  pub payload : Words

abbrev pub is_entry_header : Header → Bool
is_entry_header h = is_led_epoch (h.0, h.1) && (nat_le 1 h.2 && nat_le h.2 4294967294)

abbrev pub is_entry : EntryFields → Bool
is_entry e = is_entry_header e.header && (nat_le e.queue 15 && (is_word e.payload.0 && (is_word e.payload.1 && is_word e.payload.2)))

-- a frame: a kind, a round, a leader, a count and four words
pub record FrameFields : Type 0 where
  pub kind : ℕ
  pub round : ℕ
  pub leader : ℕ
  pub count : ℕ
  pub w1 : ℕ
  pub w2 : ℕ
  pub w3 : ℕ
  pub w4 : ℕ

-- a frame's numbers, from its kind, its header and its words
abbrev pub fields_of : ℕ → Header → ℕ × ℕ × ℕ × ℕ → FrameFields
fields_of kind h w = record { kind = kind; round = h.0; leader = h.1; count = h.2; w1 = w.0; w2 = w.1; w3 = w.2; w4 = w.3 }

abbrev pub header_of : FrameFields → Header
header_of f = (f.round, f.leader, f.count)

abbrev pub epoch_of : FrameFields → Epoch
epoch_of f = (f.round, f.leader)

-- the header in the first three words
abbrev pub words_header : FrameFields → Header
words_header f = (f.w1, f.w2, f.w3)

abbrev pub no_words : FrameFields → Bool
no_words f = f.w1 == 0 && (f.w2 == 0 && (f.w3 == 0 && f.w4 == 0))

-- kinds 1 and 3 carry an entry: w1 is its queue, w2 to w4 its payload
abbrev pub carries_entry : FrameFields → Bool
carries_entry f = is_entry (record { header = header_of f; queue = f.w1; payload = (f.w2, f.w3, f.w4) })

-- kind 2 carries an epoch that is not null; w1 to w3 are the base, w4 says how many entries follow
abbrev pub carries_diff : FrameFields → Bool
carries_diff f = is_led_epoch (epoch_of f) && (f.count == 0 && (is_header (words_header f) && nat_le f.w4 1024))

-- kinds 4 and 6 carry a header and no words
abbrev pub carries_header : FrameFields → Bool
carries_header f = is_header (header_of f) && no_words f

-- kind 5 carries the voted epoch; w1 to w3 are the vote's header
abbrev pub carries_vote : FrameFields → Bool
carries_vote f = is_epoch (epoch_of f) && (f.count == 0 && (is_header (words_header f) && f.w4 == 0))

abbrev pub is_frame : FrameFields → Bool
is_frame f =
    ((f.kind == 1 || f.kind == 3) && carries_entry f)
    || ((f.kind == 2 && carries_diff f)
    || (((f.kind == 4 || f.kind == 6) && carries_header f)
    || (f.kind == 5 && carries_vote f)))
