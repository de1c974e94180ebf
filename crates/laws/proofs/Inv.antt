-- What the proof remembers of a run, and what holds at every moment.
use Rattle.std.proofs.Common.{◌≡◌, ℕ, suc, ◌-◌, ◌/◌, ◌%◌, ◌<◌, ◌≤◌, Bool, true, false, ltb, List, [], ◌∷◌, ◌++◌, length, get_or, take, filter}
use Rattle.std.specs.List.{AllByRecursion}
use Rattle.marks.specs.Kinds.{Epoch, Header, Vote, epoch_of}
use Rattle.marks.specs.Order.{header_below}
use Rattle.frames.specs.Fields as fields
use Rattle.frames.specs.Fields.{EntryFields, FrameFields}
use Rattle.protocol.specs.Rack.{State, is_electing, is_leader}
use Rattle.protocol.specs.Rows.{majority, blank_row}
use Rattle.frames.specs.Carried.{entry_frame}
use Rattle.protocol.specs.Booking.{diff_frames}
use Rattle.protocol.specs.Committing.{last_header}
use Rattle.protocol.specs.declared.card.Card.{Card}
use Rattle.protocol.specs.declared.card.Role.{Role}
use Rattle.protocol.specs.declared.peers.PeerRow.{PeerRow}
use Rattle.laws.specs.Laws.{Rising}
use Rattle.laws.proofs.Base.{en, hn, Up, Lt, how_many}

-- by epoch: whether it was won, the winner's log at its win, what was submitted in it since, the header in all votes for it
-- by card and epoch: one more than the highest count accepted, whether the card voted for it
-- by card: where it last delivered
pub record Past : Type 0 where
  pub won : ℕ → Bool
  pub start : ℕ → List EntryFields
  pub sent : ℕ → List EntryFields
  pub top : ℕ → ℕ → ℕ
  pub cast : ℕ → ℕ → Bool
  pub head : ℕ → Header
  pub mark : ℕ → ℕ × ℕ

abbrev pub hist : Past → ℕ → ℕ → List EntryFields
hist H e k = H.start e ++ take k (H.sent e)

-- a majority of the n cards accepted (e, k)
abbrev pub Chosen : Past → ℕ → ℕ → ℕ → Type 0
Chosen H n e k = majority n ≤ how_many (λ q. ltb k (H.top (suc q) e)) n

-- headers (e, k), (e, k+1) and so on
abbrev pub Numbered : ℕ → ℕ → List EntryFields → Type 0
Numbered e k [] = Unit {0}
Numbered e k (x ∷ xs) = (x.header ≡ (e / 8, e % 8, k)) × Numbered e (suc k) xs

-- an entry of an epoch below e
pub record Before (e : ℕ) (x : EntryFields) : Type 0 where
  pub led : x.header.1 < 8
  pub counted : 1 ≤ x.header.2
  pub below : hn x.header < e

pub record UpTo (e k : ℕ) (x : EntryFields) : Type 0 where
  pub led : x.header.1 < 8
  pub counted : 1 ≤ x.header.2
  pub upto : Up (hn x.header) x.header.2 e k

pub record Beyond (e k : ℕ) (x : EntryFields) : Type 0 where
  pub led : x.header.1 < 8
  pub counted : 1 ≤ x.header.2
  pub beyond : Lt e k (hn x.header) x.header.2

pub record WonFrom (H : Past) (n e : ℕ) : Type 0 where
  pub voted : majority n ≤ how_many (λ q. H.cast (suc q) e) n
  pub own : H.cast (e % 8) e ≡ true
  pub begun : H.start e ≡ hist H (hn (H.head e)) (H.head e).2
  pub won : H.won (hn (H.head e)) ≡ true
  pub held : (H.head e).2 ≤ length (H.sent (hn (H.head e)))
  pub below : hn (H.head e) < e

pub record Sound (H : Past) (n : ℕ) : Type 0 where
  pub null_won : H.won 0 ≡ true
  pub null_start : H.start 0 ≡ []
  pub null_sent : H.sent 0 ≡ []
  pub null_top : (i : ℕ) → H.top i 0 ≡ 1
  pub null_cast : (i : ℕ) → H.cast i 0 ≡ true
  pub null_head : H.head 0 ≡ (0, 0, 0)
  pub top_won : (i e k : ℕ) → k < H.top i e → H.won e ≡ true
  pub top_sent : (i e k : ℕ) → k < H.top i e → k ≤ length (H.sent e)
  pub promise : (i e E k : ℕ) → H.cast i e ≡ true → E < e → k < H.top i E → Up E k (hn (H.head e)) (H.head e).2
  pub leader_cast : (i e : ℕ) → H.cast i e ≡ true → 0 < e → H.cast (e % 8) e ≡ true
  pub head_below : (i e : ℕ) → H.cast i e ≡ true → 0 < e → hn (H.head e) < e
  pub head_led : (i e : ℕ) → H.cast i e ≡ true → (H.head e).1 < 8
  pub from : (e : ℕ) → H.won e ≡ true → 0 < e → WonFrom H n e
  pub entries : (e : ℕ) → H.won e ≡ true → AllByRecursion (Before e) (H.start e)
  pub rising : (e : ℕ) → H.won e ≡ true → Rising (H.start e)
  pub numbered : (e : ℕ) → H.won e ≡ true → Numbered e 1 (H.sent e)

-- the fields of a card that the clauses speak of
pub record View : Type 0 where
  pub role : Role
  pub current : Epoch
  pub newest : Epoch
  pub accepted : Header
  pub committed : Header
  pub next : Header
  pub vote : Vote

abbrev pub view : Card → View
view c = record { role = c.role; current = c.current; newest = c.newest; accepted = c.accepted; committed = c.committed; next = c.next; vote = c.vote }

pub record CardOk (H : Past) (n i : ℕ) (v : View) (log d : List EntryFields) : Type 0 where
  pub cur_led : v.current.1 < 8
  pub new_led : v.newest.1 < 8
  pub com_led : v.committed.1 < 8
  pub cur_new : en v.current ≤ en v.newest
  pub entered : is_electing v.role ≡ false → v.newest ≡ v.current
  pub voting : is_electing v.role ≡ true → v.vote.0 ≡ v.newest
  pub voting_above : is_electing v.role ≡ true → 0 < en v.newest → en v.current < en v.newest
  pub acc_cur : epoch_of v.accepted ≡ v.current
  pub next_cur : epoch_of v.next ≡ v.current
  pub cur_won : H.won (en v.current) ≡ true
  pub acc_sent : v.accepted.2 ≤ length (H.sent (en v.current))
  pub log_is : log ≡ hist H (en v.current) v.accepted.2
  pub leads : is_leader v.role ≡ true → v.current.1 ≡ i
  pub leads_all : is_leader v.role ≡ true → v.accepted.2 ≡ length (H.sent (en v.current))
  pub top_cur : H.top i (en v.current) ≡ suc v.accepted.2
  pub top_below : (e : ℕ) → 0 < H.top i e → e ≤ en v.current
  pub cast_below : (e : ℕ) → H.cast i e ≡ true → e ≤ en v.newest
  pub vote_led : v.vote.0.1 < 8
  pub vote_cast : H.cast i (en v.vote.0) ≡ true
  pub vote_head : v.vote.1 ≡ H.head (en v.vote.0)
  pub own_vote : is_electing v.role ≡ true → v.vote.0.1 ≡ i → v.vote.1 ≡ v.accepted
  pub won_led : (e : ℕ) → H.won e ≡ true → 0 < e → e % 8 ≡ i → e ≤ en v.current
  pub mark_chosen : Chosen H n (H.mark i).0 (H.mark i).1
  pub mark_upto : Up (H.mark i).0 (H.mark i).1 (en v.current) v.accepted.2
  pub mark_next : 0 < v.next.2 → ((H.mark i).0 ≡ en v.current) × (suc (H.mark i).1 ≡ v.next.2)
  pub mark_open : v.next.2 ≡ 0 → (H.mark i).0 ≡ en v.current → (H.mark i).1 ≡ 0
  pub list_is : d ≡ hist H (H.mark i).0 (H.mark i).1
  pub com_last : v.committed ≡ last_header (0, 0, 0) d
  pub com_chosen : hn v.committed ≡ en v.current → Chosen H n (hn v.committed) v.committed.2
  pub com_upto : Up (hn v.committed) v.committed.2 (en v.current) v.accepted.2

pub record AcceptOk (H : Past) (j : ℕ) (h : Header) : Type 0 where
  pub led : h.1 < 8
  pub accepted : h.2 < H.top j (hn h)

pub record VoteOk (H : Past) (j : ℕ) (v : Vote) : Type 0 where
  pub led : v.0.1 < 8
  pub cast : H.cast j (en v.0) ≡ true
  pub header : v.1 ≡ H.head (en v.0)

pub record CommitOk (H : Past) (n j : ℕ) (h : Header) : Type 0 where
  pub led : h.1 < 8
  pub chosen : Chosen H n (hn h) h.2
  pub accepted : h.2 < H.top j (hn h)

pub record RowOk (H : Past) (n j : ℕ) (r : PeerRow) : Type 0 where
  pub accept : AcceptOk H j r.accept
  pub vote : VoteOk H j r.vote
  pub commit : CommitOk H n j r.commit

-- a row in a lane
pub record FrameOk (H : Past) (n j : ℕ) (f : FrameFields) : Type 0 where
  pub accept : f.kind ≡ 4 → AcceptOk H j (fields.header_of f)
  pub vote : f.kind ≡ 5 → VoteOk H j (fields.epoch_of f, fields.words_header f)
  pub commit : f.kind ≡ 6 → CommitOk H n j (fields.header_of f)

-- what a lane 0 is made of
pub data Parcel : Type 0 where
  message : EntryFields → Parcel
  diff : Epoch → Header → List EntryFields → Parcel

abbrev pub frames_of : Parcel → List FrameFields
frames_of (message x) = entry_frame 1 x ∷ []
frames_of (diff e base xs) = diff_frames e base xs

abbrev pub laid : List Parcel → List FrameFields
laid [] = []
laid (p ∷ ps) = frames_of p ++ laid ps

-- the entry that makes hist (e, k) out of hist (e, k-1)
pub record MessageOk (H : Past) (j : ℕ) (x : EntryFields) : Type 0 where
  pub led : x.header.1 < 8
  pub leader : x.header.1 ≡ j
  pub won : H.won (hn x.header) ≡ true
  pub counted : 1 ≤ x.header.2
  pub sent : x.header.2 ≤ length (H.sent (hn x.header))
  pub adds : take x.header.2 (H.sent (hn x.header)) ≡ take (x.header.2 - 1) (H.sent (hn x.header)) ++ x ∷ []

pub record DiffOk (H : Past) (n j i : ℕ) (e : Epoch) (base : Header) (xs : List EntryFields) : Type 0 where
  pub led : e.1 < 8
  pub leader : e.1 ≡ j
  pub won : H.won (en e) ≡ true
  pub from : CommitOk H n i base
  pub is : xs ≡ filter (λ (x : EntryFields). header_below base x.header) (H.start (en e))

abbrev pub ParcelOk : Past → ℕ → ℕ → ℕ → Parcel → Type 0
ParcelOk H n j i (message x) = MessageOk H j x
ParcelOk H n j i (diff e base xs) = DiffOk H n j i e base xs

-- lane 0 from j to i: whole messages and whole diffs
pub record Waiting (H : Past) (n j i : ℕ) (lane : List FrameFields) : Type 0 where
  pub parcels : List Parcel
  pub is : lane ≡ laid parcels
  pub ok : AllByRecursion (ParcelOk H n j i) parcels

-- at a moment, with every card's delivered list
pub record Inv {S : Type 0} (n : ℕ) (H : Past) (s : State S) (d : ℕ → List EntryFields) : Type 0 where
  pub sound : Sound H n
  pub card : (i : ℕ) → CardOk H n i (view (s.cards i)) (s.logs i) (d i)
  pub row : (i k : ℕ) → RowOk H n (suc k) (get_or (s.cards i).peers.rows k blank_row)
  pub frame : (j i k : ℕ) → AllByRecursion (FrameOk H n j) (s.lanes j i k)
  pub waiting : (j i : ℕ) → Waiting H n j i (s.lanes j i 0)

-- the past only grows
pub record Grows (H K : Past) : Type 0 where
  pub won : (e : ℕ) → H.won e ≡ true → K.won e ≡ true
  pub start : (e : ℕ) → H.won e ≡ true → K.start e ≡ H.start e
  pub longer : (e : ℕ) → H.won e ≡ true → length (H.sent e) ≤ length (K.sent e)
  pub sent : (e k : ℕ) → H.won e ≡ true → k ≤ length (H.sent e) → take k (K.sent e) ≡ take k (H.sent e)
  pub top : (i e : ℕ) → H.top i e ≤ K.top i e
  pub cast : (i e : ℕ) → H.cast i e ≡ true → K.cast i e ≡ true
  pub head : (i e : ℕ) → H.cast i e ≡ true → K.head e ≡ H.head e

-- what is card j's own stands still
pub record Still (H K : Past) (j : ℕ) : Type 0 where
  pub top : (e : ℕ) → K.top j e ≡ H.top j e
  pub cast : (e : ℕ) → K.cast j e ≡ H.cast j e
  pub mark : K.mark j ≡ H.mark j
  pub won : (e : ℕ) → e % 8 ≡ j → K.won e ≡ H.won e
  pub sent : (e : ℕ) → e % 8 ≡ j → K.sent e ≡ H.sent e
