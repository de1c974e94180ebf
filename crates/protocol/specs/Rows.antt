-- The table of peer rows, the n rows that a card goes by, and the majority test.
use Rattle.std.specs.Prelude.{ℕ, zero, suc, ◌+◌, ◌-◌, ◌/◌, Bool, cond, List, [], ◌∷◌, None, Option, ◌==◌, nat_le, nat_lt, slice_index_or, slice_set}
use Rattle.marks.specs.Kinds.{Header, Vote}
use Rattle.protocol.specs.declared.peers.PeerRow.{PeerRow}
use Rattle.protocol.specs.declared.peers.PeerTable.{PeerTable}

-- a majority is (n+1)/2 cards or more
abbrev pub majority : ℕ → ℕ
majority n = (n + 1) / 2

abbrev pub is_majority : ℕ → ℕ → Bool
is_majority count n = nat_le (majority n) count

-- nothing shipped, nothing known
abbrev pub blank_row : PeerRow
blank_row = record { shipped = None; accept = (0, 0, 0); vote = ((0, 0), (0, 0, 0)); commit = (0, 0, 0) }

abbrev pub blank_table : PeerTable
blank_table = record { rows = blank_row ∷ blank_row ∷ blank_row ∷ blank_row ∷ blank_row ∷ blank_row ∷ blank_row ∷ [] }

-- peer j stands at index j - 1; a table has seven places
abbrev pub has_place : ℕ → Bool
has_place peer = nat_lt (peer - 1) 7

abbrev pub row_of : PeerTable → ℕ → PeerRow
row_of table peer = cond (has_place peer) (slice_index_or table.rows (peer - 1) blank_row) blank_row

abbrev pub with_row : PeerTable → ℕ → PeerRow → PeerTable
with_row table peer row = cond (has_place peer) (record { rows = slice_set table.rows (peer - 1) row }) table

abbrev pub store_accept : PeerTable → ℕ → Header → PeerTable
store_accept table peer h = with_row table peer (record { shipped = (row_of table peer).shipped; accept = h; vote = (row_of table peer).vote; commit = (row_of table peer).commit })

abbrev pub store_vote : PeerTable → ℕ → Vote → PeerTable
store_vote table peer v = with_row table peer (record { shipped = (row_of table peer).shipped; accept = (row_of table peer).accept; vote = v; commit = (row_of table peer).commit })

abbrev pub store_commit : PeerTable → ℕ → Header → PeerTable
store_commit table peer h = with_row table peer (record { shipped = (row_of table peer).shipped; accept = (row_of table peer).accept; vote = (row_of table peer).vote; commit = h })

abbrev pub mark_shipped : PeerTable → ℕ → Option ℕ → PeerTable
mark_shipped table peer up_to = with_row table peer (record { shipped = up_to; accept = (row_of table peer).accept; vote = (row_of table peer).vote; commit = (row_of table peer).commit })

-- nothing counts as shipped to the first k peers, and to any peer
abbrev pub forget_up_to : ℕ → PeerTable → PeerTable
forget_up_to zero table = table
forget_up_to (suc k) table = mark_shipped (forget_up_to k table) (suc k) None

abbrev pub forget_shipped : PeerTable → PeerTable
forget_shipped table = forget_up_to 7 table

-- the rows of cards 1 to n
abbrev pub rows_of : {A : Type 0} → (ℕ → A) → ℕ → List A
rows_of row zero = []
rows_of row (suc n) = row 1 ∷ rows_of (λ (j : ℕ). row (suc j)) n

-- as one card knows them: its own row in its own place, copies elsewhere
abbrev pub known_row : {A : Type 0} → (PeerRow → A) → ℕ → A → PeerTable → ℕ → A
known_row copied card own table j = cond (j == card) own (copied (row_of table j))

abbrev pub known_rows : {A : Type 0} → (PeerRow → A) → ℕ → ℕ → A → PeerTable → List A
known_rows copied n card own table = rows_of (known_row copied card own table) n

abbrev pub accept_of : ℕ → Header → PeerTable → ℕ → Header
accept_of card own table j = known_row (λ row. row.accept) card own table j

abbrev pub vote_of : ℕ → Vote → PeerTable → ℕ → Vote
vote_of card own table j = known_row (λ row. row.vote) card own table j

abbrev pub accept_rows : ℕ → ℕ → Header → PeerTable → List Header
accept_rows n card own table = known_rows (λ row. row.accept) n card own table

abbrev pub vote_rows : ℕ → ℕ → Vote → PeerTable → List Vote
vote_rows n card own table = known_rows (λ row. row.vote) n card own table
