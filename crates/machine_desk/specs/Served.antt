-- What a request leaves on the board and in the ledger: each touches one of the two at most.
use Rattle.std.specs.Prelude.{ℕ, List, ℤ}
use Rattle.std.specs.Option.{option_map}
use Rattle.machines.specs.Turn.{performed}
use Rattle.board.specs.Bookings as bookings
use Rattle.board.specs.Loads as loads
use Rattle.ledger.specs.Postings as postings
use Rattle.ledger.specs.Balances as balances
use Rattle.machine_desk.specs.Turns.{asked_of, words_of, posted_of, posted_times}
use Rattle.machine_desk.specs.declared.requests.Request.{Request}
use Rattle.machine_desk.specs.declared.requests.Request.TheVariants.{Ask, Post, BoardWords, LedgerWords}

abbrev pub board_after : Request → List ℕ → List ℕ
board_after (Ask act load carrier) s = performed loads.acted 0 (asked_of act load carrier) s
board_after (Post carrier cents times) s = s
board_after (BoardWords w) s = performed loads.acted 0 (option_map bookings.unpacked (words_of w)) s
board_after (LedgerWords w) s = s

abbrev pub ledger_after : Request → List ℤ → List ℤ
ledger_after (Ask act load carrier) s = s
ledger_after (Post carrier cents times) s = posted_times (posted_of carrier cents times) s
ledger_after (BoardWords w) s = s
ledger_after (LedgerWords w) s = performed balances.posted 0 (option_map postings.unpacked (words_of w)) s
