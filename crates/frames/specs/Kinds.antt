-- The six kinds of frame, and their numbers.
use Rattle.std.specs.Prelude.{ℕ, cond, Ok, Err, Result, ◌==◌}
use Rattle.refusals.specs.declared.Refusal.{Refusal}
use Rattle.refusals.specs.declared.Refusal.TheVariants.{Malformed}
use Rattle.frames.specs.declared.kind.Kind.{Kind}
use Rattle.frames.specs.declared.kind.Kind.TheVariants.{Message, DiffHead, DiffEntry, AcceptRow, VoteRow, CommitRow}

abbrev pub kind_number : Kind → ℕ
kind_number Message = 1
kind_number DiffHead = 2
kind_number DiffEntry = 3
kind_number AcceptRow = 4
kind_number VoteRow = 5
kind_number CommitRow = 6

-- the kind of a number; a number that is no kind's is refused
abbrev pub kind_from : ℕ → Result Kind Refusal
kind_from n = cond (n == 1) (Ok Message) (cond (n == 2) (Ok DiffHead) (cond (n == 3) (Ok DiffEntry) (cond (n == 4) (Ok AcceptRow) (cond (n == 5) (Ok VoteRow) (cond (n == 6) (Ok CommitRow) (Err Malformed))))))
