-- Tables of honest rows.
use Rattle.std.proofs.Common.{◌≡◌, ℕ, zero, suc, ◌-◌, Bool, true, false, cond, ltb, get_or, set, Option, sym, subst, arith}
use Rattle.std.proofs.lemmas.Bool.{lt-ltb}
use Rattle.protocol.specs.Rows.{blank_row, has_place, row_of, with_row, mark_shipped, forget_up_to}
use Rattle.protocol.specs.declared.peers.PeerRow.{PeerRow}
use Rattle.protocol.specs.declared.peers.PeerTable.{PeerTable}
use Rattle.laws.proofs.Base.{how_many_all, set_all}
use Rattle.laws.proofs.Inv.{Past, Sound, RowOk}

abbrev pub TableOk : Past → ℕ → PeerTable → Type 0
TableOk H n table = (k : ℕ) → RowOk H n (suc k) (get_or table.rows k blank_row)

module _ (H : Past) (n : ℕ) (W : Sound H n) where
  -- a blank row is honest
  pub blank_ok : (j : ℕ) → RowOk H n j blank_row
  blank_ok j = record {
    accept = record { led = omega arith; accepted = omega (arith, W.null_top j) };
    vote = record { led = omega arith; cast = W.null_cast j; header = sym W.null_head };
    commit = record { led = omega arith; chosen = omega (arith, how_many_all (λ q. ltb 0 (H.top (suc q) 0)) n (λ q. lt-ltb 0 _ (omega (arith, W.null_top (suc q))))); accepted = omega (arith, W.null_top j) };
  }

  pub row_ok : (table : PeerTable) → TableOk H n table → (j : ℕ) → RowOk H n (suc (j - 1)) (row_of table j)
  row_ok table ok j = by (has_place j)
    where
      by : (b : Bool) → RowOk H n (suc (j - 1)) (cond b (get_or table.rows (j - 1) blank_row) blank_row)
      by true = ok (j - 1)
      by false = blank_ok (suc (j - 1))

  -- the row of card k + 1
  pub peer_row : (table : PeerTable) → TableOk H n table → (k : ℕ) → RowOk H n (suc k) (row_of table (suc k))
  peer_row table ok k = subst (λ j. RowOk H n (suc j) (row_of table (suc k))) (less k) (row_ok table ok (suc k))
    where
      less : (k : ℕ) → suc k - 1 ≡ k
      less k = omega arith

  pub put_ok : (table : PeerTable) → TableOk H n table → (j : ℕ) (row : PeerRow) → RowOk H n (suc (j - 1)) row → TableOk H n (with_row table j row)
  put_ok table ok j row r = by (has_place j)
    where
      by : (b : Bool) → TableOk H n (cond b (record { rows = set table.rows (j - 1) row }) table)
      by true = set_all (λ k x. RowOk H n (suc k) x) table.rows blank_row (j - 1) row r ok
      by false = ok

  pub ship_ok : (table : PeerTable) → TableOk H n table → (j : ℕ) (o : Option ℕ) → TableOk H n (mark_shipped table j o)
  ship_ok table ok j o = put_ok table ok j _ (let r = row_ok table ok j in record { accept = r.accept; vote = r.vote; commit = r.commit })

  pub forget_ok : (k : ℕ) (table : PeerTable) → TableOk H n table → TableOk H n (forget_up_to k table)
  forget_ok zero table ok = ok
  forget_ok (suc k) table ok = ship_ok (forget_up_to k table) (forget_ok k table ok) (suc k) _
