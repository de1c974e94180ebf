-- What a sound card writes are frames and entries.
use Rattle.std.proofs.Common.{◌≡◌, ℕ, ◌≤◌, Bool, true, false, cond, ◌&&◌, ◌||◌, eqb, leb, refl, arith}
use Rattle.std.proofs.lemmas.Bool.{and_parts, and_from, cond_both, le-leb, or_left}
use Rattle.std.proofs.lemmas.Bool.Decides.{nat_tests}
use Rattle.marks.specs.Kinds.{Header, is_led_epoch, is_epoch, is_header}
use Rattle.frames.specs.Fields.{is_frame, carries_entry, carries_diff, carries_header, carries_vote}
use Rattle.frames.specs.Carried.{head_frame, vote_frame}
use Rattle.protocol.specs.Rows.{row_of}
use Rattle.protocol.specs.Rack.{is_leader, is_row_kind}
use Rattle.protocol.specs.Exchange.{header_frame, own_row}
use Rattle.protocol.specs.declared.card.Card.{Card}
use Rattle.rack.specs.Sound.{sound_card}
use Rattle.rack.proofs.Sounds.{sound_parts, row_parts, sound_row_lem}

-- a kind and what it carries make a frame
header_kind : (k : ℕ) (a b c d : Bool) → is_row_kind k ≡ true → eqb k 5 ≡ false → c ≡ true → (((eqb k 1 || eqb k 3) && a) || ((eqb k 2 && b) || (((eqb k 4 || eqb k 6) && c) || (eqb k 5 && d)))) ≡ true
header_kind k a b c d row other h = grind (arith, nat_tests)

header_framed : (kind : ℕ) (h : Header) → is_row_kind kind ≡ true → eqb kind 5 ≡ false → is_header h ≡ true → is_frame (header_frame kind h) ≡ true
header_framed kind h row other is =
    let f = header_frame kind h in
    header_kind kind (carries_entry f) (carries_diff f) (carries_header f) (carries_vote f) row other (and_from (is_header h) true is refl)

-- a sound card's own rows are frames
pub framed_own : (c : Card) (kind : ℕ) → sound_card c ≡ true → is_row_kind kind ≡ true → is_frame (own_row c kind) ≡ true
framed_own c kind h row =
    cond_both (eqb kind 5) (vote_frame c.vote) (header_frame kind (cond (eqb kind 4) c.accepted c.committed)) (λ f. is_frame f ≡ true)
    (λ _. vote)
    (λ e. header_framed kind (cond (eqb kind 4) c.accepted c.committed) row e (cond_both (eqb kind 4) c.accepted c.committed (λ a. is_header a ≡ true) (λ _. (sound_parts c h).accepted) (λ _. (sound_parts c h).committed)))
  where
    vote : is_frame (vote_frame c.vote) ≡ true
    vote =
        let p = and_parts (is_epoch c.vote.0) (is_header c.vote.1) (sound_parts c h).vote in
        and_from (is_epoch c.vote.0) (is_header c.vote.1 && true) p.0 (and_from (is_header c.vote.1) true p.1 refl)

-- so is the head of a sound leader's diff
pub framed_head : (c : Card) (base : Header) (k : ℕ) → sound_card c ≡ true → is_leader c.role ≡ true → is_header base ≡ true → k ≤ 1024 → is_frame (head_frame c.current base k) ≡ true
framed_head c base k h leader is few =
    let carries : carries_diff (head_frame c.current base k) ≡ true = and_from (is_led_epoch c.current) (is_header base && leb k 1024) ((sound_parts c h).leads leader) (and_from (is_header base) (leb k 1024) is (le-leb k 1024 few)) in
    or_left (carries_diff (head_frame c.current base k)) false carries

-- the copy of a peer's commit row, which is a diff's base
pub base_header : (c : Card) (j : ℕ) → sound_card c ≡ true → is_header (row_of c.peers j).commit ≡ true
base_header c j h = (row_parts (row_of c.peers j) (sound_row_lem c.peers j (sound_parts c h).rows)).commit
