-- The front of a lane, by the frame that stands there.
use Rattle.std.proofs.Common.{◌≡◌, ℕ, ◌≤◌, Bool, true, false, cond, ◌&&◌, ◌||◌, eqb, List, ◌∷◌, map, length, drop, Some, None, sym, refl, ap, ◌∙◌, subst}
use lib.Dec.{eqb-suc-zero}
use Rattle.std.specs.List.{slice_get}
use Rattle.std.proofs.lemmas.Bool.{eq-eqb, ne_eqb, and_right}
use Rattle.refusals.specs.declared.Refusal.TheVariants.{NothingDue, Malformed}
use Rattle.frames.specs.declared.entry.Entry.{Entry}
use Rattle.frames.specs.declared.frame.Frame.{Frame}
use Rattle.frames.specs.declared.kind.Kind.{Kind}
use Rattle.frames.specs.declared.kind.Kind.TheVariants.{Message, DiffHead, DiffEntry, AcceptRow, VoteRow, CommitRow}
use Rattle.frames.specs.Fields.{FrameFields}
use Rattle.frames.specs.Kinds.{kind_number}
use Rattle.frames.specs.Views.{frame_fields, entry_fields}
use Rattle.frames.specs.Carried.{entry_of}
use Rattle.protocol.specs.Taking.{front, is_message, is_diff, whole_diff, formed}
use Rattle.taking.specs.Tokens.{token_of}
use Rattle.taking.specs.Openings.{unopened, MessageFront, DiffFront, whole_after}
use Rattle.taking.specs.declared.diff.OpenedDiff.{OpenedDiff}
use Rattle.taking.proofs.Loads.{head_carries, diff_few}
use Rattle.taking.proofs.LaneReads.{frame_first}

-- a look at the front that finds a frame
pub front_seen : (frames : List Frame) (x : Frame) → Some x ≡ slice_get frames 0 → map frame_fields frames ≡ frame_fields x ∷ map frame_fields (drop 1 frames)
front_seen frames x e = ap (map frame_fields) (frame_first frames 0 x e)

abbrev formed_by : Kind → Bool → Bool → Bool
formed_by kind whole led = (eqb (kind_number kind) 1 || (eqb (kind_number kind) 2 && whole)) && led

other_kind : (k : Kind) (whole led : Bool) → (k ≡ Message → ⊥) → (k ≡ DiffHead → ⊥) → formed_by k whole led ≡ false
other_kind Message whole led m d = absurd (m refl)
other_kind DiffHead whole led m d = absurd (d refl)
other_kind DiffEntry whole led m d = refl
other_kind AcceptRow whole led m d = refl
other_kind VoteRow whole led m d = refl
other_kind CommitRow whole led m d = refl

module _ (from : ℕ) (lane : List FrameFields) (x : Frame) (rest : List FrameFields) (here : lane ≡ frame_fields x ∷ rest) where
  by_formed : (b : Bool) → formed from lane ≡ b → unopened from lane ≡ cond b None (Some Malformed)
  by_formed b e =
      ap (λ t. cond t (Some NothingDue) (cond (formed from lane) None (Some Malformed))) (ap (λ l. eqb (length l) 0) here ∙ eqb-suc-zero (length rest))
      ∙ ap (λ t. cond t None (Some Malformed)) e

  formed_as : formed from lane ≡ formed_by x.kind (whole_after (frame_fields x) lane) (eqb x.leader from)
  formed_as = ap (formed from) here ∙ sym (ap (λ l. formed_by x.kind (whole_after (frame_fields x) l) (eqb x.leader from)) here)

  pub other_leader : (x.leader ≡ from → ⊥) → unopened from lane ≡ Some Malformed
  other_leader apart = by_formed false (formed_as ∙ and_right _ _ (ne_eqb x.leader from apart))

  pub other_front : (x.kind ≡ Message → ⊥) → (x.kind ≡ DiffHead → ⊥) → unopened from lane ≡ Some Malformed
  other_front m d = by_formed false (formed_as ∙ other_kind x.kind (whole_after (frame_fields x) lane) (eqb x.leader from) m d)

  module _ (led : x.leader ≡ from) where
    pub message_front : x.kind ≡ Message → (e : Entry) → entry_fields e ≡ entry_of (frame_fields x) → MessageFront from lane e
    message_front kind e same = record {
      opens = by_formed true (formed_as ∙ (λ k. formed_by (kind k) (whole_after (frame_fields x) lane) (eq-eqb x.leader from led k)));
      message = ap (λ l. is_message (front l)) here ∙ ap (λ k. eqb (kind_number k) 1) kind;
      entry = same ∙ sym (ap (λ l. entry_of (front l)) here);
    }

    module _ (kind : x.kind ≡ DiffHead) where
      formed_diff : (b : Bool) → whole_after (frame_fields x) lane ≡ b → formed from lane ≡ formed_by DiffHead b true
      formed_diff b whole = formed_as ∙ (λ k. formed_by (kind k) (whole k) (eq-eqb x.leader from led k))

      pub broken_diff : whole_after (frame_fields x) lane ≡ false → unopened from lane ≡ Some Malformed
      broken_diff broken = by_formed false (formed_diff false broken)

      pub diff_front : (d : OpenedDiff) → d ≡ token_of (frame_fields x) → whole_after (frame_fields x) lane ≡ true → DiffFront from lane d
      diff_front d same whole = record {
        opens = by_formed true (formed_diff true whole);
        diff = ap (λ l. is_diff (front l)) here ∙ ap (λ k. eqb (kind_number k) 2) kind;
        message = ap (λ l. is_message (front l)) here ∙ ap (λ k. eqb (kind_number k) 1) kind;
        whole = ap whole_diff here ∙ sym (ap (whole_after (frame_fields x)) here) ∙ whole;
        few = subst (λ n. n ≤ 1024) (sym (ap (λ t. t.entries) same)) (diff_few (frame_fields x) (head_carries x kind));
        token = same ∙ sym (ap (λ l. token_of (front l)) here);
      }
