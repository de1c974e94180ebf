use Rattle.std.proofs.Common.{◌≡◌, true, eqb, sym, ap, ◌∙◌}
use Rattle.std.proofs.lemmas.Bool.{and_parts}
use Rattle.marks.specs.Kinds.{is_epoch, is_header}
use Rattle.frames.specs.Fields.{is_frame, carries_vote, epoch_of, words_header}
use Rattle.frames.specs.Kinds.{kind_number}
use Rattle.frames.specs.Views.{frame_fields}
use Rattle.frames.proofs.frame.Frame.vote.Goals as goal

pub words_header-requires : goal.words_header-requires
words_header-requires c =
    let f = c.args.self.now in
    let well : carries_vote (frame_fields f) ≡ true = ap (λ k. is_frame (record { kind = kind_number k; round = f.round; leader = f.leader; count = f.count; w1 = f.w1; w2 = f.w2; w3 = f.w3; w4 = f.w4 })) (sym c.in-VoteRow.is) ∙ f.well in
    let words = (and_parts (eqb f.count 0) _ (and_parts (is_epoch (epoch_of (frame_fields f))) _ well).1).1 in
    (and_parts (is_header (words_header (frame_fields f))) _ words).0
