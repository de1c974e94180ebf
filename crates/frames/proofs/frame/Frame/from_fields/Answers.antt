use Rattle.std.proofs.Common.{◌≡◌, ◌∙◌, slice_index, Some, rules}
use Rattle.frames.specs.Fields.{fields_of}
use Rattle.frames.specs.Made.{from_list, frame_from}
use Rattle.frames.proofs.Reading.{wide_refused, narrow_header}
use Rattle.frames.proofs.frame.Frame.from_fields.Goals as goal

pub returns-in_err-header : goal.returns-in_err-header
returns-in_err-header c = search rules ∙ wide_refused (from_list c.args.fields) (search rules)

pub returns : goal.returns
returns c =
    let at = slice_index c.args.fields in
    let kind : c.in_ok-kind.kind ≡ at 0 = search rules in
    let header : c.in_ok-header.header ≡ (at 1, at 2, at 3) = (let is : Some c.in_ok-header.header ≡ c.narrow.result = search rules in narrow_header _ _ _ (is ∙ c.narrow.ensures)) in
    c.new.ensures ∙ (λ i. frame_from (fields_of (kind i) (header i) (at 4, at 5, at 6, at 7)))
