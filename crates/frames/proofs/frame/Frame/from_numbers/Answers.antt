use Rattle.std.proofs.Common.{◌∙◌, pos, rules}
use Rattle.frames.proofs.Numbers.{words_more, words_all}
use Rattle.frames.proofs.frame.Frame.from_numbers.Goals as goal

pub loop-k-preserved : goal.loop-k-preserved
loop-k-preserved c = words_more c.args.numbers c.loop-k.fields c.loop-k.k c.in_ok-fields.field-0 (pos 0) (search rules) (search rules) (search rules) c.loop-k.invariant

pub returns : goal.returns
returns c = c.from_fields.ensures ∙ words_all c.args.numbers c.loop-k.fields c.loop-k.k (search rules) (search rules) c.loop-k.invariant
