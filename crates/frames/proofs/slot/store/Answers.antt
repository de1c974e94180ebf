use Rattle.std.proofs.Common.{◌∙◌, arith}
use lib.Lanes.{digits_l}
use Rattle.frames.proofs.Bytes.{eight_bytes, put_at}
use Rattle.frames.proofs.slot.store.Goals as goal

pub returns : goal.returns
returns c =
    put_at c.args.at _ 8 c.args.out.now _ (digits_l 256 8 c.args.value)
    (c.copy_from_slice.ensures.after ∙ c.to_le_bytes.ensures ∙ eight_bytes c.args.value)
    (omega arith)
