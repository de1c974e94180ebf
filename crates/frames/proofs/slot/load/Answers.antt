use Rattle.std.proofs.Common.{◌++◌, length, drop, replicate, sym, ◌∙◌}
use Rattle.frames.proofs.Bytes.{load_eight, long_word, load_word}
use Rattle.frames.proofs.slot.load.Goals as goal

pub returns : goal.returns
returns c =
    let wrote = c.copy_from_slice.new.self in
    load_word c.args.bytes.now wrote _ c.requires c.copy_from_slice.ensures.after
    (c.from_le_bytes.ensures ∙ sym (load_eight (wrote ++ drop (length c.args.bytes.now) (replicate 8 0)) 0 (long_word c.args.bytes.now wrote c.requires c.copy_from_slice.ensures.after)))
