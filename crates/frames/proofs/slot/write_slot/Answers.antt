use Rattle.std.proofs.Common.{◌≡◌, true, sym, ◌∙◌}
use Rattle.std.proofs.lemmas.Bool.{leb-true, cond-true}
use Rattle.frames.specs.Made.{slot, slot_fits}
use Rattle.frames.proofs.Bytes.{put_rest}
use Rattle.frames.proofs.slot.write_slot.Goals as goal

pub returns : goal.returns
returns c =
    let fits : slot_fits c.args.bytes.now c.args.start ≡ true = sym c.if-not-slot_fits.ensures in
    record {
      answer = sym (cond-true (slot_fits c.args.bytes.now c.args.start) _ _ fits);
      bytes =
          put_rest c.args.bytes.now c.fill.new.out (slot c.args.frame) c.args.start 48 (leb-true _ _ fits) c.fill.ensures
          ∙ sym (cond-true (slot_fits c.args.bytes.now c.args.start) _ _ fits);
    }
