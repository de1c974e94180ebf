use Rattle.std.proofs.Common.{◌≡◌, ℕ, ◌+◌, ◌-◌, true, List, take, drop, Err, sym, ap, ◌∙◌, arith}
use Rattle.std.proofs.lemmas.Result.{err_from_is_err_and}
use Rattle.std.proofs.lemmas.Bool.{cond-true, cond-false}
use Rattle.frames.specs.Slot.{Fits, field_widths, list_slot}
use Rattle.frames.specs.Made.{slot_fits, read_at, read_back}
use Rattle.frames.proofs.Reading.{slots_and_frames, read_refused, read_fields}
use Rattle.frames.proofs.slot.read_slot.Goals as goal

-- a slot that lies within the bytes is read for itself
inside : (bytes : List ℕ) (start n : ℕ) → true ≡ slot_fits bytes start → n ≡ 48 → read_back (take n (drop start bytes)) ≡ read_at bytes start
inside bytes start n fits e = ap (λ k. read_back (take k (drop start bytes))) e ∙ sym (cond-true (slot_fits bytes start) _ _ (sym fits))

pub returns-then-not-slot_fits : goal.returns-then-not-slot_fits
returns-then-not-slot_fits c = record {
  value = sym (cond-false (slot_fits c.args.bytes.now c.args.start) _ _ (sym c.if-not-slot_fits.ensures));
  slots = slots_and_frames;
}

pub returns-in_err-read_fields : goal.returns-in_err-read_fields
returns-in_err-read_fields c =
    let p = err_from_is_err_and c.from_residual.result c.from_residual.ensures.1 in
    let why = c.in_err-read_fields.ensures in
    let size : c.args.start + 48 - c.args.start ≡ 48 = omega arith in
    record {
      value = p.1 ∙ ap Err (p.2 ∙ why.0) ∙ sym (read_refused (take (c.args.start + 48 - c.args.start) (drop c.args.start c.args.bytes.now)) why.1) ∙ inside c.args.bytes.now c.args.start _ c.if-not-slot_fits.ensures size;
      slots = slots_and_frames;
    }

pub returns : goal.returns
returns c =
    let size : c.args.start + 48 - c.args.start ≡ 48 = omega arith in
    let part = take (c.args.start + 48 - c.args.start) (drop c.args.start c.args.bytes.now) in
    let found : (list_slot c.in_ok-read_fields.field-0 ≡ part) × Fits field_widths c.in_ok-read_fields.field-0 = c.in_ok-read_fields.ensures in
    record {
      value = c.from_fields.ensures ∙ sym (read_fields part c.in_ok-read_fields.field-0 found.0 found.1) ∙ inside c.args.bytes.now c.args.start _ c.if-not-slot_fits.ensures size;
      slots = slots_and_frames;
    }
