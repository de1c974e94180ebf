use Rattle.std.proofs.Common.{◌≡◌, ◌<◌, true, length, get_or, sym, refl, ap, ◌∙◌, arith}
use Rattle.std.proofs.lemmas.List.{take_all}
use Rattle.std.proofs.lemmas.Bool.{and_from, and_parts, eq-eqb}
use Rattle.protocol.specs.Step.{step}
use Rattle.protocol.specs.declared.call.Call.TheVariants.{Timeout}
use Rattle.laws.specs.Runs.{state_from}
use Rattle.cards.specs.Sizes.{card_count}
use Rattle.rack.specs.View.{view, sizes, machines_of, entries_fit, machines_fit, cards_fit}
use Rattle.play.specs.Runs.{replies_from}
use Rattle.play.proofs.Turns.{all_fit, at_first, entries_still, machines_still, cards_still, state_more, replies_more}
use Rattle.play.proofs.Reaching.{reached}
use Rattle.play.proofs.playing.play.Goals as goal

pub loop-k-init : goal.loop-k-init
loop-k-init g c =
    let r = c.args.rack.now in
    let at = c.args.backplane.now in
    let some = and_parts (entries_fit r c.args.entries.now) _ (sym c.fits.ensures ∙ c.if-not-fits.false) in
    let more = and_parts (machines_fit r c.args.machines.now) _ some.1 in
    let wide : cards_fit r (g.B.Backplane.count at) ≡ true = ap (cards_fit r) (sym c.cards.ensures) ∙ more.1 in
    (refl, refl, refl, and_from (entries_fit r c.args.entries.now) _ some.0 (and_from (machines_fit r c.args.machines.now) _ more.0 (and_from (cards_fit r (g.B.Backplane.count at)) _ wide (eq-eqb _ _ c.if-replies-calls.false))), refl, refl)

pub perform-requires : goal.perform-requires
perform-requires g c =
    let inv = c.loop-k.invariant in
    let fit = all_fit c.args.rack.now c.args.entries.now c.args.machines.now (g.B.Backplane.count c.args.backplane.now) c.args.calls.now c.args.replies.now inv.3 in
    record {
      entries = entries_still c.loop-k.rack c.args.rack.now inv.0 c.loop-k.entries c.args.entries.now c.loop-k.auto.entries fit.entries_fit_lem;
      machines = machines_still c.loop-k.rack c.args.rack.now inv.0 c.loop-k.machines c.args.machines.now c.loop-k.auto.machines fit.machines_fit_lem;
      cards = cards_still c.loop-k.rack c.args.rack.now inv.0 (g.B.Backplane.count c.loop-k.backplane) (g.B.Backplane.count c.args.backplane.now) inv.1 fit.cards_fit_lem;
    }

pub loop-k-preserved : goal.loop-k-preserved
loop-k-preserved g c =
    let b = g.B.Backplane in
    let M = g.M.Machine in
    let r = c.args.rack.now in
    let n = card_count r.size in
    let z = sizes r (b.room c.args.backplane.now) in
    let first = view r c.args.entries.now (machines_of n M.state M.initial c.args.machines.now) (b.lanes c.args.backplane.now) in
    let calls = c.args.calls.now in
    let k = c.loop-k.k in
    let inv = c.loop-k.invariant in
    let call = get_or calls k (Timeout 0) in
    let before = view c.loop-k.rack c.loop-k.entries (machines_of n M.state M.initial c.loop-k.machines) (b.lanes c.loop-k.backplane) in
    let after = view c.perform.new.rack c.perform.new.entries (machines_of n M.state M.initial c.perform.new.machines) (b.lanes c.perform.new.backplane) in
    let made = at_first c.loop-k.rack r inv.0 (λ m y. (c.perform.result, view c.perform.new.rack c.perform.new.entries (machines_of m M.state M.initial c.perform.new.machines) (b.lanes c.perform.new.backplane)) ≡ step (λ q w. M.applied q (M.unpacked w)) y call (view c.loop-k.rack c.loop-k.entries (machines_of m M.state M.initial c.loop-k.machines) (b.lanes c.loop-k.backplane))) (b.room c.loop-k.backplane) (b.room c.args.backplane.now) inv.2 c.perform.ensures.step in
    let room : k < length c.loop-k.replies = omega (arith, c.loop-k-test.true, c.loop-k.auto.replies, c.if-replies-calls.false) in (
      c.perform.ensures.sizes ∙ inv.0,
      c.perform.ensures.count ∙ inv.1,
      c.perform.ensures.room ∙ inv.2,
      inv.3,
      state_more M.initial (λ q w. M.applied q (M.unpacked w)) z (Timeout 0) first calls k c.loop-k-test.true before after inv.4 c.perform.result made,
      replies_more M.initial (λ q w. M.applied q (M.unpacked w)) z (Timeout 0) first calls k c.loop-k-test.true before after inv.4 c.perform.result made c.loop-k.replies room inv.5,
    )

pub returns : goal.returns
returns g c =
    let b = g.B.Backplane in
    let M = g.M.Machine in
    let r = c.args.rack.now in
    let n = card_count r.size in
    let calls = c.args.calls.now in
    let z = sizes r (b.room c.args.backplane.now) in
    let first = view r c.args.entries.now (machines_of n M.state M.initial c.args.machines.now) (b.lanes c.args.backplane.now) in
    let last = view c.loop-k.rack c.loop-k.entries (machines_of n M.state M.initial c.loop-k.machines) (b.lanes c.loop-k.backplane) in
    let inv = c.loop-k.invariant in
    let end : c.loop-k.k ≡ length calls = omega (arith, c.loop-k-test.false, c.loop-k.auto.k-end) in
    let done : last ≡ state_from M.initial (λ q w. M.applied q (M.unpacked w)) z first calls (length calls) = inv.4 ∙ ap (state_from M.initial (λ q w. M.applied q (M.unpacked w)) z first calls) end in
    record {
      played = (
        inv.3,
        done,
        sym (take_all c.loop-k.k c.loop-k.replies (omega (arith, end, c.loop-k.auto.replies, c.if-replies-calls.false))) ∙ inv.5 ∙ ap (replies_from M.initial (λ q w. M.applied q (M.unpacked w)) z first calls) end,
      );
      laws = λ earlier before. reached M.initial M.applied M.unpacked r (b.room c.args.backplane.now) earlier calls first last before done;
      stays = tt;
      sizes = inv.0;
      count = inv.1;
      room = inv.2;
    }
