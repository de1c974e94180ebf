use Rattle.std.proofs.Common.{◌≡◌, true, take}
use Rattle.laws.specs.Runs.{state_from}
use Rattle.cards.specs.Sizes.{card_count}
use Rattle.rack.specs.View.{view, sizes, machines_of}
use Rattle.play.specs.Runs.{replies_from, play_fits}
use Rattle.play.proofs.playing.play.Given as goal

abbrev pub invariant-loop-k : goal.invariant-loop-k
invariant-loop-k g l =
    let b = g.B.Backplane in
    let M = g.M.Machine in
    let n = card_count l.initial.rack.size in
    let z = sizes l.initial.rack (b.room l.initial.backplane) in
    let s = view l.initial.rack l.initial.entries (machines_of n M.state M.initial l.initial.machines) (b.lanes l.initial.backplane) in
    (sizes l.rack 0 ≡ sizes l.initial.rack 0)
    × (b.count l.backplane ≡ b.count l.initial.backplane)
    × (b.room l.backplane ≡ b.room l.initial.backplane)
    × (play_fits l.initial.rack l.initial.entries l.initial.machines (b.count l.initial.backplane) l.calls l.initial.replies ≡ true)
    × (view l.rack l.entries (machines_of n M.state M.initial l.machines) (b.lanes l.backplane) ≡ state_from M.initial (λ q w. M.applied q (M.unpacked w)) z s l.calls l.k)
    × (take l.k l.replies ≡ replies_from M.initial (λ q w. M.applied q (M.unpacked w)) z s l.calls l.k)
