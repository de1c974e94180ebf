use Rattle.std.proofs.Common.{ap, ◌∙◌, rules, tests}
use Rattle.std.proofs.lemmas.Iterator.Adapters.{YieldsList-from_rev_slice}
use Rattle.std.proofs.lemmas.Iterator.Search.{find_from_yields_List}
use Rattle.std.specs.Option.{option_map}
use Rattle.frames.specs.Views.{entry_fields}
use Rattle.frames.specs.declared.entry.Entry.{Entry}
use Rattle.protocol.specs.Booking.{is_header}
use Rattle.logs.proofs.Logs.{newest_found}
use Rattle.logs.proofs.reads.entry_at.Goals as goal

pub returns : goal.returns
returns c =
    let found = find_from_yields_List (λ (e : Entry). is_header e.header c.args.header) _ _ c.find.result c.find.ensures.ran (YieldsList-from_rev_slice c.args.log.now cc) (λ x b q k. search (rules, tests)) in
    ap (option_map entry_fields) (c.copied.ensures ∙ found) ∙ newest_found c.args.header c.args.log.now
