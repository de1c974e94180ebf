-- A delivery under way: what it has made of the entries that it was given.
use Rattle.std.proofs.Common.{◌≡◌, ℕ, ◌+◌, List, [], ◌∷◌, ◌++◌, length, refl, sym, ap, ◌∙◌}
use Rattle.std.proofs.lemmas.List.{length_push, map-append}
use Rattle.marks.specs.Kinds.{Header}
use Rattle.frames.specs.Fields.{Words, EntryFields}
use Rattle.frames.specs.Views.{entry_fields}
use Rattle.frames.specs.declared.entry.Entry.{Entry}
use Rattle.protocol.specs.Committing.{applied, last_header}
use Rattle.logs.specs.Log.{entries_of}
use Rattle.logs.specs.declared.delivery.Delivered.{Delivered}

last_push : (h : Header) (es : List EntryFields) (e : EntryFields) → last_header h (es ++ e ∷ []) ≡ e.header
last_push h [] e = refl
last_push h (x ∷ es) e = last_push x.header es e

module _ {S : Type 0} (apply : ℕ → Words → S → S) where
  applied_push : (es : List EntryFields) (e : EntryFields) (s : S) → applied apply (es ++ e ∷ []) s ≡ apply e.queue e.payload (applied apply es s)
  applied_push [] e s = refl
  applied_push (x ∷ es) e s = applied_push es e (apply x.queue x.payload s)

  module _ (low : Header) (start : S) where
    pub record Delivering (given : List Entry) (so_far : Delivered) (state : S) : Type 0 where
      pub counts : so_far.count ≡ length given
      pub ends : so_far.last ≡ last_header low (entries_of given)
      pub leads : state ≡ applied apply (entries_of given) start

    -- one more entry
    pub delivers : (given : List Entry) (so_far more : Delivered) (state state' : S) (e : Entry) → Delivering given so_far state → more.count ≡ so_far.count + 1 → more.last ≡ e.header → state' ≡ apply e.queue e.payload state → Delivering (given ++ e ∷ []) more state'
    delivers given so_far more state state' e made counted ended led =
        let pushed : entries_of (given ++ e ∷ []) ≡ entries_of given ++ entry_fields e ∷ [] = map-append entry_fields given (e ∷ []) in
        record {
          counts = counted ∙ ap (λ n. n + 1) made.counts ∙ sym (length_push given e);
          ends = ended ∙ sym (ap (last_header low) pushed ∙ last_push low (entries_of given) (entry_fields e));
          leads = led ∙ ap (apply e.queue e.payload) made.leads ∙ sym (ap (λ es. applied apply es start) pushed ∙ applied_push (entries_of given) (entry_fields e) start);
        }
