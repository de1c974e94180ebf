-- The used places of a part, and what of a log passes a test.
use Rattle.std.proofs.Common.{◌≡◌, ℕ, ◌+◌, ◌<◌, ◌≤◌, min, Bool, true, false, cond, ltb, List, [], ◌∷◌, ◌++◌, map, length, reverse, get_or, take, drop, set, Some, None, filter, refl, sym, ap, ◌∙◌, arith}
use Rattle.std.specs.List.{find, count_by}
use Rattle.std.specs.Option.{option_map, option_or}
use Rattle.std.proofs.lemmas.Bool.{cond-true, cond-false, lt-ltb}
use Rattle.std.proofs.lemmas.List.{drop_more, drop_all, take_more_set, map-append, length-map, length-take, reverse-append}
use Rattle.std.proofs.lemmas.List.Sums.{length-filter}
use Rattle.frames.specs.Fields.{EntryFields}
use Rattle.frames.specs.Views.{entry_fields}
use Rattle.frames.specs.declared.entry.Entry.{Entry}
use Rattle.marks.specs.Kinds.{Header}
use Rattle.protocol.specs.Booking.{entry_at, is_header}
use Rattle.logs.specs.Log.{log_of, entries_of}

-- an entry written into the first place past the used ones
pub log_append : (part : List Entry) (len : ℕ) (e : Entry) → len < length part → log_of (set part len e) (len + 1) ≡ log_of part len ++ entry_fields e ∷ []
log_append part len e within = ap (map entry_fields) (take_more_set part len e within) ∙ map-append entry_fields (take len part) (e ∷ [])

pub appended : (part part' : List Entry) (used used' : ℕ) (e : Entry) → used < length part → part' ≡ cond (ltb used (length part)) (set part used e) part → used' ≡ cond (ltb used (length part)) (used + 1) used → log_of part' used' ≡ log_of part used ++ entry_fields e ∷ []
appended part part' used used' e within wrote counted =
    let room = lt-ltb used (length part) within in
    ap (log_of part') (counted ∙ cond-true _ _ _ room)
    ∙ ap (λ xs. log_of xs (used + 1)) (wrote ∙ cond-true _ _ _ room)
    ∙ log_append part used e within

pub log_length : (part : List Entry) (len : ℕ) → length (log_of part len) ≡ min len (length part)
log_length part len = length-map (take len part) entry_fields ∙ length-take len part

pub log_used : (part : List Entry) (used : ℕ) → used ≤ length part → length (log_of part used) ≡ used
log_used part used fit = omega (arith, log_length part used, fit)

-- the entries that pass, as the places hold them and as the log has them
pub passing : (passes : EntryFields → Bool) (log : List Entry) → map entry_fields (filter (λ (e : Entry). passes (entry_fields e)) log) ≡ filter passes (entries_of log)
passing passes [] = refl
passing passes (x ∷ xs) = step (passes (entry_fields x)) ∙ ap (λ ys. cond (passes (entry_fields x)) (entry_fields x ∷ ys) ys) (passing passes xs)
  where
    rest : List Entry
    rest = filter (λ (e : Entry). passes (entry_fields e)) xs

    step : (b : Bool) → map entry_fields (cond b (x ∷ rest) rest) ≡ cond b (entry_fields x ∷ map entry_fields rest) (map entry_fields rest)
    step true = refl
    step false = refl

pub passing_count : (passes : EntryFields → Bool) (log : List Entry) → count_by (λ (e : Entry). passes (entry_fields e)) log ≡ length (filter passes (entries_of log))
passing_count passes log =
    sym (length-filter (λ (e : Entry). passes (entry_fields e)) log)
    ∙ sym (length-map (filter (λ (e : Entry). passes (entry_fields e)) log) entry_fields)
    ∙ ap length (passing passes log)

-- the entry of a header is the first of the log that has it, from the newest end
module _ (h : Header) where
  abbrev has : Entry → Bool
  has e = is_header e.header h

  find_push : (xs : List Entry) (e : Entry) → option_map entry_fields (find has (xs ++ e ∷ [])) ≡ option_or (option_map entry_fields (find has xs)) (cond (has e) (Some (entry_fields e)) None)
  find_push [] e = step (has e)
    where
      step : (b : Bool) → option_map entry_fields (cond b (Some e) None) ≡ cond b (Some (entry_fields e)) None
      step true = refl
      step false = refl
  find_push (x ∷ xs) e = step (has x) (find_push xs e)
    where
      step : (b : Bool) → option_map entry_fields (find has (xs ++ e ∷ [])) ≡ option_or (option_map entry_fields (find has xs)) (cond (has e) (Some (entry_fields e)) None) → option_map entry_fields (cond b (Some x) (find has (xs ++ e ∷ []))) ≡ option_or (option_map entry_fields (cond b (Some x) (find has xs))) (cond (has e) (Some (entry_fields e)) None)
      step true later = refl
      step false later = later

  pub newest_found : (log : List Entry) → option_map entry_fields (find has (reverse log)) ≡ entry_at h (entries_of log)
  newest_found [] = refl
  newest_found (x ∷ xs) = ap (λ ys. option_map entry_fields (find has ys)) (reverse-append (x ∷ []) xs) ∙ find_push (reverse xs) x ∙ ap (λ o. option_or o (cond (has x) (Some (entry_fields x)) None)) (newest_found xs)

-- what is left of a log behind its first i entries
abbrev pub left_by : (EntryFields → Bool) → ℕ → List Entry → List EntryFields
left_by passes i xs = filter passes (entries_of (drop i xs))

module _ (passes : EntryFields → Bool) (xs : List Entry) (i : ℕ) where
  pub left_none : length xs ≤ i → left_by passes i xs ≡ []
  left_none past = ap (λ ys. filter passes (map entry_fields ys)) (drop_all i xs past)

  module _ (x : Entry) (within : i < length xs) (read : x ≡ get_or xs i x) where
    left_first : drop i xs ≡ x ∷ drop (i + 1) xs
    left_first = drop_more xs i x within ∙ ap (λ y. y ∷ drop (i + 1) xs) (sym read)

    pub left_in : true ≡ passes (entry_fields x) → left_by passes i xs ≡ entry_fields x ∷ left_by passes (i + 1) xs
    left_in test = ap (λ ys. filter passes (map entry_fields ys)) left_first ∙ cond-true _ _ _ (sym test)

    pub left_out : false ≡ passes (entry_fields x) → left_by passes i xs ≡ left_by passes (i + 1) xs
    left_out test = ap (λ ys. filter passes (map entry_fields ys)) left_first ∙ cond-false _ _ _ (sym test)
