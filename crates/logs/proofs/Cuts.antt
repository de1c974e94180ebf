-- Copying what passes to the front of a list, also of the list itself.
use Rattle.std.proofs.Common.{◌≡◌, ℕ, ◌+◌, ◌-◌, ◌<◌, ◌≤◌, min, Bool, true, false, cond, List, [], ◌∷◌, ◌++◌, map, length, get_or, take, drop, set, Some, None, filter, sym, refl, ap, ◌∙◌, subst, append_assoc, arith}
use Rattle.std.proofs.lemmas.Bool.{cond-true, cond-false, le-leb, lt-leb}
use Rattle.std.proofs.lemmas.List.{drop_more, drop_at, drop-drop, take_at, set_at, length_push, length-map, length-append, length-take, take-append-drop, take_all, get_or-append_right, get_or-drop, append-nil}
use Rattle.std.proofs.lemmas.List.Elements.{filter_more, filter-append}
use Rattle.marks.specs.Kinds.{Header}
use Rattle.marks.specs.Order.{header_up_to}
use Rattle.frames.specs.Fields.{EntryFields}
use Rattle.frames.specs.Views.{entry_fields}
use Rattle.frames.specs.declared.entry.Entry.{Entry}
use Rattle.protocol.specs.Taking.{kept_up_to}
use Rattle.logs.specs.Log.{log_of, entries_of, is_up_to, kept_places, overlaid, copied_into, copied_count}
use Rattle.logs.proofs.Logs.{passing}

module _ {A : Type 0} where
  overlay_more : (ks ys : List A) (x : A) → length ks < length ys → set (overlaid ks ys) (length ks) x ≡ overlaid (ks ++ x ∷ []) ys
  overlay_more ks ys x within =
      ap (λ zs. set (ks ++ zs) (length ks) x) (drop_more ys (length ks) x within)
      ∙ set_at ks (get_or ys (length ks) x) (drop (length ks + 1) ys) x (length ks) refl
      ∙ sym (append_assoc ks (x ∷ []) (drop (length ks + 1) ys))
      ∙ ap (λ n. (ks ++ x ∷ []) ++ drop n ys) (sym (length_push ks x))

  overlay_read : (ks ys : List A) (i : ℕ) (d : A) → length ks ≤ i → get_or (overlaid ks ys) i d ≡ get_or ys i d
  overlay_read ks ys i d behind =
      let there : length ks + (i - length ks) ≡ i = omega arith in
      get_or-append_right ks (drop (length ks) ys) (length ks) i d refl behind
      ∙ get_or-drop (length ks) ys (i - length ks) d
      ∙ ap (λ n. get_or ys n d) there

  module _ (passes : A → Bool) where
    -- what passes in the first i of xs stands in the first k places of zs, which are otherwise as in ys
    pub record Copied (xs : List A) (i : ℕ) (ys zs : List A) (k : ℕ) : Type 0 where
      pub count : k ≡ length (filter passes (take i xs))
      pub places : zs ≡ overlaid (filter passes (take i xs)) ys

    pub kept_short : (xs : List A) → length (filter passes xs) ≤ length xs
    kept_short [] = omega arith
    kept_short (x ∷ xs) = step (passes x) (kept_short xs)
      where
        step : (b : Bool) → length (filter passes xs) ≤ length xs → length (cond b (x ∷ filter passes xs) (filter passes xs)) ≤ length (x ∷ xs)
        step true h = omega arith
        step false h = omega arith

    -- as many pass as in the front and behind it
    kept_split : (xs : List A) (i : ℕ) → length (filter passes xs) ≡ length (filter passes (take i xs)) + length (filter passes (drop i xs))
    kept_split xs i =
        ap (λ ys. length (filter passes ys)) (sym (take-append-drop i xs))
        ∙ ap length (filter-append passes (take i xs) (drop i xs))
        ∙ length-append (filter passes (take i xs)) (filter passes (drop i xs))

    module _ (xs : List A) (i : ℕ) (ys zs : List A) (k : ℕ) (so_far : Copied xs i ys zs k) where
      pub copied_behind : k ≤ i
      copied_behind = omega (arith, so_far.count, kept_short (take i xs), length-take i xs)

      module _ (x : A) (within : i < length xs) (read : x ≡ get_or xs i x) where
        kept_in : true ≡ passes x → filter passes (take (i + 1) xs) ≡ filter passes (take i xs) ++ x ∷ []
        kept_in test =
            filter_more passes xs i x within
            ∙ ap (λ y. filter passes (take i xs) ++ cond (passes y) (y ∷ []) []) (sym read)
            ∙ ap (λ zs. filter passes (take i xs) ++ zs) (cond-true _ _ _ (sym test))

        kept_out : false ≡ passes x → filter passes (take (i + 1) xs) ≡ filter passes (take i xs)
        kept_out test =
            filter_more passes xs i x within
            ∙ ap (λ y. filter passes (take i xs) ++ cond (passes y) (y ∷ []) []) (sym read)
            ∙ ap (λ zs. filter passes (take i xs) ++ zs) (cond-false _ _ _ (sym test))
            ∙ append-nil (filter passes (take i xs))

        pub copied_room : true ≡ passes x → k < length (filter passes xs)
        copied_room test =
            omega (arith, so_far.count, kept_split xs (i + 1), ap length (kept_in test), length_push (filter passes (take i xs)) x)

        module _ (zs' : List A) (k' : ℕ) where
          pub copied_in : true ≡ passes x → k < length ys → zs' ≡ set zs k x → k' ≡ k + 1 → Copied xs (i + 1) ys zs' k'
          copied_in test fits wrote counted = record {
            count = counted ∙ ap (λ n. n + 1) so_far.count ∙ sym (ap length (kept_in test) ∙ length_push (filter passes (take i xs)) x);
            places =
                wrote
                ∙ ap (λ zs. set zs k x) so_far.places
                ∙ ap (λ n. set (overlaid (filter passes (take i xs)) ys) n x) so_far.count
                ∙ overlay_more (filter passes (take i xs)) ys x (subst (λ n. n < length ys) so_far.count fits)
                ∙ ap (λ ks. overlaid ks ys) (sym (kept_in test));
          }

          pub copied_out : false ≡ passes x → zs' ≡ zs → k' ≡ k → Copied xs (i + 1) ys zs' k'
          copied_out test wrote counted = record {
            count = counted ∙ so_far.count ∙ sym (ap length (kept_out test));
            places = wrote ∙ so_far.places ∙ ap (λ ks. overlaid ks ys) (sym (kept_out test));
          }

      pub copied_all : length xs ≤ i → (k ≡ length (filter passes xs)) × (zs ≡ overlaid (filter passes xs) ys)
      copied_all past =
          let whole = take_all i xs past in
          (so_far.count ∙ ap (λ ks. length (filter passes ks)) whole, so_far.places ∙ ap (λ ks. overlaid (filter passes ks) ys) whole)

      -- the place that is read next is as it was
      pub copied_ahead : (x : A) → x ≡ get_or zs i x → x ≡ get_or ys i x
      copied_ahead x read =
          read
          ∙ ap (λ zs. get_or zs i x) so_far.places
          ∙ overlay_read (filter passes (take i xs)) ys i x (subst (λ n. n ≤ i) so_far.count copied_behind)

-- the places that are kept hold the log that is kept
pub places_log : (base : Header) (log : List Entry) → map entry_fields (kept_places base log) ≡ kept_up_to base (entries_of log)
places_log base log = passing (λ (f : EntryFields). header_up_to f.header base) log

pub places_count : (base : Header) (log : List Entry) → length (kept_places base log) ≡ length (kept_up_to base (entries_of log))
places_count base log = sym (length-map (kept_places base log) entry_fields) ∙ ap length (places_log base log)

-- a list over the front of a buffer is read back from it
pub overlaid_log : (xs ys : List Entry) → log_of (overlaid xs ys) (length xs) ≡ map entry_fields xs
overlaid_log xs ys = ap (map entry_fields) (take_at xs (drop (length xs) ys) (length xs) refl)

-- the end of a cut in place, where n places are used
module _ (base : Header) (part : List Entry) (used n : ℕ) (zs : List Entry) (k : ℕ) (end : n ≡ used) (so_far : Copied (is_up_to base) part n part zs k) where
  abbrev held : List Entry
  held = kept_places base (take used part)

  cut_used : k ≡ length held
  cut_used = so_far.count ∙ ap (λ m. length (kept_places base (take m part))) end

  pub cut_places : zs ≡ overlaid held part
  cut_places = so_far.places ∙ ap (λ m. overlaid (kept_places base (take m part)) part) end

  pub cut_count : k ≡ length (kept_up_to base (log_of part used))
  cut_count = cut_used ∙ places_count base (take used part)

  pub cut_log : log_of zs k ≡ kept_up_to base (log_of part used)
  cut_log = ap (log_of zs) cut_used ∙ ap (λ ys. log_of ys (length held)) cut_places ∙ overlaid_log held part ∙ places_log base (take used part)

module _ (base : Header) (log out : List Entry) (wanted : ℕ) (counted : wanted ≡ length (kept_up_to base (entries_of log))) where
  pub copy_refused : length out < wanted → (None ≡ copied_count (length (kept_up_to base (entries_of log))) (length out)) × (out ≡ copied_into (kept_places base log) out)
  copy_refused short = (
    sym (cond-false _ _ _ (lt-leb _ _ (subst (λ n. length out < n) counted short))),
    sym (cond-false _ _ _ (lt-leb _ _ (subst (λ n. length out < n) (counted ∙ sym (places_count base log)) short))),
  )

  pub copy_done : (i : ℕ) (zs : List Entry) (k : ℕ) → length log ≤ i → wanted ≤ length out → Copied (is_up_to base) log i out zs k → (Some wanted ≡ copied_count (length (kept_up_to base (entries_of log))) (length out)) × (zs ≡ copied_into (kept_places base log) out)
  copy_done i zs k past fits so_far = (
    ap Some counted ∙ sym (cond-true _ _ _ (le-leb _ _ (subst (λ n. n ≤ length out) counted fits))),
    (copied_all (is_up_to base) log i out zs k so_far past).1
        ∙ sym (cond-true _ _ _ (le-leb _ _ (subst (λ n. n ≤ length out) (counted ∙ sym (places_count base log)) fits))),
  )

  -- a place is left for each that passes
  pub copy_room : (i : ℕ) (zs : List Entry) (k : ℕ) → wanted ≤ length out → Copied (is_up_to base) log i out zs k → (x : Entry) → i < length log → x ≡ get_or log i x → true ≡ is_up_to base x → k < length out
  copy_room i zs k fits so_far x within read test =
      omega (arith, copied_room (is_up_to base) log i out zs k so_far x within read test, places_count base log, counted)

-- places past those that are kept stay
pub overlaid_rest : {A : Type 0} (xs ys : List A) (n : ℕ) → length xs ≤ n → drop n (overlaid xs ys) ≡ drop n ys
overlaid_rest xs ys n past =
    let back : n ≡ length xs + (n - length xs) = omega arith in
    ap (λ k. drop k (overlaid xs ys)) back
    ∙ sym (drop-drop (n - length xs) (length xs) (overlaid xs ys))
    ∙ ap (drop (n - length xs)) (drop_at xs (drop (length xs) ys) (length xs) refl)
    ∙ drop-drop (n - length xs) (length xs) ys
    ∙ ap (λ k. drop k ys) (sym back)

pub kept_at_most : (base : Header) (part : List Entry) (len : ℕ) → length (kept_up_to base (log_of part len)) ≤ min len (length part)
kept_at_most base part len = omega (arith, places_count base (take len part), kept_short (is_up_to base) (take len part), length-take len part)
