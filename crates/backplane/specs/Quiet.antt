-- Whether nothing waits, lane by lane.
use Rattle.std.specs.Prelude.{ℕ, ◌+◌, Bool, length, ◌==◌, [], ◌∷◌}
use Rattle.std.specs.List.{list_all, range_with_len}
use Rattle.backplane.specs.Lanes.{LanesOf}

module _ {A : Type 0} (L : LanesOf A) where
  abbrev pub lane_quiet : ℕ → ℕ → ℕ → Bool
  lane_quiet f t l = length (L f t l) == 0

  abbrev pub pair_quiet : ℕ → ℕ → Bool
  pair_quiet f t = list_all (lane_quiet f t) (0 ∷ 4 ∷ 5 ∷ 6 ∷ [])

  -- of the lanes between n cards
  abbrev pub card_quiet : ℕ → ℕ → Bool
  card_quiet n f = list_all (λ k. pair_quiet f (k + 1)) (range_with_len 0 n)

  abbrev pub all_quiet : ℕ → Bool
  all_quiet n = list_all (λ k. card_quiet n (k + 1)) (range_with_len 0 n)
