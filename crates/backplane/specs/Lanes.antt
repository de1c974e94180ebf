-- The lanes of a backplane, and what each call answers and leaves, over the lists of waiting frames.
use Rattle.std.specs.Prelude.{ℕ, ◌+◌, Bool, cond, not, ◌&&◌, ◌||◌, List, [], ◌∷◌, ◌++◌, length, drop, Ok, Err, Result, ◌==◌, nat_le, nat_lt}
use Rattle.std.specs.Option.{ok_or}
use Rattle.std.specs.List.{slice_get}
use Rattle.frames.specs.declared.frame.Frame.{Frame}
use Rattle.backplane.specs.declared.fault.LaneFault.{LaneFault}
use Rattle.backplane.specs.declared.fault.LaneFault.TheVariants.{NoSuchLane, Full, NothingThere}

-- what waits from a card, to a card, in a lane
abbrev pub LanesOf : Type 0 → Type 0
LanesOf A = ℕ → ℕ → ℕ → List A

abbrev pub Lanes : Type 0
Lanes = LanesOf Frame

abbrev pub is_card : ℕ → ℕ → Bool
is_card n c = nat_le 1 c && nat_le c n

abbrev pub is_lane_number : ℕ → Bool
is_lane_number l = l == 0 || (l == 4 || (l == 5 || l == 6))

-- of n cards: two different ones, and a lane number
abbrev pub is_lane : ℕ → ℕ → ℕ → ℕ → Bool
is_lane n f t l = is_card n f && (is_card n t && (not (f == t) && is_lane_number l))

abbrev pub same_lane : ℕ → ℕ → ℕ → ℕ → ℕ → ℕ → Bool
same_lane f t l f' t' l' = f' == f && (t' == t && l' == l)

-- one lane at another list, and every other as it was
abbrev pub with_lane : {A : Type 0} → LanesOf A → ℕ → ℕ → ℕ → List A → LanesOf A
with_lane L f t l xs f' t' l' = cond (same_lane f t l f' t' l') xs (L f' t' l')

-- nothing waits anywhere
abbrev pub empty_lanes : {A : Type 0} → LanesOf A
empty_lanes f t l = []

abbrev pub waiting_out : {A : Type 0} → ℕ → LanesOf A → ℕ → ℕ → ℕ → Result ℕ LaneFault
waiting_out n L f t l = cond (is_lane n f t l) (Ok (length (L f t l))) (Err NoSuchLane)

abbrev pub frame_out : {A : Type 0} → ℕ → LanesOf A → ℕ → ℕ → ℕ → ℕ → Result A LaneFault
frame_out n L f t l p = cond (is_lane n f t l) (ok_or (slice_get (L f t l) p) NothingThere) (Err NoSuchLane)

-- c is the capacity
abbrev pub send_out : {A : Type 0} → ℕ → ℕ → LanesOf A → ℕ → ℕ → ℕ → Result (Unit {0}) LaneFault
send_out n c L f t l = cond (is_lane n f t l) (cond (nat_le c (length (L f t l))) (Err Full) (Ok tt)) (Err NoSuchLane)

abbrev pub send_lanes : {A : Type 0} → ℕ → ℕ → LanesOf A → ℕ → ℕ → ℕ → A → LanesOf A
send_lanes n c L f t l x = cond (is_lane n f t l && nat_lt (length (L f t l)) c) (with_lane L f t l (L f t l ++ x ∷ [])) L

abbrev pub drop_out : {A : Type 0} → ℕ → LanesOf A → ℕ → ℕ → ℕ → ℕ → Result (Unit {0}) LaneFault
drop_out n L f t l k = cond (is_lane n f t l) (cond (nat_lt (length (L f t l)) k) (Err NothingThere) (Ok tt)) (Err NoSuchLane)

abbrev pub drop_lanes : {A : Type 0} → ℕ → LanesOf A → ℕ → ℕ → ℕ → ℕ → LanesOf A
drop_lanes n L f t l k = cond (is_lane n f t l && nat_le k (length (L f t l))) (with_lane L f t l (drop k (L f t l))) L

-- whether k more frames fit where some wait
abbrev pub room_out : ℕ → ℕ → ℕ → ℕ → ℕ → ℕ → ℕ → Result (Unit {0}) LaneFault
room_out n c f t l waiting k = cond (is_lane n f t l) (cond (nat_lt c (waiting + k)) (Err Full) (Ok tt)) (Err NoSuchLane)

-- several frames enter, or none
abbrev pub send_all_out : ℕ → ℕ → Lanes → ℕ → ℕ → ℕ → List Frame → Result (Unit {0}) LaneFault
send_all_out n c L f t l xs = room_out n c f t l (length (L f t l)) (length xs)

abbrev pub send_all_lanes : ℕ → ℕ → Lanes → ℕ → ℕ → ℕ → List Frame → Lanes
send_all_lanes n c L f t l xs = cond (is_lane n f t l && nat_le (length (L f t l) + length xs) c) (with_lane L f t l (L f t l ++ xs)) L
