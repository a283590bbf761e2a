-- What balances, shades and arrows are, over the history in its natural order.
use Rattle.std.proofs.Common.{◌≡◌, ◌⊎◌, ℕ, zero, suc, ◌+◌, ◌-◌, ◌<◌, ◌≤◌, ◌&&◌, Bool, true, false}
use Rattle.std.proofs.Common.{List, [], ◌∷◌, ◌++◌, length, map, take, Option, Some, None, refl, ap}
use Rattle.std.proofs.Common.{sym, ◌∙◌, arith, cond, subst, reverse, slice_get, unwrap_or, nat_le}
use Rattle.std.proofs.Common.{count_by, is_some, inl, inr, pos, ◌≤ℤ◌, ◌-ℤ◌}
use Rattle.std.specs.Option.{option_map, option_to_list}
use Rattle.std.proofs.Math.Seq.{take-length}
use Rattle.std.proofs.lemmas.Bool.{le-leb}
use Rattle.std.proofs.lemmas.Int.{ints}
use Rattle.std.proofs.lemmas.List.{length-append, length-map}
use Rattle.std.proofs.lemmas.List.Sums.{sum_by_push}
use Rattle.std.proofs.lemmas.Option.{slice_get_within}
use Rattle.ec_count.specs.Tables.{Tables}
use Rattle.ec_count.proofs.shared.Keeping.{still_there}
use Rattle.ec_core.specs.declared.act.Entry.{Entry}
use Rattle.ec_core.specs.Counts.{past_at}
use Rattle.ec_core.proofs.shared.Joining.{get_back}
use Rattle.ec_core.proofs.shared.Moments.{past_next, past_end}
use Rattle.ec_buffer.specs.declared.delivery.Delivery.{Delivery}
use Rattle.ec_buffer.specs.Shapes.{Buffer}
use Rattle.ec_buffer.specs.Collecting.{collected}
use Rattle.ec_buffer.specs.Items.{PutsItem, GetsItem, IsDelivery}
use Rattle.ec_buffer.specs.Laws.{IsFollowed}
use Rattle.ec_buffer.proofs.Gathering.{gathered}
use Rattle.ec_buffer.proofs.InTime.{puts_go, gets_go}
use Rattle.ec_database.specs.Shapes.{Database}
use Rattle.ec_database.specs.Following.{writes}
use Rattle.ec_database.specs.Tries.{AcceptedTry, EndsTry, accepted_tries, ended_at, tries_before}
use Rattle.ec_semaphore.specs.Shapes.{Semaphore}
use Rattle.ec_semaphore.specs.Balances.{downs, ups}
use Rattle.ec_semaphore.proofs.Moments.{never_negative}
use Rattle.ec_draw.specs.declared.window.Window.{Window}
use Rattle.ec_draw.specs.declared.arrow.Move.{Move}
use Rattle.ec_draw.specs.declared.arrow.Move.TheVariants as moves
use Rattle.ec_draw.specs.Balances.{units_left_after, units_left_at_moments, list_if_moment}
use Rattle.ec_draw.specs.kept.LeftOut.{told_long}
use Rattle.ec_draw.specs.Shades.{ShadeModel, shade, shade_at, shades_in, span_at}
use Rattle.ec_draw.specs.Arrows.{arrow_of, is_move, move_position, places}
use Rattle.ec_draw.specs.Laws.{BalanceCurvesAreUnitsLeft, UnitsLeftAreBalances, ShadesEndTries}
use Rattle.ec_draw.specs.Laws.{TriesHaveShades, ArrowsAreDeliveries, IsArrow}
use Rattle.ec_draw.proofs.Stepping.{long_past}
use Rattle.ec_draw.proofs.WalkLemmas.{taken}

-- LISTS

pub get_either : {X : Type 0} (xs : List X) (o : Option X) (i : ℕ) (x : X)
    → slice_get (xs ++ option_to_list o) i ≡ Some x → (slice_get xs i ≡ Some x) ⊎ (o ≡ Some x)
get_either [] None i x h = cc
get_either [] (Some y) zero x h = inr h
get_either [] (Some y) (suc i) x h = cc
get_either (y ∷ xs) o zero x h = inl h
get_either (y ∷ xs) o (suc i) x h = get_either xs o i x h

get_mapped : {X Y : Type 0} (f : X → Y) (xs : List X) (i : ℕ) (y : Y)
    → slice_get (map f xs) i ≡ Some y → (x : X) × (slice_get xs i ≡ Some x) × (f x ≡ y)
get_mapped f [] i y h = cc
get_mapped f (x ∷ xs) zero y h = (x, refl, (cc))
get_mapped f (x ∷ xs) (suc i) y h = get_mapped f xs i y h

some_at : (h : List Entry) (m : ℕ) → m < length h → (x : Entry) × (slice_get h m ≡ Some x)
some_at [] m lt = absurd (omega arith)
some_at (x ∷ h) zero lt = (x, refl)
some_at (x ∷ h) (suc m) lt = some_at h m (omega arith)

pub split_last : (k m : ℕ) → k ≤ suc m → (k ≤ m) ⊎ (k ≡ suc m)
split_last zero m le = inl (omega arith)
split_last (suc k) zero le = inr (omega arith)
split_last (suc k) (suc m) le =
    elim (split_last k m (omega arith)) [
      | inl less ↦ inl (omega arith)
      | inr same ↦
          inr (ap suc same)
    ]

-- BALANCES

less : (a d : ℕ) → pos 0 ≤ℤ (pos a -ℤ pos d) → pos (a - d) ≡ pos a -ℤ pos d
less a d low = (let few : d ≤ a = omega (arith, ints) in omega (arith, ints))

pub lefts_are_balances : UnitsLeftAreBalances
lefts_are_balances s t k h dec acc f =
    less (s.initial + ups s (past_at k h)) (downs s (past_at k h))
    (never_negative s t k h dec acc f)

lefts_step : (s : Semaphore) (w : Window) (h : List Entry) (m : ℕ) (x : Entry)
    → slice_get h m ≡ Some x
    → units_left_at_moments s w (past_at (suc m) h) ≡ units_left_at_moments s w (past_at m h)
    ++ list_if_moment w (m + 1) (units_left_after s (past_at (suc m) h))
unfolding units_left_at_moments
lefts_step s w h m x at =
    let p = past_at m h in
    let next : past_at (suc m) h ≡ x ∷ p = past_next h m x at in
    ap (units_left_at_moments s w) next
    ∙ ap (λ n. units_left_at_moments s w p
    ++ list_if_moment w (n + 1) (units_left_after s (x ∷ p))) (long_past h m x at)
    ∙ ap (λ q. units_left_at_moments s w p
    ++ list_if_moment w (m + 1) (units_left_after s q)) (sym next)

lefts_none : (s : Semaphore) (w : Window) (h : List Entry)
    → units_left_at_moments s w (past_at 0 h)
    ≡ list_if_moment w 0 (units_left_after s (past_at 0 h))
unfolding units_left_at_moments
lefts_none s w h = refl

told_yes : (w : Window) (k n : ℕ) → w.from ≤ k → k ≤ w.to → list_if_moment w k n ≡ n ∷ []
told_yes w k n low high = ap (λ b. cond (b && nat_le k w.to) (n ∷ []) []) (le-leb w.from k low)
    ∙ ap (λ c. cond c (n ∷ []) []) (le-leb k w.to high)

lefts_long : (s : Semaphore) (w : Window) (h : List Entry) (m : ℕ) → m ≤ length h → m ≤ w.to
    → length (units_left_at_moments s w (past_at m h)) ≡ m + 1 - w.from
lefts_long s w h zero le high =
    let none = ap length (lefts_none s w h) in
    let returned = told_long w 0 (units_left_after s (past_at 0 h)) high in
    omega arith
lefts_long s w h (suc m) le high =
    let x = some_at h m (omega arith) in
    let n = units_left_after s (past_at (suc m) h) in
    let was = lefts_long s w h m (omega arith) (omega arith) in
    let returned : length (list_if_moment w (m + 1) n) + (m + 1 - w.from) ≡ m + 1 + 1 - w.from =
    told_long w (m + 1) n (omega arith) in
    let all = ap length (lefts_step s w h m x.0 x.1)
    ∙ length-append (units_left_at_moments s w (past_at m h)) (list_if_moment w (m + 1) n) in
    omega arith

lefts_at : (s : Semaphore) (w : Window) (h : List Entry) (m k : ℕ) → m ≤ length h → k ≤ m
    → w.from ≤ k → k ≤ w.to
    → slice_get (units_left_at_moments s w (past_at m h)) (k - w.from)
    ≡ Some (units_left_after s (past_at k h))
lefts_at s w h zero k le in' low high =
    let n = units_left_after s (past_at 0 h) in
    let at : k ≡ 0 = omega arith in
    let first : k - w.from ≡ 0 = omega arith in
    ap (λ l. slice_get l (k - w.from)) (lefts_none s w h
    ∙ told_yes w 0 n (omega arith) (omega arith)) ∙ ap (slice_get (n ∷ [])) first
    ∙ ap (λ j. Some (units_left_after s (past_at j h))) (sym at)
lefts_at s w h (suc m) k le in' low high =
    let x = some_at h m (omega arith) in
    let n = units_left_after s (past_at (suc m) h) in
    let step = lefts_step s w h m x.0 x.1 in
    elim (split_last k m in') [
      | inl before ↦ ap (λ l. slice_get l (k - w.from)) step
          ∙ still_there (units_left_at_moments s w (past_at m h)) (list_if_moment w (m + 1) n) (k - w.from)
          (units_left_after s (past_at k h)) (lefts_at s w h m k (omega arith) before low high)
      | inr last ↦
          (let long = lefts_long s w h m (omega arith) (omega arith) in
          let place : k - w.from ≡ length (units_left_at_moments s w (past_at m h)) + 0 =
          omega arith in
          ap (λ l. slice_get l (k - w.from)) step
          ∙ get_back (units_left_at_moments s w (past_at m h)) (list_if_moment w (m + 1) n) (k - w.from) 0 place
          ∙ ap (λ l. slice_get l 0) (told_yes w (m + 1) n (omega arith) (omega arith))
          ∙ ap (λ j. Some (units_left_after s (past_at j h))) (sym last))
    ]

pub curves_are_lefts : BalanceCurvesAreUnitsLeft
curves_are_lefts s w h j high in' =
    let place : w.from + j - w.from ≡ j = omega arith in
    ap (λ p. slice_get (units_left_at_moments s w (reverse p)) j) (sym (take-length h))
    ∙ ap (slice_get (units_left_at_moments s w (past_at (length h) h))) (sym place)
    ∙ lefts_at s w h (length h) (w.from + j) (omega arith) in' (omega arith) high

-- SHADES

-- the try of a shade
pub shade_of : (count : ℕ) (t : Tables) (d : Database) (x : Entry) (past : List Entry)
    (o : Option AcceptedTry) (s : ShadeModel)
    → option_map (shade count (span_at t d x past)) o ≡ Some s
    → (a : AcceptedTry) × (o ≡ Some a) × (shade count (span_at t d x past) a ≡ s)
shade_of count t d x past None s e = cc
shade_of count t d x past (Some a) s e = (a, refl, (cc))

shade_ends : (t : Tables) (d : Database) (h : List Entry) (m i : ℕ) (s : ShadeModel)
    → slice_get (shades_in t d (past_at m h)) i ≡ Some s → EndsTry t d h s.span.last s.accepted
unfolding shades_in
shade_ends t d h zero i s e = cc
shade_ends t d h (suc m) i s e =
    elim (slice_get h m) as (λ o. slice_get h m ≡ o → EndsTry t d h s.span.last s.accepted) [
      | None ↦ λ at. shade_ends t d h m i s
          (ap (λ p. slice_get (shades_in t d p) i) (sym (past_end h m at)) ∙ e)
      | Some x ↦ λ at.
          (let p = past_at m h in
          elim (get_either (shades_in t d p) (shade_at t d x p) i s
          (ap (λ q. slice_get (shades_in t d q) i) (sym (past_next h m x at)) ∙ e)) [
            | inl early ↦ shade_ends t d h m i s early
            | inr last ↦
                (let r = shade_of d.start t d x p (ended_at d (writes t d) x p) s last in
                let here : EndsTry t d h m r.0 = record { entry = x; is = at; ends = r.1 } in
                subst (λ (z : ShadeModel). EndsTry t d h z.span.last z.accepted) r.2
                (subst (λ n. EndsTry t d h n r.0) (sym (long_past h m x at)) here))
          ])
    ] refl

pub shades_end : ShadesEndTries
shades_end t d h i s e =
    shade_ends t d h (length h) i s
    (ap (λ p. slice_get (shades_in t d (reverse p)) i) (take-length h) ∙ e)

options_long : {X Y : Type 0} (f : X → Y) (o : Option X)
    → length (option_to_list (option_map f o)) ≡ length (option_to_list o)
options_long f None = refl
options_long f (Some x) = refl

-- there are as many shades as accepted tries
shades_long : (t : Tables) (d : Database) (past : List Entry)
    → length (shades_in t d past) ≡ length (accepted_tries d (writes t d) past)
unfolding shades_in accepted_tries
shades_long t d [] = refl
shades_long t d (x ∷ past) =
    let was = shades_long t d past in
    let one = options_long (shade d.start (span_at t d x past)) (ended_at d (writes t d) x past) in
    length-append (shades_in t d past) (option_to_list (shade_at t d x past))
    ∙ ap (λ n. n + length (option_to_list (shade_at t d x past))) was
    ∙ ap (λ n. length (accepted_tries d (writes t d) past) + n) one
    ∙ sym (length-append (accepted_tries d (writes t d) past)
    (option_to_list (ended_at d (writes t d) x past)))

-- a shade of an earlier moment has the same index at a later one
shade_stays : (t : Tables) (d : Database) (h : List Entry) (k m i : ℕ) (s : ShadeModel)
    → slice_get (shades_in t d (past_at k h)) i ≡ Some s → k ≤ m
    → slice_get (shades_in t d (past_at m h)) i ≡ Some s
unfolding shades_in
shade_stays t d h k zero i s e le =
    (let same : k ≡ 0 = omega arith in
    ap (λ n. slice_get (shades_in t d (past_at n h)) i) (sym same) ∙ e)
shade_stays t d h k (suc m) i s e le =
    elim (split_last k m le) [
      | inl before ↦
          elim (slice_get h m) as (λ o. slice_get h m ≡ o
          → slice_get (shades_in t d (past_at (suc m) h)) i ≡ Some s) [
            | None ↦ λ at. ap (λ p. slice_get (shades_in t d p) i) (past_end h m at)
                ∙ shade_stays t d h k m i s e before
            | Some x ↦ λ at.
                ap (λ p. slice_get (shades_in t d p) i) (past_next h m x at)
                ∙ still_there (shades_in t d (past_at m h))
                (option_to_list (shade_at t d x (past_at m h))) i s
                (shade_stays t d h k m i s e before)
          ] refl
      | inr last ↦ ap (λ n. slice_get (shades_in t d (past_at n h)) i) (sym last) ∙ e
    ]

pub tries_have_shades : TriesHaveShades
unfolding shades_in
tries_have_shades t d h k a ends =
    let p = past_at k h in
    let s : ShadeModel = shade d.start (span_at t d ends.entry p) a in
    let i = tries_before t d h k in
    let long = shades_long t d p in
    let place : i ≡ length (shades_in t d p) + 0 = omega arith in
    let here : shade_at t d ends.entry p ≡ Some s =
    ap (option_map (shade d.start (span_at t d ends.entry p))) ends.ends in
    let next : slice_get (shades_in t d (past_at (suc k) h)) i ≡ Some s =
    ap (λ q. slice_get (shades_in t d q) i) (past_next h k ends.entry ends.is)
    ∙ get_back (shades_in t d p) (option_to_list (shade_at t d ends.entry p)) i 0 place
    ∙ ap (λ o. slice_get (option_to_list o) 0) here in
    let within : k < length h = slice_get_within h k ends.entry ends.is in (
      s,
      ap (λ q. slice_get (shades_in t d (reverse q)) i) (sym (take-length h))
          ∙ shade_stays t d h (suc k) (length h) i s next (omega arith),
      long_past h k ends.entry ends.is,
      refl,
    )

-- ARROWS

abbrev made : Move → Buffer → List Entry → ℕ → ℕ
made m b h k = count_by (λ (x : Entry). is_move m b x.act) (take k h)

made_next : (m : Move) (b : Buffer) (h : List Entry) (k : ℕ) (x : Entry) → slice_get h k ≡ Some x
    → made m b h (suc k) ≡ made m b h k + cond (is_move m b x.act) 1 0
made_next m b h k x at = ap (count_by (λ (y : Entry). is_move m b y.act)) (taken h k x at)
    ∙ sum_by_push (λ (y : Entry). cond (is_move m b y.act) 1 0) (take k h) x

places_step : (m : Move) (b : Buffer) (h : List Entry) (k : ℕ) (x : Entry) → slice_get h k ≡ Some x
    → places m b (past_at (suc k) h) ≡ places m b (past_at k h) ++ cond (is_move m b x.act) (k ∷ [])
    []
unfolding places
places_step m b h k x at = ap (places m b) (past_next h k x at)
    ∙ ap (λ n. places m b (past_at k h) ++ cond (is_move m b x.act) (n ∷ []) [])
    (long_past h k x at)

places_none : (m : Move) (b : Buffer) (h : List Entry) → places m b (past_at 0 h) ≡ []
unfolding places
places_none m b h = refl

one_or_none : (c : Bool) (k : ℕ) → length (cond c (k ∷ []) []) ≡ cond c 1 0
one_or_none true k = refl
one_or_none false k = refl

places_long : (m : Move) (b : Buffer) (h : List Entry) (k : ℕ) → k ≤ length h
    → length (places m b (past_at k h)) ≡ made m b h k
places_long m b h zero le = ap length (places_none m b h)
places_long m b h (suc k) le =
    let x = some_at h k (omega arith) in
    let c = is_move m b x.0.act in
    ap length (places_step m b h k x.0 x.1)
    ∙ length-append (places m b (past_at k h)) (cond c (k ∷ []) [])
    ∙ ap (λ n. n + length (cond c (k ∷ []) [])) (places_long m b h k (omega arith))
    ∙ ap (λ n. made m b h k + n) (one_or_none c k) ∙ sym (made_next m b h k x.0 x.1)

-- the position of entry j, which is such a move, is at the index that its number is
place_at : (m : Move) (b : Buffer) (h : List Entry) (k j : ℕ) (x : Entry) → k ≤ length h → j < k
    → slice_get h j ≡ Some x → is_move m b x.act ≡ true
    → slice_get (places m b (past_at k h)) (made m b h j) ≡ Some j
place_at m b h zero j x le lt at moves = absurd (omega arith)
place_at m b h (suc k) j x le lt at moves =
    let y = some_at h k (omega arith) in
    let step = places_step m b h k y.0 y.1 in
    elim (split_last (suc j) k lt) [
      | inl before ↦ ap (λ l. slice_get l (made m b h j)) step
          ∙ still_there (places m b (past_at k h)) (cond (is_move m b y.0.act) (k ∷ []) [])
          (made m b h j) j (place_at m b h k j x (omega arith) before at moves)
      | inr last ↦
          (let here : j ≡ k = omega arith in
          let same : Some x ≡ Some y.0 = sym at ∙ ap (slice_get h) here ∙ y.1 in
          let is : x ≡ y.0 = cc in
          let own : is_move m b y.0.act ≡ true = ap (λ (z : Entry). is_move m b z.act) (sym is)
          ∙ moves in
          let long = places_long m b h k (omega arith) in
          let place : made m b h j ≡ length (places m b (past_at k h)) + 0 =
          (let e : made m b h j ≡ made m b h k = ap (made m b h) here in omega arith) in
          ap (λ l. slice_get l (made m b h j)) step
          ∙ get_back (places m b (past_at k h)) (cond (is_move m b y.0.act) (k ∷ []) [])
          (made m b h j) 0 place
          ∙ ap (λ c. slice_get (cond c (k ∷ []) []) 0) own ∙ ap Some (sym here))
    ]

number_at : (m : Move) (b : Buffer) (h : List Entry) (j n : ℕ) (x : Entry) → slice_get h j ≡ Some x
    → is_move m b x.act ≡ true → made m b h j ≡ n → move_position (places m b (reverse h)) n ≡ j
number_at m b h j n x at moves is =
    ap (λ o. unwrap_or o 0) (ap (λ p. slice_get (places m b (reverse p)) n) (sym (take-length h))
    ∙ ap (slice_get (places m b (past_at (length h) h))) (sym is)
    ∙ place_at m b h (length h) j x (omega arith) (slice_get_within h j x at) at moves)

is_some_of : (o : Option ℕ) (v : ℕ) → o ≡ Some v → is_some o ≡ true
is_some_of o v e = ap is_some e

arrow_at : (t : Tables) (b : Buffer) (h : List Entry) (n : ℕ) (d : Delivery) → IsFollowed t b h
    → IsDelivery t b h n d
    → IsArrow t b h n
    (arrow_of b (places moves.Put b (reverse h)) (places moves.Get b (reverse h)) d)
arrow_at t b h n d f is =
    let j = is.produced.0 in
    let put = is.produced.1 in
    let k = is.delivered.0 in
    let get = is.delivered.1 in
    let puts : move_position (places moves.Put b (reverse h)) d.number ≡ j =
    ap (move_position (places moves.Put b (reverse h))) is.number
    ∙ number_at moves.Put b h j n put.entry put.is (is_some_of _ d.item put.puts)
    (puts_go t b h f j n d.producer d.item put) in
    let gets : move_position (places moves.Get b (reverse h)) d.number ≡ k =
    ap (move_position (places moves.Get b (reverse h))) is.number
    ∙ number_at moves.Get b h k n get.entry get.is get.gets
    (gets_go t b h f k n d.consumer d.item get) in
    record {
      number = is.number;
      puts = subst (λ i. PutsItem t b h i n d.producer d.item) (sym puts) put;
      gets = subst (λ i. GetsItem t b h i n d.consumer d.item) (sym gets) get;
    }

pub arrows_deliver : ArrowsAreDeliveries
arrows_deliver t b h f =
    let are = gathered t b h f in
    let arrow = arrow_of b (places moves.Put b (reverse h)) (places moves.Get b (reverse h)) in
    record {
      each_get = length-map (collected b (reverse h)) arrow ∙ are.each_get;
      numbered = λ n a e.
          (let r = get_mapped arrow (collected b (reverse h)) n a e in
          subst (IsArrow t b h n) r.2 (arrow_at t b h n r.0 f (are.numbered n r.0 r.1)));
    }
