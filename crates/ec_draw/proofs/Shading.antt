-- Accepted tries and where they begin, entry by entry.
use Rattle.std.proofs.Common.{◌≡◌, ℕ, zero, suc, ◌<◌, ◌==◌, ◌&&◌, not, Bool, true, false, List, []}
use Rattle.std.proofs.Common.{◌∷◌, ◌++◌, length, Option, Some, None, refl, ap, sym, ◌∙◌, arith}
use Rattle.std.proofs.Common.{cond, subst, reverse, slice_get, slice_index, slice_set}
use Rattle.std.specs.Option.{option_map, option_to_list}
use Rattle.std.specs.List.{filter}
use Rattle.std.proofs.lemmas.Option.{slice_get_within}
use Rattle.std.proofs.lemmas.Bool.{eqb-true, ne_eqb}
use Rattle.ec_count.specs.Tables.{Tables}
use Rattle.ec_core.specs.declared.act.Act.{Act}
use Rattle.ec_core.specs.declared.act.Entry.{Entry}
use Rattle.ec_core.specs.Calls.{is_go}
use Rattle.ec_core.specs.Following.{CompletedCall, block}
use Rattle.ec_core.proofs.shared.Places.{get_set}
use Rattle.ec_database.specs.Shapes.{Database}
use Rattle.ec_database.specs.Following.{is_on, writes, database_rules, FollowsDatabase}
use Rattle.ec_database.specs.Tries.{accepted_tries, ended_at}
use Rattle.ec_database.specs.Auditing.{VersionAuditModel, RepresentsVersions, found_in}
use Rattle.ec_draw.specs.declared.window.Window.{Window}
use Rattle.ec_draw.specs.declared.shade.Span.{Span}
use Rattle.ec_draw.specs.Shades.{ShadeModel, AddsNewest, AreStarts, begins_list, list_start}
use Rattle.ec_draw.specs.Shades.{starts_after, shade, shade_at, shades_in, shades_shown, span_at}
use Rattle.ec_draw.specs.Shades.{group_shades, is_in}
use Rattle.ec_heading.specs.declared.group.Group.TheVariants as groups
use Rattle.ec_draw.specs.Following.{follows}
use Rattle.ec_draw.specs.kept.LeftOut.{concerns_is}
use Rattle.ec_draw.proofs.Filtering.{filter_behind}
use Rattle.ec_draw.proofs.Balancing.{follow_yes}

-- WHERE CALL SEQUENCES BEGIN

begins_is : (t : Tables) (d : Database) (w : ℕ) (calls : List CompletedCall) (n : ℕ) (act : Act)
    → n ≡ length calls
    → begins_list (database_rules t d w) calls act ≡ ((n == 0 && not (is_go act)) && is_on d act)
begins_is t d w [] n act is = ap (λ b. not (is_go act) && b) (concerns_is t d w act)
    ∙ ap (λ m. (m == 0 && not (is_go act)) && is_on d act) (sym is)
begins_is t d w (c ∷ calls) n act is =
    (let off : (n == 0) ≡ false = ne_eqb n 0 (λ e. omega arith) in
    sym (ap (λ b. (b && not (is_go act)) && is_on d act) off))

pub starts_first : (t : Tables) (d : Database) (starts : List ℕ)
    → ((w : ℕ) → w < 16 → slice_get starts w ≡ Some 0) → AreStarts t d starts []
unfolding list_start
starts_first t d starts none w lt = none w lt

pub starts_next : (t : Tables) (d : Database) (x : Entry) (past : List Entry) (n place : ℕ)
    (starts : List ℕ) → x.worker < 16 → place ≡ length past
    → n ≡ length (block (database_rules t d x.worker) x.worker past) → AreStarts t d starts past
    → AreStarts t d (starts_after d n place x starts) (x ∷ past)
unfolding list_start
starts_next t d x past n place starts small at is was w lt =
    set (x.worker == w) refl ((n == 0 && not (is_go x.act)) && is_on d x.act) refl
  where
    Begins : Bool
    Begins = begins_list (database_rules t d w) (block (database_rules t d w) w past) x.act

    own : (x.worker == w) ≡ true → Begins ≡ ((n == 0 && not (is_go x.act)) && is_on d x.act)
    own e =
        (let same : x.worker ≡ w = eqb-true x.worker w e in
        subst (λ v. begins_list (database_rules t d v) (block (database_rules t d v) v past) x.act
        ≡ ((n == 0 && not (is_go x.act)) && is_on d x.act)) same
        (begins_is t d x.worker (block (database_rules t d x.worker) x.worker past) n x.act is))

    low : x.worker < length starts
    low = slice_get_within starts x.worker _ (was x.worker small)

    set : (m : Bool) → (x.worker == w) ≡ m → (b : Bool)
        → ((n == 0 && not (is_go x.act)) && is_on d x.act) ≡ b
        → slice_get (cond b (slice_set starts x.worker place) starts) w
        ≡ Some (cond (m && Begins) (length past) (list_start (database_rules t d w) w past))
    set true e true f =
        get_set starts x.worker w place low ∙ ap (λ c. cond c (Some place) (slice_get starts w)) e
        ∙ ap Some at
        ∙ ap (λ c. Some (cond c (length past) (list_start (database_rules t d w) w past)))
        (sym (own e ∙ f))
    set true e false f = was w lt
        ∙ ap (λ c. Some (cond c (length past) (list_start (database_rules t d w) w past)))
        (sym (own e ∙ f))
    set false e true f = get_set starts x.worker w place low
        ∙ ap (λ c. cond c (Some place) (slice_get starts w)) e ∙ was w lt
    set false e false f = was w lt

pub index_is : (xs : List ℕ) (i x : ℕ) → slice_get xs i ≡ Some x → slice_index xs i ≡ x
index_is [] i x e = cc
index_is (y ∷ ys) zero x e = cc
index_is (y ∷ ys) (suc i) x e = index_is ys i x e

-- SHADES

pub shades_first : (t : Tables) (d : Database) (w : Window) → [] ≡ shades_shown t d w []
unfolding shades_in
shades_first t d w = refl

newest : {X : Type 0} (xs : List X) (o : Option X)
    → slice_get (xs ++ option_to_list o) (length xs) ≡ o
newest [] None = refl
newest [] (Some x) = refl
newest (y ∷ ys) o = newest ys o

counted : (a : VersionAuditModel) (n : ℕ) → Some n ≡ found_in a → (a.out_of_memory ≡ false)
    × (n ≡ length a.list)
counted a n e =
    elim (a.out_of_memory) as (λ b. Some n ≡ cond b None (Some (length a.list))
    → (b ≡ false) × (n ≡ length a.list)) [
      | true ↦ λ f. (cc)
      | false ↦ λ f. (refl, (cc))
    ] e

-- one entry more
pub shades_next : (a b : VersionAuditModel) (w : Window) (x : Entry) (past : List Entry)
    (before : Option ℕ) (span : Span) (hs gs : List ShadeModel)
    → b.shape ≡ a.shape → b.setup ≡ a.setup → RepresentsVersions a past
    → RepresentsVersions b (x ∷ past)
    → before ≡ found_in a → span ≡ span_at b.setup b.shape x past
    → hs ≡ shades_shown b.setup b.shape w past → AddsNewest b.shape.start w span before b hs gs
    → gs ≡ shades_shown b.setup b.shape w (x ∷ past)
unfolding shades_in accepted_tries
shades_next a b w x past None span hs gs same on old new is at was adds = absurd adds
shades_next a b w x past (Some n) span hs gs same on old new is at was adds =
    let t = b.setup in
    let d = b.shape in
    let known = counted a n is in
    let tries : a.list ≡ accepted_tries d (writes t d) past =
    old.list known.0 ∙ ap (λ e. accepted_tries e (writes a.setup e) past) (sym same)
    ∙ ap (λ u. accepted_tries d (writes u d) past) (sym on) in
    let o = ended_at d (writes t d) x past in
    let found : slice_get b.list n ≡ o =
    ap (λ l. slice_get l n) (new.list adds.0)
    ∙ ap (λ m. slice_get (accepted_tries d (writes t d) past ++ option_to_list o) m)
    (known.1 ∙ ap (λ l. length l) tries)
    ∙ newest (accepted_tries d (writes t d) past) o in
    adds.1 ∙ ap (λ r. hs ++ filter (is_in w) (option_to_list (option_map (shade d.start span) r)))
    found
    ∙ ap (λ s. hs ++ filter (is_in w) (option_to_list (option_map (shade d.start s) o))) at
    ∙ ap (λ z. z ++ filter (is_in w) (option_to_list (shade_at t d x past))) was
    ∙ sym (filter_behind (is_in w) (shades_in t d past) (shade_at t d x past))

-- the same for the state of the pass: the call sequence of the entry's worker began where its
-- starts say
pub tries_next : (a b : VersionAuditModel) (d : Database) (w : Window) (x : Entry) (past : List Entry)
    (before : Option ℕ) (count i place : ℕ) (starts : List ℕ) (hs gs : List ShadeModel)
    → x.worker < 16 → i ≡ x.worker → place ≡ length past → a.shape ≡ d → b.shape ≡ a.shape
    → b.setup ≡ a.setup → RepresentsVersions a past → RepresentsVersions b (x ∷ past)
    → before ≡ found_in a
    → AreStarts a.setup d starts past → hs ≡ shades_shown a.setup d w past → count ≡ d.start
    → AddsNewest count w (record { first = slice_index starts i; last = place }) before b hs gs
    → gs ≡ shades_shown b.setup d w (x ∷ past)
tries_next a b d w x past before count i place starts hs gs small who at of same on old new is table
    was named adds =
    let e : b.shape ≡ d = same ∙ of in
    let first : slice_index starts i ≡ list_start (database_rules a.setup d x.worker) x.worker
    past = ap (slice_index starts) who ∙ index_is starts x.worker _ (table x.worker small) in
    let here : span_at a.setup d x past ≡ span_at b.setup b.shape x past =
    ap (λ u. span_at u d x past) (sym on) ∙ ap (λ z. span_at b.setup z x past) (sym e) in
    let span : record { first = slice_index starts i; last = place } ≡ span_at b.setup b.shape x
    past =
    ap (λ f. record { first = f; last = place }) first
    ∙ ap (λ l. record {
      first = list_start (database_rules a.setup d x.worker) x.worker past;
      last = l;
    }) at ∙ here in
    let before_now : hs ≡ shades_shown b.setup b.shape w past = was
    ∙ ap (λ u. shades_shown u d w past) (sym on)
    ∙ ap (λ z. shades_shown b.setup z w past) (sym e) in
    let count_is : count ≡ b.shape.start = named ∙ ap (λ (z : Database). z.start) (sym e) in
    shades_next a b w x past before (record { first = slice_index starts i; last = place }) hs gs
    same on old new is span before_now
    (subst (λ n. AddsNewest n w (record { first = slice_index starts i; last = place }) before b hs
    gs) count_is adds) ∙ ap (λ z. shades_shown b.setup z w (x ∷ past)) e

-- the shades of a database whose workers follow its rules, and of one whose workers don't
pub group_yes : (t : Tables) (d : Database) (w : Window) (h : List Entry) (list : List ShadeModel)
    → FollowsDatabase t d (reverse h) → list ≡ shades_shown t d w (reverse h)
    → list ≡ group_shades t w h (groups.Database d)
group_yes t d w h list f is = is
    ∙ sym (ap (λ c. cond c (shades_shown t d w (reverse h)) [])
    (follow_yes (database_rules t d) (reverse h) f))

pub group_no : (t : Tables) (d : Database) (w : Window) (h : List Entry)
    → false ≡ follows (database_rules t d) (reverse h) → [] ≡ group_shades t w h (groups.Database d)
group_no t d w h off = ap (λ c. cond c (shades_shown t d w (reverse h)) []) off
