-- The list of the buffers with one producer and one consumer.
use Rattle.std.proofs.Common.{◌≡◌, ℕ, ◌+◌, ◌-◌, ◌<◌, ◌≤◌, ◌==◌, ◌&&◌, ◌||◌, nat_le, nat_lt}
use Rattle.std.proofs.Common.{Bool, true, false, List, [], ◌∷◌, ◌++◌, length, Option, Some, None}
use Rattle.std.proofs.Common.{get_or, slice_get, refl, ap, ap₂, sym, ◌∙◌, subst, arith}
use Rattle.std.specs.Option.{option_map_or}
use Rattle.std.proofs.lemmas.Bool.{le-leb}
use Rattle.std.proofs.lemmas.Bool.Decides.{nat_tests}
use Rattle.std.proofs.lemmas.List.Folds.{list_any-append}
use Rattle.std.proofs.lemmas.Option.{slice_get_read, slice_get_within}
use Rattle.ec_heading.specs.declared.group.Group.{Group}
use Rattle.ec_heading.specs.HeadingModel.{HeadingModel}
use Rattle.calls_monitor.specs.Watched.{is_listed}
use Rattle.calls_text.specs.Recordings.{first_group}
use Rattle.calls_watch.specs.Spsc.{is_spsc_group, is_spsc}

-- of the first i groups those are listed that are such buffers
abbrev pub ListsTo : HeadingModel → ℕ → List ℕ → Type 0
ListsTo h i ks = (k : ℕ) → is_listed k ks ≡ (is_spsc h k && nat_lt k (first_group h + i))

-- TESTS OF NUMBERS

-- one more number is listed
one_listed : (is listed : Bool) (k n : ℕ) → listed ≡ (is && nat_lt k n) → (n ≡ k → is ≡ true)
    → (listed || ((n == k) || false)) ≡ (is && nat_lt k (n + 1))
one_listed is listed k n before here = grind (arith, nat_tests)

-- one more number is not
none_listed : (is listed : Bool) (k n : ℕ) → listed ≡ (is && nat_lt k n) → (n ≡ k → is ≡ false)
    → listed ≡ (is && nat_lt k (n + 1))
none_listed is listed k n before here = grind (arith, nat_tests)

all_below : (is : Bool) (k n i : ℕ) → (is ≡ true → k - n < i)
    → ((nat_le n k && is) && nat_lt k (n + i)) ≡ (nat_le n k && is)
all_below is k n i within = grind (arith, nat_tests)

-- ONE GROUP MORE

-- the group that was read
pub group_read : (h : HeadingModel) (gs : List Group) (i : ℕ) (g : Group) → gs ≡ h.groups
    → i < length gs → g ≡ get_or gs i g → slice_get h.groups i ≡ Some g
group_read h gs i g are lt is =
    ap (λ (xs : List Group). slice_get xs i) (sym are)
    ∙ slice_get_read gs (length gs) i g refl lt is

spsc_at : (h : HeadingModel) (i : ℕ) (g : Group) → slice_get h.groups i ≡ Some g
    → is_spsc h (first_group h + i) ≡ is_spsc_group h.setup g
spsc_at h i g at =
    let place : (first_group h + i) - first_group h ≡ i = omega arith in
    ap₂ (λ (b c : Bool). b && c)
    (le-leb (first_group h) (first_group h + i) (omega arith))
    (ap (λ (j : ℕ). option_map_or (is_spsc_group h.setup) (slice_get h.groups j) false) place
    ∙ ap (λ (o : Option Group). option_map_or (is_spsc_group h.setup) o false) at)

here : (h : HeadingModel) (i : ℕ) (g : Group) (b : Bool) (k : ℕ) → slice_get h.groups i ≡ Some g
    → is_spsc_group h.setup g ≡ b → first_group h + i ≡ k → is_spsc h k ≡ b
here h i g b k at is same = ap (is_spsc h) (sym same) ∙ spsc_at h i g at ∙ is

one_more : (h : HeadingModel) (i : ℕ) (g : Group) (ks : List ℕ) → slice_get h.groups i ≡ Some g
    → is_spsc_group h.setup g ≡ true → ListsTo h i ks
    → ListsTo h (i + 1) (ks ++ (first_group h + i) ∷ [])
one_more h i g ks at is lists k =
    let next : (first_group h + i) + 1 ≡ first_group h + (i + 1) = omega arith in
    list_any-append (λ (j : ℕ). j == k) ks ((first_group h + i) ∷ [])
    ∙ one_listed (is_spsc h k) (is_listed k ks) k (first_group h + i) (lists k)
    (here h i g true k at is) ∙ ap (λ (n : ℕ). is_spsc h k && nat_lt k n) next

-- a group that is such a buffer is listed, by its index
pub lists_one : (h : HeadingModel) (first i : ℕ) (g : Group) (ks more : List ℕ)
    → first ≡ first_group h → slice_get h.groups i ≡ Some g → is_spsc_group h.setup g ≡ true
    → more ≡ ks ++ (first + i) ∷ [] → ListsTo h i ks → ListsTo h (i + 1) more
lists_one h first i g ks more same at is added lists =
    subst (λ (ls : List ℕ). ListsTo h (i + 1) ls)
    (sym (added ∙ ap (λ (n : ℕ). ks ++ (n + i) ∷ []) same)) (one_more h i g ks at is lists)

-- another group is not
pub lists_other : (h : HeadingModel) (i : ℕ) (g : Group) (ks : List ℕ)
    → slice_get h.groups i ≡ Some g → is_spsc_group h.setup g ≡ false → ListsTo h i ks
    → ListsTo h (i + 1) ks
lists_other h i g ks at is lists k =
    let next : (first_group h + i) + 1 ≡ first_group h + (i + 1) = omega arith in
    none_listed (is_spsc h k) (is_listed k ks) k (first_group h + i) (lists k)
    (here h i g false k at is) ∙ ap (λ (n : ℕ). is_spsc h k && nat_lt k n) next

-- ALL GROUPS

within : (gs : List Group) (test : Group → Bool) (i : ℕ) (o : Option Group) → slice_get gs i ≡ o
    → option_map_or test o false ≡ true → i < length gs
within gs test i None at is = cc
within gs test i (Some g) at is = slice_get_within gs i g at

-- every such buffer is listed, and nothing else
pub lists_all : (h : HeadingModel) (gs : List Group) (i : ℕ) (ks : List ℕ) → gs ≡ h.groups
    → i ≤ length gs → length gs ≤ i → ListsTo h i ks → (k : ℕ) → is_listed k ks ≡ is_spsc h k
lists_all h gs i ks are high low lists k =
    let same : length gs ≡ length h.groups = ap length are in
    let end : i ≡ length h.groups = omega arith in
    let test : Bool = option_map_or (is_spsc_group h.setup)
    (slice_get h.groups (k - first_group h)) false in
    lists k ∙ ap (λ (n : ℕ). is_spsc h k && nat_lt k (first_group h + n)) end
    ∙ all_below test k (first_group h) (length h.groups)
    (within h.groups (is_spsc_group h.setup) (k - first_group h)
    (slice_get h.groups (k - first_group h)) refl)
