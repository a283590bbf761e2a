-- The units left of a semaphore, entry by entry, and whether its workers follow its rules.
use Rattle.std.proofs.Common.{◌≡◌, ◌↔◌, ℕ, suc, ◌+◌, ◌-◌, ◌<◌, ◌≤◌, ◌^◌, ◌&&◌, Bool, true, false}
use Rattle.std.proofs.Common.{List, [], ◌∷◌, ◌++◌, length, replicate, refl, ap, sym, ◌∙◌, arith}
use Rattle.std.proofs.Common.{subst, reverse, append-nil, append_assoc}
use Rattle.std.proofs.lemmas.List.{replicate_more}
use Rattle.std.proofs.lemmas.Bool.{and_parts}
use Rattle.ec_count.specs.Tables.{Tables, IsDeclared}
use Rattle.ec_core.specs.declared.act.Entry.{Entry}
use Rattle.ec_core.specs.Acceptance.{IsAccepted}
use Rattle.ec_core.specs.Counts.{total}
use Rattle.ec_core.specs.declared.audit.AuditFault.{AuditFault}
use Rattle.ec_core.specs.declared.audit.AuditFault.TheVariants.{NotFollowed}
use Rattle.ec_core.specs.Audits.{IsAuditFault}
use Rattle.ec_core.specs.Following.{Rule, Follow}
use Rattle.ec_core.proofs.shared.Breaks.{follow_or_break}
use Rattle.ec_semaphore.specs.declared.shape.TheConstants.{INITIAL_MAX}
use Rattle.ec_semaphore.specs.Shapes.{Semaphore}
use Rattle.ec_semaphore.specs.Auditing.{BalanceAuditModel, RepresentsBalance}
use Rattle.ec_semaphore.proofs.shared.Smallness.{total_small}
use Rattle.ec_draw.specs.declared.window.Window.{Window}
use Rattle.ec_draw.specs.Following.{follows}
use Rattle.ec_draw.specs.Balances.{BalanceState, IsSmall, left_by, units_left_after, units_left_at_moments, moments, pad}
use Rattle.ec_draw.specs.Balances.{list_if_moment}
use Rattle.ec_draw.specs.kept.LeftOut.{left_is, lefts_many, pad_more, small_before, told_alike}

-- FOLLOWING

pub follow_yes : (rules : ℕ → Rule) (past : List Entry) → Follow rules past
    → follows rules past ≡ true
unfolding follows
follow_yes rules [] f = refl
follow_yes rules (x ∷ past) f = ap (λ b. b && follows rules past) f.0 ∙ follow_yes rules past f.1

pub yes_follow : (rules : ℕ → Rule) (past : List Entry) → follows rules past ≡ true
    → Follow rules past
unfolding follows
yes_follow rules [] e = tt
yes_follow rules (x ∷ past) e =
    (let both = and_parts _ _ e in (both.0, yes_follow rules past both.1))

pub follow_no : (rules : ℕ → Rule) (past : List Entry) → (Follow rules past → ⊥)
    → follows rules past ≡ false
follow_no rules past never = decide (follows rules past) refl
  where
    decide : (b : Bool) → follows rules past ≡ b → follows rules past ≡ false
    decide true e = absurd (never (yes_follow rules past e))
    decide false e = e

-- if a decision is true exactly if the history so far follows the rules, it is `follows`
pub follow_by : (rules : ℕ → Rule) (past : List Entry) (b : Bool) → (b ≡ true ↔ Follow rules past)
    → b ≡ follows rules past
follow_by rules past true is = sym (follow_yes rules past (is.0 refl))
follow_by rules past false is = sym (follow_no rules past (λ f. (let e = is.1 f in cc)))

pub broken_no : (rules : ℕ → Rule) (h : List Entry) (fault : AuditFault) (w k : ℕ)
    → fault ≡ NotFollowed w k → IsAuditFault rules h fault → false ≡ follows rules (reverse h)
broken_no rules h fault w k is returned =
    sym (follow_no rules (reverse h)
    (follow_or_break rules h w k (subst (IsAuditFault rules h) is returned)))

-- WHAT IS LEFT

-- no total is too large in a run
pub small_run : (t : Tables) (s : Semaphore) (past : List Entry) → s.initial ≤ INITIAL_MAX
    → IsDeclared t → IsAccepted t past → IsSmall s past
small_run t s past few dec acc =
    (let least : total s.count past < 2 ^ 53 = total_small t s.count past dec acc in omega arith)

-- before the first entry no number is stored
pub balance_first : (c : BalanceState) → RepresentsBalance c.audit [] → c.heights ≡ []
    → pad c 0 ≡ units_left_at_moments c.audit.shape c.window []
unfolding units_left_at_moments
balance_first c counted none =
    let s = c.audit.shape in
    let w = c.window in
    let many : length (list_if_moment w 0 (units_left_after s [])) ≡ moments w 0 =
    lefts_many s w [] in
    let no_more : moments w 0 - 0 ≡ length (list_if_moment w 0 (units_left_after s [])) =
    omega arith in
    ap (λ hs. hs ++ replicate (moments w 0 - length hs) (left_by c.audit)) none
    ∙ ap (λ n. replicate (moments w 0 - 0) n) (left_is c.audit [] counted)
    ∙ ap (λ m. replicate m (units_left_after s [])) no_more ∙ told_alike w 0 (units_left_after s [])

-- one entry more: first the units left until then are added
pub balance_next : (a b : BalanceAuditModel) (w : Window) (x : Entry) (past : List Entry) (place n : ℕ)
    (hs gs : List ℕ) → b.shape ≡ a.shape → RepresentsBalance a past → RepresentsBalance b (x ∷ past)
    → place ≡ length past
    → (IsSmall a.shape past → hs ++ replicate (moments w (length past) - length hs) (left_by a)
    ≡ units_left_at_moments a.shape w past) → IsSmall b.shape (x ∷ past)
    → (a.shape.initial + a.ups < 2 ^ 64 → n ≡ left_by a)
    → gs ≡ hs ++ replicate (moments w place - length hs) n
    → gs ++ replicate (moments w (length (x ∷ past)) - length gs) (left_by b)
    ≡ units_left_at_moments b.shape w (x ∷ past)
unfolding units_left_at_moments
balance_next a b w x past place n hs gs same before counted at was small left_now returned =
    let s = a.shape in
    let m = moments w (length past) in
    let small_here : IsSmall s past =
    subst (λ (z : Semaphore). IsSmall z past) same (small_before b.shape x past small) in
    let number : n ≡ left_by a =
    left_now (subst (λ k. s.initial + k < 2 ^ 64) (sym before.ups) small_here) in
    let here : gs ≡ units_left_at_moments s w past =
    returned ∙ ap (λ k. hs ++ replicate (moments w k - length hs) n) at
    ∙ ap (λ k. hs ++ replicate (m - length hs) k) number ∙ was small_here in
    let long : length gs ≡ m = ap length here ∙ lefts_many s w past in
    let one : suc (length past) ≡ length past + 1 = omega arith in
    let none : m - length gs ≡ 0 = omega arith in
    ap (λ k. gs ++ replicate (moments w k - length gs) (left_by b)) one
    ∙ pad_more w (length past) (left_by b) gs (omega arith)
    ∙ ap (λ k. (gs ++ replicate k (left_by b))
    ++ list_if_moment w (length past + 1) (left_by b)) none
    ∙ ap (λ l. l ++ list_if_moment w (length past + 1) (left_by b)) (append-nil gs ∙ here
    ∙ ap (λ z. units_left_at_moments z w past) (sym same))
    ∙ ap (λ k. units_left_at_moments b.shape w past
    ++ list_if_moment w (length past + 1) k) (left_is b (x ∷ past) counted)

-- after the last one, the units left are added up to there
pub balance_last : (a : BalanceAuditModel) (w : Window) (s : Semaphore) (past : List Entry) (k n : ℕ)
    (hs gs : List ℕ) → a.shape ≡ s → RepresentsBalance a past → k ≡ length past
    → (IsSmall a.shape past → hs ++ replicate (moments w (length past) - length hs) (left_by a)
    ≡ units_left_at_moments a.shape w past) → IsSmall s past
    → (a.shape.initial + a.ups < 2 ^ 64 → n ≡ left_by a)
    → gs ≡ hs ++ replicate (moments w k - length hs) n → gs ≡ units_left_at_moments s w past
balance_last a w s past k n hs gs of counted at was small left_now returned =
    let small_here : IsSmall a.shape past =
    subst (λ (z : Semaphore). IsSmall z past) (sym of) small in
    let number : n ≡ left_by a =
    left_now (subst (λ m. a.shape.initial + m < 2 ^ 64) (sym counted.ups) small_here) in
    returned ∙ ap (λ j. hs ++ replicate (moments w j - length hs) n) at
    ∙ ap (λ j. hs ++ replicate (moments w (length past) - length hs) j) number ∙ was small_here
    ∙ ap (λ z. units_left_at_moments z w past) of

-- a number is added until there are enough
pub fill_more : (hs gs ks : List ℕ) (k n : ℕ) → length hs ≤ k
    → gs ≡ hs ++ replicate (k - length hs) n → ks ≡ gs ++ n ∷ []
    → ks ≡ hs ++ replicate (k + 1 - length hs) n
fill_more hs gs ks k n less was more =
    let one : k + 1 - length hs ≡ (k - length hs) + 1 = omega arith in
    more ∙ ap (λ l. l ++ n ∷ []) was ∙ append_assoc hs (replicate (k - length hs) n) (n ∷ [])
    ∙ ap (λ l. hs ++ l) (replicate_more (k - length hs) n)
    ∙ ap (λ j. hs ++ replicate j n) (sym one)
