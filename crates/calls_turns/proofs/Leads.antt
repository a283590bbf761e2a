-- Steps that are found from the last one back: they follow from those that are still to come.
use Rattle.std.proofs.Common.{◌≡◌, ℕ, zero, suc, ◌-◌, ◌<◌, ◌≤◌, inl, inr, Bool, true, false}
use Rattle.std.proofs.Common.{cond, max}
use Rattle.std.proofs.Common.{List, [], ◌∷◌, ◌++◌, length, get_or, set, refl, ap, sym, ◌∙◌, arith}
use Rattle.std.proofs.Common.{subst}
use Rattle.std.proofs.Common.{Option, Some, None}
use Rattle.std.specs.Prelude.{IfSome, nat_le, slice_get}
use Rattle.std.proofs.lemmas.Bool.{cond-true, le-leb, cases_eq, cases_lt, both_ways}
use Rattle.std.proofs.lemmas.Option.{none-some, same_Some}
use Rattle.std.proofs.lemmas.List.{length-append, append_assoc, append-nil}
use Rattle.std.proofs.lemmas.List.{get_or-set_same, get_or-set_other, get_or_past, length-set}
use Rattle.calls_turns.specs.declared.turn.Turn.{Turn}
use Rattle.calls_turns.specs.declared.turn.Taker.{Taker}
use Rattle.calls_turns.specs.declared.turn.Step.{Step}
use Rattle.calls_turns.specs.declared.turn.Reason.{Reason}
use Rattle.calls_turns.specs.declared.turn.Reason.TheVariants.{Due, Takers}
use Rattle.calls_turns.specs.declared.demand.Fill.{Fill}
use Rattle.calls_turns.specs.declared.chaining.Lead.{Lead}
use Rattle.calls_turns.specs.declared.chaining.Link.{Link}
use Rattle.calls_turns.specs.Steps.{reached, IsReason, IsStep, AreSteps, last_at, last_count}
use Rattle.calls_turns.specs.Sweeps.{fill_at}
use Rattle.calls_turns.specs.Chains.{Reaches, IsLink, is_marked, marked, last_step, IsAdded}
use Rattle.calls_turns.specs.Chains.{HasOneMore, due_step, last_due, Leads, AreReaching, EndsAs}
use Rattle.calls_turns.specs.Chains.{IsLead}

-- WHAT STEPS REACH

reached_left : (ss more : List Step) (p : ℕ) → reached ss p ≤ reached (ss ++ more) p
reached_left [] more p = omega arith
reached_left (s ∷ ss) more p =
    let rest : reached ss p ≤ reached (ss ++ more) p = reached_left ss more p in
    elim (nat_le s.at p) as (λ b. cond b (max s.count (reached ss p)) (reached ss p)
    ≤ cond b (max s.count (reached (ss ++ more) p)) (reached (ss ++ more) p)) [
      | true ↦ omega (arith, rest)
      | false ↦ rest
    ]

reached_right : (ss more : List Step) (p : ℕ) → reached more p ≤ reached (ss ++ more) p
reached_right [] more p = omega arith
reached_right (s ∷ ss) more p =
    let rest : reached more p ≤ reached (ss ++ more) p = reached_right ss more p in
    elim (nat_le s.at p) as (λ b. reached more p
    ≤ cond b (max s.count (reached (ss ++ more) p)) (reached (ss ++ more) p)) [
      | true ↦ omega (arith, rest)
      | false ↦ rest
    ]

reached_first : (s : Step) (ss : List Step) (k p : ℕ) → k < s.count → s.at ≡ p
    → k < reached (s ∷ ss) p
reached_first s ss k p lt at = omega (
  arith,
  lt,
  cond-true (nat_le s.at p) (max s.count (reached ss p)) (reached ss p)
      (le-leb s.at p (omega (arith, at))),
)

pub last_reached : (ss : List Step) (k p : ℕ) → k < last_count ss → last_at ss ≡ p
    → k < reached ss p
last_reached [] k p lt at = absurd (omega (arith, lt))
last_reached (s ∷ ss) k p lt at = reached_first s ss k p lt at

-- one of the steps reaches what it counts
one_reached : (ss : List Step) (i : ℕ) (s : Step) (k p : ℕ) → slice_get ss i ≡ Some s
    → k < s.count → s.at ≡ p → k < reached ss p
one_reached [] i s k p is lt at = absurd (none-some s is)
one_reached (t ∷ ss) zero s k p is lt at =
    let same : t ≡ s = same_Some t s is in
    reached_first t ss k p (subst (λ x. k < x.count) (sym same) lt)
    (ap (λ (x : Step). x.at) same ∙ at)
one_reached (t ∷ ss) (suc i) s k p is lt at = omega (
  arith,
  one_reached ss i s k p is lt at,
  reached_right (t ∷ []) ss p,
)

at_end : (ss : List Step) (s : Step) → slice_get (ss ++ s ∷ []) (length ss) ≡ Some s
at_end [] s = refl
at_end (t ∷ ss) s = at_end ss s

last_is : (ss : List Step) (s : Step) → last_step (ss ++ s ∷ []) ≡ Some s
last_is ss s =
    let there : length ss ≡ length (ss ++ s ∷ []) - 1 =
    omega (arith, length-append ss (s ∷ [])) in
    subst (λ i. slice_get (ss ++ s ∷ []) i ≡ Some s) there (at_end ss s)

-- A STEP IS ADDED

added_last : (ss new : List Step) (s : Step) → IsAdded ss s new → last_step new ≡ Some s
added_last ss new s add = elim add [
  | inl e ↦ ap last_step e ∙ last_is ss s
  | inr same ↦ ap last_step same.2 ∙ same.1
]

still_reached : (ss new : List Step) (s : Step) (p : ℕ) → IsAdded ss s new
    → reached ss p ≤ reached new p
still_reached ss new s p add = elim add [
  | inl e ↦ subst (λ l. reached ss p ≤ reached l p) (sym e) (reached_left ss (s ∷ []) p)
  | inr same ↦ subst (λ l. reached ss p ≤ reached l p) (sym same.2) (omega arith)
]

first_added : (ss new : List Step) (s : Step) → ss ≡ [] → IsAdded ss s new → new ≡ s ∷ []
first_added ss new s none add = elim add [
  | inl e ↦ e ∙ ap (λ l. l ++ s ∷ []) none
  | inr same ↦ absurd (none-some s (sym (ap last_step none) ∙ same.1))
]

head_left : (ss more : List Step) → 0 < last_count ss
    → (last_at (ss ++ more) ≡ last_at ss) × (last_count (ss ++ more) ≡ last_count ss)
head_left [] more some = absurd (omega (arith, some))
head_left (s ∷ ss) more some = (refl, refl)

head_stays : (ss new : List Step) (s : Step) → IsAdded ss s new → 0 < last_count ss
    → (last_at new ≡ last_at ss) × (last_count new ≡ last_count ss)
head_stays ss new s add some = elim add [
  | inl e ↦
      let same = head_left ss (s ∷ []) some in
      (ap last_at e ∙ same.0, ap last_count e ∙ same.1)
  | inr same ↦ (ap last_at same.2, ap last_count same.2)
]

-- THE LAST STEP, IF IT IS DUE

due_first : (s : Step) (rest : List Step) (p : ℕ)
    → reached (due_step s.reason s ++ rest) p ≤ reached (s ∷ rest) p
due_first s rest p =
    elim s.reason as (λ r. reached (due_step r s ++ rest) p ≤ reached (s ∷ rest) p) [
      | Due ↦ omega arith
      | Takers v after calls ↦ reached_right (s ∷ []) rest p
    ]

due_reason : (turns : List Turn) (takers : List Taker) (s : Step) (rest : List Step) (p n : ℕ)
    (r : Reason) → IsReason turns takers (due_step r s ++ rest) p n r
    → IsReason turns takers rest p n r
due_reason turns takers s rest p n Due h = h
due_reason turns takers s rest p n (Takers v after calls) h = h

-- MARKS

pub still_marked : (marks : List Bool) (turn : Option ℕ) (k : ℕ) → is_marked marks k ≡ true
    → is_marked (marked marks turn) k ≡ true
still_marked marks None k e = e
still_marked marks (Some j) k e = elim (cases_eq k j) [
  | inl same ↦ elim (cases_lt j (length marks)) [
    | inl lt ↦ ap (λ i. get_or (set marks j true) i false) same
        ∙ get_or-set_same marks j true false lt
    | inr past ↦ absurd (both_ways (is_marked marks k)
        (get_or_past marks k false (omega (arith, same))) e)
  ]
  | inr other ↦ get_or-set_other marks j k true false other ∙ e
]

pub as_long : (marks : List Bool) (turn : Option ℕ) → length (marked marks turn) ≡ length marks
as_long marks None = refl
as_long marks (Some j) = length-set marks j true

-- WHAT FOLLOWS

-- so far, from turn k on, since there were the steps to begin with
pub record IsLeading (end : ℕ) (turns : List Turn) (takers : List Taker) (fills : List Fill)
    (needed : List Bool) (begun : List Step) (k : ℕ) (lead : Lead) : Type 0 where
  pub sized : length lead.needed.items ≡ length needed
  pub kept : (b : ℕ) → is_marked needed b ≡ true → is_marked lead.needed.items b ≡ true
  pub leads : Leads end turns takers fills k lead.needed.items lead.steps.items
  pub last : EndsAs begun lead.steps.items
  pub reach : (b : ℕ) → k ≤ b → is_marked needed b ≡ true → Reaches fills lead.steps.items b

module _ (end : ℕ) (turns : List Turn) (takers : List Taker) (fills : List Fill) where
  -- the steps that reach the turn of a link show its step
  link_step : (k p : ℕ) (link : Link) (marks : List Bool) (rest : List Step)
      → IsLink end turns takers fills k p link → k ≤ length marks
      → ((b : ℕ) → b < k → is_marked (marked marks link.needs) b ≡ true
      → Reaches fills (due_step link.step.reason link.step ++ rest) b)
      → IsStep end turns takers rest link.step
  link_step k p link marks rest is to reaches =
      let s : Step = link.step in
      let first : List Step = due_step s.reason s ++ rest in
      let needs : IfSome link.needs (Reaches fills first) =
      elim link.needs as (λ o. IfSome o (λ i. i < k) → ((b : ℕ) → b < k
      → is_marked (marked marks o) b ≡ true → Reaches fills first b)
      → IfSome o (Reaches fills first)) [
        | None ↦ λ below all. tt
        | Some b ↦ λ below all. all b below
            (get_or-set_same marks b true false (omega (arith, below, to)))
      ] is.needs reaches in
      let step : IsStep end turns takers first s = is.step first needs in
      record {
        before = step.before;
        last = step.last;
        count = step.count;
        reason = due_reason turns takers s rest s.at step.last s.reason step.reason;
      }

  -- steps that reach at least as much, and turn k too
  all_reached : (k p : ℕ) (link : Link) (marks : List Bool) (rest whole : List Step)
      → ((b : ℕ) → b < k → is_marked (marked marks link.needs) b ≡ true
      → Reaches fills (due_step link.step.reason link.step ++ rest) b)
      → ((q : ℕ) → reached (due_step link.step.reason link.step ++ rest) q ≤ reached whole q)
      → (is_marked marks k ≡ true → p ≡ (fill_at fills k).demand.at) → k < reached whole p
      → (b : ℕ) → b < suc k → is_marked marks b ≡ true → Reaches fills whole b
  all_reached k p link marks rest whole reaches more at here b lt on = elim (cases_lt b k) [
    | inl less ↦ omega (
      arith,
      reaches b less (still_marked marks link.needs b on),
      more (fill_at fills b).demand.at,
    )
    | inr le ↦
        let same : k ≡ b = omega arith in
        subst (λ i. Reaches fills whole i) same
        (subst (λ q. k < reached whole q)
        (at (subst (λ i. is_marked marks i ≡ true) (sym same) on)) here)
  ]

  more_leads : (k p : ℕ) (old : List Bool) (ss : List Step) (new : List Bool) (added : List Step)
      (link : Link) → IsLink end turns takers fills k p link → k ≤ length old
      → (is_marked old k ≡ true → p ≡ (fill_at fills k).demand.at)
      → new ≡ marked old link.needs → IsAdded ss link.step added
      → Leads end turns takers fills (suc k) old ss → Leads end turns takers fills k new added
  more_leads k p old ss new added link is to at marks add h rest are all =
      let s : Step = link.step in
      let front : List Step = last_due (last_step ss) in
      let own : List Step = due_step s.reason s in
      let first : k < reached (s ∷ rest) p = reached_first s rest k p is.count is.at in
      let reaches : (b : ℕ) → b < k → is_marked (marked old link.needs) b ≡ true
      → Reaches fills (own ++ rest) b = λ b lt on.
      subst (λ o. Reaches fills (last_due o ++ rest) b) (added_last ss added s add)
      (all b lt (subst (λ l. is_marked l b ≡ true) (sym marks) on)) in
      elim add [
        | inl e ↦ subst (λ l. AreSteps end turns takers (l ++ rest)) (sym e)
            (subst (λ l. AreSteps end turns takers l) (sym (append_assoc ss (s ∷ []) rest))
            (h (s ∷ rest) (link_step k p link old rest is to reaches, are)
            (all_reached k p link old rest (front ++ s ∷ rest) reaches
            (λ q. omega (arith, due_first s rest q, reached_right front (s ∷ rest) q)) at
            (omega (arith, first, reached_right front (s ∷ rest) p)))))
        | inr same ↦
            let here : k < reached (own ++ rest) p =
            subst (λ r. k < reached (due_step r s ++ rest) p) (sym same.0) first in
            subst (λ l. AreSteps end turns takers (l ++ rest)) (sym same.2)
            (h rest are (λ b lt on.
            subst (λ o. Reaches fills (last_due o ++ rest) b) (sym same.1)
            (all_reached k p link old rest (own ++ rest) reaches (λ q. omega arith) at here b lt
            on)))
      ]

  pub first_leads : (p k : ℕ) (old new : Lead) → old.steps.items ≡ []
      → length old.needed.items ≡ k → HasOneMore end turns takers fills k p old new
      → Leads end turns takers fills (length new.needed.items) new.needed.items new.steps.items
  first_leads p k old new none e more =
      let marks : List Bool = old.needed.items in
      let same : k ≡ length new.needed.items =
      sym (ap length more.needed ∙ as_long marks more.link.needs ∙ e) in
      subst (λ m. Leads end turns takers fills m new.needed.items new.steps.items) same
      (more_leads k p marks old.steps.items new.needed.items new.steps.items more.link more.leads
      (omega arith) (λ on. absurd (both_ways (is_marked marks k)
      (get_or_past marks k false (omega arith)) on)) more.needed more.steps
      (λ rest are all. subst (λ l. AreSteps end turns takers (l ++ rest)) (sym none) are))

  pub begun_lead : (lead : Lead)
      → Leads end turns takers fills (length lead.needed.items) lead.needed.items lead.steps.items
      → IsLeading end turns takers fills lead.needed.items lead.steps.items
      (length lead.needed.items) lead
  begun_lead lead leads = record {
    sized = refl;
    kept = λ b on. on;
    leads = leads;
    last = λ some. (refl, refl);
    reach = λ b le on. absurd (both_ways (is_marked lead.needed.items b)
        (get_or_past lead.needed.items b false le) on);
  }

  pub more_lead : (q k n : ℕ) (marks : List Bool) (begun : List Step) (old new : Lead)
      → n ≡ suc k → k < length marks → q ≡ (fill_at fills k).demand.at
      → HasOneMore end turns takers fills k q old new
      → IsLeading end turns takers fills marks begun n old
      → IsLeading end turns takers fills marks begun k new
  more_lead q k n marks begun old new next lt at more h =
      let link : Link = more.link in
      let is : IsLink end turns takers fills k q link = more.leads in
      record {
        sized = ap length more.needed ∙ as_long old.needed.items link.needs ∙ h.sized;
        kept = λ b on. subst (λ l. is_marked l b ≡ true) (sym more.needed)
            (still_marked old.needed.items link.needs b (h.kept b on));
        leads = more_leads k q old.needed.items old.steps.items new.needed.items new.steps.items
            link is (omega (arith, h.sized)) (λ on. at) more.needed more.steps
            (subst (λ m. Leads end turns takers fills m old.needed.items old.steps.items) next
            h.leads);
        last = λ some.
            let was = h.last some in
            let same = head_stays old.steps.items new.steps.items link.step more.steps
            (omega (arith, was.1)) in
            (same.0 ∙ was.0, same.1 ∙ was.1);
        reach = λ b le on. elim (cases_lt k b) [
          | inl less ↦ omega (
            arith,
            h.reach b (omega (arith, next)) on,
            still_reached old.steps.items new.steps.items link.step (fill_at fills b).demand.at
                more.steps,
          )
          | inr back ↦
              let here : k ≡ b = omega arith in
              subst (λ i. Reaches fills new.steps.items i) here
              (subst (λ r. k < reached new.steps.items r) at
              (one_reached new.steps.items (length new.steps.items - 1) link.step k q
              (added_last old.steps.items new.steps.items link.step more.steps) is.count is.at))
        ];
      }

  -- a turn that is not marked needs no step
  pub same_lead : (k n : ℕ) (marks : List Bool) (begun : List Step) (lead : Lead) → n ≡ suc k
      → is_marked lead.needed.items k ≡ false
      → IsLeading end turns takers fills marks begun n lead
      → IsLeading end turns takers fills marks begun k lead
  same_lead k n marks begun lead next off h = record {
    sized = h.sized;
    kept = h.kept;
    leads = λ rest are all. h.leads rest are (λ b lt on. elim (cases_lt b k) [
      | inl less ↦ all b less on
      | inr le ↦
          let here : b ≡ k = omega arith in
          absurd (both_ways (is_marked lead.needed.items k) off
          (subst (λ i. is_marked lead.needed.items i ≡ true) here on))
    ]);
    last = h.last;
    reach = λ b le on. elim (cases_lt k b) [
      | inl less ↦ h.reach b (omega (arith, next)) on
      | inr back ↦
          let here : b ≡ k = omega arith in
          absurd (both_ways (is_marked lead.needed.items k) off
          (subst (λ i. is_marked lead.needed.items i ≡ true) here (h.kept b on)))
    ];
  }

  pub whole_lead : (k : ℕ) (marks : List Bool) (begun : List Step) (lead : Lead) → k ≡ 0
      → IsLeading end turns takers fills marks begun k lead
      → AreReaching end turns takers fills marks lead.steps.items
  whole_lead k marks begun lead none h = record {
    steps = subst (λ l. AreSteps end turns takers l) (append-nil lead.steps.items)
        (h.leads [] tt (λ b lt. absurd (omega (arith, none))));
    reach = λ b. h.reach b (omega (arith, none));
  }

  -- the first step stays the last one
  pub led : (p : ℕ) (old new : Lead) (ss : List Step) → old.steps.items ≡ []
      → HasOneMore end turns takers fills (length fills) p old new
      → AreReaching end turns takers fills new.needed.items ss → EndsAs new.steps.items ss
      → IsLead end turns takers fills p old.needed.items ss
  led p old new ss none more are last =
      let link : Link = more.link in
      let only : new.steps.items ≡ link.step ∷ [] =
      first_added old.steps.items new.steps.items link.step none more.steps in
      let here : length fills < last_count new.steps.items =
      subst (λ l. length fills < last_count l) (sym only) more.leads.count in
      let same = last (omega (arith, here)) in
      record {
        reaching = record {
          steps = are.steps;
          reach = λ b on. are.reach b (subst (λ l. is_marked l b ≡ true) (sym more.needed)
              (still_marked old.needed.items link.needs b on));
        };
        at = same.0 ∙ ap last_at only ∙ more.leads.at;
        count = omega (arith, same.1, here);
      }
