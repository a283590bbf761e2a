-- How far a text has been read, and its outcome.
use Rattle.std.proofs.Common.{◌≡◌, ℕ, ◌+◌, true, false, List, [], ◌∷◌, ◌++◌, length, Result, Ok, Err}
use Rattle.std.proofs.Common.{refl, ap, sym, ◌∙◌, subst, arith, append_assoc, length-append, bytes_eq, codes, cond}
use Rattle.calls_text.specs.declared.fault.FaultKind.{FaultKind}
use Rattle.calls_text.specs.declared.fault.FaultKind.TheVariants as kinds
use Rattle.calls_text.specs.Recordings.{RecordingModel}
use Rattle.calls_text.specs.Reading.{Stage, Opening, Limiting, Declaring, Running, Ended, step, is_ended}
use Rattle.calls_text.specs.Reading.{Draft, limit_step, draft_step, is_run, event_step, map_running, map_draft}
use Rattle.calls_text.specs.Reading.{recorded_of}
use Rattle.calls_text.specs.Outcomes.{parse_from, after_line, parse_end, fault_in}
use Rattle.calls_text.specs.Following.{IsReached}
use Rattle.calls_text.specs.declared.stage.Stage as held
use Rattle.calls_text.specs.declared.stage.Stage.TheVariants as holds
use Rattle.calls_text.specs.kept.Stages.{seen_with, IsFollowing}
use Rattle.calls_core.specs.declared.history.Event.{Event}
use Rattle.calls_text.specs.kept.Leading.{Leads}
use Rattle.calls_text.proofs.TextParts.{by_line, by_rest}
use Rattle.calls_text.proofs.Prefixes.{is_open as open_before}

-- LINE BY LINE

record IsCons (ps : List (List ℕ)) : Type 0 where
  first : List ℕ
  others : List (List ℕ)
  is : ps ≡ first ∷ others

cons_there : (lines : List (List ℕ)) (q : List ℕ) (qs : List (List ℕ)) → IsCons (lines ++ q ∷ qs)
cons_there [] q qs = record { first = q; others = qs; is = refl }
cons_there (l ∷ ls) q qs = record { first = l; others = ls ++ q ∷ qs; is = refl }

line_goes : (n : ℕ) (s t : Stage) (line : List ℕ) (ps : List (List ℕ)) → IsCons ps
    → step s line ≡ Ok t → parse_from n s (line ∷ ps) ≡ parse_from (n + 1) t ps
line_goes n s t line ps c steps =
    ap (λ (x : List (List ℕ)). parse_from n s (line ∷ x)) c.is
    ∙ by_line n s line c.first c.others (open_before s t line steps)
    ∙ ap (λ r. after_line n line r (λ u. parse_from (n + 1) u (c.first ∷ c.others))) steps
    ∙ ap (parse_from (n + 1) t) (sym c.is)

lines_go : (n : ℕ) (s t : Stage) (lines : List (List ℕ)) (q : List ℕ) (qs : List (List ℕ))
    → Leads s lines t → parse_from n s (lines ++ q ∷ qs) ≡ parse_from (n + length lines) t (q ∷ qs)
lines_go n s t [] q qs leads =
    let same : n ≡ n + 0 = omega arith in
    ap (λ (u : Stage). parse_from n u (q ∷ qs)) leads ∙ ap (λ (k : ℕ). parse_from k t (q ∷ qs)) same
lines_go n s t (line ∷ lines) q qs (next, steps, leads) =
    let same : (n + 1) + length lines ≡ n + length (line ∷ lines) = omega arith in
    line_goes n s next line (lines ++ q ∷ qs) (cons_there lines q qs) steps
    ∙ lines_go (n + 1) next t lines q qs leads
    ∙ ap (λ (k : ℕ). parse_from k t (q ∷ qs)) same

-- the outcome of what is left is that of the text
pub reached_goes : (n : ℕ) (ps : List (List ℕ)) (s : Stage) (m : ℕ) (q : List ℕ)
    (qs : List (List ℕ)) → IsReached n ps s m (q ∷ qs)
    → parse_from n Opening ps ≡ parse_from m s (q ∷ qs)
reached_goes n ps s m q qs at =
    ap (parse_from n Opening) at.are ∙ lines_go n Opening s at.lines q qs at.leads
    ∙ ap (λ (k : ℕ). parse_from k s (q ∷ qs)) (sym at.number)

pub reached_none : (n : ℕ) (ps : List (List ℕ)) → IsReached n ps Opening n ps
reached_none n ps = record {
  lines = [];
  are = refl;
  leads = refl;
  number = let same : n ≡ n + 0 = omega arith in same;
}

leads_more : (s t u : Stage) (lines : List (List ℕ)) (line : List ℕ) → Leads s lines t
    → step t line ≡ Ok u → Leads s (lines ++ line ∷ []) u
leads_more s t u [] line leads steps =
    (u, subst (λ (k : Stage). step k line ≡ Ok u) (sym leads) steps, refl)
leads_more s t u (l ∷ ls) line (next, is, leads) steps =
    (next, is, leads_more next t u ls line leads steps)

-- an accepted line
pub reached_more : (n : ℕ) (ps : List (List ℕ)) (s t : Stage) (m : ℕ) (line : List ℕ)
    (qs : List (List ℕ)) → IsReached n ps s m (line ∷ qs) → step s line ≡ Ok t
    → IsReached n ps t (m + 1) qs
reached_more n ps s t m line qs at steps =
    let k : m ≡ n + length at.lines = at.number in
    let count : m + 1 ≡ n + length (at.lines ++ line ∷ []) =
    omega (arith, length-append at.lines (line ∷ [])) in
    record {
      lines = at.lines ++ line ∷ [];
      are = at.are ∙ sym (append_assoc at.lines (line ∷ []) qs);
      leads = leads_more Opening s t at.lines line at.leads steps;
      number = count;
    }

-- THE OUTCOME OF A TEXT

-- the end of a history
pub reached_end : (n : ℕ) (ps : List (List ℕ)) (r : RecordingModel) (m : ℕ) (q : List ℕ)
    (qs : List (List ℕ)) → IsReached n ps (Ended r) m (q ∷ qs)
    → parse_from n Opening ps ≡ Ok (record { recorded = r; number = m; rest = q ∷ qs })
unfolding parse_from
reached_end n ps r m q qs at = reached_goes n ps (Ended r) m q qs at

-- the end of the text
pub reached_cut : (n : ℕ) (ps : List (List ℕ)) (s : Stage) (m : ℕ) (rest : List ℕ)
    → IsReached n ps s m (rest ∷ []) → is_ended s ≡ false
    → parse_from n Opening ps ≡ parse_end m s rest
reached_cut n ps s m rest at going = reached_goes n ps s m rest [] at ∙ by_rest m s rest going

fault_goes : (m : ℕ) (s : Stage) (line : List ℕ) (qs : List (List ℕ)) (kind : FaultKind)
    → (line ≡ [] → qs ≡ [] → ⊥) → is_ended s ≡ false → step s line ≡ Err kind
    → parse_from m s (line ∷ qs) ≡ fault_in m kind line
fault_goes m s line (q ∷ qs) kind some going fails =
    by_line m s line q qs going
    ∙ ap (λ r. after_line m line r (λ t. parse_from (m + 1) t (q ∷ qs))) fails
fault_goes m s [] [] kind some going fails = absurd (some refl refl)
fault_goes m s (b ∷ bs) [] kind some going fails =
    by_rest m s (b ∷ bs) going
    ∙ ap (λ r. after_line m (b ∷ bs) r (λ t. fault_in m kinds.Unfinished (b ∷ bs))) fails

-- a faulty line
pub reached_fault : (n : ℕ) (ps : List (List ℕ)) (s : Stage) (m : ℕ) (line : List ℕ)
    (qs : List (List ℕ)) (kind : FaultKind) → IsReached n ps s m (line ∷ qs)
    → (line ≡ [] → qs ≡ [] → ⊥) → is_ended s ≡ false → step s line ≡ Err kind
    → parse_from n Opening ps ≡ fault_in m kind line
reached_fault n ps s m line qs kind at some going fails =
    reached_goes n ps s m line qs at ∙ fault_goes m s line qs kind some going fails

-- NO LINE WAS READ

no_opening : {P : Type 0} (x : Result Draft FaultKind) → map_draft x ≡ Ok Opening → P
no_opening (Ok d) is = absurd (let never : ⊥ = cc in never)
no_opening (Err kind) is = absurd (let never : ⊥ = cc in never)

ran_no_opening : {P : Type 0} (x : Result RecordingModel FaultKind) → map_running x ≡ Ok Opening → P
ran_no_opening (Ok d) is = absurd (let never : ⊥ = cc in never)
ran_no_opening (Err kind) is = absurd (let never : ⊥ = cc in never)

never_opens : (s : Stage) (line : List ℕ) → step s line ≡ Ok Opening → ⊥
unfolding step
never_opens Opening line is =
    elim (bytes_eq line (codes "evc-calls 1")) as (λ b. cond b (Ok Limiting) (Err kinds.BadHeader)
    ≡ Ok Opening → ⊥) [ true ↦ λ e. (cc) | false ↦ λ e. (cc) ] is
never_opens Limiting line is = no_opening (limit_step line) is
never_opens (Declaring d) line is =
    elim (is_run d line) as (λ b. cond b (Ok (Running (recorded_of d))) (map_draft (draft_step d line))
    ≡ Ok Opening → ⊥) [
      | true ↦ λ e. (cc)
      | false ↦ λ e. no_opening (draft_step d line) e
    ] is
never_opens (Running r) line is =
    elim (bytes_eq line (codes "end")) as (λ b. cond b (Ok (Ended r)) (map_running (event_step r line))
    ≡ Ok Opening → ⊥) [
      | true ↦ λ e. (cc)
      | false ↦ λ e. ran_no_opening (event_step r line) e
    ] is
never_opens (Ended r) line is = cc

leads_never : (s : Stage) (line : List ℕ) (lines : List (List ℕ)) → Leads s (line ∷ lines) Opening → ⊥
leads_never s line [] (next, is, leads) =
    never_opens s line (subst (λ (t : Stage). step s line ≡ Ok t) leads is)
leads_never s line (l ∷ ls) (next, is, leads) = leads_never next l ls leads

none_lead : (s : Stage) (lines : List (List ℕ)) → Leads s lines Opening → lines ≡ []
none_lead s [] leads = refl
none_lead s (line ∷ lines) leads = absurd (leads_never s line lines leads)

-- at the first stage no line was read
pub reached_opening : (n : ℕ) (ps : List (List ℕ)) (m : ℕ) (qs : List (List ℕ))
    → IsReached n ps Opening m qs → (n ≡ m) × (ps ≡ qs)
reached_opening n ps m qs at =
    let none : at.lines ≡ [] = none_lead Opening at.lines at.leads in
    let number : m ≡ n + length at.lines = at.number in
    let zero_lines : length at.lines ≡ 0 = ap length none in
    let same : n ≡ m = omega arith in
    (same, at.are ∙ ap (λ (ls : List (List ℕ)). ls ++ qs) none)

pub opening_none : (events : List Event) (s : held.Stage) → seen_with events s ≡ Opening
    → IsFollowing events s → events ≡ []
opening_none events holds.Opening is none = none
opening_none events holds.Limiting is none = none
opening_none events (holds.Declaring d) is none = none
opening_none events (holds.Running r) is none = cc
opening_none events (holds.Ended r) is none = cc
