-- Lines lead to each history that keeps the rules.
use Rattle.std.proofs.Common.{◌≡◌, inl, inr, ℕ, zero, suc, ◌<◌, ◌≤◌, List, [], ◌∷◌, ◌++◌, length}
use Rattle.std.proofs.Common.{Ok, refl, sym, ap, ◌∙◌, subst, arith, codes}
use Rattle.ec_heading.specs.declared.version.Version.TheVariants.{Two}
use Rattle.ec_heading.specs.HeadingModel.{HeadingModel}
use Rattle.ec_heading.specs.HeadingLaws.{outline_lines}
use Rattle.ec_heading.specs.HeaderTree.{HeaderTree, IsHeaderTree, empty_heading, heading_of_tree}
use Rattle.ec_heading.specs.HeadingInvariant.{HasHeaderTree}
use Rattle.ec_heading.specs.Spelling.{limit_line}
use Rattle.ec_heading.specs.Versions.{greatest_limit}
use Rattle.ec_heading.proofs.shared.Declarable.{Heads, heads_opened, heads_all}
use Rattle.ec_heading.proofs.shared.LeadLines.{outline_leads}
use Rattle.ec_heading.proofs.shared.TreeFound.{version_found}
use Rattle.ec_heading.proofs.shared.ReadHeadings.{IsSound}
use Rattle.calls_text.specs.Recordings.{RecordingModel}
use Rattle.calls_text.specs.Reading.{Stage, Opening, Limiting, Declaring, Running, Ended, step}
use Rattle.calls_text.specs.Reading.{draft_of}
use Rattle.calls_text.specs.Grammar.{from_lines}
use Rattle.calls_text.specs.kept.Leading.{Leads}
use Rattle.calls_text.specs.Rules.{GrowsByOne, GrowsBy, KeepsRules}
use Rattle.calls_text.proofs.FineWords.{literal_lacks}
use Rattle.calls_text.proofs.ObjectWords.{sound_of}
use Rattle.calls_text.proofs.TakenEvents.{IsTaken, call_taken, return_taken}
use Rattle.calls_text.proofs.TakenOpening.{AreTaken, taken_on, one_taken, none_taken, lacks_part}
use Rattle.calls_text.proofs.TakenOpening.{header_taken, header_part, limit_part, limit_taken}
use Rattle.calls_text.proofs.TakenOpening.{heading_leads, outline_parts, starts_taken, run_taken}

-- EVENTS

once_taken : (r s : RecordingModel) → HasHeaderTree r.heading → GrowsByOne r s → IsTaken r s
once_taken r s has (inl (w, v, o, ns, may, same)) =
    subst (IsTaken r) (sym same) (call_taken r w v o ns has may)
once_taken r s has (inr (w, c, a, ns, may, same)) =
    subst (IsTaken r) (sym same) (return_taken r w c a ns has may)

same_heading : (r s : RecordingModel) → GrowsByOne r s → s.heading ≡ r.heading
same_heading r s (inl (w, v, o, ns, may, same)) = ap (λ (x : RecordingModel). x.heading) same
same_heading r s (inr (w, c, a, ns, may, same)) = ap (λ (x : RecordingModel). x.heading) same

event_taken : (r s : RecordingModel) (t : IsTaken r s) → step (Running r) t.line ≡ Ok (Running s)
unfolding step
event_taken r s t = rw t.going (rw t.steps refl)

end_taken : (r : RecordingModel) → step (Running r) (codes "end") ≡ Ok (Ended r)
unfolding step
end_taken r = refl

-- some lines lead from one stage to the other
pub record Lead (s : Stage) (t : Stage) : Type 0 where
  pub lines : List (List ℕ)
  pub taken : AreTaken s lines t

grown : (k : ℕ) (r t : RecordingModel) → HasHeaderTree r.heading → GrowsBy k r t
    → Lead (Running r) (Ended t)
grown zero r t has same =
    subst (λ (x : RecordingModel). Lead (Running r) (Ended x)) same (record {
      lines = codes "end" ∷ [];
      taken = one_taken (Running r) (Ended r) (Ended r) (codes "end") []
          (lacks_part (codes "end") (literal_lacks 10 (codes "end") refl)) (end_taken r)
          (none_taken (Ended r));
    })
grown (suc k) r t has (s, once, more) =
    let one : IsTaken r s = once_taken r s has once in
    let rest : Lead (Running s) (Ended t) =
    grown k s t (subst HasHeaderTree (sym (same_heading r s once)) has) more in
    record {
      lines = one.line ∷ rest.lines;
      taken = one_taken (Running r) (Running s) (Ended t) one.line rest.lines one.part
          (event_taken r s one) rest.taken;
    }

-- BEFORE THE EVENTS

some_workers : (o : HeaderTree) → IsHeaderTree o → 0 < (heading_of_tree o).setup.workers
some_workers o is =
    let h : Heads o.workers (heading_of_tree o) =
    heads_all o.workers (empty_heading o.version o.limit o.workers) o.declarations
    (heads_opened o.version o.limit o.workers) in
    omega (arith, h.count, is.workers.some)

heading_taken : (o : HeaderTree) → IsHeaderTree o → o.version ≡ Two
    → AreTaken Opening (codes "evc-calls 1" ∷ limit_line o.limit ∷ outline_lines o)
    (Declaring (draft_of (heading_of_tree o)))
heading_taken o is two =
    let high : o.limit ≤ greatest_limit Two = subst (λ v. o.limit ≤ greatest_limit v) two is.high in
    let small : o.limit < 1000000000000000000 = omega (arith, high) in
    one_taken Opening Limiting (Declaring (draft_of (heading_of_tree o))) (codes "evc-calls 1")
    (limit_line o.limit ∷ outline_lines o) header_part header_taken
    (one_taken Limiting (Declaring (draft_of (empty_heading Two o.limit [])))
    (Declaring (draft_of (heading_of_tree o))) (limit_line o.limit) (outline_lines o)
    (limit_part o.limit small) (limit_taken o.limit is.low high)
    (record {
      each = outline_parts o is;
      leads = subst (λ v. Leads (Declaring (draft_of (empty_heading v o.limit []))) (outline_lines o)
          (Declaring (draft_of (heading_of_tree o)))) two
          (heading_leads (empty_heading o.version o.limit []) (heading_of_tree o) (outline_lines o)
          (outline_leads o is));
    }))

-- all lines of a history that keeps the rules
pub all_taken : (t : RecordingModel) → KeepsRules t → Lead Opening (Ended t)
all_taken t keeps =
    let o : HeaderTree = keeps.heading.outline in
    let same : heading_of_tree keeps.heading.outline ≡ t.heading = keeps.heading.declares in
    let two : keeps.heading.outline.version ≡ Two =
    sym (version_found keeps.heading.outline)
    ∙ ap (λ (h : HeadingModel). h.version) keeps.heading.declares ∙ keeps.version in
    let some : 0 < t.heading.setup.workers =
    subst (λ (h : HeadingModel). 0 < h.setup.workers) same (some_workers o keeps.heading.is) in
    let s : IsSound t.heading = sound_of t.heading keeps.heading in
    let low : t.heading.setup.limit < 1000000000000000000 = omega (arith, s.limit.1) in
    let events = grown (length t.events)
    (record { heading = t.heading; from = t.from; events = []; lists = [] }) t keeps.heading
    keeps.grows in
    record {
      lines = (codes "evc-calls 1" ∷ limit_line o.limit ∷ outline_lines o)
          ++ (from_lines t.heading t.from ++ codes "run" ∷ events.lines);
      taken = taken_on Opening (Declaring (draft_of t.heading)) (Ended t)
          (codes "evc-calls 1" ∷ limit_line keeps.heading.outline.limit
          ∷ outline_lines keeps.heading.outline)
          (from_lines t.heading t.from ++ codes "run" ∷ events.lines)
          (subst (λ (h : HeadingModel). AreTaken Opening (codes "evc-calls 1"
          ∷ limit_line keeps.heading.outline.limit ∷ outline_lines keeps.heading.outline)
          (Declaring (draft_of h))) same
          (heading_taken keeps.heading.outline keeps.heading.is two))
          (taken_on (Declaring (draft_of t.heading))
          (Declaring (record { heading = t.heading; from = t.from })) (Ended t)
          (from_lines t.heading t.from) (codes "run" ∷ events.lines)
          (starts_taken t.heading [] t.from keeps.heading low some keeps.starts)
          (one_taken (Declaring (record { heading = t.heading; from = t.from }))
          (Running (record { heading = t.heading; from = t.from; events = []; lists = [] }))
          (Ended t) (codes "run") events.lines
          (lacks_part (codes "run") (literal_lacks 10 (codes "run") refl))
          (run_taken (record { heading = t.heading; from = t.from }) some) events.taken));
    }
